-- `knows` tells what the marks tell, and that n itself comes there.
use mathlib.Core.Path.{sym, ◌∙◌}
use Rattle.tree.proofs.Climbs.{climb_there}
use Rattle.numbers.proofs.climbs.Climbs.knows.Goals as goal

pub returns-then-eq : goal.returns-then-eq
returns-then-eq c = rw (← c.self.view_is) (λ e. sym (climb_there _ _ _ _ (sym c.eq.ensures ∙ c.if-eq.true)))
