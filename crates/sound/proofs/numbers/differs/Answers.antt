-- A key that is 0, or one that no place below has.
use mathlib.Core.Bool.{not}
use mathlib.Core.Path.{ap, ◌∙◌}
use borrow.Author.Rules.{rules}
use borrow.Author.Tests.{ne_eqb}
use Rattle.table.proofs.Chains.{or_goes}
use Rattle.sound.proofs.Places.{contained, not_any}
use Rattle.sound.proofs.numbers.differs.Goals as goal

pub returns-else-keys-i-eq0 : goal.returns-else-keys-i-eq0
returns-else-keys-i-eq0 c =
    or_goes _ _ _ (ne_eqb _ 0 c.if-keys-i-eq0.false)
    (ap not (contained c.args.keys.now _ c.args.i _ (search rules) c.contains.ensures.cases) ∙ not_any c.args.i _)
