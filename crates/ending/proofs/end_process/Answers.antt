-- `end_process` ends an init with its namespace, and hands over the children of any other.
use mathlib.Core.Path.{sym, ◌∙◌}
use Rattle.ending.proofs.Fallen.{end_of_init, end_of_member}
use borrow.Author.Rules.{rules}
use Rattle.ending.proofs.end_process.Goals as goal

pub returns-then-eq : goal.returns-then-eq
returns-then-eq c =
    end_of_init _ _ _ _ _ _ _ c.process.ensures c.namespace.ensures c.init-init.ensures (search (rules, c.well_formed)) (search (rules, c.well_formed)) (sym c.eq.ensures ∙ c.if-eq.true) c.end_init.ensures

pub returns-else-eq : goal.returns-else-eq
returns-else-eq c =
    end_of_member _ _ _ _ _ _ _ c.process.ensures c.namespace.ensures c.init-init.ensures (sym c.eq.ensures ∙ c.if-eq.false) c.hand_over.ensures
