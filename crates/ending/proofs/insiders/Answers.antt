-- Who is seen, as a column.
use mathlib.Core.Bool.{Bool, false}
use mathlib.Core.Path.{refl}
use borrow.Author.Rules.{rules}
use borrow.Author.Tests.{tests}
use Rattle.table.proofs.EachRow.{column_reads}
use Rattle.table.specs.Tests.{◌and◌}
use Rattle.tree.specs.Tree.{slot_in, level_in, seen_from}
use Rattle.ending.proofs.insiders.Goals as goal

pub returns : goal.returns
unfolding ◌and◌
returns c =
    let a = c.args in
    column_reads _ _ (λ (b : Bool). b) (seen_from (slot_in a.tree.now.parents) (level_in a.tree.now.levels) a.n.0) a.processes.now false c.column.result
    c.column.ensures.length refl c.column.ensures.each (λ p r q. search (rules, tests))
