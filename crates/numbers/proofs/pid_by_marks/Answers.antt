-- `pid_by_marks` is the definition, by its tests. Both searches see the climbs of the tree to n.
use borrow.Author.Rules.{rules}
use Rattle.numbers.proofs.ByMarks.{found_above, found_again, marks_out}
use Rattle.numbers.proofs.pid_by_marks.Goals as goal

pub returns-then-is_some-clause-pid : goal.returns-then-is_some-clause-pid
returns-then-is_some-clause-pid c =
    found_above _ _ _ _ _ c.new-climbs.ensures c.unheld_above-above.result c.unheld_above-above.ensures.pid c.unheld_above-above.ensures.some (search rules)

pub returns-then-last-clause-pid : goal.returns-then-last-clause-pid
returns-then-last-clause-pid c =
    found_again _ _ _ _ _ c.new-climbs.ensures c.unheld_above-above.result c.unheld_above.result c.unheld_above-above.ensures.pid (search rules) c.if-last.true (rw c.unheld_above-above.ensures.same at c.unheld_above.ensures.pid)

pub returns-clause-pid : goal.returns-clause-pid
returns-clause-pid c =
    marks_out _ _ _ _ _ c.new-climbs.ensures c.unheld_above-above.result c.unheld_above-above.ensures.pid (search rules) c.if-last.false
