-- `first_ended` keeps the best slot; the definition is the same turns over the slots.
use Rattle.table.proofs.FoldLoops.{fold_starts}
use Rattle.table.specs.Limits.{process_slots}
use Rattle.waits.proofs.Waits.{turn, search_takes, search_passes, search_ends}
use borrow.Author.Rules.{rules}
use Rattle.waits.proofs.first_ended.Goals as goal
use Rattle.waits.proofs.first_ended.Goals.{else-comes_first, then-comes_first}

pub loop-i-init : goal.loop-i-init
loop-i-init c = record { turned = fold_starts process_slots (turn c.args.t.now c.args.parent.0 c.args.level) process_slots; within = tt }

pub loop-i-preserved : goal.loop-i-preserved
loop-i-preserved c =
    elim c.if-comes_first.branch [
      | then-comes_first w ↦ rw w.best-is (record { turned = search_takes _ _ _ c.loop-i.best _ _ c.loop-i.invariant.turned c.loop-i-test.true c.comes_first.ensures w.if-comes_first.true; within = c.loop-i-test.true })
      | else-comes_first w ↦ rw w.best-is (record { turned = search_passes _ _ _ c.loop-i.best _ _ c.loop-i.invariant.turned c.loop-i-test.true c.comes_first.ensures w.if-comes_first.false; within = c.loop-i.invariant.within })
    ]

pub returns : goal.returns
returns c = search_ends _ _ _ _ _ c.loop-i.invariant.turned (search rules)
