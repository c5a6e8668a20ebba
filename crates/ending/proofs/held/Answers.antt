-- `held` marks what each process holds in turn, by the laws of a loop of turns.
use Rattle.table.proofs.FoldLoops.{fold_loops}
use Rattle.ending.specs.Holding.{marks_of}
use Rattle.ending.proofs.held.Goals as goal

pub loop-p-init : goal.loop-p-init
loop-p-init c = search fold_loops

pub loop-p-preserved : goal.loop-p-preserved
loop-p-preserved c = search fold_loops

pub returns : goal.returns
unfolding marks_of
returns c = search fold_loops
