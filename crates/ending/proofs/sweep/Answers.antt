-- `sweep` passes over the processes, by the laws of a loop that changes each element.
use Rattle.table.proofs.MapLoops.{map_loops}
use Rattle.ending.proofs.Marks.{swept_all}
use Rattle.ending.proofs.sweep.Goals as goal

pub loop-i-init : goal.loop-i-init
loop-i-init c = search map_loops

pub loop-i-preserved : goal.loop-i-preserved
loop-i-preserved c = search map_loops

pub returns : goal.returns
returns c = search swept_all
