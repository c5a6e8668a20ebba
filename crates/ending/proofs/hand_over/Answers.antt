-- `hand_over` passes over the processes, by the laws of a loop that changes each element.
use Rattle.table.proofs.MapLoops.{map_loops}
use Rattle.ending.proofs.Members.{processes_changed}
use Rattle.ending.specs.Ending.{handed_over}
use Rattle.ending.proofs.hand_over.Goals as goal

pub loop-i-init : goal.loop-i-init
loop-i-init c = search map_loops

pub loop-i-preserved : goal.loop-i-preserved
loop-i-preserved c = search map_loops

pub returns : goal.returns
unfolding handed_over
returns c = search (map_loops, processes_changed)
