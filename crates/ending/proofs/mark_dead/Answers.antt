-- `mark_dead` passes over the namespaces, by the laws of a loop that changes each element.
use Rattle.table.proofs.MapLoops.{map_loops}
use Rattle.ending.proofs.Members.{namespaces_changed}
use Rattle.ending.specs.Ending.{marked_dead}
use Rattle.ending.proofs.mark_dead.Goals as goal

pub loop-i-init : goal.loop-i-init
loop-i-init c = search map_loops

pub loop-i-preserved : goal.loop-i-preserved
loop-i-preserved c = search map_loops

pub returns : goal.returns
unfolding marked_dead
returns c = search (map_loops, namespaces_changed)
