-- `sweep` passes over the processes, by the laws of a loop that changes each element.
use Rattle.table.proofs.MapLoops.{Mapped}
use Rattle.table.specs.Limits.{process_slots}
use Rattle.table.specs.Slots.{no_process}
use Rattle.ending.specs.Ending.{once_swept}
use Rattle.ending.specs.Holding.{mark_at}
use Rattle.ending.proofs.sweep.Given as goal

abbrev pub invariant-loop-i : goal.invariant-loop-i
invariant-loop-i l = Mapped process_slots (once_swept (mark_at l.inside)) no_process l.initial.p-items l.p-items l.i
