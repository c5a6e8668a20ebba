-- `hand_over` passes over the processes, by the laws of a loop that changes each element.
use Rattle.table.proofs.MapLoops.{Mapped}
use Rattle.table.specs.Limits.{process_slots}
use Rattle.table.specs.Slots.{no_process}
use Rattle.ending.specs.Ending.{once_handed}
use Rattle.ending.proofs.hand_over.Given as goal

abbrev pub invariant-loop-i : goal.invariant-loop-i
invariant-loop-i l = Mapped process_slots (once_handed l.slot.0 l.how l.init.0) no_process l.initial.p-items l.p-items l.i
