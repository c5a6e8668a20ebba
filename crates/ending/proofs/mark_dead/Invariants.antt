-- `mark_dead` passes over the namespaces, by the laws of a loop that changes each element.
use Rattle.table.proofs.MapLoops.{Mapped}
use Rattle.table.specs.Limits.{namespace_slots}
use Rattle.table.specs.Slots.{no_namespace}
use Rattle.ending.specs.Ending.{once_dead}
use Rattle.ending.proofs.mark_dead.Given as goal

abbrev pub invariant-loop-i : goal.invariant-loop-i
invariant-loop-i l = Mapped namespace_slots (once_dead l.n.0) no_namespace l.initial.s-items l.s-items l.i
