-- `free_unheld` passes over the namespaces, by the laws of a loop that changes each element.
use Rattle.table.proofs.MapLoops.{Mapped}
use Rattle.table.specs.Limits.{namespace_slots}
use Rattle.table.specs.Slots.{no_namespace}
use Rattle.tree.specs.Tree.{slot_in, level_in}
use Rattle.ending.specs.Holding.{mark_at, once_freed}
use Rattle.ending.proofs.free_unheld.Given as goal

abbrev pub invariant-loop-i : goal.invariant-loop-i
invariant-loop-i l = Mapped namespace_slots (once_freed (slot_in l.holding.tree.parents) (level_in l.holding.tree.levels) (mark_at l.holding.marks)) no_namespace l.initial.s-items l.s-items l.i
