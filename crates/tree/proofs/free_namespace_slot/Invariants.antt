-- `free_namespace_slot` gives the lowest free namespace slot, by the laws of a loop that leaves with the first.
use mathlib.Core.Bool.{not}
use Rattle.table.proofs.FirstLoops.{Ahead}
use Rattle.table.specs.Limits.{namespace_slots}
use Rattle.rules.specs.Read.{view, namespace_taken}
use Rattle.tree.proofs.free_namespace_slot.Given as goal

abbrev pub invariant-loop-i : goal.invariant-loop-i
invariant-loop-i l = Ahead namespace_slots (λ k. not (namespace_taken (view l.t) k)) l.i
