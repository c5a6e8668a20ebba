-- Both columns are filled up to the index.
use Rattle.table.proofs.MapLoops.{Mapped}
use Rattle.table.specs.Limits.{namespace_slots}
use Rattle.table.specs.Slots.{no_namespace}
use Rattle.std.specs.Prelude.{ℕ, get_or}
use Rattle.table.specs.declared.NsSlot.{NsSlot}
use Rattle.tree.proofs.Tree.of.Given as goal

abbrev pub invariant-loop-i : goal.invariant-loop-i
invariant-loop-i l = record {
  parents : Mapped namespace_slots (λ i (x : NsSlot). (get_or l.namespaces i no_namespace).parent) (record { 0 = 0 }) l.initial.parents l.parents l.i;
  levels : Mapped namespace_slots (λ i (x : ℕ). (get_or l.namespaces i no_namespace).level) 0 l.initial.levels l.levels l.i;
}
