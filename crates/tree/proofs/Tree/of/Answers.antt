-- Both columns are filled from the namespaces, by the laws of a loop that changes each element.
use Prim.Native.Nat.{ℕ}
use mathlib.Core.Path.{refl}
use lib.ListN.{replicate}
use Rattle.table.proofs.MapLoops.{map_old_loops, filled_reads}
use Rattle.table.specs.Limits.{namespace_slots}
use Rattle.table.specs.Slots.{no_namespace}
use Rattle.table.specs.declared.Namespace.{Namespace}
use Rattle.table.specs.declared.NsSlot.{NsSlot}
use borrow.Author.Rules.{rules}
use Rattle.tree.proofs.Tree.of.Goals as goal

pub loop-i-init : goal.loop-i-init
loop-i-init c = search map_old_loops

pub loop-i-preserved : goal.loop-i-preserved
loop-i-preserved c = search map_old_loops

pub returns-clause-parents : goal.returns-clause-parents
returns-clause-parents c =
    filled_reads (λ (s : Namespace). s.parent) no_namespace (λ (n : NsSlot). n.0) namespace_slots (replicate namespace_slots (record { 0 = 0 })) c.loop-i.parents
    c.args.namespaces.now (search map_old_loops) refl (search rules)

pub returns-clause-levels : goal.returns-clause-levels
returns-clause-levels c =
    filled_reads (λ (s : Namespace). s.level) no_namespace (λ (k : ℕ). k) namespace_slots (replicate namespace_slots 0) c.loop-i.levels
    c.args.namespaces.now (search map_old_loops) refl (search rules)
