-- Each namespace at its place.
use mathlib.Core.Path.{refl, sym}
use borrow.Author.Tests.{lt-ltb, le-ltb}
use lib.ListN.{replicate}
use Rattle.table.proofs.Chains.{pick_yes, pick_no}
use Rattle.table.proofs.MapLoops.{map_old_loops, changed_reads}
use Rattle.table.specs.Limits.{namespace_slots}
use Rattle.table.specs.declared.NsSlot.{NsSlot}
use Rattle.sound.specs.Quick.{itself}
use Rattle.sound.proofs.numbers.themselves.Goals as goal

pub loop-n-init : goal.loop-n-init
loop-n-init c = search map_old_loops

pub loop-n-preserved : goal.loop-n-preserved
loop-n-preserved c = search map_old_loops

pub returns : goal.returns
unfolding itself
returns c =
    changed_reads (λ (s : NsSlot). s.0) (λ k x. record { 0 = k }) (record { 0 = 0 }) namespace_slots (replicate namespace_slots (record { 0 = 0 })) c.loop-n.tops itself (search map_old_loops) refl
    (λ k h. sym (pick_yes _ k 0 (lt-ltb k namespace_slots h))) (λ k h. sym (pick_no _ k 0 (le-ltb k namespace_slots h)))
