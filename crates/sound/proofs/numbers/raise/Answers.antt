-- Each namespace that is below the level goes one up.
use native.Mathlib.Omega.{arith}
use mathlib.Core.Path.{◌≡◌, refl, ap}
use borrow.Author.Tests.{le-ltb}
use lib.ListN.{get_or}
use Rattle.table.proofs.Chains.{if_no}
use Rattle.table.proofs.MapLoops.{map_loops, map_goes_on, map_done, changed_reads}
use Rattle.table.proofs.Slots.{array_past}
use Rattle.table.specs.Limits.{namespace_slots}
use Rattle.table.specs.declared.NsSlot.{NsSlot}
use Rattle.tree.specs.Tree.{level_in}
use Rattle.sound.specs.Quick.{raised as raised_to}
use borrow.Author.Rules.{rules}
use Rattle.sound.proofs.numbers.raise.Goals as goal

pub loop-n-init : goal.loop-n-init
loop-n-init c = search map_loops

pub loop-n-preserved : goal.loop-n-preserved
loop-n-preserved c =
    map_goes_on namespace_slots _ _ _ _ _ _ c.loop-n.invariant (search rules) (ap (λ k. record { 0 = k }) c.raise_one.ensures)

pub returns : goal.returns
unfolding raised_to
returns c =
    let a = c.args in
    changed_reads (λ (s : NsSlot). s.0) _ (record { 0 = 0 }) namespace_slots _ _ _ (map_done namespace_slots _ _ _ _ _ c.loop-n.invariant (search rules)) (search rules) (λ k h. refl)
    (λ k h.
    let e : 0 ≡ get_or a.tree.now.levels k 0 = search (array_past, rules) in
    let z : record { 0 = 0 } ≡ get_or a.tops.now k (record { 0 = 0 }) = search (array_past, rules) in
    if_no _ _ _ _ (le-ltb a.level (level_in a.tree.now.levels k) (omega arith)) (ap (λ s. s.0) z))
