-- Each namespace that is below the level goes one up.
use lib.Dec.{ltb}
use Rattle.table.proofs.MapLoops.{Mapped}
use Rattle.table.specs.Limits.{namespace_slots}
use Rattle.table.specs.Tests.{when◌then◌else◌}
use Rattle.table.specs.declared.NsSlot.{NsSlot}
use Rattle.tree.specs.Tree.{slot_in, level_in}
use Rattle.sound.proofs.numbers.raise.Given as goal

abbrev pub invariant-loop-n : goal.invariant-loop-n
invariant-loop-n l =
    Mapped namespace_slots (λ k (x : NsSlot). record { 0 = when ltb l.level (level_in l.tree.levels k) then slot_in l.tree.parents x.0 else x.0 }) (record { 0 = 0 }) l.initial.tops l.tops l.n
