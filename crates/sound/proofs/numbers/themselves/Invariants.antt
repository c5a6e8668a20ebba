-- Each slot at its place.
use Rattle.table.proofs.MapLoops.{Mapped}
use Rattle.table.specs.Limits.{namespace_slots}
use Rattle.table.specs.declared.NsSlot.{NsSlot}
use Rattle.sound.proofs.numbers.themselves.Given as goal

abbrev pub invariant-loop-n : goal.invariant-loop-n
invariant-loop-n l = Mapped namespace_slots (λ k (x : NsSlot). record { 0 = k }) (record { 0 = 0 }) l.initial.tops l.tops l.n
