-- The climb of the definition, with the steps left falling.
use Prim.Native.Nat.{◌-◌}
use mathlib.Core.Path.{◌≡◌}
use Rattle.table.specs.Limits.{process_slots}
use Rattle.rules.specs.Sound.{reaches_root}
use Rattle.sound.specs.Quick.{process_in}
use Rattle.sound.proofs.reach.reaches_root.Given as goal

abbrev pub invariant-loop : goal.invariant-loop
invariant-loop l = reaches_root (process_in l.parents) process_slots l.fn.slot.0 ≡ reaches_root (process_in l.parents) (process_slots - l.counter) l.up.0
