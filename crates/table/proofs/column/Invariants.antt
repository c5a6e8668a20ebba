-- What stands below the index is what the closure returned.
use Prim.Native.Nat.{ℕ, ◌<◌}
use mathlib.Core.Path.{◌≡◌}
use lib.ListN.{length, get_or}
use Rattle.std.specs.Fn.{FnReturnsAt}
use Rattle.table.specs.Slots.{no_process}
use Rattle.table.proofs.column.Given as goal

abbrev pub invariant-loop-i : goal.invariant-loop-i
invariant-loop-i g l = record {
  length : length l.column ≡ length l.processes;
  each : (k : ℕ) → k < l.i → FnReturnsAt g.F.Fn l.of (get_or l.processes k no_process) (get_or l.column k l.fn.past);
}
