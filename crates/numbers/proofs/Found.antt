-- With at most 64 processes a number is always found: it is from 1 to 32,767, and nobody has it. So it is on any table,
-- and `next_pid` never gives the number past the greatest that its searches would give where nothing is free.
use Prim.Native.Nat.{ℕ}
use mathlib.Core.Path.{◌≡◌, sym, subst}
use Rattle.rules.proofs.Keeps.Birth.{Fresh, next_fresh}
use Rattle.rules.specs.Pids.{next_pid}
use Rattle.rules.specs.Read.{View}

-- r is what `next_pid` gives
pub always_found : (v : View) (n r : ℕ) → r ≡ next_pid v n → Fresh v n r
always_found v n r e = subst (Fresh v n) (sym e) (next_fresh v n)
