-- One candidate after the other: what is left where all fail.
use Prim.Native.Nat.{ℕ, suc, ◌<◌, ◌-◌}
use mathlib.Core.Bool.{Bool}
use mathlib.Core.Path.{◌≡◌, refl, subst, ◌∙◌}
use native.Mathlib.Omega.{arith}
use Rattle.rules.specs.Pids.{free_pid, next_pid}
use Rattle.rules.specs.Read.{View}
use Rattle.std.specs.Prelude.{Option, Some, None}
use Rattle.std.specs.Option.{IsSome}
use Rattle.table.proofs.SeekLoops.{Seeking, seek_past}
use Rattle.table.specs.Limits.{greatest_pid, restart_pid}
use Rattle.table.specs.Tests.{lowest}
use Rattle.table.specs.declared.Pid.{Pid}
use Rattle.numbers.proofs.Found.{always_found}
use Rattle.numbers.specs.Marks.{LowestUpTo}

-- the loop has come past the greatest
pub none_left : (f : ℕ → Bool) (g from c : ℕ) → Seeking f g from c → g < c → g < lowest f (suc g - from) from
none_left f g from c s h =
    let e : c ≡ lowest f (suc g - from) from = seek_past f g (suc g) from c s refl h in
    omega arith

-- where the search that starts again gives the number, it finds one
pub again_gives : (v : View) (n : ℕ) (r : Option Pid) (p : Pid) → LowestUpTo greatest_pid (free_pid v n) restart_pid r → r ≡ Some p → lowest (free_pid v n) (suc greatest_pid - restart_pid) restart_pid ≡ next_pid v n → p.0 ≡ next_pid v n
again_gives v n r p h q e = (subst (LowestUpTo greatest_pid (free_pid v n) restart_pid) q h).0 ∙ e

pub again_finds : (v : View) (n : ℕ) (r : Option Pid) → LowestUpTo greatest_pid (free_pid v n) restart_pid r → lowest (free_pid v n) (suc greatest_pid - restart_pid) restart_pid ≡ next_pid v n → IsSome r
again_finds v n None h e = absurd (omega (arith, (always_found v n _ e).within))
again_finds v n (Some p) h e = refl
