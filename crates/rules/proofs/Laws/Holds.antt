-- The namespaces that a process holds beside its own, by their index: what the records of each kind hold.
use Prim.Native.Nat.{ℕ, zero, suc, ◌<◌}
use native.Mathlib.Omega.{arith}
use mathlib.Core.List.{List}
use mathlib.Core.Path.{◌≡◌, refl, sym, subst}
use borrow.Author.Tests.{ne_eqb}
use lib.Dec.{eqb}
use Rattle.rules.specs.Births.{newborn}
use Rattle.rules.specs.Read.{View}
use Rattle.table.specs.Limits.{hold_slots, no_slot}
use Rattle.table.specs.Records.{as_ended, blank_process, with_children, with_parent, with_state, with_traits}
use Rattle.table.specs.Slots.{hold_at}
use Rattle.table.specs.Tests.{when◌then◌else◌}
use Rattle.table.specs.declared.End.{End}
use Rattle.table.specs.declared.Pid.{Pid}
use Rattle.table.specs.declared.Process.{Process}
use Rattle.table.specs.declared.State.{State}
use Rattle.table.specs.declared.Traits.{Traits}

-- these, but m at the index a
abbrev pub with_hold : (ℕ → ℕ) → ℕ → ℕ → ℕ → ℕ
with_hold f a m k = when eqb k a then m else f k

-- the one index of today
pub only_index : (k : ℕ) → k < hold_slots → k ≡ 0
only_index k l = omega arith

-- what holds at it holds at each
pub each_index : (P : ℕ → Type 0) → P 0 → (k : ℕ) → k < hold_slots → P k
each_index P h k l = subst P (sym (only_index k l)) h

-- what is all zero holds slot 0
pub blank_holds : (ks : List Pid) (k : ℕ) → k < hold_slots → hold_at (blank_process ks) k ≡ 0
blank_holds ks zero l = refl
blank_holds ks (suc k) l = absurd (omega arith)

-- who ends holds none,
pub ended_none : (p : Process) (e : End) (k : ℕ) → hold_at (as_ended p e) k ≡ no_slot
ended_none p e zero = refl
ended_none p e (suc k) = refl

-- also past the last index
pub none_past : (p : Process) (k : ℕ) → (k < hold_slots → hold_at p k ≡ no_slot) → hold_at p k ≡ no_slot
none_past p zero h = h (omega arith)
none_past p (suc k) h = refl

-- another parent
pub parent_holds : (p : Process) (i k : ℕ) → hold_at (with_parent p i) k ≡ hold_at p k
parent_holds p i zero = refl
parent_holds p i (suc k) = refl

-- another state and other traits
pub light_holds : (p : Process) (s : State) (x : Traits) (k : ℕ) → hold_at (with_traits (with_state p s) x) k ≡ hold_at p k
light_holds p s x zero = refl
light_holds p s x (suc k) = refl

-- another namespace for children, with any state and traits
pub turned_holds : (p : Process) (s : State) (x : Traits) (m k : ℕ) → hold_at (with_children (with_traits (with_state p s) x) m) k ≡ with_hold (hold_at p) 0 m k
turned_holds p s x m zero = refl
turned_holds p s x m (suc k) = rw (ne_eqb (suc k) 0 (λ e. omega arith))

-- a child holds its own for its children, and nothing else
pub born_holds : (v : View) (c n k : ℕ) → hold_at (newborn v c n) k ≡ with_hold (λ j. no_slot) 0 n k
unfolding newborn
born_holds v c n zero = refl
born_holds v c n (suc k) = rw (ne_eqb (suc k) 0 (λ e. omega arith))
