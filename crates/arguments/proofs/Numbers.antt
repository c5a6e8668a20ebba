-- Signed numbers and their bits. What the code holds is `to_z w (of_z w z)`, which is z where z fits (`to_z-of_z`); the
-- laws are on z itself.
use Prim.Native.Nat.{ℕ}
use native.Mathlib.Omega.{arith}
use mathlib.Core.Bool.{Bool, true, false, not, true≢false, false≢true}
use mathlib.Core.Path.{◌≡◌, refl}
use borrow.Author.Tests.{ltb-true, ltb-false, leb-true, leb-false, eq-eqb, ne_eqb, lt-ltb, le-ltb, le-leb, lt-leb}
use lib.Dec.{eqb, leb-zero}
use lib.IntN.{ℤ, pos, negsuc}
use lib.Signed.{lt_z, le_z}
use mir.Syntax.{w32}
use mir.Val.{of_z}
use Rattle.rules.specs.Calls.{within, natural, status}
use Rattle.table.specs.Limits.{signals, sigkill, sigstop}
use Rattle.table.specs.Tests.{◌and◌, ◌or◌}

-- ---- ranges

pub within_first : (b : ℕ) (z : ℤ) → le_z (pos 0) z ≡ true → lt_z z (pos b) ≡ within 0 b z
unfolding ◌and◌
within_first b (pos n) h = rw leb-zero refl
within_first b (negsuc n) h = absurd (false≢true h)

-- ---- what handle refuses

module _ (z : ℤ) where
  abbrev Refused : Bool → Type 0
  Refused r = r ≡ (not (within 1 signals z) or eqb (natural z) sigkill or eqb (natural z) sigstop)

pub refused_low : (z : ℤ) → lt_z z (pos 1) ≡ true → Refused z true
unfolding ◌and◌ ◌or◌
refused_low (pos n) h = rw (lt-leb 1 n (ltb-true n 1 h)) refl
refused_low (negsuc n) h = refl

pub refused_high : (z : ℤ) → le_z (pos signals) z ≡ true → Refused z true
unfolding ◌and◌ ◌or◌
refused_high (pos n) h = let l = leb-true signals n h in rw (le-leb 1 n (omega arith), le-ltb n signals l) refl
refused_high (negsuc n) h = absurd (false≢true h)

-- a number that is in the range
inside : (n : ℕ) → lt_z (pos n) (pos 1) ≡ false → le_z (pos signals) (pos n) ≡ false → within 1 signals (pos n) ≡ true
unfolding ◌and◌
inside n low high = rw (le-leb 1 n (ltb-false n 1 low), lt-ltb n signals (leb-false signals n high)) refl

pub refused_kill : (z : ℤ) → lt_z z (pos 1) ≡ false → le_z (pos signals) z ≡ false → of_z w32 z ≡ sigkill → Refused z (eqb (of_z w32 z) sigkill)
unfolding ◌or◌
refused_kill (pos n) low high h = rw (inside n low high, eq-eqb n sigkill h) refl
refused_kill (negsuc n) low high h = absurd (true≢false low)

pub refused_else : (z : ℤ) → lt_z z (pos 1) ≡ false → le_z (pos signals) z ≡ false → (of_z w32 z ≡ sigkill → ⊥) → Refused z (eqb (of_z w32 z) sigstop)
unfolding ◌or◌
refused_else (pos n) low high h = rw (inside n low high, ne_eqb n sigkill h) refl
refused_else (negsuc n) low high h = absurd (true≢false low)

-- -1, 256, -256 and the least number
pub edges : (status (negsuc 0) ≡ 255) × (status (pos 256) ≡ 0) × (status (negsuc 255) ≡ 0) × (status (negsuc 2147483647) ≡ 0)
edges = (refl, refl, refl, refl)
