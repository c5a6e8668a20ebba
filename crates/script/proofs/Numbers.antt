-- What the code holds of a number, against its definition: the value of digits as a signed number.
use Rattle.std.specs.Prelude.{Option, Some, None, Result, Ok, Err}
use Rattle.std.specs.Result.{OkIff, result_ok}
use Prim.Native.Nat.{ℕ, zero, suc, ◌<◌, ◌≤◌}
use mathlib.Core.Logic.{◌⊎◌, ⊎_elim}
use mathlib.Core.Path.{◌≡◌, refl, sym, ap, ◌∙◌}
use borrow.Author.Tests.{ltb-true, ltb-false, eq-eqb, ne_eqb, lt-ltb, le-ltb}
use lib.Dec.{eqb, ltb}
use lib.IntN.{ℤ, pos, neg_ℤ, ◌-ℤ◌, +ℤ_idl}
use mir.Syntax.{w32, w64}
use mir.Val.{SFits, to_z, of_z}
use mir.ValLaws.{to_z_pos, to_z-of_z}
use native.Mathlib.Omega.{arith}
use Rattle.script.specs.Sizes.{past_32_bit}
use Rattle.script.specs.Reading.{from_zero, below_zero}
use Rattle.table.proofs.Chains.{by_bool, pick_yes, pick_no}

-- ---- from 0

pub from_zero_fits : (n : ℕ) → n < past_32_bit → from_zero (Some n) ≡ Some (pos n)
unfolding from_zero
from_zero_fits n h = pick_yes (ltb n past_32_bit) (Some (pos n)) None (lt-ltb n past_32_bit h)

pub from_zero_past : (n : ℕ) → past_32_bit ≤ n → from_zero (Some n) ≡ None
unfolding from_zero
from_zero_past n h = pick_no (ltb n past_32_bit) (Some (pos n)) None (le-ltb n past_32_bit h)

pub from_zero_none : from_zero None ≡ None
unfolding from_zero
from_zero_none = refl

pub zero_stops : (m : Option ℕ) (r : Option ℤ) → r ≡ None → m ≡ None → r ≡ from_zero m
zero_stops m r p e = p ∙ sym (ap from_zero e ∙ from_zero_none)

-- r is what `try_from` gave
pub zero_tried : {E : Type 0} (m : Option ℕ) (n : ℕ) (r : Result ℤ E) (o : Option ℤ) → OkIff r (SFits w32 (pos n)) (pos n) → o ≡ result_ok r → m ≡ Some n → o ≡ from_zero m
zero_tried m n (Ok x) o h q e =
    let f = h.0.sfits in
    q ∙ ap Some h.1 ∙ sym (ap from_zero e ∙ from_zero_fits n (omega arith))
zero_tried m n (Err x) o h q e =
    by_bool (ltb n past_32_bit)
    (λ t.
    let k = ltb-true n past_32_bit t in
    absurd (h (record { sfits = omega arith })))
    (λ t. q ∙ sym (ap from_zero e ∙ from_zero_past n (ltb-false n past_32_bit t)))

-- ---- below 0

pub below_zero_fits : (n : ℕ) → (n ≡ 0 → ⊥) → n ≤ past_32_bit → below_zero (Some n) ≡ Some (neg_ℤ (pos n))
unfolding below_zero
below_zero_fits n z h =
    pick_no (eqb n 0) None _ (ne_eqb n 0 z) ∙ pick_no (ltb past_32_bit n) None (Some (neg_ℤ (pos n))) (le-ltb past_32_bit n h)

pub below_zero_zero : (n : ℕ) → n ≡ 0 → below_zero (Some n) ≡ None
unfolding below_zero
below_zero_zero n z = pick_yes (eqb n 0) None _ (eq-eqb n 0 z)

pub below_zero_past : (n : ℕ) → past_32_bit < n → below_zero (Some n) ≡ None
unfolding below_zero
below_zero_past n h =
    pick_no (eqb n 0) None _ (ne_eqb n 0 (λ e. omega arith)) ∙ pick_yes (ltb past_32_bit n) None (Some (neg_ℤ (pos n))) (lt-ltb past_32_bit n h)

pub below_zero_none : below_zero None ≡ None
unfolding below_zero
below_zero_none = refl

-- 0 - n, as the code computes it
negated : (n : ℕ) → n ≤ past_32_bit → (pos 0 -ℤ to_z w64 n) ≡ neg_ℤ (pos n)
negated n h = rw (to_z_pos w64 n (omega arith)) (+ℤ_idl (neg_ℤ (pos n)))

neg_fits_64 : (n : ℕ) → n ≤ past_32_bit → SFits w64 (neg_ℤ (pos n))
neg_fits_64 zero h = record { sfits = omega arith }
neg_fits_64 (suc k) h = record { sfits = omega arith }

neg_fits_32 : (n : ℕ) → n ≤ past_32_bit → SFits w32 (neg_ℤ (pos n))
neg_fits_32 zero h = record { sfits = omega arith }
neg_fits_32 (suc k) h = record { sfits = omega arith }

minus_is : (n : ℕ) → n ≤ past_32_bit → to_z w32 (of_z w32 (to_z w64 (of_z w64 (pos 0 -ℤ to_z w64 n)))) ≡ neg_ℤ (pos n)
minus_is n h = rw (negated n h, to_z-of_z w64 (neg_ℤ (pos n)) (neg_fits_64 n h)) (to_z-of_z w32 (neg_ℤ (pos n)) (neg_fits_32 n h))

pub minus_stops : (m : Option ℕ) (r : Option ℤ) → r ≡ None → m ≡ None → r ≡ below_zero m
minus_stops m r p e = p ∙ sym (ap below_zero e ∙ below_zero_none)

pub minus_out : (m : Option ℕ) (n : ℕ) → m ≡ Some n → (n ≡ 0) ⊎ ((n ≡ 0 → ⊥) × (past_32_bit < n)) → None ≡ below_zero m
minus_out m n e =
    ⊎_elim (λ z. sym (ap below_zero e ∙ below_zero_zero n z)) (λ h. sym (ap below_zero e ∙ below_zero_past n h.1))

pub minus_number : (m : Option ℕ) (n : ℕ) → m ≡ Some n → (n ≡ 0 → ⊥) → n ≤ past_32_bit → Some (to_z w32 (of_z w32 (to_z w64 (of_z w64 (pos 0 -ℤ to_z w64 n))))) ≡ below_zero m
minus_number m n e z h = ap Some (minus_is n h) ∙ sym (ap below_zero e ∙ below_zero_fits n z h)
