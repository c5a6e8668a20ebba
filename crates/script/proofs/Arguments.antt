-- Signed arguments: what is written is read back, and nothing else is read.
use Rattle.std.proofs.lemmas.Option.{same_Some, none-some}
use Rattle.std.specs.Prelude.{Option, Some, None}
use Prim.Native.Nat.{ℕ, zero, suc, ◌<◌, ◌≤◌, ◌^◌}
use mathlib.Core.List.{List, [], ◌∷◌}
use mathlib.Core.Path.{◌≡◌, refl, sym, ap, subst, ◌∙◌}
use borrow.Author.Tests.{eqb-true, eqb-false, ltb-true, ltb-false}
use lib.Dec.{eqb, ltb}
use lib.IntN.{ℤ, pos, negsuc}
use lib.ListN.{length}
use native.Mathlib.Omega.{arith}
use Rattle.script.proofs.Decimals.{decimal_read, decimal_length, decimal_some, decimal_unsigned, decimal_one_word, natural_written}
use Rattle.script.proofs.Numbers.{from_zero_none, from_zero_fits, from_zero_past, below_zero_none, below_zero_zero, below_zero_past, below_zero_fits}
use Rattle.script.proofs.Scans.{word_goes_on}
use Rattle.script.proofs.Steps.{empty_number, signed_number, unsigned_number}
use Rattle.script.proofs.Words.{Unbroken}
use Rattle.script.specs.Lines.{Is32Bit}
use Rattle.script.specs.Sizes.{past_32_bit, most_digits}
use Rattle.script.specs.Reading.{read_natural, from_zero, below_zero, read_number}
use Rattle.script.specs.Texts.{minus_sign, decimal, number}
use Rattle.table.proofs.Chains.{by_bool}

-- ---- what is written is read back

pub number_read : (z : ℤ) → Is32Bit z → read_number (number z) ≡ Some z
unfolding number
number_read (pos n) h =
    let b : n < 10 ^ most_digits = omega arith in
    let s = decimal_some n in
    unsigned_number (decimal n) (λ e. omega arith) (decimal_unsigned n b) ∙ ap from_zero (decimal_read n b) ∙ from_zero_fits n h
number_read (negsuc n) h =
    signed_number (minus_sign ∷ decimal (suc n)) (λ e. omega arith) refl
    ∙ ap below_zero (decimal_read (suc n) (omega arith))
    ∙ below_zero_fits (suc n) (λ e. omega arith) (omega arith)

pub number_unbroken : (z : ℤ) → Is32Bit z → Unbroken (number z)
unfolding number
number_unbroken (pos n) h = decimal_one_word n (omega arith)
number_unbroken (negsuc n) h =
    word_goes_on minus_sign (decimal (suc n)) (λ e. omega arith) ∙ ap suc (decimal_one_word (suc n) (omega arith))

pub number_length : (z : ℤ) → length (number z) ≤ 11
unfolding number
number_length (pos n) = let h = decimal_length n in omega arith
number_length (negsuc n) = let h = decimal_length (suc n) in omega arith

-- ---- nothing else is read

-- the number z, by the value of its digits
record Above (m : Option ℕ) (z : ℤ) : Type 0 where
  value : ℕ
  read : m ≡ Some value
  is : z ≡ pos value
  fits : value < past_32_bit

record Below (m : Option ℕ) (z : ℤ) : Type 0 where
  value : ℕ
  read : m ≡ Some (suc value)
  is : z ≡ negsuc value
  fits : value < past_32_bit

above : (m : Option ℕ) (z : ℤ) → from_zero m ≡ Some z → Above m z
above None z e = absurd (none-some z (sym from_zero_none ∙ e))
above (Some n) z e =
    by_bool (ltb n past_32_bit)
    (λ q.
    let h = ltb-true n past_32_bit q in
    record { value = n; read = refl; is = same_Some z (pos n) (sym e ∙ from_zero_fits n h); fits = h })
    (λ q. absurd (none-some z (sym (from_zero_past n (ltb-false n past_32_bit q)) ∙ e)))

below : (m : Option ℕ) (z : ℤ) → below_zero m ≡ Some z → Below m z
below None z e = absurd (none-some z (sym below_zero_none ∙ e))
below (Some zero) z e = absurd (none-some z (sym (below_zero_zero 0 refl) ∙ e))
below (Some (suc n)) z e =
    by_bool (ltb past_32_bit (suc n))
    (λ q. absurd (none-some z (sym (below_zero_past (suc n) (ltb-true past_32_bit (suc n) q)) ∙ e)))
    (λ q.
    let h = ltb-false past_32_bit (suc n) q in
    record {
      value = n;
      read = refl;
      is = same_Some z (negsuc n) (sym e ∙ below_zero_fits (suc n) (λ o. omega arith) h);
      fits = omega arith;
    })

above_text : (l : List ℕ) (z : ℤ) → Above (read_natural l) z → (l ≡ number z) × Is32Bit z
unfolding number
above_text l z a = subst (λ y. (l ≡ number y) × Is32Bit y) (sym a.is) (natural_written l a.value a.read, a.fits)

below_text : (b : ℕ) (bs : List ℕ) (z : ℤ) → b ≡ minus_sign → Below (read_natural bs) z → (b ∷ bs ≡ number z) × Is32Bit z
unfolding number
below_text b bs z s a =
    let w = natural_written bs (suc a.value) a.read in
    subst (λ y. (b ∷ bs ≡ number y) × Is32Bit y) (sym a.is) ((λ j. s j ∷ w j), a.fits)

pub number_written : (l : List ℕ) (z : ℤ) → read_number l ≡ Some z → (l ≡ number z) × Is32Bit z
number_written [] z e = absurd (none-some z (sym (empty_number [] refl) ∙ e))
number_written (b ∷ bs) z e =
    by_bool (eqb b minus_sign)
    (λ q.
    let s = eqb-true b minus_sign q in
    below_text b bs z s (below (read_natural bs) z (sym (signed_number (b ∷ bs) some s) ∙ e)))
    (λ q. above_text (b ∷ bs) z (above (read_natural (b ∷ bs)) z (sym (unsigned_number (b ∷ bs) some (eqb-false b minus_sign q)) ∙ e)))
  where
    some : length (b ∷ bs) ≡ 0 → ⊥
    some o = omega arith
