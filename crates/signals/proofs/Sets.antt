-- The definitions of sets of signals against shifts, masks and counts of bits, for sets of any width w.
use Prim.Native.Nat.{ℕ, zero, suc, ◌+◌, ◌-◌, ◌*◌, ◌/◌, ◌%◌, ◌^◌, ◌<◌, ◌≤◌, max, min}
use native.Mathlib.Nat.{not-suc-le-zero, le_of_suc-le-suc, div-one, add-zero, zero-add, max-eq_right, max-zero, min-eq_left, min-zero, mod-eq_of_lt}
use native.Mathlib.Decide.{dec_lt}
use native.Mathlib.Omega.{arith}
use mathlib.Core.Bool.{Bool, true, false, false≢true}
use mathlib.Core.Path.{◌≡◌, refl, sym, ap, ap₂, ◌∙◌}
use borrow.Author.Tests.{lt-ltb}
use lib.Bits.{bit_and, bit_or, or_step, and_step, or_zero_r, and_mask, shifted_half, shifted_even}
use lib.Count.{count_trailing_zeros, under}
use lib.Dec.{eqb, ltb, lit<}
use lib.Pow.{shr-shr, shl_exact, pow_pos, pow-lt}
use Rattle.table.proofs.Chains.{pick_yes}
use Rattle.table.specs.Limits.{signals}
use Rattle.table.specs.SignalSets.{has, with_signal, without_signal, lowest_signal}
use Rattle.table.specs.Tests.{when◌then◌else◌, lowest}

-- ---- shifts and masks

pub has_is : (m s : ℕ) → eqb (m / 2 ^ s % 2) 1 ≡ has m s
unfolding has
has_is m zero = ap (λ x. eqb (x % 2) 1) (div-one m)
has_is m (suc s) =
    let e : 1 + s ≡ suc s = omega arith in
    ap (λ x. eqb (x % 2) 1) (ap (λ k. m / 2 ^ k) (sym e) ∙ sym (shr-shr m 1 s)) ∙ has_is (m / 2) s

or_is : (m s : ℕ) → bit_or m (1 * 2 ^ s) ≡ with_signal m s
unfolding with_signal
or_is m zero = or_step m 1 ∙ ap₂ (λ x y. x * 2 + y) (or_zero_r (m / 2)) (max-eq_right (omega arith))
or_is m (suc s) =
    or_step m (1 * 2 ^ suc s)
    ∙ ap₂ (λ x y. bit_or (m / 2) x * 2 + max (m % 2) y) (shifted_half 1 s) (shifted_even 1 s)
    ∙ ap₂ (λ x y. x * 2 + y) (or_is (m / 2) s) (max-zero (m % 2))

masked : (m x y d : ℕ) → x / 2 ≡ y → x % 2 ≡ d → bit_and m x ≡ bit_and (m / 2) y * 2 + min (m % 2) d
masked m x y d p q = and_step m x ∙ ap₂ (λ y d. bit_and (m / 2) y * 2 + min (m % 2) d) p q

and_is : (w m s : ℕ) → m < 2 ^ w → s < w → bit_and m (2 ^ w - 1 - 1 * 2 ^ s) ≡ without_signal m s
unfolding without_signal
and_is zero m s h l = absurd (not-suc-le-zero l)
and_is (suc w) m zero h l =
    masked m (2 ^ suc w - 1 - 1) (2 ^ w - 1) 0 (omega arith) (omega (arith, pow_pos w))
    ∙ ap₂ (λ x y. x * 2 + y) (and_mask (m / 2) w ∙ mod-eq_of_lt (omega arith)) (min-zero (m % 2))
    ∙ add-zero (m / 2 * 2)
and_is (suc w) m (suc s) h l =
    let k = le_of_suc-le-suc l in
    masked m (2 ^ suc w - 1 - 1 * 2 ^ suc s) (2 ^ w - 1 - 1 * 2 ^ s) 1 (omega (arith, pow-lt k)) (omega (arith, pow-lt k))
    ∙ ap₂ (λ x y. x * 2 + y) (and_is w (m / 2) s (omega arith) k) (min-eq_left (omega arith))

-- a bit below w is kept whole in w bits
one_bit : (w s : ℕ) → s < w → 1 * 2 ^ s % 2 ^ w ≡ 1 * 2 ^ s
one_bit w s l = shl_exact 1 s w (lit< tt) (omega arith)

pub with_is : (w m s : ℕ) → s < w → bit_or m (1 * 2 ^ s % 2 ^ w) ≡ with_signal m s
with_is w m s l = ap (bit_or m) (one_bit w s l) ∙ or_is m s

pub without_is : (w m s : ℕ) → m < 2 ^ w → s < w → bit_and m (2 ^ w - 1 - 1 * 2 ^ s % 2 ^ w) ≡ without_signal m s
without_is w m s h l = ap (λ b. bit_and m (2 ^ w - 1 - b)) (one_bit w s l) ∙ and_is w m s h l

-- ---- a signal that has a bit: r is what `with_signal` gives

pub with_fitting : (m s r : ℕ) → s < signals → r ≡ (when ltb s signals then with_signal m s else m) → r ≡ with_signal m s
with_fitting m s r l e = e ∙ pick_yes (ltb s signals) _ m (lt-ltb s signals l)

-- ---- from w on a set of w bits has no signal

has_none : (s : ℕ) → false ≡ has 0 s
unfolding has
has_none zero = refl
has_none (suc s) = has_none s

pub has_past : (w m s : ℕ) → m < 2 ^ w → w ≤ s → false ≡ has m s
unfolding has
has_past zero m s h l = let e : 0 ≡ m = omega arith in has_none s ∙ ap (λ x. has x s) e
has_past (suc w) m zero h l = absurd (not-suc-le-zero l)
has_past (suc w) m (suc s) h l = has_past w (m / 2) s (omega arith) (le_of_suc-le-suc l)

-- the same of a test r that fails
pub has_past_by : (w m s : ℕ) (r : Bool) → m < 2 ^ w → w ≤ s → r ≡ false → r ≡ has m s
has_past_by w m s r h k e = e ∙ has_past w m s h k

pub has_low : (w m s : ℕ) → m < 2 ^ w → has m s ≡ true → s < w
has_low w m s h e = go (dec_lt s w)
  where
    go : Dec (s < w) → s < w
    go (yes l) = l
    go (no o) = absurd (false≢true (has_past w m s h (omega arith) ∙ e))

without_none : (s : ℕ) → 0 ≡ without_signal 0 s
unfolding without_signal
without_none zero = refl
without_none (suc s) = ap (λ x. x * 2 + 0) (without_none s)

pub without_past : (w m s : ℕ) → m < 2 ^ w → w ≤ s → m ≡ without_signal m s
unfolding without_signal
without_past zero m s h l = let e : m ≡ 0 = omega arith in e ∙ without_none s ∙ ap (λ x. without_signal x s) (sym e)
without_past (suc w) m zero h l = absurd (not-suc-le-zero l)
without_past (suc w) m (suc s) h l = omega (arith, without_past w (m / 2) s (omega arith) (le_of_suc-le-suc l))

-- ---- the lowest signal

-- one step of the search, by the lowest bit d
lowest_step : (f : ℕ → Bool) (n k d t : ℕ) → d < 2 → f k ≡ eqb d 1 → suc k + t ≡ lowest f n (suc k) → k + under d t ≡ lowest f (suc n) k
unfolding lowest
lowest_step f n k zero t l e h = rw (e, lowest) (omega arith)
lowest_step f n k (suc zero) t l e h = rw (e, lowest) (omega arith)
lowest_step f n k (suc (suc d)) t l e h = absurd (omega arith)

lowest_from : (f : ℕ → Bool) (n k m : ℕ) → ((i : ℕ) → f (k + i) ≡ has m i) → k + count_trailing_zeros n m ≡ lowest f n k
unfolding lowest count_trailing_zeros has
lowest_from f zero k m h = add-zero k
lowest_from f (suc n) k m h =
    lowest_step f n k (m % 2) (count_trailing_zeros n (m / 2)) (omega arith) (ap f (sym (add-zero k)) ∙ h 0)
    (lowest_from f n (suc k) (m / 2) (λ i. let e : suc k + i ≡ k + suc i = omega arith in ap f e ∙ h (suc i)))

pub lowest_is : (m : ℕ) → count_trailing_zeros signals m ≡ lowest_signal m
unfolding lowest_signal
lowest_is m = sym (zero-add (count_trailing_zeros signals m)) ∙ lowest_from (has m) signals 0 m (λ i. ap (has m) (zero-add i))
