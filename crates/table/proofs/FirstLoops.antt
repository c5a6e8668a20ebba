-- For a loop that leaves with the first i below n at which f holds, and with n where there is none. The invariant is
-- `Ahead n f i`: i is at most n, and the lowest number is the lowest from i on. `search first_loops` closes the loop's
-- four needs.
use Prim.Native.Nat.{ℕ, suc, ◌<◌, ◌≤◌, ◌+◌, ◌-◌}
use mathlib.Core.Bool.{Bool, true, false}
use mathlib.Core.Path.{◌≡◌, sym, ◌∙◌}
use native.Mathlib.Numerals.{add-one}
use native.Mathlib.Omega.{arith}
use Rattle.table.proofs.Chains.{pick_yes, pick_no}
use Rattle.table.specs.Tests.{lowest}

-- ---- one step of the definition, for a search that ends before e

-- f holds at i
pub lowest_here : (f : ℕ → Bool) (e i : ℕ) → i < e → f i ≡ true → lowest f (e - i) i ≡ i
unfolding lowest
lowest_here f e i h t =
    let q : e - i ≡ suc (e - suc i) = omega arith in
    rw q (pick_yes (f i) i (lowest f (e - suc i) (suc i)) t)

-- it does not
pub lowest_on : (f : ℕ → Bool) (e i : ℕ) → i < e → f i ≡ false → lowest f (e - i) i ≡ lowest f (e - (i + 1)) (i + 1)
unfolding lowest
lowest_on f e i h t =
    let q : e - i ≡ suc (e - suc i) = omega arith in
    rw (q, add-one) (pick_no (f i) i (lowest f (e - suc i) (suc i)) t)

-- there is no number left
pub lowest_end : (f : ℕ → Bool) (e i : ℕ) → e ≤ i → lowest f (e - i) i ≡ i
unfolding lowest
lowest_end f e i h =
    let q : e - i ≡ 0 = omega arith in
    rw q

-- ---- the loop

pub record Ahead (n : ℕ) (f : ℕ → Bool) (i : ℕ) : Type 0 where
  pub within : i ≤ n
  pub rest : lowest f n 0 ≡ lowest f (n - i) i

pub first_starts : (n : ℕ) (f : ℕ → Bool) → Ahead n f 0
first_starts n f =
    let e : n - 0 ≡ n = omega arith in
    record { within = omega arith; rest = rw e }

-- what the test at i tells
pub first_steps : (n : ℕ) (f : ℕ → Bool) (i : ℕ) → Ahead n f i → i < n → f i ≡ false → Ahead n f (i + 1)
first_steps n f i k h e = record { within = omega arith; rest = k.rest ∙ lowest_on f n i h e }

pub first_here : (n : ℕ) (f : ℕ → Bool) (i : ℕ) → Ahead n f i → i < n → f i ≡ true → i ≡ lowest f n 0
first_here n f i k h e = sym (k.rest ∙ lowest_here f n i h e)

-- r is the callee's result, and the test is `if r { return i; }`
pub first_goes_on : (n : ℕ) (f : ℕ → Bool) (i : ℕ) (r : Bool) → Ahead n f i → i < n → r ≡ f i → r ≡ false → Ahead n f (i + 1)
first_goes_on n f i r k h e q = first_steps n f i k h (sym e ∙ q)

pub first_found : (n : ℕ) (f : ℕ → Bool) (i : ℕ) (r : Bool) → Ahead n f i → i < n → r ≡ f i → r ≡ true → i ≡ lowest f n 0
first_found n f i r k h e q = first_here n f i k h (sym e ∙ q)

pub first_none : (n : ℕ) (f : ℕ → Bool) (i : ℕ) → Ahead n f i → n ≤ i → n ≡ lowest f n 0
first_none n f i k h =
    let w = k.within in
    let e : i ≡ n = omega arith in
    sym (k.rest ∙ lowest_end f n i h ∙ e)

pub ruleset first_loops = (first_starts, first_goes_on, first_found, first_none)

-- where the test is another one, as `if !r { return i; }`: with `chains`
pub ruleset first_loops_by = (first_starts, first_steps, first_here, first_none)
