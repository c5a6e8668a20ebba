-- For a loop that tests every i below n and leaves with `false` at the first that fails. The invariant is
-- `Passed n f i`: i is at most n, and f holds of each number below i. `search all_loops` closes the loop's four needs.
use Prim.Native.Nat.{ℕ, zero, suc, ◌<◌, ◌≤◌, ◌+◌}
use mathlib.Core.Bool.{Bool, true, false, not, true≢false}
use mathlib.Core.Logic.{⊎_elim}
use mathlib.Core.Path.{◌≡◌, refl, sym, subst, ◌∙◌}
use native.Mathlib.Nat.{eq-or-lt_of_le, le_of_suc-le-suc}
use native.Mathlib.Numerals.{add-one}
use native.Mathlib.Omega.{arith}
use borrow.Author.Tests.{not-true, not-false}
use Rattle.table.proofs.Chains.{by_bool, pick_yes, pick_no}
use Rattle.table.specs.Tests.{all}

pub record Passed (n : ℕ) (f : ℕ → Bool) (i : ℕ) : Type 0 where
  pub within : i ≤ n
  pub holds : all i f ≡ true

pub all_starts : (n : ℕ) (f : ℕ → Bool) → Passed n f 0
unfolding all
all_starts n f = record { within = omega arith; holds = refl }

-- f holds of one number more
more : (f : ℕ → Bool) (i : ℕ) → all i f ≡ true → f i ≡ true → all (suc i) f ≡ true
unfolding all
more f i k e = pick_yes (f i) (all i f) false e ∙ k

-- what the test at i tells
pub all_steps : (n : ℕ) (f : ℕ → Bool) (i : ℕ) → Passed n f i → i < n → f i ≡ true → Passed n f (i + 1)
all_steps n f i k h e = record { within = omega arith; holds = rw add-one (more f i k.holds e) }

-- r is the callee's result, and the test is `if !r { return false; }`
pub all_goes_on : (n : ℕ) (f : ℕ → Bool) (i : ℕ) (r : Bool) → Passed n f i → i < n → r ≡ f i → not r ≡ false → Passed n f (i + 1)
all_goes_on n f i r k h e q = all_steps n f i k h (sym e ∙ not-false r q)

pub all_passes : (n : ℕ) (f : ℕ → Bool) (i : ℕ) → Passed n f i → n ≤ i → true ≡ all n f
all_passes n f i k h =
    let w = k.within in
    let e : i ≡ n = omega arith in
    sym (subst (λ m. all m f ≡ true) e k.holds)

-- a test that fails at one number fails
pub all_false : (n : ℕ) (f : ℕ → Bool) (i : ℕ) → i < n → f i ≡ false → all n f ≡ false
unfolding all
all_false zero f i h e = absurd (omega arith)
all_false (suc n) f i h e =
    ⊎_elim (λ (q : i ≡ n). pick_no (f n) (all n f) false (subst (λ m. f m ≡ false) q e))
    (λ (q : i < n). by_bool (f n) (λ t. pick_yes (f n) (all n f) false t ∙ all_false n f i q e) (λ t. pick_no (f n) (all n f) false t))
    (eq-or-lt_of_le (le_of_suc-le-suc h))

pub all_stops : (n : ℕ) (f : ℕ → Bool) (i : ℕ) → i < n → f i ≡ false → false ≡ all n f
all_stops n f i h e = sym (all_false n f i h e)

pub all_fails : (n : ℕ) (f : ℕ → Bool) (i : ℕ) (r : Bool) → i < n → r ≡ f i → not r ≡ true → false ≡ all n f
all_fails n f i r h e q = all_stops n f i h (sym e ∙ not-true r q)

pub ruleset all_loops = (all_starts, all_goes_on, all_passes, all_fails)

-- where the test is another one, as `if r { return false; }`, or several stand in the loop: with `chains`
pub ruleset all_loops_by = (all_starts, all_steps, all_passes, all_stops)

-- what a passed test says of each number
pub all_at : (n : ℕ) (f : ℕ → Bool) (i : ℕ) → all n f ≡ true → i < n → f i ≡ true
all_at n f i e h = by_bool (f i) (λ t. t) (λ t. absurd (true≢false (sym e ∙ all_false n f i h t)))
