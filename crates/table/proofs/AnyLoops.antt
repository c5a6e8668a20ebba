-- For a loop that looks for an i below n at which f holds, and leaves at the first. The invariant is `Unmet n f i`: i
-- is at most n, and f holds of no number below i. `search any_loops` closes the loop's four needs.
use Prim.Native.Nat.{ℕ, zero, suc, ◌<◌, ◌≤◌, ◌+◌}
use mathlib.Core.Bool.{Bool, true, false}
use mathlib.Core.Logic.{⊎_elim}
use mathlib.Core.Path.{◌≡◌, refl, sym, ap, subst, ◌∙◌}
use native.Mathlib.Nat.{eq-or-lt_of_le, le_of_suc-le-suc}
use native.Mathlib.Numerals.{add-one}
use native.Mathlib.Omega.{arith}
use Rattle.table.proofs.Chains.{by_bool, pick_yes, pick_no}
use Rattle.table.specs.Tests.{◌or◌, when◌then◌else◌, any}

pub record Unmet (n : ℕ) (f : ℕ → Bool) (i : ℕ) : Type 0 where
  pub within : i ≤ n
  pub none : any i f ≡ false

pub any_starts : (n : ℕ) (f : ℕ → Bool) → Unmet n f 0
unfolding any
any_starts n f = record { within = omega arith; none = refl }

-- f fails at one number more
more : (f : ℕ → Bool) (i : ℕ) → any i f ≡ false → f i ≡ false → any (suc i) f ≡ false
unfolding any
more f i k e = pick_no (f i) true (any i f) e ∙ k

-- what the test at i tells
pub any_steps : (n : ℕ) (f : ℕ → Bool) (i : ℕ) → Unmet n f i → i < n → f i ≡ false → Unmet n f (i + 1)
any_steps n f i k h e = record { within = omega arith; none = rw add-one (more f i k.none e) }

-- r is the callee's result, and the test is `if r { .. leave }`
pub any_goes_on : (n : ℕ) (f : ℕ → Bool) (i : ℕ) (r : Bool) → Unmet n f i → i < n → r ≡ f i → r ≡ false → Unmet n f (i + 1)
any_goes_on n f i r k h e q = any_steps n f i k h (sym e ∙ q)

pub any_none : (n : ℕ) (f : ℕ → Bool) (i : ℕ) → Unmet n f i → n ≤ i → any n f ≡ false
any_none n f i k h =
    let w = k.within in
    let e : i ≡ n = omega arith in
    subst (λ m. any m f ≡ false) e k.none

-- a test that holds of one number holds
pub any_true : (n : ℕ) (f : ℕ → Bool) (i : ℕ) → i < n → f i ≡ true → any n f ≡ true
unfolding any
any_true zero f i h e = absurd (omega arith)
any_true (suc n) f i h e =
    ⊎_elim (λ (q : i ≡ n). pick_yes (f n) true (any n f) (subst (λ m. f m ≡ true) q e))
    (λ (q : i < n). by_bool (f n) (λ t. pick_yes (f n) true (any n f) t) (λ t. pick_no (f n) true (any n f) t ∙ any_true n f i q e))
    (eq-or-lt_of_le (le_of_suc-le-suc h))

pub any_here : (n : ℕ) (f : ℕ → Bool) (i : ℕ) → i < n → f i ≡ true → true ≡ any n f
any_here n f i h e = sym (any_true n f i h e)

pub any_found : (n : ℕ) (f : ℕ → Bool) (i : ℕ) (r : Bool) → i < n → r ≡ f i → r ≡ true → any n f ≡ true
any_found n f i r h e q = any_true n f i h (sym e ∙ q)

-- the same, as a `return` asks them
pub any_returns_true : (n : ℕ) (f : ℕ → Bool) (i : ℕ) (r : Bool) → i < n → r ≡ f i → r ≡ true → true ≡ any n f
any_returns_true n f i r h e q = sym (any_found n f i r h e q)

pub any_returns_false : (n : ℕ) (f : ℕ → Bool) (i : ℕ) → Unmet n f i → n ≤ i → false ≡ any n f
any_returns_false n f i k h = sym (any_none n f i k h)

pub ruleset any_loops = (any_starts, any_goes_on, any_none, any_found, any_returns_true, any_returns_false)

-- where the test is another one, as `if !r { return true; }`, or several stand in the loop: with `chains`
pub ruleset any_loops_by = (any_starts, any_steps, any_none, any_true, any_here, any_returns_false)

-- ---- two tests in one

pub any_or : (n : ℕ) (f g : ℕ → Bool) → any n (λ i. f i or g i) ≡ any n f or any n g
unfolding any ◌or◌
any_or zero f g = refl
any_or (suc n) f g = ap (λ x. when f n or g n then true else x) (any_or n f g) ∙ go (f n) (g n) (any n f) (any n g)
  where
    go : (a b x y : Bool) → (when a or b then true else (x or y)) ≡ (when a then true else x) or (when b then true else y)
    go true b x y = refl
    go false true true y = refl
    go false true false y = refl
    go false false x y = refl
