-- For a loop whose turn at i makes `step i u` of the value u: the most general law of a loop over slots. The invariant
-- is `Turned n step u₀ u i`: i is at most n, and u is what the turns below i make of u₀. `search fold_loops` closes the
-- loop's three needs.
use Prim.Native.Nat.{ℕ, zero, suc, ◌<◌, ◌≤◌, ◌+◌}
use mathlib.Core.Bool.{Bool, true, false}
use mathlib.Core.Path.{◌≡◌, refl, ap, ap₂, subst, ◌∙◌}
use lib.Dec.{eqb, ltb}
use native.Mathlib.Numerals.{add-one}
use native.Mathlib.Omega.{arith}
use Rattle.table.specs.Tests.{◌and◌, ◌or◌, when◌then◌else◌, least}

-- the turns at the numbers below n, each on what the one before left
unfoldable pub turns : {A : Type 0} → ℕ → (ℕ → A → A) → A → A
turns zero step u = u
turns (suc n) step u = step n (turns n step u)

pub record Turned {A : Type 0} (n : ℕ) (step : ℕ → A → A) (u₀ u : A) (i : ℕ) : Type 0 where
  pub within : i ≤ n
  pub done : u ≡ turns i step u₀

pub fold_starts : {A : Type 0} (n : ℕ) (step : ℕ → A → A) (u₀ : A) → Turned n step u₀ u₀ 0
unfolding turns
fold_starts n step u₀ = record { within = omega arith; done = refl }

-- v is the callee's result
pub fold_goes_on : {A : Type 0} (n : ℕ) (step : ℕ → A → A) (u₀ u v : A) (i : ℕ) → Turned n step u₀ u i → i < n → v ≡ step i u → Turned n step u₀ v (i + 1)
unfolding turns
fold_goes_on n step u₀ u v i k h e = record { within = omega arith; done = rw add-one (e ∙ ap (step i) k.done) }

pub fold_done : {A : Type 0} (n : ℕ) (step : ℕ → A → A) (u₀ u : A) (i : ℕ) → Turned n step u₀ u i → n ≤ i → u ≡ turns n step u₀
fold_done n step u₀ u i k h =
    let w = k.within in
    let e : i ≡ n = omega arith in
    subst (λ m. u ≡ turns m step u₀) e k.done

pub ruleset fold_loops = (fold_starts, fold_goes_on, fold_done)

-- ---- definitions that are such turns

-- the better of b, the best below i, and i
abbrev pub better : (ℕ → Bool) → (ℕ → ℕ) → ℕ → ℕ → ℕ → ℕ
better p f d i b = when p i and (eqb b d or ltb (f i) (f b)) then i else b

pub least_by_turns : (p : ℕ → Bool) (f : ℕ → ℕ) (d n : ℕ) → turns n (better p f d) d ≡ least p f d n
unfolding turns least
least_by_turns p f d zero = refl
least_by_turns p f d (suc n) = ap (better p f d n) (least_by_turns p f d n)

-- The loop keeps beside the best slot its key, so that no turn reads the table for it: u is made of both.
module _ {A : Type 0} (make : ℕ → ℕ → A) (slot key : A → ℕ) (p : ℕ → Bool) (f : ℕ → ℕ) (d : ℕ) where
  abbrev pub better_with_key : ℕ → A → A
  better_with_key i u = when p i and (eqb (slot u) d or ltb (f i) (key u)) then make i (f i) else u

  chosen : (b : Bool) (x y : ℕ) → (when b then make x (f x) else make y (f y)) ≡ make (when b then x else y) (f (when b then x else y))
  chosen true x y = refl
  chosen false x y = refl

  pub least_with_key : ((a k : ℕ) → slot (make a k) ≡ a) → ((a k : ℕ) → key (make a k) ≡ k) → (n : ℕ) → turns n better_with_key (make d (f d)) ≡ make (least p f d n) (f (least p f d n))
  unfolding turns least
  least_with_key s k zero = refl
  least_with_key s k (suc n) =
      let b : ℕ = least p f d n in
      ap (better_with_key n) (least_with_key s k n)
      ∙ ap₂ (λ (x y : ℕ). when p n and (eqb x d or ltb (f n) y) then make n (f n) else make b (f b)) (s b (f b)) (k b (f b))
      ∙ chosen (p n and (eqb b d or ltb (f n) (f b))) n b
