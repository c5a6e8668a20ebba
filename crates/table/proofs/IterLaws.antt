-- For a chain that ends in `any`, `all` or `position`: what the library's `cases_from_any`, `cases_from_all` and
-- `IsFirst-from_position` say of a list, as `any`, `all` and `lowest` over the places of the list. p is the closure's
-- test of an item, f the definition's of a place.
use Prim.Native.Nat.{ℕ, zero, suc, ◌<◌, ◌≤◌, ◌-◌}
use mathlib.Core.Bool.{Bool, true, false}
use mathlib.Core.List.{List}
use mathlib.Core.Path.{◌≡◌, refl, sym, ap, ◌∙◌}
use lib.ListN.{length, get_or}
use native.Mathlib.Numerals.{add-one}
use native.Mathlib.Omega.{arith}
use Rattle.std.specs.Bool.{MatchBool}
use Rattle.std.specs.Option.{MatchOption, unwrap_or}
use Rattle.std.specs.Prelude.{Option, None, Some}
use Rattle.std.specs.List.{AllWithin, HoldsAt}
use Rattle.table.proofs.AllLoops.{all_false}
use Rattle.table.proofs.AnyLoops.{any_true}
use Rattle.table.proofs.Chains.{pick_yes, pick_no}
use Rattle.table.proofs.FirstLoops.{lowest_here, lowest_on, lowest_end}
use Rattle.table.specs.Tests.{any, all, lowest}

-- ---- over the places below n, by what holds of each

pub any_false : (n : ℕ) (f : ℕ → Bool) → ((i : ℕ) → i < n → f i ≡ false) → any n f ≡ false
unfolding any
any_false zero f h = refl
any_false (suc n) f h = pick_no (f n) true (any n f) (h n (omega arith)) ∙ any_false n f (λ i k. h i (omega arith))

pub all_true : (n : ℕ) (f : ℕ → Bool) → ((i : ℕ) → i < n → f i ≡ true) → all n f ≡ true
unfolding all
all_true zero f h = refl
all_true (suc n) f h = pick_yes (f n) (all n f) false (h n (omega arith)) ∙ all_true n f (λ i k. h i (omega arith))

-- a search goes on past places at which f fails
passes : (f : ℕ → Bool) (n i : ℕ) → i ≤ n → ((k : ℕ) → k < i → f k ≡ false) → lowest f n 0 ≡ lowest f (n - i) i
passes f n zero h g =
    let e : n - 0 ≡ n = omega arith in
    rw e
passes f n (suc i) h g =
    passes f n i (omega arith) (λ k l. g k (omega arith))
    ∙ lowest_on f n i (omega arith) (g i (omega arith))
    ∙ ap (λ m. lowest f (n - m) m) (add-one i)

pub lowest_found : (f : ℕ → Bool) (n i : ℕ) → i < n → f i ≡ true → ((k : ℕ) → k < i → f k ≡ false) → lowest f n 0 ≡ i
lowest_found f n i h t g = passes f n i (omega arith) g ∙ lowest_here f n i h t

pub lowest_none : (f : ℕ → Bool) (n : ℕ) → ((k : ℕ) → k < n → f k ≡ false) → lowest f n 0 ≡ n
lowest_none f n g = passes f n n (omega arith) g ∙ lowest_end f n n (omega arith)

-- ---- what a chain gives

module _ {A : Type 0} (xs : List A) (d : A) (n : ℕ) (p : A → Bool) (f : ℕ → Bool) (long : length xs ≡ n) (says : (i : ℕ) → i < n → p (get_or xs i d) ≡ f i) where
  pub any_of_chain : (r : Bool) → MatchBool r ((k : ℕ) × (k < length xs) × HoldsAt (λ x. p x ≡ true) xs k) (AllWithin (λ x. p x ≡ false) xs 0 (length xs)) → r ≡ any n f
  any_of_chain true h =
      let w = h.1 in
      let k : h.0 < n = omega (arith, long) in
      sym (any_true n f h.0 k (sym (says h.0 k) ∙ h.2 d))
  any_of_chain false h = sym (any_false n f (λ i k. sym (says i k) ∙ h i d (omega arith) (omega (arith, long))))

  pub all_of_chain : (r : Bool) → MatchBool r (AllWithin (λ x. p x ≡ true) xs 0 (length xs)) ((k : ℕ) × (k < length xs) × HoldsAt (λ x. p x ≡ false) xs k) → r ≡ all n f
  all_of_chain true h = sym (all_true n f (λ i k. sym (says i k) ∙ h i d (omega arith) (omega (arith, long))))
  all_of_chain false h =
      let w = h.1 in
      let k : h.0 < n = omega (arith, long) in
      sym (all_false n f h.0 k (sym (says h.0 k) ∙ h.2 d))

  pub first_of_chain : (r : Option ℕ) → MatchOption r (AllWithin (λ x. p x ≡ false) xs 0 (length xs)) (λ i. (i < length xs) × HoldsAt (λ x. p x ≡ true) xs i × AllWithin (λ x. p x ≡ false) xs 0 i) → unwrap_or r n ≡ lowest f n 0
  first_of_chain None h = sym (lowest_none f n (λ i k. sym (says i k) ∙ h i d (omega arith) (omega (arith, long))))
  first_of_chain (Some i) h =
      let w = h.0 in
      let k : i < n = omega (arith, long) in
      sym (lowest_found f n i k (sym (says i k) ∙ h.1 d) (λ j l. sym (says j (omega arith)) ∙ h.2 j d (omega arith) l))
