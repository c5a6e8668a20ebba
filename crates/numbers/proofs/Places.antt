-- The place of a process among the marks: by the tests of the code, and what a mark at it says.
use Prim.Native.Nat.{ℕ, ◌<◌, ◌≤◌, ◌+◌, ◌-◌}
use native.Mathlib.Decide.{dec_lt, ℕ_discrete}
use native.Mathlib.Omega.{arith}
use mathlib.Core.Bool.{Bool, true, false, not}
use mathlib.Core.Path.{◌≡◌, sym, ◌∙◌}
use borrow.Author.Tests.{eq-eqb, ne_eqb, lt-ltb, le-ltb, not-true, not-false}
use lib.Dec.{eqb}
use Rattle.table.proofs.Chains.{by_bool, pick_yes, pick_no, and_true, and_false, and_false_later}
use Rattle.table.specs.Tests.{◌and◌}
use Rattle.numbers.specs.Marks.{place_from}

module _ (m last x : ℕ) (s : Bool) where
  below_them : x ≤ last → place_from m last x s ≡ m
  unfolding place_from
  below_them h = pick_no _ _ _ (and_false _ s (and_false _ _ (le-ltb last x h)))

  behind_them : m ≤ x - last - 1 → place_from m last x s ≡ m
  unfolding place_from
  behind_them h = pick_no _ _ _ (and_false _ s (and_false_later _ _ (le-ltb (x - last - 1) m h)))

  hidden : s ≡ false → place_from m last x s ≡ m
  unfolding place_from
  hidden e = pick_no _ _ _ (and_false_later _ s e)

  among_them : last < x → x - last - 1 < m → s ≡ true → place_from m last x s ≡ x - last - 1
  unfolding place_from
  among_them a b e = pick_yes _ _ _ (and_true _ s (and_true _ _ (lt-ltb last x a) (lt-ltb (x - last - 1) m b)) e)

  -- the place is k exactly if who is seen has the number k places above `last`
  pub place_tells : (k : ℕ) → k < m → eqb (place_from m last x s) k ≡ s and eqb x (last + 1 + k)
  place_tells k h = go (ℕ_discrete x (last + 1 + k))
    where
      go : Dec (x ≡ last + 1 + k) → eqb (place_from m last x s) k ≡ s and eqb x (last + 1 + k)
      go (yes q) =
          let there : x - last - 1 ≡ k = omega arith in
          by_bool s
          (λ e. eq-eqb _ k (among_them (omega arith) (omega arith) e ∙ there) ∙ sym (and_true s _ e (eq-eqb x _ q)))
          (λ e. ne_eqb _ k (λ z. let w : place_from m last x s ≡ m = hidden e in omega arith) ∙ sym (and_false s _ e))
      go (no o) =
          ne_eqb _ k (λ z. other z (dec_lt last x) (dec_lt (x - last - 1) m))
          ∙ sym (and_false_later s _ (ne_eqb x _ o))
        where
          other : place_from m last x s ≡ k → Dec (last < x) → Dec (x - last - 1 < m) → ⊥
          other z (no a) b = let w : place_from m last x s ≡ m = below_them (omega arith) in omega arith
          other z (yes a) (no b) = let w : place_from m last x s ≡ m = behind_them (omega arith) in omega arith
          other z (yes a) (yes b) =
              by_bool s
              (λ e. let w : place_from m last x s ≡ x - last - 1 = among_them a b e in o (omega arith))
              (λ e. let w : place_from m last x s ≡ m = hidden e in omega arith)

  -- ---- the tests of the code: r is what `is_below` says

  pub is_not_above : x ≤ last → m ≡ place_from m last x s
  is_not_above h = sym (below_them h)

  pub is_too_far : m ≤ x - last - 1 → m ≡ place_from m last x s
  is_too_far h = sym (behind_them h)

  pub is_hidden : (r : Bool) → r ≡ s → not r ≡ true → m ≡ place_from m last x s
  is_hidden r d h = sym (hidden (sym d ∙ not-true r h))

  pub is_placed : (r : Bool) → last < x → x - last - 1 < m → r ≡ s → not r ≡ false → x - last - 1 ≡ place_from m last x s
  is_placed r a b d h = sym (among_them a b (sym d ∙ not-false r h))

pub ruleset places = (is_not_above, is_too_far, is_hidden, is_placed)
