-- The law behind the marks, over their number m: f says which numbers are free, and the marks say of each of the m
-- numbers above `last` that it is not. Then the first number without a mark is the lowest free one of them; and that,
-- if there is one, is the lowest free one above `last`.
use Prim.Native.Nat.{ℕ, zero, suc, ◌<◌, ◌≤◌, ◌+◌, ◌-◌}
use mathlib.Core.Bool.{Bool, true, false, not, true≢false}
use mathlib.Core.List.{List}
use mathlib.Core.Logic.{◌⊎◌, inl, inr, ⊎_elim}
use mathlib.Core.Path.{◌≡◌, refl, sym, ap, ap₂, subst, ◌∙◌}
use native.Mathlib.Decide.{dec_lt}
use native.Mathlib.Omega.{arith}
use borrow.Author.Tests.{not-true, not-false, lt-ltb, le-ltb, le-leb, lt-leb}
use lib.ListN.{get_or}
use Rattle.rules.proofs.Laws.Find.{Lowest, lowest_is}
use Rattle.table.proofs.Chains.{pick_yes, pick_no, and_true, and_false, and_false_later}
use Rattle.table.proofs.MarkLoops.{Marks}
use Rattle.table.specs.Limits.{greatest_pid}
use Rattle.table.specs.Tests.{lowest}
use Rattle.numbers.specs.Marks.{first_of}

-- ---- the lowest number

-- it rests on the numbers that are looked at
pub lowest_same : (f g : ℕ → Bool) (n k : ℕ) → ((j : ℕ) → k ≤ j → f j ≡ g j) → lowest f n k ≡ lowest g n k
unfolding lowest
lowest_same f g zero k h = refl
lowest_same f g (suc n) k h =
    ap₂ (λ (b : Bool) (x : ℕ). elim b as (λ y. ℕ) [ true ↦ k | false ↦ x ]) (h k (omega arith)) (lowest_same f g n (suc k) (λ j l. h j (omega arith)))

-- f holds nowhere below what a search comes to
pub no_lower : (f : ℕ → Bool) (n k x : ℕ) → Lowest f n k x → (y : ℕ) → k ≤ y → y < x → f y ≡ true → ⊥
no_lower f n k x w y a b t = true≢false (sym t ∙ w.none_before y a b)

-- ---- the m numbers above `last`

module _ (m : ℕ) (f : ℕ → Bool) (last : ℕ) where
  abbrev low : ℕ
  low = lowest f m (last + 1)

  is_low : Lowest f m (last + 1) low
  is_low = lowest_is f m (last + 1)

  pub none_above : greatest_pid ≤ last → 0 ≡ first_of m f last
  unfolding first_of
  none_above h = sym (pick_no _ _ _ (and_false_later _ _ (lt-leb low greatest_pid (omega (arith, is_low.from)))))

  -- all that there are
  abbrev first : ℕ
  first = lowest f (suc greatest_pid - (last + 1)) (last + 1)

  is_first : Lowest f (suc greatest_pid - (last + 1)) (last + 1) first
  is_first = lowest_is f (suc greatest_pid - (last + 1)) (last + 1)

  -- r is what the search among the m gives
  module _ (r : ℕ) (e : r ≡ first_of m f last) where
    low_or_none : ((r ≡ low) × (low < last + 1 + m) × (low ≤ greatest_pid)) ⊎ ((r ≡ 0) × (low < last + 1 + m → greatest_pid < low))
    unfolding first_of
    low_or_none = go (dec_lt low (last + 1 + m)) (dec_lt greatest_pid low)
      where
        go : Dec (low < last + 1 + m) → Dec (greatest_pid < low) → ((r ≡ low) × (low < last + 1 + m) × (low ≤ greatest_pid)) ⊎ ((r ≡ 0) × (low < last + 1 + m → greatest_pid < low))
        go (no a) b = inr (e ∙ pick_no _ _ _ (and_false _ _ (le-ltb low (last + 1 + m) (omega arith))), λ l. absurd (a l))
        go (yes a) (yes b) = inr (e ∙ pick_no _ _ _ (and_false_later _ _ (lt-leb low greatest_pid b)), λ l. b)
        go (yes a) (no b) =
            inl (e ∙ pick_yes _ _ _ (and_true _ _ (lt-ltb low (last + 1 + m) a) (le-leb low greatest_pid (omega arith))), a, omega arith)

    pub found_free : (r ≡ 0 → ⊥) → (r ≡ first) × (r ≤ greatest_pid)
    found_free o = ⊎_elim (λ (q, a, b). go q a b (dec_lt first low) (dec_lt low first)) (λ x. absurd (o x.0)) low_or_none
      where
        go : r ≡ low → low < last + 1 + m → low ≤ greatest_pid → Dec (first < low) → Dec (low < first) → (r ≡ first) × (r ≤ greatest_pid)
        go q a b (yes l) d = absurd (no_lower f _ _ low is_low first is_first.from l (is_first.holds (omega (arith, is_first.from))))
        go q a b (no l) (yes d) = absurd (no_lower f _ _ first is_first low is_low.from d (is_low.holds a))
        go q a b (no l) (no d) = (omega arith, omega arith)

    -- the m numbers reach to the greatest
    pub none_free : r ≡ 0 → greatest_pid ≤ last + m → greatest_pid < first
    none_free z h = ⊎_elim (λ (q, a, b). absurd (omega (arith, is_low.from))) (λ (y, past). go past (dec_lt greatest_pid first)) low_or_none
      where
        go : (low < last + 1 + m → greatest_pid < low) → Dec (greatest_pid < first) → greatest_pid < first
        go past (yes l) = l
        go past (no o) = absurd (no_lower f _ _ low is_low first is_first.from (far (dec_lt low (last + 1 + m))) (is_first.holds (omega (arith, is_first.from))))
          where
            far : Dec (low < last + 1 + m) → first < low
            far (yes a) = omega (arith, past a)
            far (no a) = omega arith

-- ---- by marks

-- the marks say of each of the m numbers above `last` whether it is taken
abbrev pub Window : ℕ → (ℕ → Bool) → ℕ → List Bool → Type 0
Window m f last ms = Marks m ms (λ k. not (f (last + 1 + k)))

-- The tests of the code: k is what `first_unmarked` gives.
module _ (m : ℕ) (f : ℕ → Bool) (last : ℕ) (ms : List Bool) (w : Window m f last ms) (k : ℕ) (e : k ≡ lowest (λ j. not (get_or ms j false)) m 0) where
  unmarked : Lowest (λ j. not (get_or ms j false)) m 0 k
  unmarked = subst (Lowest (λ j. not (get_or ms j false)) m 0) (sym e) (lowest_is (λ j. not (get_or ms j false)) m 0)

  marked_taken : (j : ℕ) → j < k → f (last + 1 + j) ≡ true → ⊥
  marked_taken j l t =
      let s : get_or ms j false ≡ not true = w.says j (omega (arith, unmarked.upto)) ∙ ap not t in
      true≢false (sym (ap not s) ∙ unmarked.none_before j (omega arith) l)

  unmarked_free : k < m → f (last + 1 + k) ≡ true
  unmarked_free l = not-false _ (sym (w.says k l) ∙ not-true _ (unmarked.holds (omega arith)))

  there : low m f last ≡ last + 1 + k
  there = go (dec_lt (low m f last) (last + 1 + k)) (dec_lt (last + 1 + k) (low m f last))
    where
      go : Dec (low m f last < last + 1 + k) → Dec (last + 1 + k < low m f last) → low m f last ≡ last + 1 + k
      go (yes a) b =
          let j : ℕ = low m f last - (last + 1) in
          let q : low m f last ≡ last + 1 + j = omega (arith, (is_low m f last).from) in
          absurd (marked_taken j (omega (arith, (is_low m f last).from)) (sym (ap f q) ∙ (is_low m f last).holds (omega (arith, unmarked.upto))))
      go (no a) (yes b) =
          absurd (no_lower f _ _ _ (is_low m f last) (last + 1 + k) (omega arith) b (unmarked_free (omega (arith, (is_low m f last).upto))))
      go (no a) (no b) = omega arith

  pub all_marked : m ≤ k → 0 ≡ first_of m f last
  unfolding first_of
  all_marked h = sym (pick_no _ _ _ (and_false _ _ (le-ltb (low m f last) (last + 1 + m) (omega (arith, there)))))

  pub past_greatest : greatest_pid < last + 1 + k → 0 ≡ first_of m f last
  unfolding first_of
  past_greatest h = sym (pick_no _ _ _ (and_false_later _ _ (lt-leb (low m f last) greatest_pid (omega (arith, there)))))

  pub is_unmarked : k < m → last + 1 + k ≤ greatest_pid → last + 1 + k ≡ first_of m f last
  unfolding first_of
  is_unmarked a b =
      sym there
      ∙ sym (pick_yes _ _ _ (and_true _ _ (lt-ltb (low m f last) (last + 1 + m) (omega (arith, there))) (le-leb (low m f last) greatest_pid (omega (arith, there)))))
