-- A list by ascending f, from which some numbers are left out: to leave them out at the end, or never to put them in,
-- is the same.
use Prim.Native.Nat.{ℕ, zero, suc, ◌<◌, ◌≤◌}
use mathlib.Core.Bool.{Bool, true, false}
use mathlib.Core.List.{List, [], ◌∷◌}
use mathlib.Core.Path.{◌≡◌, refl, sym, ap, ◌∙◌}
use borrow.Author.Tests.{ltb-true, ltb-false, lt-ltb}
use lib.Dec.{ltb}
use lib.ListN.{length}
use native.Mathlib.Omega.{arith}
use Rattle.table.proofs.Chains.{by_bool, pick_yes, pick_no, and_true, and_false, and_false_later}
use Rattle.table.specs.Tests.{◌and◌, insert, ascending, only}

module _ (f : ℕ → ℕ) where
  -- ---- lists by ascending f

  -- f is at least k at each of the list
  abbrev From : ℕ → List ℕ → Type 0
  From k [] = Unit {0}
  From k (x ∷ xs) = (k ≤ f x) × From k xs

  abbrev Rising : List ℕ → Type 0
  Rising [] = Unit {0}
  Rising (x ∷ xs) = From (f x) xs × Rising xs

  from_less : (k m : ℕ) (l : List ℕ) → k ≤ m → From m l → From k l
  from_less k m [] h w = tt
  from_less k m (x ∷ xs) h w = (omega (arith, w.0), from_less k m xs h w.1)

  from_insert : (k i : ℕ) (l : List ℕ) → k ≤ f i → From k l → From k (insert f i l)
  unfolding insert
  from_insert k i [] h w = (h, tt)
  from_insert k i (j ∷ js) h w = go (ltb (f i) (f j)) (from_insert k i js h w.1)
    where
      go : (b : Bool) → From k (insert f i js) → From k (elim b [ true ↦ i ∷ j ∷ js | false ↦ j ∷ insert f i js ])
      go true r = (h, w)
      go false r = (w.0, r)

  insert_rising : (i : ℕ) (l : List ℕ) → Rising l → Rising (insert f i l)
  unfolding insert
  insert_rising i [] w = (tt, tt)
  insert_rising i (j ∷ js) w = go (ltb (f i) (f j)) refl (insert_rising i js w.1)
    where
      go : (b : Bool) → ltb (f i) (f j) ≡ b → Rising (insert f i js) → Rising (elim b [ true ↦ i ∷ j ∷ js | false ↦ j ∷ insert f i js ])
      go true e r = let h : f i ≤ f j = omega (arith, ltb-true (f i) (f j) e) in ((h, from_less (f i) (f j) js h w.0), w)
      go false e r = (from_insert (f j) i js (omega (arith, ltb-false (f i) (f j) e)) w.0, r)

  pub ascending_rising : (p : ℕ → Bool) (n : ℕ) → Rising (ascending p f n)
  unfolding ascending
  ascending_rising p zero = tt
  ascending_rising p (suc n) = go (p n) (ascending_rising p n)
    where
      go : (b : Bool) → Rising (ascending p f n) → Rising (elim b [ true ↦ insert f n (ascending p f n) | false ↦ ascending p f n ])
      go true r = insert_rising n (ascending p f n) r
      go false r = r

  -- ---- one more

  pub insert_length : (i : ℕ) (l : List ℕ) → length (insert f i l) ≡ suc (length l)
  unfolding insert
  insert_length i [] = refl
  insert_length i (j ∷ js) = go (ltb (f i) (f j)) (insert_length i js)
    where
      go : (b : Bool) → length (insert f i js) ≡ suc (length js) → length {A = ℕ} (elim b [ true ↦ i ∷ j ∷ js | false ↦ j ∷ insert f i js ]) ≡ suc (suc (length js))
      go true e = refl
      go false e = ap suc e

  pub ascending_more : (p : ℕ → Bool) (n : ℕ) → p n ≡ true → ascending p f (suc n) ≡ insert f n (ascending p f n)
  unfolding ascending
  ascending_more p n e = pick_yes (p n) (insert f n (ascending p f n)) (ascending p f n) e

  pub ascending_same : (p : ℕ → Bool) (n : ℕ) → p n ≡ false → ascending p f (suc n) ≡ ascending p f n
  unfolding ascending
  ascending_same p n e = pick_no (p n) (insert f n (ascending p f n)) (ascending p f n) e

  pub ascending_few : (p : ℕ → Bool) (n : ℕ) → length (ascending p f n) ≤ n
  unfolding ascending
  ascending_few p zero = omega arith
  ascending_few p (suc n) = go (p n) (ascending_few p n)
    where
      go : (b : Bool) → length (ascending p f n) ≤ n → length {A = ℕ} (elim b [ true ↦ insert f n (ascending p f n) | false ↦ ascending p f n ]) ≤ suc n
      go true h = omega (arith, insert_length n (ascending p f n))
      go false h = omega arith

  -- ---- some are left out

  module _ (q : ℕ → Bool) where
    keeps : (x : ℕ) (l : List ℕ) → q x ≡ true → only q (x ∷ l) ≡ x ∷ only q l
    unfolding only
    keeps x l e = pick_yes (q x) (x ∷ only q l) (only q l) e

    drops : (x : ℕ) (l : List ℕ) → q x ≡ false → only q (x ∷ l) ≡ only q l
    unfolding only
    drops x l e = pick_no (q x) (x ∷ only q l) (only q l) e

    before : (i j : ℕ) (l : List ℕ) → ltb (f i) (f j) ≡ true → insert f i (j ∷ l) ≡ i ∷ j ∷ l
    unfolding insert
    before i j l e = pick_yes (ltb (f i) (f j)) (i ∷ j ∷ l) (j ∷ insert f i l) e

    after : (i j : ℕ) (l : List ℕ) → ltb (f i) (f j) ≡ false → insert f i (j ∷ l) ≡ j ∷ insert f i l
    unfolding insert
    after i j l e = pick_no (ltb (f i) (f j)) (i ∷ j ∷ l) (j ∷ insert f i l) e

    -- what comes before all comes first, whoever is left out
    first : (i k : ℕ) (l : List ℕ) → f i < k → From k l → insert f i (only q l) ≡ i ∷ only q l
    unfolding only insert
    first i k [] h w = refl
    first i k (j ∷ js) h w = go (q j) (first i k js h w.1)
      where
        go : (b : Bool) → insert f i (only q js) ≡ i ∷ only q js → insert f i (elim b [ true ↦ j ∷ only q js | false ↦ only q js ]) ≡ i ∷ elim b [ true ↦ j ∷ only q js | false ↦ only q js ]
        go true r = before i j (only q js) (lt-ltb (f i) (f j) (omega (arith, w.0)))
        go false r = r

    left_out : (i : ℕ) (l : List ℕ) → q i ≡ false → only q (insert f i l) ≡ only q l
    unfolding insert only
    left_out i [] e = drops i [] e
    left_out i (j ∷ js) e =
        by_bool (ltb (f i) (f j))
        (λ t. ap (only q) (before i j js t) ∙ drops i (j ∷ js) e)
        (λ t. ap (only q) (after i j js t)
        ∙ by_bool (q j) (λ u. keeps j (insert f i js) u ∙ ap (λ r. j ∷ r) (left_out i js e) ∙ sym (keeps j js u)) (λ u. drops j (insert f i js) u ∙ left_out i js e ∙ sym (drops j js u)))

    put_in : (i : ℕ) (l : List ℕ) → q i ≡ true → Rising l → only q (insert f i l) ≡ insert f i (only q l)
    unfolding insert only
    put_in i [] e w = keeps i [] e
    put_in i (j ∷ js) e w =
        by_bool (ltb (f i) (f j))
        (λ t. ap (only q) (before i j js t) ∙ keeps i (j ∷ js) e
        ∙ by_bool (q j)
        (λ u. ap (λ r. i ∷ r) (keeps j js u) ∙ sym (before i j (only q js) t) ∙ ap (insert f i) (sym (keeps j js u)))
        (λ u. ap (λ r. i ∷ r) (drops j js u) ∙ sym (first i (f j) js (ltb-true _ _ t) w.0) ∙ ap (insert f i) (sym (drops j js u))))
        (λ t. ap (only q) (after i j js t)
        ∙ by_bool (q j)
        (λ u. keeps j (insert f i js) u ∙ ap (λ r. j ∷ r) (put_in i js e w.1) ∙ sym (after i j (only q js) t) ∙ ap (insert f i) (sym (keeps j js u)))
        (λ u. drops j (insert f i js) u ∙ put_in i js e w.1 ∙ ap (insert f i) (sym (drops j js u))))

    pub only_ascending : (p : ℕ → Bool) (n : ℕ) → only q (ascending p f n) ≡ ascending (λ i. p i and q i) f n
    unfolding ascending only
    only_ascending p zero = refl
    only_ascending p (suc n) =
        by_bool (p n)
        (λ t. ap (only q) (ascending_more p n t)
        ∙ by_bool (q n)
        (λ u. put_in n (ascending p f n) u (ascending_rising p n) ∙ ap (insert f n) (only_ascending p n) ∙ sym (ascending_more (λ i. p i and q i) n (and_true (p n) (q n) t u)))
        (λ u. left_out n (ascending p f n) u ∙ only_ascending p n ∙ sym (ascending_same (λ i. p i and q i) n (and_false_later (p n) (q n) u))))
        (λ t. ap (only q) (ascending_same p n t) ∙ only_ascending p n ∙ sym (ascending_same (λ i. p i and q i) n (and_false (p n) (q n) t)))
