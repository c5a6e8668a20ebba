-- For a loop whose turn at i marks places of an array of n marks. `Marks n m f` says that m has n marks, which say of
-- each place whether f holds. The loop is one of FoldLoops; what each turn marks, and what the array holds in the end,
-- is said here.
use Prim.Native.Nat.{ℕ, zero, suc, ◌<◌}
use native.Mathlib.Decide.{ℕ_discrete}
use native.Mathlib.Omega.{arith}
use mathlib.Core.Bool.{Bool, true, false}
use mathlib.Core.List.{List}
use mathlib.Core.Path.{◌≡◌, refl, sym, ap, subst, ◌∙◌}
use borrow.Author.Tests.{eq-eqb, ne_eqb}
use lib.Dec.{eqb}
use lib.ListN.{length, get_or, set, replicate, length-set, length-replicate, get_or-replicate}
use lib.Seq.{get_or-set_same, get_or-set_other}
use Rattle.table.proofs.FoldLoops.{turns}
use Rattle.table.specs.Tests.{◌and◌, ◌or◌, when◌then◌else◌, any}

pub record Marks (n : ℕ) (m : List Bool) (f : ℕ → Bool) : Type 0 where
  pub long : length m ≡ n
  pub says : (k : ℕ) → k < n → get_or m k false ≡ f k

module _ (n : ℕ) where
  pub marks_like : (m : List Bool) (f g : ℕ → Bool) → Marks n m f → ((k : ℕ) → f k ≡ g k) → Marks n m g
  marks_like m f g w e = record { long = w.long; says = λ k h. w.says k h ∙ e k }

  pub no_marks : Marks n (replicate n false) (λ k. false)
  no_marks = record { long = length-replicate n false; says = λ k h. get_or-replicate n k false false h }

  -- ---- what one turn marks: the place x, where there is one

  pub one_mark : (x : ℕ) (m : List Bool) (f : ℕ → Bool) → Marks n m f → Marks n (set m x true) (λ k. eqb x k or f k)
  unfolding ◌or◌
  one_mark x m f w = record { long = length-set m x true ∙ w.long; says = λ k h. go k h (ℕ_discrete x k) }
    where
      go : (k : ℕ) → k < n → Dec (x ≡ k) → get_or (set m x true) k false ≡ eqb x k or f k
      go k h (yes e) =
          subst (λ x. get_or (set m x true) k false ≡ eqb x k or f k) (sym e)
          (get_or-set_same m k true false (omega (arith, w.long)) ∙ sym (ap (λ b. b or f k) (eq-eqb k k refl)))
      go k h (no o) =
          get_or-set_other m x k true false (λ e. o (sym e)) ∙ w.says k h ∙ sym (ap (λ b. b or f k) (ne_eqb x k o))

  -- nothing, unless a test b holds
  pub mark_if : (b : Bool) (x : ℕ) (m : List Bool) (f : ℕ → Bool) → Marks n m f → Marks n (when b then set m x true else m) (λ k. (b and eqb x k) or f k)
  unfolding ◌or◌ ◌and◌
  mark_if true x m f w = one_mark x m f w
  mark_if false x m f w = w

  -- the same with two places
  pub marks_if : (b : Bool) (x y : ℕ) (m : List Bool) (f : ℕ → Bool) → Marks n m f → Marks n (when b then set (set m x true) y true else m) (λ k. ((b and eqb x k) or (b and eqb y k)) or f k)
  unfolding ◌or◌ ◌and◌
  marks_if true x y m f w = marks_like _ _ _ (one_mark y _ _ (one_mark x m f w)) (λ k. turned (eqb x k) (eqb y k) (f k))
    where
      turned : (a b c : Bool) → b or (a or c) ≡ (a or b) or c
      turned true true c = refl
      turned true false c = refl
      turned false b c = refl
  marks_if false x y m f w = w

  -- ---- what all turns mark

  module _ (step : ℕ → List Bool → List Bool) (g : ℕ → ℕ → Bool) (marks : (i : ℕ) (m : List Bool) (f : ℕ → Bool) → Marks n m f → Marks n (step i m) (λ k. g i k or f k)) where
    pub marked : (c : ℕ) (m : List Bool) (f : ℕ → Bool) → Marks n m f → Marks n (turns c step m) (λ k. any c (λ i. g i k) or f k)
    unfolding turns any ◌or◌
    marked zero m f w = w
    marked (suc c) m f w = marks_like _ _ _ (marks c _ _ (marked c m f w)) (λ k. go (g c k) (any c (λ i. g i k)) (f k))
      where
        go : (a b d : Bool) → a or (b or d) ≡ (when a then true else b) or d
        go true b d = refl
        go false b d = refl

    -- the loop starts with no mark
    pub marked_alone : (c : ℕ) → Marks n (turns c step (replicate n false)) (λ k. any c (λ i. g i k))
    unfolding ◌or◌
    marked_alone c = marks_like _ _ _ (marked c _ _ no_marks) (λ k. go (any c (λ i. g i k)))
      where
        go : (a : Bool) → a or false ≡ a
        go true = refl
        go false = refl
