-- A list of slots as numbers: what is left of it from a place on, and its first few.
use Prim.Native.Nat.{ℕ, suc, ◌<◌}
use mathlib.Core.List.{List, [], ◌∷◌, ◌++◌, append_assoc}
use mathlib.Core.Path.{◌≡◌, refl, ap, ◌∙◌}
use lib.ListN.{length, get_or, set, take, drop}
use lib.Seq.{take-suc, take-suc-set, drop-cons, drop-length}
use Rattle.table.specs.declared.ProcSlot.{ProcSlot}
use Rattle.delivery.specs.Targets.{numbers}

abbrev pub no_one : ProcSlot
no_one = record { 0 = 0 }

unfoldable pub rest : List ProcSlot → ℕ → List ℕ
rest l i = numbers (drop i l)

pub rest_all : (l : List ProcSlot) → rest l 0 ≡ numbers l
unfolding rest
rest_all l = refl

pub rest_cons : (l : List ProcSlot) (i : ℕ) → i < length l → rest l i ≡ (get_or l i no_one).0 ∷ rest l (suc i)
unfolding rest
rest_cons l i h = ap numbers (drop-cons l i no_one h)

pub rest_none : (l : List ProcSlot) → rest l (length l) ≡ []
unfolding rest
rest_none l = ap numbers (drop-length l)

numbers_append : (l m : List ProcSlot) → numbers (l ++ m) ≡ numbers l ++ numbers m
numbers_append [] m = refl
numbers_append (x ∷ l) m = ap (λ r. x.0 ∷ r) (numbers_append l m)

-- one slot more
pub numbers_take : (l : List ProcSlot) (i : ℕ) → i < length l → (m : List ℕ) → numbers (take (suc i) l) ++ m ≡ numbers (take i l) ++ ((get_or l i no_one).0 ∷ m)
numbers_take l i h m =
    ap (λ r. numbers r ++ m) (take-suc l i no_one h)
    ∙ ap (λ r. r ++ m) (numbers_append (take i l) (get_or l i no_one ∷ []))
    ∙ append_assoc (numbers (take i l)) ((get_or l i no_one).0 ∷ []) m

pub numbers_take_set : (l : List ProcSlot) (i : ℕ) (x : ProcSlot) → i < length l → (m : List ℕ) → numbers (take (suc i) (set l i x)) ++ m ≡ numbers (take i l) ++ (x.0 ∷ m)
numbers_take_set l i x h m =
    ap (λ r. numbers r ++ m) (take-suc-set l i x h)
    ∙ ap (λ r. r ++ m) (numbers_append (take i l) (x ∷ []))
    ∙ append_assoc (numbers (take i l)) (x.0 ∷ []) m
