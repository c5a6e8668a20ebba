-- A chain over a range of places, as a test over the numbers below its end; and that none of them passes a test.
use Prim.Native.Nat.{ℕ, zero, suc, ◌≤◌, ◌+◌}
use native.Mathlib.Omega.{arith}
use mathlib.Core.Bool.{Bool, true, false, not}
use mathlib.Core.List.{List}
use mathlib.Core.Path.{◌≡◌, refl, ap, ◌∙◌}
use lib.Dec.{eqb}
use lib.ListN.{length, take, get_or}
use Rattle.std.proofs.lemmas.List.{length-take-le, get_or-take}
use Rattle.std.proofs.lemmas.List.FromFn.{length-range_with_len, get_or-range_with_len}
use Rattle.std.specs.declared.ops.Range.{Range}
use Rattle.std.proofs.iter.Yields.{nat_range_steps}
use Rattle.std.proofs.lemmas.Iterator.{cases_from_all, YieldsList-from_range}
use Rattle.std.specs.Fn.{Called}
use Rattle.std.specs.Iterator.{YieldsThen}
use Rattle.std.specs.Option.{MatchOption}
use Rattle.std.specs.Prelude.{Option}
use denote.Param.Members.{Mut}
use Rattle.std.specs.List.{FoldsTo, IsAnyAnswer, range_with_len}
use Rattle.table.proofs.IterLaws.{any_of_chain, all_of_chain}
use Rattle.table.specs.Tests.{any, all}

-- r is the chain's result, and p its closure, which tests f at each place
pub all_of_range :
    {F : Type 0} {g : Mut F (ℕ × Unit {0}) Bool} {s : Range ℕ} (u : Range ℕ) (p : F) (n : ℕ) (f : ℕ → Bool) (r : Bool)
    → s ≡ record { start = 0; end = n }
    → (xs : List ℕ) × (o : Option ℕ) × (j : F) × YieldsThen nat_range_steps s xs o u × FoldsTo (λ p x q. Called g p (x, tt) true q) p xs j
    × MatchOption o (r ≡ true) (λ x. (r ≡ false) × ((h : F) × Called g j (x, tt) false h))
    → ((x : ℕ) (q : F) → Called g p (x, tt) true q → (q ≡ p) × (f x ≡ true)) → ((x : ℕ) (q : F) → Called g p (x, tt) false q → f x ≡ false)
    → r ≡ all n f
all_of_range u p n f r e ran met unmet =
    all_of_chain (range_with_len 0 n) 0 n f f (length-range_with_len 0 n)
    (λ i k. let z : 0 + i ≡ i = omega arith in ap f (get_or-range_with_len 0 n i 0 k ∙ z)) r
    (cases_from_all u p r (λ (i : ℕ). f i ≡ true) (λ (i : ℕ). f i ≡ false) ran (YieldsList-from_range 0 n n e (omega arith)) met unmet)

pub not_any : (n : ℕ) (f : ℕ → Bool) → not (any n f) ≡ all n (λ i. not (f i))
unfolding any all
not_any zero f = refl
not_any (suc n) f = go (f n) (not_any n f)
  where
    go : (b : Bool) → not (any n f) ≡ all n (λ i. not (f i)) → not (elim b [ true ↦ true | false ↦ any n f ]) ≡ elim (not b) [ true ↦ all n (λ i. not (f i)) | false ↦ false ]
    go true e = refl
    go false e = e

-- what `contains` says of the places below i: it found x
pub contained :
    (l : List ℕ) (x i : ℕ) (r : Bool) → i ≤ length l → IsAnyAnswer (λ y b. eqb y x ≡ b) (take i l) r → r ≡ any i (λ j. eqb (get_or l j 0) x)
contained l x i r h a =
    any_of_chain (take i l) 0 i (λ y. eqb y x) (λ j. eqb (get_or l j 0) x) (length-take-le i l h) (λ j k. ap (λ y. eqb y x) (get_or-take i l j 0 k)) r a
