-- For an array that `array::from_fn` makes of another one: with what f makes of the element at each index.
use Prim.Native.Nat.{ℕ, zero, suc, ◌<◌, ◌≤◌, ◌+◌}
use mathlib.Core.List.{List, map}
use mathlib.Core.Logic.{⊎_elim}
use mathlib.Core.Path.{◌≡◌, sym, subst, ◌∙◌}
use lib.ListN.{length, get_or, length-map, get_or-map}
use lib.Seq.{ext_get_or}
use native.Mathlib.Nat.{eq-or-lt_of_le}
use native.Mathlib.Omega.{arith}
use denote.Param.Members.{Mut, Called}
use Rattle.std.specs.Array.{IsFromFnResult, IsFromFnResultFrom}

-- calls that leave the closure as it was gave f's values at the n indices from i on
values_from : {F B : Type 0} (g : Mut F (ℕ × Unit {0}) B) (c : F) (f : ℕ → B) (ys : List B) (n i j : ℕ) (e : B) → ((k : ℕ) (y : B) (q : F) → Called g c (k, tt) y q → (q ≡ c) × (y ≡ f k)) → IsFromFnResultFrom g c ys i n → i ≤ j → j < i + n → get_or ys j e ≡ f j
values_from g c f ys zero i j e h w k l = absurd (omega arith)
values_from g c f ys (suc n) i j e h (q, y, at, call, rest) k l =
    let w = h i y q call in
    ⊎_elim
    (λ (p : i ≡ j). subst (λ m. get_or ys m e ≡ f m) p (at.1 e ∙ w.1))
    (λ (p : i < j). values_from g c f ys n (i + 1) j e h (subst (λ z. IsFromFnResultFrom g z ys (i + 1) n) w.0 rest) (omega arith) (omega arith))
    (eq-or-lt_of_le k)

pub mapped : {A F B : Type 0} (g : Mut F (ℕ × Unit {0}) B) (c : F) (f : A → B) (d : A) (xs : List A) (ys : List B) (n : ℕ) → IsFromFnResult g c ys n → length xs ≡ n → ((k : ℕ) (y : B) (q : F) → Called g c (k, tt) y q → (q ≡ c) × (y ≡ f (get_or xs k d))) → ys ≡ map f xs
mapped g c f d xs ys n r e h =
    let long = r.long in
    ext_get_or (f d) ys (map f xs) (long ∙ sym e ∙ sym (length-map xs f))
    (λ i k. values_from g c (λ j. f (get_or xs j d)) ys n 0 i (f d) h r.each (omega arith) (omega (arith, long)) ∙ sym (get_or-map f xs i d))
