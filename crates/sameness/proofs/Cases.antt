-- Proofs by cases on a test, or on whether two numbers are equal, without a helper for each.
use Prim.Native.Nat.{ℕ}
use native.Mathlib.Decide.{ℕ_discrete}
use mathlib.Core.Bool.{Bool, true, false, So}
use mathlib.Core.Path.{◌≡◌, refl}

pub by_test : {A : Type 0} (b : Bool) → (So b → A) → (b ≡ false → A) → A
by_test true f g = f refl
by_test false f g = g refl

pub by_equal : {A : Type 0} (a b : ℕ) → (a ≡ b → A) → ((a ≡ b → ⊥) → A) → A
by_equal {A} a b f g = go (ℕ_discrete a b)
  where
    go : Dec (a ≡ b) → A
    go (yes e) = f e
    go (no o) = g o
