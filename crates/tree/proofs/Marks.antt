-- Two marks, one put after the other.
use Prim.Native.Nat.{ℕ}
use mathlib.Core.Bool.{Bool, true}
use mathlib.Core.List.{List}
use mathlib.Core.Path.{◌≡◌, ap, ◌∙◌}
use lib.ListN.{set}

pub two_marks : (m a b : List Bool) (i j : ℕ) → a ≡ set m i true → b ≡ set a j true → b ≡ set (set m i true) j true
two_marks m a b i j p q = q ∙ ap (λ x. set x j true) p
