-- "Below": reflexive, and transitive where each parent is one level up.
use Prim.Native.Nat.{ℕ, zero, suc}
use mathlib.Core.Bool.{Bool, true, false, So}
use mathlib.Core.Logic.{◌⊎◌, inl, inr, ⊎_elim}
use mathlib.Core.Path.{◌≡◌, refl, subst}
use borrow.Author.Tests.{eq-eqb, eqb-true}
use lib.Dec.{eqb}
use Rattle.rules.specs.Read.{View, below, climb}

pub climb_refl : (up : ℕ → ℕ) (k a : ℕ) → So (climb up k a a)
unfolding climb
climb_refl up zero a = eq-eqb a a refl
climb_refl up (suc k) a = rw (eq-eqb a a refl, climb)

pub below_refl : (v : View) (a : ℕ) → So (below v a a)
unfolding below
below_refl v a = climb_refl v.up (v.level a) a

-- one level up
abbrev pub Stepwise : View → Type 0
Stepwise v = (a k : ℕ) → v.level a ≡ suc k → v.level (v.up a) ≡ k

pub climb_step : (up : ℕ → ℕ) (k a c : ℕ) → So (climb up k (up a) c) → So (climb up (suc k) a c)
unfolding climb
climb_step up k a c h = go (eqb a c)
  where
    go : (b : Bool) → So (elim b [ true ↦ true | false ↦ climb up k (up a) c ])
    go true = refl
    go false = h

-- a climb of at least one step: it is there, or goes on from the parent
pub climb_cases : (up : ℕ → ℕ) (k a b : ℕ) → So (climb up (suc k) a b) → (a ≡ b) ⊎ So (climb up k (up a) b)
unfolding climb
climb_cases up k a b h = go (eqb a b) refl h
  where
    go : (t : Bool) → eqb a b ≡ t → So (elim t [ true ↦ true | false ↦ climb up k (up a) b ]) → (a ≡ b) ⊎ So (climb up k (up a) b)
    go true e h = inl (eqb-true a b e)
    go false e h = inr h

from_same : (v : View) (k a b c : ℕ) → v.level a ≡ k → a ≡ b → So (below v b c) → So (climb v.up k a c)
unfolding below
from_same v k a b c e q g = subst (λ n. So (climb v.up n a c)) e (rw (← q) at g)

climb_trans : (v : View) → Stepwise v → (k a b c : ℕ) → v.level a ≡ k → So (climb v.up k a b) → So (below v b c) → So (climb v.up k a c)
unfolding climb
climb_trans v up zero a b c e h g = from_same v 0 a b c e (eqb-true a b h) g
climb_trans v up (suc k) a b c e h g =
    ⊎_elim
    (λ q. from_same v (suc k) a b c e q g)
    (λ r. climb_step v.up k a c (climb_trans v up k (v.up a) b c (up a k e) r g))
    (climb_cases v.up k a b h)

pub below_trans : (v : View) → Stepwise v → (a b c : ℕ) → So (below v a b) → So (below v b c) → So (below v a c)
unfolding below
below_trans v up a b c h g = climb_trans v up (v.level a) a b c refl h g
