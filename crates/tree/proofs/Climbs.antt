-- The climb by its cases: it has come there, it has no level left, and one step up.
use Prim.Native.Nat.{ℕ, zero, suc, ◌-◌}
use mathlib.Core.Bool.{Bool, true, false}
use mathlib.Core.Path.{◌≡◌, refl, sym, ap, ◌∙◌}
use native.Mathlib.Numerals.{sub-one}
use lib.Dec.{eqb}
use Rattle.table.proofs.Chains.{pick_yes, pick_no}
use Rattle.rules.specs.Read.{climb}

module _ (up : ℕ → ℕ) (a b : ℕ) where
  pub climb_there : (k : ℕ) → eqb a b ≡ true → true ≡ climb up k a b
  unfolding climb
  climb_there zero e = sym e
  climb_there (suc k) e = sym (pick_yes _ true (climb up k (up a) b) e)

  pub climb_ends : (k : ℕ) → eqb a b ≡ false → k ≡ 0 → false ≡ climb up k a b
  unfolding climb
  climb_ends k n e = rw e (sym n)

  -- m is the callee's result for the parent
  pub climb_on : (k m : ℕ) (r : Bool) → eqb a b ≡ false → (k ≡ 0 → ⊥) → m ≡ up a → r ≡ climb up (k - 1) m b → r ≡ climb up k a b
  unfolding climb
  climb_on zero m r n z p e = absurd (z refl)
  climb_on (suc k) m r n z p e = (rw (sub-one, p) at e) ∙ sym (pick_no _ true (climb up k (up a) b) n)

  -- k is the callee's result for the level l
  pub climb_level : (k l : ℕ) (r : Bool) → r ≡ climb up k a b → k ≡ l → r ≡ climb up l a b
  climb_level k l r e q = e ∙ ap (λ j. climb up j a b) q
