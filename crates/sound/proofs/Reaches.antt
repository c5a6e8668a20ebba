-- The climb to slot 0 by its cases: it is there, no step is left, and one step up.
use Prim.Native.Nat.{ℕ, zero, suc, ◌+◌}
use native.Mathlib.Omega.{arith}
use mathlib.Core.Bool.{true}
use mathlib.Core.Path.{◌≡◌, refl, sym, ap, ◌∙◌}
use borrow.Author.Tests.{eq-eqb, ne_eqb}
use lib.Dec.{eqb}
use Rattle.table.proofs.Chains.{pick_yes, pick_no}
use Rattle.rules.specs.Sound.{reaches_root}

module _ (up : ℕ → ℕ) where
  pub reach_there : (k i : ℕ) → i ≡ 0 → reaches_root up k i ≡ true
  unfolding reaches_root
  reach_there zero i e = eq-eqb i 0 e
  reach_there (suc k) i e = pick_yes _ true (reaches_root up k (up i)) (eq-eqb i 0 e)

  pub reach_ends : (k i : ℕ) → k ≡ 0 → reaches_root up k i ≡ eqb i 0
  unfolding reaches_root
  reach_ends zero i z = refl
  reach_ends (suc k) i z = absurd (omega arith)

  -- m is the callee's result for the parent
  pub reach_on : (k j i m : ℕ) → k ≡ j + 1 → (i ≡ 0 → ⊥) → m ≡ up i → reaches_root up k i ≡ reaches_root up j m
  unfolding reaches_root
  reach_on zero j i m e o q = absurd (omega arith)
  reach_on (suc k) j i m e o q =
      let s : k ≡ j = omega arith in
      pick_no _ true (reaches_root up k (up i)) (ne_eqb i 0 o) ∙ ap (λ x. reaches_root up x (up i)) s ∙ ap (reaches_root up j) (sym q)

pub ruleset reaches = (reach_there, reach_ends, reach_on)
