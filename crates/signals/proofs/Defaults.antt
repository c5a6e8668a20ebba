-- The table of default actions: one law for any table that lists a rule's values, and what the rule gives past the
-- table.
use Prim.Native.Nat.{ℕ, zero, suc, ◌+◌, ◌<◌, ◌≤◌}
use native.Mathlib.Nat.{not-suc-le-zero, le_of_suc-le-suc, add-zero}
use native.Mathlib.Omega.{arith}
use mathlib.Core.Bool.{false}
use mathlib.Core.Path.{◌≡◌, sym, ap, ◌∙◌}
use borrow.Author.Tests.{ne_eqb}
use lib.Dec.{T, eqb, ltb, ltb→lt}
use lib.ListN.{get_or}
use Rattle.rules.specs.Delivery.{default_action}
use Rattle.table.specs.Limits.{signals}
use Rattle.table.specs.Tests.{◌or◌, values}
use Rattle.table.specs.declared.Action.TheVariants.{Finish}

values_from : {A : Type 0} (f : ℕ → A) (d : A) (n k i : ℕ) → i < n → get_or (values f n k) i d ≡ f (k + i)
unfolding values
values_from f d zero k i h = absurd (not-suc-le-zero h)
values_from f d (suc n) k zero h = ap f (sym (add-zero k))
values_from f d (suc n) k (suc i) h =
    let e : suc k + i ≡ k + suc i = omega arith in
    values_from f d n (suc k) i (le_of_suc-le-suc h) ∙ ap f e

pub values_at : {A : Type 0} (f : ℕ → A) (d : A) (n i : ℕ) → i < n → get_or (values f n 0) i d ≡ f i
values_at f d n i h = let e : 0 + i ≡ i = omega arith in values_from f d n 0 i h ∙ ap f e

pub default_past : (s : ℕ) → signals ≤ s → Finish ≡ default_action s
unfolding default_action ◌or◌
default_past s h = simp (no 17 tt, no 23 tt, no 28 tt, no 18 tt, no 19 tt, no 20 tt, no 21 tt, no 22 tt)
  where
    no : (k : ℕ) → T (ltb k signals) → eqb s k ≡ false
    no k l = ne_eqb s k (λ e. omega (arith, ltb→lt k signals l))
