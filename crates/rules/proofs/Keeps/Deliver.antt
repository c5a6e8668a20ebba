-- What a signal does to a process may be done to it.
use Prim.Native.Nat.{ℕ, ◌≤◌}
use native.Mathlib.Omega.{arith}
use mathlib.Core.Bool.{not, So}
use mathlib.Core.List.{List, ◌∷◌, []}
use mathlib.Core.Logic.{inl, inr}
use mathlib.Core.Path.{◌≡◌, sym, ◌∙◌, ap, refl}
use borrow.Author.Tests.{eq-eqb, eqb-false}
use lib.Dec.{eqb}
use Rattle.rules.proofs.Laws.Facts.{Facts, Lives, Other}
use Rattle.rules.proofs.Laws.Lists.{In}
use Rattle.rules.proofs.Laws.Tests.{no_so, choose, both, isnt_not, or_false_left, or_false_right}
use Rattle.rules.specs.Delivery.{action_on, default_action}
use Rattle.table.specs.Limits.{sigkill, sigcont, sigstop}
use Rattle.rules.specs.Read.{View, init, is_init, living}
use Rattle.table.specs.SignalSets.{has}
use Rattle.table.specs.Tests.{◌and◌, ◌or◌}
use Rattle.table.specs.declared.Action.TheVariants.{Finish, Nothing, Pend, Resume, Stop}
use Rattle.table.specs.declared.Action.{Action}

root_init : (v : View) → Facts v → (i : ℕ) → i ≡ 0 → So (is_init v i)
unfolding is_init
root_init v f i z = eq-eqb _ i (ap (init v) (ap v.own z ∙ f.root_own) ∙ f.root_init ∙ sym z)

module _ (v : View) (i s : ℕ) where
  -- what an action needs
  abbrev pub Good : Action → Type 0
  Good Nothing = Unit {0}
  Good Resume = Lives v i
  Good Stop = Lives v i
  Good Finish = Lives v i × Other i × (1 ≤ s)
  Good Pend = Lives v i × So (has (v.traits i).handled s)

  default_good : Lives v i → Other i → 1 ≤ s → Good (default_action s)
  unfolding default_action
  default_good l o h = choose Good (eqb s 17 or eqb s 23 or eqb s 28) (λ a. tt) (λ a. choose Good (eqb s sigcont) (λ b. l) (λ b. choose Good (eqb s sigstop or eqb s 20 or eqb s 21 or eqb s 22) (λ c. l) (λ c. (l, o, h))))

  -- what a signal does may be done: 9 and 19 spare the root init, and only a handled signal becomes pending
  pub action_good : (from : ℕ) → Facts v → (i ≡ 0 → from ≡ 0) → Good (action_on v from i s)
  unfolding action_on
  action_good from f safe =
      choose Good (eqb s 0 or not (living v i)) (λ a. tt) (λ a.
      let l : Lives v i = isnt_not (living v i) (or_false_right _ _ a) in
      let h : 1 ≤ s = omega (arith, eqb-false s 0 (or_false_left _ _ a)) in
      choose Good (eqb s sigcont) (λ b. l) (λ b.
      choose Good (eqb s sigkill or eqb s sigstop)
      (λ c. choose Good (is_init v i and eqb (v.own i) from) (λ d. tt) (λ d. default_good l (λ z. no_so d (both _ _ (root_init v f i z) (eq-eqb _ from (ap v.own z ∙ f.root_own ∙ sym (safe z))))) h))
      (λ c. choose Good (has (v.traits i).handled s) (λ d. (l, d)) (λ d. choose Good (is_init v i) (λ e. tt) (λ e. default_good l (λ z. no_so e (root_init v f i z)) h)))))

-- the root init is named only from the root
abbrev pub Each : (ℕ → Type 0) → List ℕ → Type 0
Each P [] = Unit {0}
Each P (i ∷ is) = P i × Each P is

abbrev pub Safe : ℕ → List ℕ → Type 0
Safe from is = Each (λ i. i ≡ 0 → from ≡ 0) is

pub each_of : (P : ℕ → Type 0) (is : List ℕ) → ((i : ℕ) → In i is → P i) → Each P is
each_of P [] h = tt
each_of P (i ∷ is) h = (h i (inl refl), each_of P is (λ j m. h j (inr m)))
