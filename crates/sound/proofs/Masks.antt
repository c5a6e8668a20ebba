-- Sets of signals by masks: a set is among another exactly if the bits that they share are all of its bits.
use Prim.Native.Nat.{ℕ, zero, suc, ◌/◌, ◌%◌, ◌^◌, ◌<◌, min}
use native.Mathlib.Decide.{ℕ_discrete}
use native.Mathlib.Nat.{min-eq_left, min-zero, zero-min, min-le_left}
use native.Mathlib.Omega.{arith}
use mathlib.Core.Bool.{not, So, false≢true}
use mathlib.Core.Path.{◌≡◌, refl, sym, ap, ◌∙◌}
use borrow.Author.Tests.{eq-eqb, ne_eqb, eqb-true}
use lib.Bits.{bit_and, and_step, and_zero_l}
use lib.Dec.{eqb}
use Rattle.table.proofs.Chains.{by_bool}
use Rattle.rules.proofs.Laws.Tests.{tests, all_elim}
use Rattle.table.specs.Limits.{signals, sigkill, sigstop}
use Rattle.table.specs.SignalSets.{has}
use Rattle.table.specs.Tests.{◌and◌, ◌implies◌, all}
use Rattle.table.specs.Traits.{traits_ok, handled_ok, pending_ok}
use Rattle.table.specs.declared.Traits.{Traits}

-- ---- one bit

-- of two bits the lower is the first, where the second has what the first has
low_bit : (x y : ℕ) → x < 2 → (x ≡ 1 → y ≡ 1) → min x y ≡ x
low_bit zero y l h = zero-min y
low_bit (suc x) y l h = let e : suc x ≡ 1 = omega arith in let q = h e in min-eq_left (omega arith)

-- and back
bit_of : (x y : ℕ) → y < 2 → min x y ≡ x → x ≡ 1 → y ≡ 1
bit_of x zero l e o = let z : min x 0 ≡ 0 = min-zero x in omega arith
bit_of x (suc y) l e o = omega arith

-- ---- all bits

-- a set whose bits are all shared is among the other
among : (m k : ℕ) → bit_and m k ≡ m → (s : ℕ) → So (has m s) → So (has k s)
unfolding has
among m k e zero h =
    let low : min (m % 2) (k % 2) ≡ m % 2 = omega (arith, and_step m k, min-le_left (m % 2) (k % 2)) in
    eq-eqb _ 1 (bit_of (m % 2) (k % 2) (omega arith) low (eqb-true _ 1 h))
among m k e (suc s) h =
    let high : bit_and (m / 2) (k / 2) ≡ m / 2 = omega (arith, and_step m k, min-le_left (m % 2) (k % 2)) in
    among (m / 2) (k / 2) high s h

-- and back, for a set of w bits
shared : (w m k : ℕ) → m < 2 ^ w → ((s : ℕ) → s < w → So (has m s) → So (has k s)) → bit_and m k ≡ m
unfolding has
shared zero m k l h = let z : m ≡ 0 = omega arith in ap (λ x. bit_and x k) z ∙ and_zero_l k ∙ sym z
shared (suc w) m k l h =
    let low : min (m % 2) (k % 2) ≡ m % 2 = low_bit (m % 2) (k % 2) (omega arith) (λ e. eqb-true _ 1 (h 0 (omega arith) (eq-eqb _ 1 e))) in
    let high : bit_and (m / 2) (k / 2) ≡ m / 2 = shared w (m / 2) (k / 2) (omega arith) (λ s b. h (suc s) (omega arith)) in
    omega (arith, and_step m k)

-- ---- the signals that can be handled

abbrev pub catchable : ℕ
catchable = 4294442494

-- it lacks 0, 9 and 19 alone
catches : So (all signals (λ s. not (eqb s 0) and not (eqb s sigkill) and not (eqb s sigstop) implies has catchable s))
unfolding all ◌and◌ ◌implies◌ has
catches = refl

abbrev Catchable : ℕ → Type 0
Catchable h = ((So (has h 0) → ⊥) × (So (has h sigkill) → ⊥)) × (So (has h sigstop) → ⊥)

lacks : Catchable catchable
unfolding has
lacks = ((λ e. false≢true e, λ e. false≢true e), λ e. false≢true e)

module _ (x : Traits) (hl : x.handled < 2 ^ signals) (ql : x.pending < 2 ^ signals) where
  abbrev h : ℕ
  h = x.handled

  abbrev q : ℕ
  q = x.pending

  masked : Catchable h → bit_and h catchable ≡ h
  masked o =
      shared signals h catchable hl
      (λ s b k. (simp tests at (all_elim signals _ catches s b))
      ((λ e. o.0.0 (rw e at k), λ e. o.0.1 (rw e at k)), λ e. o.1 (rw e at k)))

  unmasked : bit_and h catchable ≡ h → Catchable h
  unmasked e = (
    (λ k. lacks.0.0 (among h catchable e 0 k), λ k. lacks.0.1 (among h catchable e sigkill k)),
    λ k. lacks.1 (among h catchable e sigstop k),
  )

  says : So (traits_ok x) → Catchable h × ((s : ℕ) → s < signals → So (has q s) → So (has h s))
  unfolding traits_ok handled_ok pending_ok
  says t = simp tests at t

  -- the first test fails, and is what is returned, or the second is
  pub traits_fail : (bit_and h catchable ≡ h → ⊥) → eqb (bit_and h catchable) h ≡ traits_ok x
  traits_fail o = ne_eqb _ h o ∙ by_bool (traits_ok x) (λ t. absurd (o (masked (says t).0))) (λ f. sym f)

  pub traits_last : bit_and h catchable ≡ h → eqb (bit_and q h) q ≡ traits_ok x
  unfolding traits_ok handled_ok pending_ok
  traits_last e = go (ℕ_discrete (bit_and q h) q)
    where
      go : Dec (bit_and q h ≡ q) → eqb (bit_and q h) q ≡ traits_ok x
      go (yes a) =
          let t : So (traits_ok x) = simp tests (unmasked e, λ s b. among q h a s) in
          eq-eqb _ q a ∙ sym t
      go (no o) = ne_eqb _ q o ∙ by_bool (traits_ok x) (λ t. absurd (o (shared signals q h ql (says t).1))) (λ f. sym f)
