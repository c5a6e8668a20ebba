-- Sets of signals as bits, and the sets that handle and poll make.
use Prim.Native.Nat.{ℕ, zero, suc, ◌+◌, ◌*◌, ◌/◌, ◌%◌, ◌^◌, ◌<◌, ◌≤◌}
use native.Mathlib.Decide.{ℕ_discrete}
use native.Mathlib.Nat.{not-suc-le-zero, le_of_suc-le-suc}
use native.Mathlib.Omega.{arith}
use mathlib.Core.Bool.{false, So, false≢true}
use mathlib.Core.Path.{◌≡◌, refl, ◌∙◌, ap, sym, subst}
use borrow.Author.Tests.{eq-eqb, ne_eqb}
use lib.Dec.{eqb}
use Rattle.table.specs.Limits.{signals, sigkill, sigstop}
use Rattle.table.specs.SignalSets.{has, with_signal, without_signal}

-- what is in a set with a signal more, or one less
pub has_with_same : (m s : ℕ) → So (has (with_signal m s) s)
unfolding has with_signal
has_with_same m zero = eq-eqb ((m / 2 * 2 + 1) % 2) 1 (omega arith)
has_with_same m (suc s) = ap (λ x. has x s) (omega arith) ∙ has_with_same (m / 2) s

pub has_with_other : (m s k : ℕ) → (k ≡ s → ⊥) → has (with_signal m s) k ≡ has m k
unfolding has with_signal
has_with_other m zero zero n = absurd (n refl)
has_with_other m zero (suc k) n = ap (λ x. has x k) (omega arith)
has_with_other m (suc s) zero n = let e : (with_signal (m / 2) s * 2 + m % 2) % 2 ≡ m % 2 = omega arith in ap (λ x. eqb x 1) e
has_with_other m (suc s) (suc k) n = ap (λ x. has x k) (omega arith) ∙ has_with_other (m / 2) s k (λ q. n (ap suc q))

pub has_without_same : (m s : ℕ) → has (without_signal m s) s ≡ false
unfolding has without_signal
has_without_same m zero = ne_eqb (m / 2 * 2 % 2) 1 (λ q. omega arith)
has_without_same m (suc s) = ap (λ x. has x s) (omega arith) ∙ has_without_same (m / 2) s

pub has_without_other : (m s k : ℕ) → (k ≡ s → ⊥) → has (without_signal m s) k ≡ has m k
unfolding has without_signal
has_without_other m zero zero n = absurd (n refl)
has_without_other m zero (suc k) n = ap (λ x. has x k) (omega arith)
has_without_other m (suc s) zero n = let e : (without_signal (m / 2) s * 2 + m % 2) % 2 ≡ m % 2 = omega arith in ap (λ x. eqb x 1) e
has_without_other m (suc s) (suc k) n = ap (λ x. has x k) (omega arith) ∙ has_without_other (m / 2) s k (λ q. n (ap suc q))

-- no bit past the last signal
pub with_signal_lt : (w m s : ℕ) → m < 2 ^ w → s < w → with_signal m s < 2 ^ w
unfolding with_signal
with_signal_lt zero m s h l = absurd (not-suc-le-zero l)
with_signal_lt (suc w) m zero h l = omega arith
with_signal_lt (suc w) m (suc s) h l = omega (arith, with_signal_lt w (m / 2) s (omega arith) (le_of_suc-le-suc l))

pub without_signal_le : (m s : ℕ) → without_signal m s ≤ m
unfolding without_signal
without_signal_le m zero = omega arith
without_signal_le m (suc s) = omega (arith, without_signal_le (m / 2) s)

-- ---- the sets of signals that handle and poll make

-- the two sets as a sound table has them
abbrev pub SignalsOk : ℕ → ℕ → Type 0
SignalsOk h q = (((So (has h 0) → ⊥) × (So (has h sigkill) → ⊥)) × (So (has h sigstop) → ⊥)) × ((s : ℕ) → s < signals → So (has q s) → So (has h s))

no_bits : (s : ℕ) → So (has 0 s) → ⊥
unfolding has
no_bits zero h = false≢true h
no_bits (suc s) h = no_bits s h

pub no_signals : SignalsOk 0 0
no_signals = (((no_bits 0, no_bits sigkill), no_bits sigstop), λ s l h. absurd (no_bits s h))

has_less : (q s b : ℕ) → So (has (without_signal q s) b) → (b ≡ s → ⊥) × So (has q b)
has_less q s b y = go (ℕ_discrete b s)
  where
    go : Dec (b ≡ s) → (b ≡ s → ⊥) × So (has q b)
    go (yes e) = absurd (false≢true (sym (has_without_same q s) ∙ subst (λ n. So (has (without_signal q s) n)) e y))
    go (no o) = (o, sym (has_without_other q s b o) ∙ y)

-- a handled signal may be pending
pub pend_ok : (h q s : ℕ) → SignalsOk h q → So (has h s) → SignalsOk h (with_signal q s)
pend_ok h q s k x = (k.0, λ b l y. go b l y (ℕ_discrete b s))
  where
    go : (b : ℕ) → b < signals → So (has (with_signal q s) b) → Dec (b ≡ s) → So (has h b)
    go b l y (yes e) = subst (λ n. So (has h n)) (sym e) x
    go b l y (no o) = k.1 b l (sym (has_with_other q s b o) ∙ y)

-- what poll and handle make of the two sets is fit
pub poll_ok : (h q s : ℕ) → SignalsOk h q → SignalsOk h (without_signal q s)
poll_ok h q s k = (k.0, λ b l y. k.1 b l (has_less q s b y).1)

pub on_ok : (h q s : ℕ) → 1 ≤ s → (s ≡ sigkill → ⊥) → (s ≡ sigstop → ⊥) → SignalsOk h q → SignalsOk (with_signal h s) q
on_ok h q s a n m k =
    (((λ x. k.0.0.0 (sym (has_with_other h s 0 (λ e. omega arith)) ∙ x), λ x. k.0.0.1 (sym (has_with_other h s sigkill (λ e. n (sym e))) ∙ x)), λ x. k.0.1 (sym (has_with_other h s sigstop (λ e. m (sym e))) ∙ x)), λ b l y. go b (k.1 b l y) (ℕ_discrete b s))
  where
    go : (b : ℕ) → So (has h b) → Dec (b ≡ s) → So (has (with_signal h s) b)
    go b y (yes e) = subst (λ n. So (has (with_signal h s) n)) (sym e) (has_with_same h s)
    go b y (no o) = has_with_other h s b o ∙ y

pub off_ok : (h q s : ℕ) → SignalsOk h q → SignalsOk (without_signal h s) (without_signal q s)
off_ok h q s k =
    (((λ x. k.0.0.0 (has_less h s 0 x).1, λ x. k.0.0.1 (has_less h s sigkill x).1), λ x. k.0.1 (has_less h s sigstop x).1), λ b l y. let (o, z) = has_less q s b y in has_without_other h s b o ∙ k.1 b l z)
