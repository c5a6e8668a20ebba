-- All that the proofs know of traits. With these laws a new trait is done.
use Prim.Native.Nat.{ℕ, ◌<◌, ◌≤◌, ◌^◌}
use native.Mathlib.Omega.{arith}
use mathlib.Core.Bool.{So}
use mathlib.Core.Path.{◌≡◌, refl, sym}
use borrow.Author.Tests.{lt-ltb, ltb-true, eqb-true}
use Rattle.rules.proofs.Laws.Signals.{SignalsOk, no_signals, pend_ok, poll_ok, on_ok, off_ok, with_signal_lt, without_signal_le}
use Rattle.rules.proofs.Laws.Tests.{tests, left, right, both}
use Rattle.table.specs.Limits.{signals, sigkill, sigstop}
use Rattle.table.specs.SignalSets.{has, with_signal, without_signal}
use Rattle.table.specs.Tests.{◌and◌}
use Rattle.table.specs.Traits.{no_traits, blank_traits, born_traits, ended_traits, bare_traits, with_signals, handled_ok, pending_ok, traits_ok, traits_shaped}
use Rattle.table.specs.declared.Traits.{Traits}

-- ---- none

pub none_are_blank : So (blank_traits no_traits)
unfolding blank_traits ◌and◌
none_are_blank = refl

pub none_shaped : So (traits_shaped no_traits)
unfolding traits_shaped ◌and◌
none_shaped = refl

-- ---- what an end leaves: of what is bare, all

pub ended_are_bare : (x : Traits) → So (bare_traits (ended_traits x))
unfolding bare_traits ended_traits with_signals ◌and◌
ended_are_bare x = refl

pub bare_stay : (x : Traits) → So (bare_traits x) → ended_traits x ≡ x
unfolding bare_traits ended_traits with_signals
bare_stay x h = λ i. record { handled = sym (eqb-true x.handled 0 (left _ _ h)) i; pending = sym (eqb-true x.pending 0 (right _ _ h)) i }

pub ended_again : (x : Traits) → ended_traits (ended_traits x) ≡ ended_traits x
ended_again x = bare_stay (ended_traits x) (ended_are_bare x)

-- whatever signals there were
pub ended_signals : (x : Traits) (h q : ℕ) → ended_traits (with_signals x h q) ≡ ended_traits x
unfolding ended_traits with_signals
ended_signals x h q = refl

-- ---- fine: as a sound table of the declared type has them

pub record Fine (x : Traits) : Type 0 where
  pub ok : So (traits_ok x)
  pub shape : So (traits_shaped x)

pub signals_of : (x : Traits) → So (traits_ok x) → SignalsOk x.handled x.pending
unfolding traits_ok handled_ok pending_ok
signals_of x h = simp tests at h

-- other signals, which may be
signals_fine : (x : Traits) (h q : ℕ) → Fine x → SignalsOk h q → h < 2 ^ signals → q < 2 ^ signals → Fine (with_signals x h q)
unfolding with_signals traits_ok handled_ok pending_ok traits_shaped
signals_fine x h q f k a b = record { ok = simp tests k; shape = both _ _ (lt-ltb h (2 ^ signals) a) (lt-ltb q (2 ^ signals) b) }

-- a child's, and what an end leaves
pub born_ok : (x : Traits) → So (traits_ok x) → So (traits_ok (born_traits x))
unfolding born_traits with_signals traits_ok handled_ok pending_ok
born_ok x h = simp tests no_signals

pub born_shaped : (x : Traits) → So (traits_shaped x) → So (traits_shaped (born_traits x))
unfolding born_traits with_signals traits_shaped ◌and◌
born_shaped x h = refl

pub born_signals : (x : Traits) → ((born_traits x).handled ≡ 0) × ((born_traits x).pending ≡ 0)
unfolding born_traits with_signals
born_signals x = (refl, refl)

pub ended_ok : (x : Traits) → So (traits_ok x) → So (traits_ok (ended_traits x))
unfolding ended_traits with_signals traits_ok handled_ok pending_ok
ended_ok x h = simp tests no_signals

pub ended_shaped : (x : Traits) → So (traits_shaped x) → So (traits_shaped (ended_traits x))
unfolding ended_traits with_signals traits_shaped ◌and◌
ended_shaped x h = refl

-- what a delivery, handle and poll make of them
module _ (x : Traits) (f : Fine x) (s : ℕ) where
  k : SignalsOk x.handled x.pending
  k = signals_of x f.ok

  handled_low : x.handled < 2 ^ signals
  unfolding traits_shaped
  handled_low = ltb-true _ _ (left _ _ f.shape)

  pending_low : x.pending < 2 ^ signals
  unfolding traits_shaped
  pending_low = ltb-true _ _ (right _ _ f.shape)

  pub pend_fine : s < signals → So (has x.handled s) → Fine (with_signals x x.handled (with_signal x.pending s))
  pend_fine l h = signals_fine x _ _ f (pend_ok _ _ s k h) handled_low (with_signal_lt signals _ s pending_low l)

  pub on_fine : 1 ≤ s → s < signals → (s ≡ sigkill → ⊥) → (s ≡ sigstop → ⊥) → Fine (with_signals x (with_signal x.handled s) x.pending)
  on_fine a l n m = signals_fine x _ _ f (on_ok _ _ s a n m k) (with_signal_lt signals _ s handled_low l) pending_low

  pub off_fine : Fine (with_signals x (without_signal x.handled s) (without_signal x.pending s))
  off_fine = signals_fine x _ _ f (off_ok _ _ s k) (omega (arith, without_signal_le x.handled s, handled_low)) (omega (arith, without_signal_le x.pending s, pending_low))

  pub poll_fine : Fine (with_signals x x.handled (without_signal x.pending s))
  poll_fine = signals_fine x _ _ f (poll_ok _ _ s k) handled_low (omega (arith, without_signal_le x.pending s, pending_low))
