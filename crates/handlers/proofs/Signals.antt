-- handle and poll: the caller's signals are changed.
use Prim.Native.Nat.{ℕ, ◌<◌, ◌%◌}
use mathlib.Core.Bool.{Bool, true, false, not}
use mathlib.Core.Path.{◌≡◌, refl, sym, ap, subst, ◌∙◌}
use borrow.Author.Tests.{eq-eqb, ne_eqb}
use lib.Dec.{eqb, ltb}
use lib.IntN.{ℤ}
use lib.ListN.{get_or}
use mir.Syntax.{w32}
use mir.Val.{SFits, to_z, of_z}
use mir.ValLaws.{to_z-of_z}
use Rattle.arguments.proofs.Named.{handled_below, signal_is}
use Rattle.arguments.specs.Arguments.{byte_values}
use Rattle.callers.proofs.Callers.{put_changed}
use Rattle.outcomes.proofs.Verdicts.{judged_grants, judged_refuses, passed, passed_first, refused_first, tested}
use Rattle.outcomes.specs.Verdicts.{settled}
use Rattle.std.specs.Prelude.{Result, Ok, Err, Option, Some, None, IfSome, unwrap_or}
use Rattle.std.specs.Result.{IsErrAnd}
use native.Mathlib.Omega.{arith}
use Rattle.signals.proofs.Sets.{with_fitting}
use Rattle.table.proofs.Chains.{if_yes, if_no}
use Rattle.rules.proofs.Laws.ReadAt.{read_at}
use Rattle.rules.specs.Answers.{answers}
use Rattle.rules.specs.Calls.{within, natural, handle_on, handle_off, handle, poll, taken_up, handle_refusals, handle_gives}
use Rattle.table.specs.Fresh.{empty_process}
use Rattle.table.specs.Limits.{signals, sigkill, sigstop}
use Rattle.table.specs.Slots.{process, put}
use Rattle.table.specs.SignalSets.{with_signal, without_signal, lowest_signal}
use Rattle.table.specs.Tests.{◌or◌, when◌then◌else◌}
use Rattle.table.specs.declared.Outcome.{Outcome}
use Rattle.table.specs.declared.Process.{Process}
use Rattle.table.specs.declared.Refusal.TheVariants.{Einval}
use Rattle.table.specs.declared.Refusal.{Refusal}
use Rattle.table.specs.declared.Table.{Table}
use Rattle.table.specs.Traits.{with_signals}
use Rattle.table.specs.declared.Traits.{Traits}
use Rattle.table.specs.Records.{with_traits}

-- what `handling` makes of a process, where h, q and x are the callees' results
module _ (p : Process) (s h : ℕ) (x : Traits) (on : Bool) where
  pub handles : s < signals → on ≡ true → h ≡ (when ltb s signals then with_signal p.traits.handled s else p.traits.handled) → x ≡ with_signals p.traits h p.traits.pending → with_traits p x ≡ (when on then handle_on p s else handle_off p s)
  unfolding handle_on
  handles l b e z = if_yes on _ _ _ b (rw (z, with_fitting p.traits.handled s h l e))

  pub ignores : (q : ℕ) → on ≡ false → h ≡ without_signal p.traits.handled s → q ≡ without_signal p.traits.pending s → x ≡ with_signals p.traits h q → with_traits p x ≡ (when on then handle_on p s else handle_off p s)
  unfolding handle_off
  ignores q b e d z = if_no on _ _ _ b (rw (z, e, d))

-- what handle refuses
abbrev cannot : ℤ → Bool
cannot s = not (within 1 signals s) or eqb (natural s) sigkill or eqb (natural s) sigstop

-- b is what `cannot_handle` gives of the argument z
module _ (z : ℤ) (fits : SFits w32 z) (b : Bool) (e : b ≡ cannot (to_z w32 (of_z w32 z))) where
  tests : b ≡ cannot z
  tests = e ∙ ap cannot (to_z-of_z w32 z fits)

  -- the test holds of the argument: d is the refusal
  pub handle_refused : (t : Table) (c : ℕ) (on : Bool) (d : Refusal) (r : Result Outcome Refusal) → Err d ≡ tested b Einval → IsErrAnd r (λ x. x ≡ d) → settled t r ≡ handle t c z on
  unfolding handle
  handle_refused t c on d r h q =
      judged_refuses t (handle_refusals z) (handle_gives t c z on) d r q (refused_first Einval d b (cannot z) (Ok tt) h tests)

  -- it does not
  module _ (u : Unit {0}) (h : Ok u ≡ tested b Einval) where
    handle_asks : natural (to_z w32 (of_z w32 z)) < signals
    handle_asks = handled_below (to_z w32 (of_z w32 z)) (sym e ∙ (passed Einval b u (Ok tt) h).0)

    -- s is what `signal_of` gives
    signal_is_it : (s : ℕ) → s ≡ natural (to_z w32 (of_z w32 z)) % byte_values → s ≡ natural (to_z w32 (of_z w32 z))
    signal_is_it s q = signal_is s (to_z w32 (of_z w32 z)) q handle_asks

    pub handle_asks_of : (s : ℕ) → s ≡ natural (to_z w32 (of_z w32 z)) % byte_values → s < signals
    handle_asks_of s q = subst (λ k. k < signals) (sym (signal_is_it s q)) handle_asks

    pub handle_does : (t v : Table) (c s : ℕ) (p q : Process) (on : Bool) (r : Outcome) → p ≡ get_or t.processes c empty_process
        → s ≡ natural (to_z w32 (of_z w32 z)) % byte_values → q ≡ (when on then handle_on p s else handle_off p s) → v ≡ put t c q → r ≡ answers v 0 → r ≡ handle t c z on
    unfolding handle
    handle_does t v c s p q on r d k m w a =
        judged_grants t (handle_refusals z) (handle_gives t c z on) tt r
        (passed_first Einval b (cannot z) u (Ok tt) (Ok tt) h tests refl)
        (a
        ∙ ap (λ x. answers x 0)
        (w
        ∙ ap (put t c) (m ∙ ap (λ j. when on then handle_on p j else handle_off p j) (signal_is_it s k ∙ ap natural (to_z-of_z w32 z fits)))
        ∙ put_changed t c p (λ x. when on then handle_on x (natural z) else handle_off x (natural z)) d))

-- ---- poll

-- p is the process read at the caller's slot c, and o the lowest of its pending signals
module _ (t : Table) (c : ℕ) (p : Process) (o : Option ℕ) (r : Outcome) (e : p ≡ get_or t.processes c empty_process) (h : unwrap_or o signals ≡ lowest_signal p.traits.pending) where
  lowest_pending : unwrap_or o signals ≡ lowest_signal (process t c).traits.pending
  lowest_pending = h ∙ ap (λ (x : Traits). lowest_signal x.pending) (read_at t c p e).traits

  pub poll_finds_none : o ≡ None → r ≡ answers t 0 → r ≡ poll t c
  unfolding poll
  poll_finds_none q a = if_yes _ _ _ _ (eq-eqb _ signals (sym lowest_pending ∙ ap (λ x. unwrap_or x signals) q)) a

  -- s is the signal, w the set without it, x the traits with that
  pub poll_finds : (s w : ℕ) (u : Table) (x : Traits) → o ≡ Some s → IfSome o (λ k. k < signals) → w ≡ without_signal p.traits.pending s
      → x ≡ with_signals p.traits p.traits.handled w → u ≡ put t c (with_traits p x) → r ≡ answers u s → r ≡ poll t c
  unfolding poll taken_up
  poll_finds s w u x q l k z m a =
      let i : s ≡ lowest_signal (process t c).traits.pending = sym (ap (λ y. unwrap_or y signals) q) ∙ lowest_pending in
      let n : s < signals = subst (λ y. IfSome y (λ j. j < signals)) q l in
      if_no _ _ _ _ (ne_eqb (lowest_signal (process t c).traits.pending) signals (λ (f : lowest_signal (process t c).traits.pending ≡ signals). omega (arith, i, f)))
      (a
      ∙ ap (λ x. answers x s)
      (m
      ∙ ap (λ y. put t c (with_traits p y)) (z ∙ ap (with_signals p.traits p.traits.handled) k)
      ∙ put_changed t c p (λ y. taken_up y s) e)
      ∙ ap (λ j. answers (put t c (taken_up (process t c) j)) j) i)
