-- What a wait removes and answers, and that no other call says how a process ended.
use Prim.Native.Nat.{ℕ, ◌<◌}
use native.Mathlib.Omega.{arith}
use mathlib.Core.Bool.{false, not, So}
use mathlib.Core.Logic.{⊎_elim}
use mathlib.Core.Option.{none, some}
use mathlib.Core.Path.{◌≡◌, refl, sym, ◌∙◌, ap}
use borrow.Author.Tests.{eq-eqb, ne_eqb}
use lib.Dec.{eqb}
use lib.IntN.{pos}
use Rattle.rules.proofs.Keeps.Changed.{process_count, stored}
use Rattle.rules.proofs.Keeps.Finds.{freed_leaves}
use Rattle.rules.proofs.Keeps.Puts.{ended_low, reaped_sane}
use Rattle.rules.proofs.Laws.Facts.{facts, sane}
use Rattle.rules.proofs.Laws.Find.{Least, least_cases}
use Rattle.rules.proofs.Laws.Judged.{gives, made_is, none_refused, some_none}
use Rattle.rules.proofs.Laws.Steps.{outcome_of}
use Rattle.rules.proofs.Laws.Tests.{choose, left, no_so, right}
use Rattle.rules.specs.Answers.{answers, end_of, granted, number_of, refused}
use Rattle.rules.specs.Calls.{first_ended, getpid, getppid, pid_to, poll, reap}
use Rattle.rules.specs.Claims.{Removes, WaitExact, ended_child}
use Rattle.rules.specs.Freeing.{freed}
use Rattle.rules.specs.Read.{View, child_of, taken, view}
use Rattle.rules.specs.Sound.{SoundTable, sound}
use Rattle.rules.specs.Step.{runs, step}
use Rattle.table.specs.Fresh.{empty_process}
use Rattle.table.specs.Limits.{process_slots, signals}
use Rattle.table.specs.SignalSets.{lowest_signal}
use Rattle.table.specs.Slots.{is_ended, no_process, pid_at, process, put}
use Rattle.table.specs.Tests.{when◌then◌else◌}
use Rattle.table.specs.declared.Call.TheVariants.{Clone, CloneNew, Unshare, Setns, Kill, Exit, Wait, Getpid, Getppid, Handle, Poll}
use Rattle.table.specs.declared.Call.{Call}
use Rattle.table.specs.declared.End.{End}
use Rattle.table.specs.declared.Outcome.{Outcome}
use Rattle.table.specs.declared.Process.{Process}
use Rattle.table.specs.declared.Refusal.TheVariants.{NotRunning}
use Rattle.table.specs.declared.State.TheVariants.{Running, Stopped, Ended}
use Rattle.table.specs.declared.State.{State}
use Rattle.table.specs.declared.Table.{Table}

-- what an outcome that tells a number and an end must be, and one that tells a number and no end
abbrev Takes : Table → ℕ → ℕ → End → Outcome → Type 0
Takes t c k e o =
    number_of o.reply.answer ≡ pos k → end_of o.reply.answer ≡ some e
    → (i : ℕ) × Removes t o.table c i × (k ≡ pid_to (view t) c i) × ((view t).state i ≡ Ended e)

abbrev Idle : Table → ℕ → ℕ → Outcome → Type 0
Idle t c k o =
    number_of o.reply.answer ≡ pos k → end_of o.reply.answer ≡ none
    → (k ≡ 0) × (o.table ≡ t) × ((i : ℕ) → So (ended_child (view t) c i) → ⊥)

module _ (t : Table) (c : ℕ) (h : SoundTable t) where
  abbrev v : View
  v = view t

  abbrev d : ℕ
  d = first_ended v c

  lowest : Least (ended_child v c) (pid_to v c) process_slots process_slots d
  unfolding first_ended
  lowest = least_cases (ended_child v c) (pid_to v c) process_slots process_slots (omega arith)

  in_range : (i : ℕ) → So (ended_child v c i) → i < process_slots
  unfolding child_of
  in_range i q = (facts t h).in_range i (left _ _ (left _ _ q))

  -- the one that is found has ended: it is removed
  module _ (x : End) (e : v.state d ≡ Ended x) where
    abbrev u : Table
    u = freed (put t d empty_process)

    over : So (v.ended d)
    over = ap is_ended e

    at : (i : ℕ) → process u i ≡ (when eqb i d then empty_process else process t i)
    at i =
        freed_leaves (put t d empty_process) (reaped_sane t (sane t h) d over).shape_of i
        ∙ stored t.processes d empty_process no_process (omega (arith, process_count t h.shape, ended_low t h.shape d over)) i

    gone : process u d ≡ empty_process
    gone = at d ∙ rw (eq-eqb d d refl)

    removes : Removes t u c d
    unfolding taken
    removes =
        record {
          child = ⊎_elim (λ (q, o). absurd (omega (arith, q, ended_low t h.shape d over))) (λ (p, l, m). p) lowest;
          lowest = λ j q. ⊎_elim (λ (z, o). absurd (no_so (o j (in_range j q)) q)) (λ (p, l, m). m j (in_range j q) q) lowest;
          removed = λ q. no_so (ap (λ (p : Process). not (eqb (pid_at p 0) 0)) gone) q;
          others = λ j o. at j ∙ rw (ne_eqb j d o);
        }

  -- it has not: there is none
  nobody : is_ended (v.state d) ≡ false → (i : ℕ) → So (ended_child v c i) → ⊥
  nobody o i q = ⊎_elim (λ (z, n). no_so (n i (in_range i q)) q) (λ (p, l, m). no_so o (right _ _ p)) lowest

  reap_takes : (k : ℕ) (e : End) (s : State) → v.state d ≡ s → Takes t c k e (reap t c d s)
  unfolding reap answers granted number_of end_of
  reap_takes k e Running q n w = absurd (some_none (sym w))
  reap_takes k e Stopped q n w = absurd (some_none (sym w))
  reap_takes k e (Ended x) q n w = (d, removes x q, cc, q ∙ cc)

  reap_idle : (k : ℕ) (s : State) → v.state d ≡ s → Idle t c k (reap t c d s)
  unfolding reap answers granted number_of end_of
  reap_idle k Running q n w = (cc, refl, nobody (ap is_ended q))
  reap_idle k Stopped q n w = (cc, refl, nobody (ap is_ended q))
  reap_idle k (Ended x) q n w = absurd (some_none w)

-- ---- no other call says how a process ended

abbrev Silent : Outcome → Type 0
Silent o = end_of o.reply.answer ≡ none

gives_silent : (t : Table) (c : ℕ) (call : Call) → (call ≡ Wait → ⊥) → Silent (gives t c call tt)
unfolding getpid getppid poll answers granted end_of
gives_silent t c Clone o = refl
gives_silent t c CloneNew o = refl
gives_silent t c Unshare o = refl
gives_silent t c (Setns n) o = refl
gives_silent t c (Kill n s) o = refl
gives_silent t c (Exit s) o = refl
gives_silent t c Wait o = absurd (o refl)
gives_silent t c Getpid o = refl
gives_silent t c Getppid o = refl
gives_silent t c (Handle s on) o = refl
gives_silent t c Poll o = choose Silent (eqb (lowest_signal (process t c).traits.pending) signals) (λ a. refl) (λ a. refl)

step_silent : (t : Table) (c : ℕ) (call : Call) → (call ≡ Wait → ⊥) → Silent (step t c call)
unfolding step refused end_of
step_silent t c call o =
    choose Silent (sound t)
    (λ a. choose Silent (runs (view t) c) (λ b. made_is Silent t c call (λ e. refl) (λ n q. gives_silent t c call o)) (λ b. refl))
    (λ a. refl)

pub wait_exact : WaitExact
unfolding refused end_of
wait_exact =
    record {
      removes = λ t c k e h.
          outcome_of (Takes t c k e) t c Wait h (λ n w. absurd (some_none (sym w)))
          (λ r. made_is (Takes t c k e) t c Wait (λ x n w. absurd (some_none (sym w))) (λ n q. reap_takes t c h k e _ refl));
      none_ended = λ t c k h.
          outcome_of (Idle t c k) t c Wait h (λ n w. absurd (none_refused t NotRunning k n))
          (λ r. made_is (Idle t c k) t c Wait (λ x n w. absurd (none_refused t x k n)) (λ n q. reap_idle t c h k _ refl));
      no_other = step_silent;
    }
