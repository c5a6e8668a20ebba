-- What a granted clone tells, and that no other call tells a slot.
use Prim.Native.Nat.{ℕ, ◌<◌}
use native.Mathlib.Omega.{arith}
use mathlib.Core.Bool.{So}
use mathlib.Core.Path.{◌≡◌, refl, sym, ◌∙◌, ap, subst}
use borrow.Author.Tests.{eq-eqb}
use lib.Dec.{eqb}
use lib.IntN.{pos}
use Rattle.rules.proofs.Keeps.Birth.{birth_view}
use Rattle.rules.proofs.Keeps.Changes.{Change, MayBear, change_sane, may_bear, may_bear_new}
use Rattle.rules.proofs.Keeps.Child.{next_unique, free, there, born_child, born_place}
use Rattle.rules.proofs.Keeps.Fresh.{next_rule, birth_numbered, new_numbered}
use Rattle.rules.proofs.Keeps.Premises as K
use Rattle.rules.proofs.Keeps.Puts.{new_namespace_view}
use Rattle.rules.proofs.Laws.Facts.{facts, Sane, sane}
use Rattle.rules.proofs.Laws.Judged.{gives, made_is, none_refused, place}
use Rattle.rules.proofs.Laws.Steps.{outcome_of}
use Rattle.rules.proofs.Laws.Tests.{choose}
use Rattle.rules.specs.Answers.{answers, granted, number_of, refused}
use Rattle.rules.specs.Births.{birth}
use Rattle.rules.specs.Calls.{first_ended, getpid, getppid, new_namespace, poll, reap}
use Rattle.rules.specs.Claims.{Born, MadeNamespace, CloneTells}
use Rattle.rules.specs.Pids.{free_namespace_slot, free_slot, next_pid}
use Rattle.rules.specs.Read.{View, pid_seen, taken, unborn, view, children}
use Rattle.rules.specs.Sound.{SoundTable, sound}
use Rattle.rules.specs.Step.{make, runs, step}
use Rattle.table.specs.Limits.{namespace_slots, no_slot, signals}
use Rattle.table.specs.SignalSets.{lowest_signal}
use Rattle.table.specs.Slots.{process}
use Rattle.table.specs.declared.Call.TheVariants.{Clone, CloneNew, Unshare, Setns, Kill, Exit, Wait, Getpid, Getppid, Handle, Poll}
use Rattle.table.specs.declared.Call.{Call}
use Rattle.table.specs.declared.Outcome.{Outcome}
use Rattle.table.specs.declared.Refusal.TheVariants.{NotRunning, Enospc, Enomem, Eagain}
use Rattle.table.specs.declared.State.TheVariants.{Running, Stopped, Ended}
use Rattle.table.specs.declared.State.{State}
use Rattle.table.specs.declared.Table.{Table}

-- ---- each call

same_answer : (a b : ℕ) → pos a ≡ pos b → a ≡ b
same_answer a b e = cc

-- what a granted clone tells
abbrev Told : Table → ℕ → ℕ → ℕ → Outcome → Type 0
Told t c n a o = number_of o.reply.answer ≡ pos a → Born t o.table c o.reply.child.0 n a

abbrev ToldNew : Table → ℕ → ℕ → Outcome → Type 0
ToldNew t c a o = number_of o.reply.answer ≡ pos a → (n : ℕ) × Born t o.table c o.reply.child.0 n a × MadeNamespace t o.table c n

module _ (t : Table) (c : ℕ) (h : SoundTable t) (r : So (runs (view t) c)) (a : ℕ) where
  abbrev v : View
  v = view t

  clone_told : Told t c (children v c) a (make t c Clone)
  unfolding place number_of
  clone_told =
      made_is (Told t c (children v c) a) t c Clone (λ e q. absurd (none_refused t e a q)) (λ n w q.
      let m = may_bear t c h r (n Enomem) (n Eagain) in
      let s = sane t h in
      born_child t s c (children v c) m a (sym (same_answer _ a q) ∙ number_is m))
    where
      number_is : MayBear v c (children v c) → next_pid v (v.own c) ≡ pid_seen (view (birth t c (children v c))) (v.own c) (free_slot v)
      number_is m = next_unique v (v.own c) _ _ (next_rule v (facts t h) (v.own c)) (birth_numbered t (sane t h) c (children v c) m (free_slot v) (free t (sane t h) c (children v c) m) (there t (sane t h) c (children v c) m) (v.own c) (born_place t (sane t h) c (children v c) m)).0

  -- with a new namespace: what was there before is as it was
  module _ (x : Change t (new_namespace t c)) (l : free_namespace_slot v < namespace_slots) (m : MayBear (view (new_namespace t c)) c (free_namespace_slot v)) where
    abbrev n : ℕ
    n = free_namespace_slot v

    abbrev u : Table
    u = new_namespace t c

    s : Sane u
    s = change_sane t u (sane t h) x

    number_new : next_pid v (v.own c) ≡ pid_seen (view (birth u c n)) (v.own c) (free_slot v)
    unfolding new_namespace taken free_slot
    number_new = next_unique v (v.own c) _ _ (next_rule v (facts t h) (v.own c)) (new_numbered t (sane t h) c n s l m (free_slot v) (free u s c n m) (there u s c n m) (v.own c) (born_place u s c n m)).0

    new_child : (b : ℕ) → b ≡ pid_seen (view (birth u c n)) (v.own c) (free_slot v) → Born t (birth u c n) c (free_slot v) n b
    unfolding new_namespace taken free_slot
    new_child b e =
        let z = born_child u s c n m b e in
        record { new = z.new; lowest = K.free_slot_lowest v; here = z.here; kin = z.kin; bare = z.bare; first = λ y. z.first (subst (λ (w : View). So (unborn w n)) (sym (new_namespace_view t h.shape c l)) (rw (eq-eqb n n refl))); answer = z.answer; others = z.others }

    up_new : (view (birth u c n)).up n ≡ v.own c
    up_new =
        ap (λ (w : View). w.up n) (birth_view u s.shape_of s.facts c n m.namespace (K.free_slot_is (view u) m.room).0)
        ∙ ap (λ (w : View). w.up n) (new_namespace_view t h.shape c l) ∙ rw (eq-eqb n n refl)

  clone_new_told : ToldNew t c a (make t c CloneNew)
  unfolding place number_of
  clone_new_told =
      made_is (ToldNew t c a) t c CloneNew (λ e q. absurd (none_refused t e a q)) (λ n w q.
      let (z, l, m) = may_bear_new t c h r (n Enospc) (n Eagain) in
      (free_namespace_slot v, new_child z l m a (sym (same_answer _ a q) ∙ number_new z l m), record { new = (K.free_namespace_is v (λ e. omega (arith, l, e))).1; lowest = K.free_namespace_lowest v; parent = up_new z l m }))

-- ---- no other call tells a slot

abbrev Quiet : Outcome → Type 0
Quiet o = o.reply.child.0 ≡ no_slot

reap_quiet : (t : Table) (c i : ℕ) (s : State) → Quiet (reap t c i s)
unfolding reap answers granted
reap_quiet t c i Running = refl
reap_quiet t c i Stopped = refl
reap_quiet t c i (Ended e) = refl

gives_quiet : (t : Table) (c : ℕ) (call : Call) → (call ≡ Clone → ⊥) → (call ≡ CloneNew → ⊥) → Quiet (gives t c call tt)
unfolding getpid getppid poll answers granted
gives_quiet t c Clone o p = absurd (o refl)
gives_quiet t c CloneNew o p = absurd (p refl)
gives_quiet t c Unshare o p = refl
gives_quiet t c (Setns n) o p = refl
gives_quiet t c (Kill n s) o p = refl
gives_quiet t c (Exit s) o p = refl
gives_quiet t c Wait o p = reap_quiet t c (first_ended (view t) c) ((view t).state (first_ended (view t) c))
gives_quiet t c Getpid o p = refl
gives_quiet t c Getppid o p = refl
gives_quiet t c (Handle s on) o p = refl
gives_quiet t c Poll o p = choose Quiet (eqb (lowest_signal (process t c).traits.pending) signals) (λ a. refl) (λ a. refl)

make_quiet : (t : Table) (c : ℕ) (call : Call) → (call ≡ Clone → ⊥) → (call ≡ CloneNew → ⊥) → Quiet (make t c call)
unfolding refused
make_quiet t c call o p = made_is Quiet t c call (λ e. refl) (λ n q. gives_quiet t c call o p)

step_quiet : (t : Table) (c : ℕ) (call : Call) → (call ≡ Clone → ⊥) → (call ≡ CloneNew → ⊥) → Quiet (step t c call)
unfolding step refused
step_quiet t c call o p = choose Quiet (sound t) (λ a. choose Quiet (runs (view t) c) (λ a. make_quiet t c call o p) (λ a. refl)) (λ a. refl)

pub clone_tells : CloneTells
clone_tells =
    record {
      plain = λ t c a h. outcome_of (Told t c (children (view t) c) a) t c Clone h (λ q. absurd (none_refused t NotRunning a q)) (λ r. clone_told t c h r a);
      in_new = λ t c a h. outcome_of (ToldNew t c a) t c CloneNew h (λ q. absurd (none_refused t NotRunning a q)) (λ r. clone_new_told t c h r a);
      no_other = step_quiet;
    }
