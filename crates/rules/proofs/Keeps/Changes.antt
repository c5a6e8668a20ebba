-- Each call as a run of changes, each of which says when it may be made.
use Prim.Native.Nat.{ℕ, ◌<◌, ◌≤◌}
use native.Mathlib.Omega.{arith}
use mathlib.Core.Bool.{Bool, true, false, So}
use mathlib.Core.List.{List, ◌∷◌, []}
use mathlib.Core.Logic.{◌⊎◌, inr}
use mathlib.Core.Path.{◌≡◌, refl, sym, ◌∙◌, ap, subst}
use borrow.Author.Tests.{eqb-false, le-leb, lt-ltb}
use lib.Dec.{eqb, leb}
use Rattle.rules.proofs.Keeps.Deliver.{Safe, Good, action_good}
use Rattle.rules.proofs.Keeps.End.{end_sane}
use Rattle.rules.proofs.Keeps.Freed.{freed_keeps}
use Rattle.rules.proofs.Keeps.Lights.{MayHold}
use Rattle.rules.proofs.Keeps.NewNamespace.{namespace_facts}
use Rattle.rules.proofs.Keeps.Premises as K
use Rattle.rules.proofs.Keeps.Puts.{with_all, set_children_sane, reaped_sane, new_namespace_view, new_namespace_shape, its_traits, altered_sane}
use Rattle.rules.proofs.Laws.Below.{level_deepest, not_deepest}
use Rattle.rules.proofs.Laws.Facts.{Facts, Holder, Taken, Stands, Lives, Below, Seen, Other, lives_taken, not_ended, seen_taken, seen_below, facts, held_in, Sane, sane, Holds, holds_children}
use Rattle.rules.proofs.Laws.Find.{named_seen}
use Rattle.rules.proofs.Laws.Judged.{gives, made_is, None, place, refusals}
use Rattle.rules.proofs.Laws.Steps.{made_or_refused, runs_lives, remainder}
use Rattle.rules.proofs.Laws.Tests.{isnt_so, no_so, choose, both, isnt_not, or_false_left, or_false_right}
use Rattle.rules.specs.Answers.{answers, granted, refused}
use Rattle.rules.specs.Births.{birth}
use Rattle.rules.specs.Calls.{first_ended, getpid, getppid, handle_off, handle_on, named, natural, new_namespace, own_level, poll, reap, set_children, status, targets, taken_up}
use Rattle.rules.specs.Claims.{KeepsSound}
use Rattle.rules.specs.Delivery.{act, action_on, deliver, deliver_all, resumed, with_pending}
use Rattle.rules.specs.Ends.{end}
use Rattle.rules.specs.Freeing.{freed}
use Rattle.table.specs.Fresh.{empty_process}
use Rattle.table.specs.Limits.{deepest, namespace_slots, process_slots, signals, sigcont, sigkill, sigstop}
use Rattle.rules.specs.Pids.{free_namespace_slot, free_slot}
use Rattle.table.specs.Slots.{is_ended, process, put}
use Rattle.rules.specs.Read.{View, dead, unborn, view, children}
use Rattle.table.specs.SignalSets.{has, lowest_signal}
use Rattle.rules.specs.Sound.{SoundTable, kept_end}
use Rattle.rules.specs.Step.{make, runs}
use Rattle.rules.proofs.Laws.Traits.{Fine, pend_fine, on_fine, off_fine, poll_fine}
use Rattle.table.specs.Tests.{◌or◌, when◌then◌else◌}
use Rattle.table.specs.declared.Action.TheVariants.{Finish, Nothing, Pend, Resume, Stop}
use Rattle.table.specs.declared.Action.{Action}
use Rattle.table.specs.declared.Call.TheVariants.{Clone, CloneNew, Unshare, Setns, Kill, Exit, Wait, Getpid, Getppid, Handle, Poll}
use Rattle.table.specs.declared.Call.{Call}
use Rattle.table.specs.declared.End.TheVariants.{Signaled, Exited}
use Rattle.table.specs.declared.End.{End}
use Rattle.table.specs.declared.Outcome.{Outcome}
use Rattle.table.specs.declared.Refusal.TheVariants.{Einval, Esrch, Ebusy, Enospc, Enomem, Eagain}
use Rattle.table.specs.declared.State.TheVariants.{Running, Stopped, Ended}
use Rattle.table.specs.declared.State.{State}
use Rattle.table.specs.declared.Table.{Table}
use Rattle.table.specs.Records.{with_children, with_traits}
use Rattle.table.specs.declared.Traits.{Traits}

-- the changes that add no process
pub data Change (t : Table) : Table → Type 0 where
  ends : (p : ℕ) (e : End) → Lives (view t) p → Other p → So (kept_end (Ended e)) → Change t (end t p e)
  alters : (c : ℕ) → Lives (view t) c → (x : State) → is_ended x ≡ false → So (kept_end x) → (y : Traits) → Fine y → Change t (put t c (with_all (process t c) x y (children (view t) c)))
  turns : (c m : ℕ) → Lives (view t) c → MayHold (view t) c m → Change t (put t c (with_children (process t c) m))
  reaps : (d : ℕ) → So ((view t).ended d) → Change t (put t d empty_process)
  makes_namespace : (c : ℕ) → Lives (view t) c → ((view t).level ((view t).own c) ≡ deepest → ⊥) → (free_namespace_slot (view t) ≡ namespace_slots → ⊥) → Change t (new_namespace t c)

pub namespace_sane : (t : Table) (s : Sane t) (c : ℕ) → Lives (view t) c → ((view t).level ((view t).own c) ≡ deepest → ⊥) → (free_namespace_slot (view t) ≡ namespace_slots → ⊥) → Sane (new_namespace t c)
namespace_sane t s c l a b =
    let f = s.facts in
    let m = f.members c (lives_taken (view t) c l) in
    let (low, free) = K.free_namespace_is (view t) b in
    let d : (view t).level ((view t).own c) < deepest = omega (arith, level_deepest (view t) f ((view t).own c) m.0.0) in
    record {
      shape_of = new_namespace_shape t s.shape_of c low;
      facts = subst Facts (sym (new_namespace_view t s.shape_of c low)) (namespace_facts (view t) f ((view t).own c) _ m.0.0 d (λ x. not_ended (view t) c l (m.0.1 x)) m.1 low free);
    }

-- each change keeps the facts, so a run of them does
pub change_sane : (t u : Table) → Sane t → Change t u → Sane u
change_sane t u s (ends p e l o ok) = end_sane t s p e l o ok
change_sane t u s (alters c l x o k y fine) = altered_sane t s c l x o y k fine
change_sane t u s (turns c m l k) = set_children_sane t s c m l k
change_sane t u s (reaps d o) = reaped_sane t s d o
change_sane t u s (makes_namespace c l a b) = namespace_sane t s c l a b

-- one after the other
pub data Run (t : Table) : Table → Type 0 where
  start : Run t t
  more : {u w : Table} → Run t u → Change u w → Run t w

pub run_sane : (t u : Table) → Sane t → Run t u → Sane u
run_sane t u s start = s
run_sane t u s (more {u = x} r c) = change_sane x u (run_sane t x s r) c

-- when a child of c may be born in n
pub record MayBear (v : View) (c n : ℕ) : Type 0 where
  pub lives : Lives v c
  pub namespace : Stands v n
  pub below : Below v n (v.own c)
  pub not_dead : So (dead v n) → ⊥
  pub up_own : So (unborn v n) → v.own c ≡ v.up n
  pub room : free_slot v ≡ process_slots → ⊥
  pub holder : (m : ℕ) → Stands v m → So (unborn v m) → (m ≡ n → ⊥) → (i : ℕ) × Taken v i × Holds v i m
  pub held_by : (m : ℕ) → Stands v m → (m ≡ n) ⊎ Holder v m

-- what a call makes of a table
pub data Made (t : Table) : Table → Type 0 where
  nothing_done : Made t t
  freed_after : (u : Table) → Run t u → Made t (freed u)
  altered : (c : ℕ) → Lives (view t) c → (x : Traits) → Fine x → Made t (put t c (with_traits (process t c) x))
  born : (c n : ℕ) → MayBear (view t) c n → Made t (birth t c n)
  born_in_new : (c n : ℕ) → Change t (new_namespace t c) → free_namespace_slot (view t) < namespace_slots → MayBear (view (new_namespace t c)) c n → Made t (birth (new_namespace t c) c n)

-- a birth makes a sound table
pub birth_keeps : (t : Table) → Sane t → (c n : ℕ) → MayBear (view t) c n → SoundTable (birth t c n)
birth_keeps t s c n m =
    let (low, free) = K.free_slot_is (view t) m.room in
    K.birth_sound t s.shape_of s.facts c n m.lives m.namespace m.below m.not_dead low free m.up_own m.holder m.held_by

-- what a call makes of a sound table is sound
pub made_sound : (t u : Table) → SoundTable t → Made t u → SoundTable u
made_sound t u h nothing_done = h
made_sound t u h (freed_after x r) = let s = run_sane t x (sane t h) r in freed_keeps x s.shape_of s.facts
made_sound t u h (altered c l x fine) = K.altered_sound t c h l x fine
made_sound t u h (born c n m) = birth_keeps t (sane t h) c n m
made_sound t u h (born_in_new c n x l m) = birth_keeps (new_namespace t c) (change_sane t (new_namespace t c) (sane t h) x) c n m

-- ---- deliveries are runs

resumed_run : (t u : Table) → Run t u → Sane u → (i : ℕ) → Lives (view u) i → (b : Bool) → has ((view u).traits i).handled sigcont ≡ b → Run t (put u i (resumed (process u i)))
unfolding resumed with_pending
resumed_run t u r s i l true e = rw (e, resumed) (more r (alters i l Running refl refl _ (pend_fine _ (its_traits u s i l) sigcont (omega arith) e)))
resumed_run t u r s i l false e = rw (e, resumed) (more r (alters i l Running refl refl _ (its_traits u s i l)))

-- what a signal does to a process is a run
pub act_run : (t u : Table) → Run t u → Sane u → (i k : ℕ) → k < signals → (e : Action) → Good (view u) i k e → Run t (act u i k e)
unfolding act with_pending
act_run t u r s i k l Nothing g = r
act_run t u r s i k l Resume g = resumed_run t u r s i g (has ((view u).traits i).handled sigcont) refl
act_run t u r s i k l Stop g = more r (alters i g Stopped refl refl _ (its_traits u s i g))
act_run t u r s i k l Finish g = more r (ends i (Signaled k) g.0 g.1 (both _ _ (le-leb 1 k g.2) (lt-ltb k signals l)))
act_run t u r s i k l Pend g =
    more r (alters i g.0 ((view u).state i) (isnt_so (not_ended (view u) i g.0)) (s.facts.ends_kept i (lives_taken (view u) i g.0)) _ (pend_fine _ (its_traits u s i g.0) k l g.1))

pub act_sane : (t : Table) → Sane t → (i k : ℕ) → k < signals → (e : Action) → Good (view t) i k e → Sane (act t i k e)
act_sane t s i k l e g = run_sane t (act t i k e) s (act_run t t start s i k l e g)

pub deliver_sane : (t : Table) → Sane t → (i k : ℕ) → k < signals → (from : ℕ) → (i ≡ 0 → from ≡ 0) → Sane (deliver t from i k)
unfolding deliver
deliver_sane t s i k l from safe = act_sane t s i k l (action_on (view t) from i k) (action_good (view t) i k from s.facts safe)

-- and so are deliveries
pub deliver_run : (t u : Table) → Run t u → Sane u → (from k : ℕ) → k < signals → (is : List ℕ) → Safe from is → Run t (deliver_all u from is k)
unfolding deliver deliver_all
deliver_run t u r s from k l [] h = r
deliver_run t u r s from k l (i ∷ is) h =
    let x = act_run t u r s i k l (action_on (view u) from i k) (action_good (view u) i k from s.facts h.0) in
    deliver_run t (deliver u from i k) x (deliver_sane u s i k l from h.0) from k l is h.1

pub deliver_all_sane : (t : Table) → Sane t → (from k : ℕ) → k < signals → (is : List ℕ) → Safe from is → Sane (deliver_all t from is k)
deliver_all_sane t s from k l is h = run_sane t (deliver_all t from is k) s (deliver_run t t start s from k l is h)

-- ---- each call

-- what a call gives is made of t
abbrev Gives : Table → Outcome → Type 0
Gives t o = Made t o.table

module _ (t : Table) (c : ℕ) (h : SoundTable t) (r : So (runs (view t) c)) where
  abbrev v : View
  v = view t

  f : Facts v
  f = facts t h

  lives : Lives v c
  lives = runs_lives t c r

  here : Taken v c
  here = lives_taken v c lives

  fine : Fine (v.traits c)
  fine = its_traits t (sane t h) c lives

  reaped : (s : State) → v.state (first_ended v c) ≡ s → Made t (reap t c (first_ended v c) s).table
  unfolding reap answers granted
  reaped Running e = nothing_done
  reaped Stopped e = nothing_done
  reaped (Ended x) e = freed_after _ (more start (reaps (first_ended v c) (ap is_ended e)))

  handled : (s : ℕ) → 1 ≤ s → s < signals → (s ≡ sigkill → ⊥) → (s ≡ sigstop → ⊥) → (b : Bool) → Made t (put t c (when b then handle_on (process t c) s else handle_off (process t c) s))
  unfolding handle_on handle_off
  handled s x y n m true = altered c lives _ (on_fine _ fine s x y n m)
  handled s x y n m false = altered c lives _ (off_fine _ fine s)

  -- a clone that is not refused
  pub may_bear : dead v (children v c) ≡ false → eqb (free_slot v) process_slots ≡ false → MayBear v c (children v c)
  may_bear a b =
      let (s, d) = f.children c here lives in
      record { lives = lives; namespace = s; below = d; not_dead = no_so a; up_own = λ u. f.unborn_own _ s u c here (holds_children v c); room = eqb-false _ process_slots b; holder = λ m s u o. (held_in t h).holder m s u; held_by = λ m s. inr ((held_in t h).held_by m s) }

  pub may_bear_new : leb deepest (own_level v c) ≡ false → eqb (free_slot v) process_slots or eqb (free_namespace_slot v) namespace_slots ≡ false
      → Change t (new_namespace t c) × (free_namespace_slot v < namespace_slots) × MayBear (view (new_namespace t c)) c (free_namespace_slot v)
  may_bear_new a b =
      let deep = not_deepest (own_level v c) a in
      let room = eqb-false (free_namespace_slot v) namespace_slots (or_false_right _ _ b) in
      let q = K.ready_next t c h r deep room in (
        makes_namespace c lives deep room,
        (K.free_namespace_is v room).0,
        record { lives = q.lives; namespace = q.namespace; below = q.below; not_dead = q.not_dead; up_own = q.up_own; room = λ e. eqb-false _ process_slots (or_false_left _ _ b) (sym q.slot ∙ e); holder = q.holder; held_by = q.held_by },
      )

  -- what each call gives, where it is not refused, is one of these
  gives_made : (call : Call) → None (refusals v c call) → Gives t (gives t c call tt)
  unfolding place set_children getpid getppid poll taken_up answers granted
  gives_made Clone n = born c (children v c) (may_bear (n Enomem) (n Eagain))
  gives_made CloneNew n = let (x, l, m) = may_bear_new (n Enospc) (n Eagain) in born_in_new c (free_namespace_slot v) x l m
  gives_made Unshare n =
      let deep = not_deepest (own_level v c) (n Enospc) in
      let room = eqb-false (free_namespace_slot v) namespace_slots (n Eagain) in
      let q = K.ready_next t c h r deep room in
      freed_after _ (more (more start (makes_namespace c lives deep room)) (turns c (free_namespace_slot v) q.lives (record { here = q.namespace; below = q.below; alone = λ u. (q.up_own u, q.alone) })))
  gives_made (Setns i) n =
      let s : Seen v (v.own c) (named v c i) = named_seen v c i (eqb-false _ process_slots (or_false_left _ _ (n Esrch))) in
      let m = f.members (named v c i) (seen_taken v (v.own c) _ s) in
      freed_after _ (more start (turns c (v.own (named v c i)) lives (record { here = m.0.0; below = seen_below v (v.own c) _ s; alone = λ u. absurd (m.1 u) })))
  gives_made (Kill i s) n =
      freed_after _ (deliver_run t t start (sane t h) (v.own c) (natural s) (K.natural_low s (isnt_not _ (n Einval))) (targets v c i) (K.targets_safe v f c i))
  gives_made (Exit s) n = freed_after _ (more start (ends c (Exited (status s)) lives (eqb-false c 0 (n Ebusy)) (remainder s)))
  gives_made Wait n = reaped (v.state (first_ended v c)) refl
  gives_made Getpid n = nothing_done
  gives_made Getppid n = nothing_done
  gives_made (Handle s on) n =
      let a = n Einval in
      let (x, y) = K.natural_within s (isnt_not _ (or_false_left _ _ (or_false_left _ _ a))) in
      handled (natural s) x y (eqb-false _ sigkill (or_false_right _ _ (or_false_left _ _ a))) (eqb-false _ sigstop (or_false_right _ _ a)) on
  gives_made Poll n =
      choose (Gives t) (eqb (lowest_signal (process t c).traits.pending) signals) (λ a. nothing_done) (λ a. altered c lives _ (poll_fine _ fine _))

  -- and so is what each call makes of the table
  pub call_made : (call : Call) → Made t (make t c call).table
  unfolding refused
  call_made call = made_is (Gives t) t c call (λ e. nothing_done) (λ n q. gives_made call n)

-- the tables of setns and unshare before namespaces are freed
pub setns_sane : (t : Table) → SoundTable t → (c i : ℕ) → Lives (view t) c → Seen (view t) ((view t).own c) i → Sane (put t c (with_children (process t c) ((view t).own i)))
setns_sane t h c i l s =
    let m = (facts t h).members i (seen_taken (view t) ((view t).own c) i s) in
    set_children_sane t (sane t h) c ((view t).own i) l (record { here = m.0.0; below = seen_below (view t) ((view t).own c) i s; alone = λ u. absurd (m.1 u) })

pub unshare_sane : (t : Table) (h : SoundTable t) (c : ℕ) (r : So (runs (view t) c)) → (own_level (view t) c ≡ deepest → ⊥) → (free_namespace_slot (view t) ≡ namespace_slots → ⊥) → Sane (put (new_namespace t c) c (with_children (process (new_namespace t c) c) (free_namespace_slot (view t))))
unshare_sane t h c r deep room =
    let q = K.ready_next t c h r deep room in
    set_children_sane (new_namespace t c) (namespace_sane t (sane t h) c (lives t c h r) deep room) c (free_namespace_slot (view t)) q.lives (record { here = q.namespace; below = q.below; alone = λ u. (q.up_own u, q.alone) })

-- a call by a running caller leaves a sound table sound
pub make_sound : (t : Table) (c : ℕ) (call : Call) → SoundTable t → So (runs (view t) c) → SoundTable (make t c call).table
make_sound t c call h r = made_sound t _ h (call_made t c h r call)

-- each call leaves a sound table sound
pub keeps_sound : KeepsSound
unfolding KeepsSound
keeps_sound t c call h = made_or_refused SoundTable t c call h h (make_sound t c call h)
