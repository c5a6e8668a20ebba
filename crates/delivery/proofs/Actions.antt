-- What a signal does, read off one process, against the view of the table; and the table once it is done.
use Prim.Native.Nat.{ℕ, ◌<◌, ◌^◌}
use mathlib.Core.Bool.{Bool, true, false, not, So, false≢true}
use mathlib.Core.Path.{◌≡◌, refl, sym, ap, ap₂, ◌∙◌}
use lib.Dec.{eqb}
use lib.ListN.{length, get_or}
use native.Mathlib.Decide.{dec_lt}
use native.Mathlib.Omega.{arith}
use Rattle.ending.specs.Ending.{Ends}
use Rattle.table.proofs.Chains.{by_bool, pick_yes, or_true_later, not_no}
use Rattle.rules.proofs.Laws.Facts.{Facts}
use Rattle.rules.proofs.Laws.Tests.{choose}
use Rattle.signals.proofs.Sets.{has_low}
use Rattle.table.proofs.Slots.{process_within, put_past}
use Rattle.rules.proofs.Laws.ReadAt.{ReadAt, read_at}
use Rattle.rules.specs.Delivery.{default_action, action_on, act, deliver, resumed, with_pending}
use Rattle.table.specs.Fresh.{empty_process}
use Rattle.table.specs.Limits.{process_slots, signals, sigcont, sigstop}
use Rattle.table.specs.Slots.{process, namespace, init_of, put}
use Rattle.rules.specs.Read.{View, view, is_init, living}
use Rattle.table.specs.SignalSets.{has}
use Rattle.table.specs.Tests.{◌and◌, ◌or◌, when◌then◌else◌}
use Rattle.table.specs.declared.Action.{Action}
use Rattle.table.specs.declared.Action.TheVariants.{Nothing, Resume, Stop, Finish, Pend}
use Rattle.table.specs.declared.End.TheVariants.{Signaled}
use Rattle.table.specs.declared.Namespace.{Namespace}
use Rattle.table.specs.declared.Process.{Process}
use Rattle.table.specs.declared.State.TheVariants.{Stopped}
use Rattle.table.specs.declared.Table.{Table}
use Rattle.table.specs.Records.{with_state}
use Rattle.table.specs.declared.Traits.{Traits}
use Rattle.delivery.specs.Actions.{lives, is_forced, action_by}
use Rattle.delivery.specs.Delivery.{act_by, deliver_by, Delivers}

-- ---- reading

-- k is the init of the process's own namespace s, and r says whether it is the process itself
pub init_read : (t : Table) (i k : ℕ) (p : Process) (s : Namespace) (r : Bool) → p ≡ get_or t.processes i empty_process → s ≡ namespace t p.own.0 → k ≡ init_of s.life → r ≡ eqb k i → r ≡ is_init (view t) i
unfolding is_init
init_read t i k p s r e q h x =
    x ∙ ap (λ m. eqb m i) (h ∙ ap (λ (x : Namespace). init_of x.life) q ∙ ap (λ m. init_of (namespace t m).life) (read_at t i p e).own)

-- a signal that pends is one that a set can hold
module _ (s : ℕ) where
  abbrev Low : Action → Type 0
  Low a = a ≡ Pend → s < signals

  abbrev pends : Action → Bool
  pends Nothing = false
  pends Resume = false
  pends Stop = false
  pends Finish = false
  pends Pend = true

  never : (a : Action) → pends a ≡ false → Low a
  never a e q = absurd (false≢true (sym e ∙ ap pends q))

  default_low : Low (default_action s)
  unfolding default_action
  default_low =
      choose Low (eqb s 17 or eqb s 23 or eqb s 28) (λ z. never Nothing refl)
      (λ z. choose Low (eqb s sigcont) (λ y. never Resume refl)
      (λ y. choose Low (eqb s sigstop or eqb s 20 or eqb s 21 or eqb s 22) (λ x. never Stop refl) (λ x. never Finish refl)))

  unless_init : (init : Bool) → Low (when init then Nothing else default_action s)
  unless_init init = choose Low init (λ z. never Nothing refl) (λ z. default_low)

  action_low : (living init : Bool) (own handled from : ℕ) → handled < 2 ^ signals → Low (action_by living init own handled from s)
  action_low living init own handled from h =
      choose Low (eqb s 0 or not living) (λ z. never Nothing refl)
      (λ z. choose Low (eqb s sigcont) (λ y. never Resume refl)
      (λ y. choose Low (is_forced s) (λ x. unless_init (init and eqb own from))
      (λ x. choose Low (has handled s) (λ k q. has_low signals handled s h k) (λ k. unless_init init))))

-- what is read of the target decides; r is what the tests on the way came to
action_read : (v : View) (i : ℕ) (p : Process) (b : Bool) (from s : ℕ) (r : Action) → r ≡ action_by (lives p) b p.own.0 p.traits.handled from s → ReadAt v i p → b ≡ is_init v i → r ≡ action_on v from i s
unfolding action_on living
action_read v i p b from s r q at e =
    q
    ∙ ap₂ (λ (l c : Bool). action_by l c p.own.0 p.traits.handled from s) (ap₂ (λ (x y : Bool). x and not y) at.taken at.ended) e
    ∙ ap₂ (λ (o h : ℕ). action_by (living v i) (is_init v i) o h from s) at.own (ap (λ (x : Traits). x.handled) at.traits)

-- all that `action_on` ensures
pub action_told : (p : Process) (b : Bool) (from s : ℕ) (r : Action) → p.traits.handled < 2 ^ signals → r ≡ action_by (lives p) b p.own.0 p.traits.handled from s
    → ((v : View) (i : ℕ) → ReadAt v i p → b ≡ is_init v i → r ≡ action_on v from i s) × (r ≡ Pend → s < signals)
action_told p b from s r h q =
    (λ v i. action_read v i p b from s r q, λ e. action_low s (lives p) b p.own.0 p.traits.handled from h (sym q ∙ e))

-- only a process that lives is ended
finish_lives : (v : View) (from i s : ℕ) → action_on v from i s ≡ Finish → So (living v i)
unfolding action_on
finish_lives v from i s e =
    by_bool (living v i) (λ t. t)
    (λ t.
    let none : action_on v from i s ≡ Nothing = pick_yes (eqb s 0 or not (living v i)) Nothing _ (or_true_later (eqb s 0) (not (living v i)) (not_no (living v i) t)) in
    let z : ◌≡◌ {A = ℕ} 0 1 = cc in
    absurd (omega arith))

-- ---- a process that was read, changed and put back; past the last slot nothing is changed

put_read : (t : Table) (i : ℕ) (p : Process) (h : Process → Process) → length t.processes ≡ process_slots → p ≡ get_or t.processes i empty_process → put t i (h p) ≡ put t i (h (process t i))
put_read t i p h e q = go (dec_lt i process_slots)
  where
    go : Dec (i < process_slots) → put t i (h p) ≡ put t i (h (process t i))
    go (yes l) = ap (λ x. put t i (h x)) (process_within t process_slots i p e l q)
    go (no o) = sym (put_past t process_slots i (h p) e (omega arith)) ∙ put_past t process_slots i (h (process t i)) e (omega arith)

-- ---- what each action leaves

-- p is the target as it is read, and a what the signal does to it
pub record Target (t : Table) (from i s : ℕ) (p : Process) (a : Action) : Type 0 where
  pub at : p ≡ get_or t.processes i empty_process
  pub is_action : a ≡ action_on (view t) from i s

-- b says whether the target is an init
pub target : (t : Table) (from i s : ℕ) (p : Process) (b : Bool) (a : Action) → p ≡ get_or t.processes i empty_process → b ≡ is_init (view t) i
    → ((v : View) (j : ℕ) → ReadAt v j p → b ≡ is_init v j → a ≡ action_on v from j s) → Target t from i s p a
target t from i s p b a at init told = record { at = at; is_action = told (view t) i (read_at t i p at) init }

module _ (t : Table) (from i s : ℕ) (p : Process) (a : Action) (w : Target t from i s p a) where
  -- u is the table once the action has been done
  leaves : (c : Action) (u : Table) → a ≡ c → u ≡ act_by t i s c → (Facts (view t) → u ≡ act t i s c) → Delivers t from i s u
  unfolding deliver deliver_by
  leaves c u e x y =
      record { always = x ∙ ap (act_by t i s) (sym e ∙ w.is_action); as_defined = λ f. y f ∙ ap (act t i s) (sym e ∙ w.is_action) }

  -- q is the target changed, and u the table with it put back
  puts : (h : Process → Process) (q : Process) (u : Table) → length t.processes ≡ process_slots → q ≡ h p → u ≡ put t i q → u ≡ put t i (h (process t i))
  puts h q u k x y = y ∙ ap (put t i) x ∙ put_read t i p h k w.at

  pub does_nothing : a ≡ Nothing → Delivers t from i s t
  unfolding act act_by
  does_nothing e = leaves Nothing t e refl (λ f. refl)

  pub does_resume : (q : Process) (u : Table) → a ≡ Resume → length t.processes ≡ process_slots → q ≡ resumed p → u ≡ put t i q → Delivers t from i s u
  unfolding act act_by
  does_resume q u e k x y = let d = puts resumed q u k x y in leaves Resume u e d (λ f. d)

  pub does_stop : (q : Process) (u : Table) → a ≡ Stop → length t.processes ≡ process_slots → q ≡ with_state p Stopped → u ≡ put t i q → Delivers t from i s u
  unfolding act act_by
  does_stop q u e k x y = let d = puts (λ z. with_state z Stopped) q u k x y in leaves Stop u e d (λ f. d)

  pub does_pend : (q : Process) (u : Table) → a ≡ Pend → length t.processes ≡ process_slots → q ≡ with_pending p s → u ≡ put t i q → Delivers t from i s u
  unfolding act act_by
  does_pend q u e k x y = let d = puts (λ z. with_pending z s) q u k x y in leaves Pend u e d (λ f. d)

  pub does_finish : (u : Table) → a ≡ Finish → Ends t i (Signaled s) u → Delivers t from i s u
  unfolding act act_by
  does_finish u e x =
      leaves Finish u e x.always (λ f. x.as_defined f (finish_lives (view t) from i s (sym w.is_action ∙ e)))
