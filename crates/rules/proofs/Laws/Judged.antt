-- The laws of a call as the list of its refusals and what it gives, each once for all calls.
use Prim.Native.Nat.{ℕ}
use mathlib.Core.Bool.{Bool, true, false, false≢true}
use mathlib.Core.List.{List, [], ◌∷◌, map}
use mathlib.Core.Option.{Option, none, some}
use mathlib.Core.Path.{◌≡◌, refl, sym, ◌∙◌, ap, subst}
use lib.Dec.{eqb}
use lib.IntN.{ℤ, pos, negsuc}
use Rattle.rules.proofs.Laws.Tests.{choose, no_so}
use Rattle.rules.specs.Answers.{answers, granted, is_negative, is_refused, judged, number_of, refusal_number, refused}
use Rattle.rules.specs.Calls.{clone, clone_gives, clone_new, clone_new_gives, clone_new_refusals, clone_refusals, exit, exit_gives, exit_refusals, first_ended, getpid, getppid, handle, handle_gives, handle_refusals, kill, kill_gives, kill_refusals, poll, reap, setns, setns_gives, setns_refusals, unshare, unshare_gives, unshare_refusals, wait, wait_gives, wait_refusals}
use Rattle.rules.specs.Read.{View, view}
use Rattle.rules.specs.Refusals.{below_0, first}
use Rattle.rules.specs.Step.{make}
use Rattle.table.specs.Limits.{signals}
use Rattle.table.specs.SignalSets.{lowest_signal}
use Rattle.table.specs.Slots.{process}
use Rattle.table.specs.Tests.{when◌then◌else◌}
use Rattle.table.specs.declared.Call.TheVariants.{Clone, CloneNew, Unshare, Setns, Kill, Exit, Wait, Getpid, Getppid, Handle, Poll}
use Rattle.table.specs.declared.Call.{Call}
use Rattle.table.specs.declared.Outcome.{Outcome}
use Rattle.table.specs.declared.Refusal.TheVariants.{Unsound, NotRunning, Einval, Enosys, Esrch, Ebusy, Echild, Enospc, Enomem, Eagain}
use Rattle.table.specs.declared.Refusal.{Refusal}
use Rattle.table.specs.declared.State.TheVariants.{Running, Stopped, Ended}
use Rattle.table.specs.declared.State.{State}
use Rattle.table.specs.declared.Table.{Table}

-- ---- what is not refused

-- the place of each refusal in document 01's order
unfoldable pub place : Refusal → ℕ
place Unsound = 0
place NotRunning = 1
place Einval = 2
place Enosys = 3
place Esrch = 4
place Ebusy = 5
place Echild = 6
place Enospc = 7
place Enomem = 8
place Eagain = 9

-- the test b for the refusal e, and f for the others
abbrev pub given_if : Refusal → Bool → (Refusal → Bool) → Refusal → Bool
given_if e b f d = when eqb (place d) (place e) then b else f d

abbrev no_more : Refusal → Bool
no_more d = false

-- a list as a function: its test for a refusal
abbrev pub listed : List (Refusal × Bool) → Refusal → Bool
listed [] = no_more
listed (r ∷ rs) = given_if r.0 r.1 (listed rs)

-- No test of the list holds: for a number e that it has, `n e` says so of its test.
abbrev pub None : List (Refusal × Bool) → Type 0
None rs = (e : Refusal) → listed rs e ≡ false

given_none : (e : Refusal) (b : Bool) (f : Refusal → Bool) (d : Refusal) → b ≡ false → f d ≡ false → given_if e b f d ≡ false
given_none e b f d p q = choose (λ x. x ≡ false) (eqb (place d) (place e)) (λ z. p) (λ z. q)

-- what holds of each refusal, and of what is given where no test holds
pub judged_is : (P : Outcome → Type 0) (t : Table) (rs : List (Refusal × Bool)) (o : Unit {0} → Outcome) → ((e : Refusal) → P (refused t e)) → (None rs → P (o tt)) → P (judged t rs o)
judged_is P t [] o f g = g (λ e. refl)
judged_is P t (r ∷ rs) o f g =
    choose P r.1 (λ h. f r.0) (λ h. judged_is P t rs o f (λ n. g (λ d. given_none r.0 r.1 (listed rs) d h (n d))))

-- ---- twins

-- Two lists have the same numbers, and their tests agree but for those of -11.
pub data Alike : List (Refusal × Bool) → List (Refusal × Bool) → Type 0 where
  all_alike : Alike [] []
  alike : {e : Refusal} {a b : Bool} {rs qs : List (Refusal × Bool)} → a ≡ b → Alike rs qs → Alike ((e, a) ∷ rs) ((e, b) ∷ qs)
  no_room : {a b : Bool} {rs qs : List (Refusal × Bool)} → Alike rs qs → Alike ((Eagain, a) ∷ rs) ((Eagain, b) ∷ qs)

-- what holds of two equal refusals, of -11 with any outcome, and of what both give where no test holds
module _ (K : Outcome → Outcome → Type 0) (t u : Table) (same : (e : Refusal) → K (refused t e) (refused u e)) (full_t : (y : Outcome) → K (refused t Eagain) y) (full_u : (x : Outcome) → K x (refused u Eagain)) (o p : Unit {0} → Outcome) where
  pub judged_twins : (rs qs : List (Refusal × Bool)) → Alike rs qs → (None rs → None qs → K (o tt) (p tt)) → K (judged t rs o) (judged u qs p)
  judged_twins [] [] all_alike g = g (λ e. refl) (λ e. refl)
  judged_twins _ _ (alike {e} {a} {b} {rs} {qs} q w) g =
      choose (λ x. K x (judged u ((e, b) ∷ qs) p)) a
      (λ h. choose (K (refused t e)) b (λ k. same e) (λ k. absurd (no_so k (sym q ∙ h))))
      (λ h. choose (K (judged t rs o)) b (λ k. absurd (no_so h (q ∙ k)))
      (λ k. judged_twins rs qs w (λ n m. g (λ d. given_none e a (listed rs) d h (n d)) (λ d. given_none e b (listed qs) d k (m d)))))
  judged_twins _ _ (no_room {a} {b} {rs} {qs} w) g =
      choose (λ x. K x (judged u ((Eagain, b) ∷ qs) p)) a (λ h. full_t _)
      (λ h. choose (K (judged t rs o)) b (λ k. full_u _)
      (λ k. judged_twins rs qs w (λ n m. g (λ d. given_none Eagain a (listed rs) d h (n d)) (λ d. given_none Eagain b (listed qs) d k (m d)))))

-- ---- which answer: the number of the first test that holds

-- the list by its numbers
abbrev pub by_number : List (Refusal × Bool) → List (ℤ × Bool)
by_number rs = map (λ (r : Refusal × Bool). (refusal_number r.0, r.1)) rs

-- what an answer below 0 shows
abbrev pub told : Outcome → Option ℤ
told o = below_0 (number_of o.reply.answer)

-- the number of each refusal is below 0
pub told_refused : (t : Table) (e : Refusal) → told (refused t e) ≡ some (refusal_number e)
unfolding refused refusal_number number_of below_0
told_refused t Unsound = refl
told_refused t NotRunning = refl
told_refused t Einval = refl
told_refused t Enosys = refl
told_refused t Esrch = refl
told_refused t Ebusy = refl
told_refused t Echild = refl
told_refused t Enospc = refl
told_refused t Enomem = refl
told_refused t Eagain = refl

pub some_none : {A : Type 0} {k : A} → some k ≡ none → ⊥
some_none {A} w = false≢true (sym (ap shown w))
  where
    shown : Option A → Bool
    shown none = false
    shown (some k) = true

-- an answer with a number from 0 on is none
pub none_refused : (t : Table) (e : Refusal) (a : ℕ) → number_of (refused t e).reply.answer ≡ pos a → ⊥
unfolding below_0
none_refused t e a q = some_none (sym (told_refused t e) ∙ ap below_0 q)

-- and an outcome that shows none is no refusal
pub not_refused : (o : Outcome) → told o ≡ none → is_refused o.reply.answer ≡ false
unfolding below_0 is_refused
not_refused o h = go (number_of o.reply.answer) h
  where
    go : (k : ℤ) → below_0 k ≡ none → is_negative k ≡ false
    go (pos k) e = refl
    go (negsuc k) e = absurd (some_none e)

pub judged_told : (t : Table) (rs : List (Refusal × Bool)) (o : Unit {0} → Outcome) → told (o tt) ≡ none → told (judged t rs o) ≡ first (by_number rs)
unfolding first
judged_told t [] o g = g
judged_told t (r ∷ rs) o g = by_test (judged_told t rs o g) r.1
  where
    by_test : told (judged t rs o) ≡ first (by_number rs) → (b : Bool) → told (elim b [ true ↦ refused t r.0 | false ↦ judged t rs o ]) ≡ elim b [ true ↦ some (refusal_number r.0) | false ↦ first (by_number rs) ]
    by_test rest true = told_refused t r.0
    by_test rest false = rest

-- ---- each call

-- its refusals, and what it gives
abbrev pub refusals : View → ℕ → Call → List (Refusal × Bool)
refusals v c Clone = clone_refusals v c
refusals v c CloneNew = clone_new_refusals v c
refusals v c Unshare = unshare_refusals v c
refusals v c (Setns n) = setns_refusals v c n
refusals v c (Kill n s) = kill_refusals v c n s
refusals v c (Exit s) = exit_refusals c
refusals v c Wait = wait_refusals v c
refusals v c Getpid = []
refusals v c Getppid = []
refusals v c (Handle s on) = handle_refusals s
refusals v c Poll = []

abbrev pub gives : Table → ℕ → Call → Unit {0} → Outcome
gives t c Clone z = clone_gives t c z
gives t c CloneNew z = clone_new_gives t c z
gives t c Unshare z = unshare_gives t c z
gives t c (Setns n) z = setns_gives t c n z
gives t c (Kill n s) z = kill_gives t c n s z
gives t c (Exit s) z = exit_gives t c s z
gives t c Wait z = wait_gives t c z
gives t c Getpid z = getpid t c
gives t c Getppid z = getppid t c
gives t c (Handle s on) z = handle_gives t c s on z
gives t c Poll z = poll t c

pub made : (t : Table) (c : ℕ) (call : Call) → make t c call ≡ judged t (refusals (view t) c call) (gives t c call)
unfolding make clone clone_new unshare setns kill exit wait handle
made t c Clone = refl
made t c CloneNew = refl
made t c Unshare = refl
made t c (Setns n) = refl
made t c (Kill n s) = refl
made t c (Exit s) = refl
made t c Wait = refl
made t c Getpid = refl
made t c Getppid = refl
made t c (Handle s on) = refl
made t c Poll = refl

-- what holds of each refusal, and of what the call gives where it is not refused
pub made_is : (P : Outcome → Type 0) (t : Table) (c : ℕ) (call : Call) → ((e : Refusal) → P (refused t e)) → (None (refusals (view t) c call) → make t c call ≡ gives t c call tt → P (gives t c call tt)) → P (make t c call)
made_is P t c call f g =
    let q = made t c call in
    subst P (sym q) (judged_is (λ o. make t c call ≡ o → P o) t (refusals (view t) c call) (gives t c call) (λ e q. f e) g q)

-- what a call gives shows no number below 0
pub gives_granted : (t : Table) (c : ℕ) (call : Call) → told (gives t c call tt) ≡ none
unfolding number_of below_0 granted answers getpid getppid poll reap
gives_granted t c Clone = refl
gives_granted t c CloneNew = refl
gives_granted t c Unshare = refl
gives_granted t c (Setns n) = refl
gives_granted t c (Kill n s) = refl
gives_granted t c (Exit s) = refl
gives_granted t c Wait = reaped ((view t).state (first_ended (view t) c))
  where
    reaped : (s : State) → told (reap t c (first_ended (view t) c) s) ≡ none
    reaped Running = refl
    reaped Stopped = refl
    reaped (Ended e) = refl
gives_granted t c Getpid = refl
gives_granted t c Getppid = refl
gives_granted t c (Handle s on) = refl
gives_granted t c Poll = choose (λ (o : Outcome). told o ≡ none) (eqb (lowest_signal (process t c).traits.pending) signals) (λ a. refl) (λ a. refl)
