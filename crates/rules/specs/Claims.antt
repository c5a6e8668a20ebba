-- The promises, as types: a value of such a type is a proof. (Document 01 calls the promises demands.)
use Rattle.std.specs.Prelude.{ℕ, ◌<◌, ◌≤◌, Bool, not, ◌↔◌, ◌⊎◌, ◌≡◌, eqb, ℤ, pos, negsuc}
use Rattle.std.proofs.Math.Bool.{So}
use Rattle.std.proofs.Math.Option.{none, some}
use Rattle.rules.specs.Answers.{number_of, end_of}
use Rattle.rules.specs.Calls.{targets, pid_to, natural, status}
use Rattle.rules.specs.Delivery.{action_on, resumed, with_pending}
use Rattle.table.specs.Fresh.{empty_namespace}
use Rattle.table.specs.Limits.{no_slot, signals, greatest_pid, restart_pid, sigkill}
use Rattle.table.specs.Slots.{process, namespace}
use Rattle.rules.specs.Read.{View, view, taken, living, children, namespace_taken, alive, dead, unborn, init, is_init, below, seen, pid_seen, child_of}
use Rattle.rules.specs.Refusals.{meant, numbered, rows, first, below_0}
use Rattle.rules.specs.Sound.{SoundTable, shaped}
use Rattle.rules.specs.Step.{step, runs}
use Rattle.table.specs.Tests.{◌and◌, when◌then◌else◌, some_of}
use Rattle.table.specs.declared.Action.{Action}
use Rattle.table.specs.declared.Action.TheVariants.{Nothing, Resume, Stop, Finish, Pend}
use Rattle.table.specs.declared.Call.{Call}
use Rattle.table.specs.declared.Call.TheVariants.{Clone, CloneNew, Unshare, Setns, Kill, Exit, Wait, Handle, Poll}
use Rattle.table.specs.declared.End.{End}
use Rattle.table.specs.declared.End.TheVariants.{Exited, Signaled}
use Rattle.table.specs.declared.Process.{Process}
use Rattle.table.specs.declared.State.TheVariants.{Running, Stopped, Ended}
use Rattle.table.specs.declared.Table.{Table}
use Rattle.table.specs.Records.{with_state, with_parent, with_children, with_traits, as_ended}

-- the table after a call
abbrev pub after : Table → ℕ → Call → Table
after t c call = (step t c call).table

-- ---- promise 1: an answer for each call, and what a refusal leaves

-- A refusal, an answer below 0, leaves the whole table unchanged and tells the host no slot.
unfoldable pub RefusalLeaves : Type 0
RefusalLeaves =
    (t : Table) (c k : ℕ) (call : Call) → number_of (step t c call).reply.answer ≡ negsuc k
    → (after t c call ≡ t) × ((step t c call).reply.child.0 ≡ no_slot)

-- Each negative number is given exactly when its row of the table says so and no earlier row does, on any table of the
-- declared type, by any caller: the number that an answer below 0 shows is that of the first row that holds.
unfoldable pub AnswersListed : Type 0
AnswersListed =
    (t : Table) (c : ℕ) (call : Call) → So (shaped t)
    → below_0 (number_of (step t c call).reply.answer) ≡ first (rows t c call)

-- ---- promise 2: soundness

-- Each call leaves a sound table sound.
unfoldable pub KeepsSound : Type 0
KeepsSound = (t : Table) (c : ℕ) (call : Call) → SoundTable t → SoundTable (after t c call)

-- ---- promise 2: namespaces, slots and numbers

-- A process never changes namespace. (No call frees a slot and gives it away again.)
unfoldable pub NamespaceFixed : Type 0
NamespaceFixed =
    (t : Table) (c i : ℕ) (call : Call) → SoundTable t → So (taken (view t) i) → So (taken (view (after t c call)) i)
    → (view (after t c call)).own i ≡ (view t).own i

-- A process that stays in the table, ended or not, keeps its numbers at all levels and its own namespace. (So a slot
-- that is taken before and after a call is the same process's: no call frees a slot and gives it away again.)
unfoldable pub NumbersKept : Type 0
NumbersKept =
    (t : Table) (c i : ℕ) (call : Call) → SoundTable t → So (taken (view t) i) → So (taken (view (after t c call)) i)
    → ((l : ℕ) → (view (after t c call)).pid i l ≡ (view t).pid i l)
    × ((view (after t c call)).own i ≡ (view t).own i)

-- A namespace slot that is taken before and after a call is the same namespace's: it keeps its parent and its level, a
-- living one its init unless it dies, and a dead one stays dead. (No call frees one and gives its slot away again.)
unfoldable pub NamespacesKept : Type 0
NamespacesKept =
    (t : Table) (c n : ℕ) (call : Call) → SoundTable t → So (namespace_taken (view t) n)
    → So (namespace_taken (view (after t c call)) n)
    → ((view (after t c call)).up n ≡ (view t).up n)
    × ((view (after t c call)).level n ≡ (view t).level n)
    × ((So (unborn (view t) n) → ⊥)
    → ((view (after t c call)).life n ≡ (view t).life n) ⊎ So (dead (view (after t c call)) n))

-- no process in the table, ended or not, has the number k in n
unfoldable pub Unused : View → ℕ → ℕ → Type 0
Unused v n k = (i : ℕ) → So (seen v n i) → pid_seen v n i ≡ k → ⊥

-- "A number": the lowest free number above the namespace's last; if there is none up to 32,767, the lowest free from
-- 300 (as Linux). An ended process keeps its numbers until removed.
pub record NextNumber (v : View) (n k : ℕ) : Type 0 where
  pub unused : Unused v n k
  pub within : (1 ≤ k) × (k ≤ greatest_pid)
  pub lowest :
      ((v.last n < k) × ((j : ℕ) → v.last n < j → j < k → Unused v n j → ⊥))
      ⊎ (((j : ℕ) → v.last n < j → j ≤ greatest_pid → Unused v n j → ⊥) × (restart_pid ≤ k) × ((j : ℕ) → restart_pid ≤ j → j < k → Unused v n j → ⊥))

-- Whoever is in the table after a call and was not before, a child that clone bore, has in its own namespace and in
-- each above it the next number there, which no process had before; and it becomes the last.
unfoldable pub NumberFresh : Type 0
NumberFresh =
    (t : Table) (c i : ℕ) (call : Call) → SoundTable t → (So (taken (view t) i) → ⊥)
    → So (taken (view (after t c call)) i)
    → (n : ℕ) → So (below (view (after t c call)) ((view (after t c call)).own i) n)
    → NextNumber (view t) n (pid_seen (view (after t c call)) n i)
    × ((view (after t c call)).last n ≡ pid_seen (view (after t c call)) n i)

-- The child at k that the caller bore into n, with the answer a, by a call that took t to u.
pub record Born (t u : Table) (c k n a : ℕ) : Type 0 where
  -- Its slot was the lowest that was empty.
  pub new : So (taken (view t) k) → ⊥
  pub lowest : (j : ℕ) → j < k → So (taken (view t) j)
  pub here : So (taken (view u) k)
  -- Its parent is the caller, its own namespace n, and its children's too; it runs, without signals.
  pub kin : ((view u).parent k ≡ c) × ((view u).own k ≡ n) × (children (view u) k ≡ n)
  pub bare : ((view u).state k ≡ Running) × (((view u).traits k).handled ≡ 0) × (((view u).traits k).pending ≡ 0)
  -- If n is unborn (or a slot not taken yet) the child is its init.
  pub first : So (unborn (view t) n) → So (alive (view u) n) × (init (view u) n ≡ k)
  -- The answer is its number in the caller's namespace.
  pub answer : a ≡ pid_seen (view u) ((view t).own c) k
  -- Nobody else's record changes.
  pub others : (i : ℕ) → (i ≡ k → ⊥) → process u i ≡ process t i

-- The namespace at n that the caller made, by a call that took t to u.
pub record MadeNamespace (t u : Table) (c n : ℕ) : Type 0 where
  -- Its slot was the lowest that was empty.
  pub new : So (namespace_taken (view t) n) → ⊥
  pub lowest : (m : ℕ) → m < n → So (namespace_taken (view t) m)
  -- Its parent is the caller's own.
  pub parent : (view u).up n ≡ (view t).own c

-- A granted clone tells the host the slot of exactly the child, and no other call tells one.
pub record CloneTells : Type 0 where
  pub plain :
      (t : Table) (c a : ℕ) → SoundTable t → number_of (step t c Clone).reply.answer ≡ pos a
      → Born t (after t c Clone) c (step t c Clone).reply.child.0 (children (view t) c) a
  pub in_new :
      (t : Table) (c a : ℕ) → SoundTable t → number_of (step t c CloneNew).reply.answer ≡ pos a
      → (n : ℕ)
      × Born t (after t c CloneNew) c (step t c CloneNew).reply.child.0 n a
      × MadeNamespace t (after t c CloneNew) c n
  pub no_other :
      (t : Table) (c : ℕ) (call : Call) → (call ≡ Clone → ⊥) → (call ≡ CloneNew → ⊥)
      → (step t c call).reply.child.0 ≡ no_slot

-- ---- promise 2: the caller's own record

-- The caller's children are born into n from now on, by a call that took t to u, and no other record changes; a
-- namespace but those that the call made is as it was, or it is freed, since nobody holds it any more.
pub record Turned (t u : Table) (c n : ℕ) : Type 0 where
  pub caller : process u c ≡ with_children (process t c) n
  pub others : (i : ℕ) → (i ≡ c → ⊥) → process u i ≡ process t i
  pub namespaces : (m : ℕ) → (m ≡ n → ⊥) → (namespace u m ≡ namespace t m) ⊎ (namespace u m ≡ empty_namespace)

-- What a granted unshare or setns does; the answer is 0.
pub record ChildrenTurn : Type 0 where
  -- unshare: an unborn namespace below the caller's own becomes its children's namespace.
  pub by_unshare :
      (t : Table) (c k : ℕ) → SoundTable t → number_of (step t c Unshare).reply.answer ≡ pos k
      → (k ≡ 0)
      × (n : ℕ)
      × Turned t (after t c Unshare) c n
      × MadeNamespace t (after t c Unshare) c n
      × So (unborn (view (after t c Unshare)) n)
  -- setns n: children's namespace becomes n's own. That one stays as it was.
  pub by_setns :
      (t : Table) (c k : ℕ) (n : ℤ) → SoundTable t → number_of (step t c (Setns n)).reply.answer ≡ pos k
      → (k ≡ 0)
      × (i : ℕ)
      × So (numbered (view t) c n i and not ((view t).ended i))
      × Turned t (after t c (Setns n)) c ((view t).own i)
      × (namespace (after t c (Setns n)) ((view t).own i) ≡ namespace t ((view t).own i))

-- Only the signals of the process at c change, by a call that took t to u.
pub record OwnSignals (t u : Table) (c : ℕ) : Type 0 where
  pub caller : process u c ≡ with_traits (process t c) ((view u).traits c)
  pub others : (i : ℕ) → (i ≡ c → ⊥) → process u i ≡ process t i
  pub namespaces : (n : ℕ) → namespace u n ≡ namespace t n

-- handle and poll change no more, granted or refused.
pub record SignalsOnly : Type 0 where
  pub by_handle : (t : Table) (c : ℕ) (s : ℤ) (on : Bool) → SoundTable t → OwnSignals t (after t c (Handle s on)) c
  pub by_poll : (t : Table) (c : ℕ) → SoundTable t → OwnSignals t (after t c Poll) c

-- ---- promise 2: wait

-- the process at i is an ended child of the caller
abbrev pub ended_child : View → ℕ → ℕ → Bool
ended_child v c i = child_of v c i and v.ended i

-- The process at i is removed by the caller's wait, which took t to u.
pub record Removes (t u : Table) (c i : ℕ) : Type 0 where
  -- Among the caller's ended children it is the one with the lowest number seen.
  pub child : So (ended_child (view t) c i)
  pub lowest : (j : ℕ) → So (ended_child (view t) c j) → pid_to (view t) c i ≤ pid_to (view t) c j
  -- It is removed, and nobody else is, or changed.
  pub removed : So (taken (view u) i) → ⊥
  pub others : (j : ℕ) → (j ≡ i → ⊥) → process u j ≡ process t j

-- What a wait that isn't refused answers, and does.
pub record WaitExact : Type 0 where
  -- Answer: the number of the one that is removed, and how it ended.
  pub removes :
      (t : Table) (c k : ℕ) (e : End) → SoundTable t → number_of (step t c Wait).reply.answer ≡ pos k
      → end_of (step t c Wait).reply.answer ≡ some e
      → (i : ℕ) × Removes t (after t c Wait) c i × (k ≡ pid_to (view t) c i) × ((view t).state i ≡ Ended e)
  -- Children but none ended: 0, and nothing changes.
  pub none_ended :
      (t : Table) (c k : ℕ) → SoundTable t → number_of (step t c Wait).reply.answer ≡ pos k
      → end_of (step t c Wait).reply.answer ≡ none
      → (k ≡ 0) × (after t c Wait ≡ t) × ((i : ℕ) → So (ended_child (view t) c i) → ⊥)
  -- No other call says how a process ended.
  pub no_other : (t : Table) (c : ℕ) (call : Call) → (call ≡ Wait → ⊥) → end_of (step t c call).reply.answer ≡ none

-- ---- promise 2: signals

-- A signal finds exactly the processes of the caller's namespace and those below: who is found, and that nobody's
-- record changes whom the caller does not see.
pub record SignalFinds : Type 0 where
  pub finds :
      (t : Table) (c i : ℕ) (n : ℤ) → SoundTable t → So (runs (view t) c)
      → So (some_of (eqb i) (targets (view t) c n)) ↔ So (meant (view t) c n i)
  pub spares :
      (t : Table) (c i : ℕ) (n s : ℤ) → SoundTable t → (So (seen (view t) ((view t).own c) i) → ⊥)
      → process (after t c (Kill n s)) i ≡ process t i

-- the parent of the process at i once t has become u: the one it had or, if that one has ended meanwhile, the init of
-- that one's namespace
unfoldable pub parent_after : Table → Table → ℕ → ℕ
parent_after t u i =
    let p = (view t).parent i in
    when living (view t) p and not (living (view u) p) then init (view t) ((view t).own p) else p

-- the record after the action of signal s on it, all else left as it is
unfoldable pub after_action : Process → ℕ → Action → Process
after_action q s Nothing = q
after_action q s Resume = resumed q
after_action q s Stop = with_state q Stopped
after_action q s Finish = as_ended q (Signaled s)
after_action q s Pend = with_pending q s

-- the process at j is an init that the kill ends: by 9, from a namespace above
unfoldable pub ends_init : View → ℕ → ℤ → ℤ → ℕ → Bool
ends_init v c n s j =
    meant v c n j and living v j and is_init v j and not (eqb (v.own j) (v.own c)) and eqb (natural s) sigkill

-- the process at i falls with such an init: it lies in the init's subtree
abbrev pub Falls : View → ℕ → ℤ → ℤ → ℕ → Type 0
Falls v c n s i = (j : ℕ) × So (ends_init v c n s j) × So (seen v (v.own j) i)

-- A granted kill n s by the process at c.
pub record SignalDone (t u : Table) (c : ℕ) (n s : ℤ) : Type 0 where
  -- Removed are exactly those who lie with their parent in the subtree of an init that the kill ends.
  pub removed :
      (i : ℕ) → So (taken (view t) i)
      → (So (taken (view u) i) → ⊥)
      ↔ ((j : ℕ) × So (ends_init (view t) c n s j) × So (seen (view t) ((view t).own j) i) × So (seen (view t) ((view t).own j) ((view t).parent i)))
  -- The others of such a subtree stay for their outside parent, ended: by 9, if not before.
  pub swept :
      (i : ℕ) → Falls (view t) c n s i → So (taken (view u) i)
      → process u i
      ≡ with_parent (when (view t).ended i then process t i else as_ended (process t i) (Signaled sigkill)) (parent_after t u i)
  -- Who is meant, in no such subtree, gets what the signal does to it.
  pub reached :
      (i : ℕ) → (Falls (view t) c n s i → ⊥) → So (meant (view t) c n i)
      → process u i
      ≡ with_parent (after_action (process t i) (natural s) (action_on (view t) ((view t).own c) i (natural s))) (parent_after t u i)
  -- Nobody else's record changes, but that orphans are handed over.
  pub spared :
      (i : ℕ) → (Falls (view t) c n s i → ⊥) → (So (meant (view t) c n i) → ⊥)
      → process u i ≡ with_parent (process t i) (parent_after t u i)

-- Each kill that is granted does so; the answer is 0.
unfoldable pub SignalExact : Type 0
SignalExact =
    (t : Table) (c k : ℕ) (n s : ℤ) → SoundTable t → number_of (step t c (Kill n s)).reply.answer ≡ pos k
    → (k ≡ 0) × SignalDone t (after t c (Kill n s)) c n s

-- kill 1 9 by an init on itself: 0, and the whole table stays as it was.
unfoldable pub InitSpared : Type 0
InitSpared =
    (t : Table) (c : ℕ) → SoundTable t → So (runs (view t) c) → So (is_init (view t) c)
    → (number_of (step t c (Kill (pos 1) (pos sigkill))).reply.answer ≡ pos 0)
    × (after t c (Kill (pos 1) (pos sigkill)) ≡ t)

-- ---- promise 2: ends

-- A namespace's first process takes its whole subtree down: after a call in which the init of a living n ended, every
-- process of the subtree is ended or removed, and every namespace of it is dead or freed.
unfoldable pub SubtreeFalls : Type 0
SubtreeFalls =
    (t : Table) (c n : ℕ) (call : Call) → SoundTable t → So (alive (view t) n)
    → (So (living (view (after t c call)) (init (view t) n)) → ⊥)
    → ((i : ℕ) → So (seen (view t) n i) → So (living (view (after t c call)) i) → ⊥)
    × ((m : ℕ) → So (below (view t) m n) → So (namespace_taken (view (after t c call)) m)
    → So (dead (view (after t c call)) m))

-- "An end", of the init at c, for the reason e, by a call that took t to u.
pub record EndsExactly (t u : Table) (c : ℕ) (e : End) : Type 0 where
  -- Removed are exactly those of the subtree whose parent lies in the subtree, ended before or now.
  pub removed :
      (i : ℕ) → So (taken (view t) i)
      → (So (taken (view u) i) → ⊥)
      ↔ (So (seen (view t) ((view t).own c) i) × So (seen (view t) ((view t).own c) ((view t).parent i)))
  -- The others of the subtree stay for their outside parent, ended: the init for its own reason, one that had ended
  -- before for the reason it had, and each other by signal 9.
  pub left :
      (i : ℕ) → So (seen (view t) ((view t).own c) i) → (So (seen (view t) ((view t).own c) ((view t).parent i)) → ⊥)
      → (view u).state i ≡ (when eqb i c then Ended e else (when (view t).ended i then (view t).state i else Ended (Signaled sigkill)))
  -- Nobody outside the subtree is ended, or changed at all.
  pub outside : (i : ℕ) → (So (seen (view t) ((view t).own c) i) → ⊥) → process u i ≡ process t i

-- An init other than the root's ends so by its exit, and by a signal 9 sent to it by number from a namespace above.
pub record EndExact : Type 0 where
  pub by_exit :
      (t : Table) (c : ℕ) (s : ℤ) → SoundTable t → So (runs (view t) c) → So (is_init (view t) c) → (c ≡ 0 → ⊥)
      → EndsExactly t (after t c (Exit s)) c (Exited (status s))
  pub by_signal :
      (t : Table) (c i : ℕ) → SoundTable t → So (runs (view t) c) → So (living (view t) i) → So (is_init (view t) i)
      → So (seen (view t) ((view t).own c) i) → ((view t).own i ≡ (view t).own c → ⊥)
      → EndsExactly t (after t c (Kill (pos (pid_to (view t) c i)) (pos sigkill))) i (Signaled sigkill)

-- "An end", of the process at p, no init, for the reason e, by a call that took t to u.
pub record MemberEnds (t u : Table) (p : ℕ) (e : End) : Type 0 where
  -- It is ended and keeps its numbers, its namespace and its parent.
  pub itself : process u p ≡ as_ended (process t p) e
  -- Its children go to the init of its namespace.
  pub children :
      (i : ℕ) → So (child_of (view t) p i) → process u i ≡ with_parent (process t i) (init (view t) ((view t).own p))
  -- Nobody else changes.
  pub others : (i : ℕ) → (i ≡ p → ⊥) → (So (child_of (view t) p i) → ⊥) → process u i ≡ process t i

-- One that is no init ends so by its exit, and by a signal sent to it by number whose action is to end it.
pub record MemberEndExact : Type 0 where
  pub by_exit :
      (t : Table) (c : ℕ) (s : ℤ) → SoundTable t → So (runs (view t) c) → (So (is_init (view t) c) → ⊥)
      → MemberEnds t (after t c (Exit s)) c (Exited (status s))
  pub by_signal :
      (t : Table) (c i s : ℕ) → SoundTable t → So (runs (view t) c) → So (seen (view t) ((view t).own c) i)
      → (So (is_init (view t) i) → ⊥) → s < signals → action_on (view t) ((view t).own c) i s ≡ Finish
      → MemberEnds t (after t c (Kill (pos (pid_to (view t) c i)) (pos s))) i (Signaled s)
