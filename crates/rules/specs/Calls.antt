-- "The calls", by a running caller c of a sound table. Each is the list of its refusals, in document 01's order
-- (-22, -38, -3, -16, -10, -28, -12, -11), and what it gives where none of them holds.
use Rattle.std.specs.Prelude.{ℕ, zero, suc, pred, ◌-◌, ◌%◌, Bool, false, not, List, [], ◌∷◌, eqb, leb, ltb, ℤ, pos, negsuc, length}
use Rattle.rules.specs.Answers.{judged, granted, answers}
use Rattle.rules.specs.Births.{birth}
use Rattle.rules.specs.Delivery.{deliver_all}
use Rattle.rules.specs.Ends.{end}
use Rattle.rules.specs.Freeing.{freed}
use Rattle.table.specs.Fresh.{empty_process}
use Rattle.table.specs.Limits.{process_slots, namespace_slots, deepest, signals, sigkill, sigstop, statuses}
use Rattle.rules.specs.Pids.{next_pid, free_slot, free_namespace_slot}
use Rattle.table.specs.Slots.{process, put, put_namespace}
use Rattle.rules.specs.Read.{View, view, children, dead, pid_seen, pid_in, find, all_seen, child_of}
use Rattle.table.specs.SignalSets.{with_signal, without_signal, lowest_signal}
use Rattle.table.specs.Tests.{◌and◌, ◌or◌, when◌then◌else◌, any, least, only}
use Rattle.table.specs.declared.Answer.TheVariants.{Number, Reaped}
use Rattle.table.specs.declared.End.TheVariants.{Exited}
use Rattle.table.specs.declared.Outcome.{Outcome}
use Rattle.table.specs.declared.Process.{Process}
use Rattle.table.specs.declared.Refusal.{Refusal}
use Rattle.table.specs.declared.Refusal.TheVariants.{Einval, Enosys, Esrch, Ebusy, Echild, Enospc, Enomem, Eagain}
use Rattle.table.specs.declared.State.{State}
use Rattle.table.specs.declared.State.TheVariants.{Running, Stopped, Ended}
use Rattle.table.specs.declared.Table.{Table}
use Rattle.table.specs.Records.{to_pid, with_children, with_traits, blank_namespace, placed}
use Rattle.table.specs.Traits.{with_signals}

-- ---- arguments: `pos k` is k, and `negsuc k` is -(k + 1)

-- the number is from a to b - 1
abbrev pub within : ℕ → ℕ → ℤ → Bool
within a b (pos k) = leb a k and ltb k b
within a b (negsuc k) = false

-- the number, or 0 for one below 0
abbrev pub natural : ℤ → ℕ
natural (pos k) = k
natural (negsuc k) = 0

-- the number of the process at i, as seen from the caller's own namespace
abbrev pub pid_to : View → ℕ → ℕ → ℕ
pid_to v c i = pid_seen v (v.own c) i

-- the level of that namespace; where it is the deepest, 32 (W-206), unshare and clone new give -28
abbrev pub own_level : View → ℕ → ℕ
own_level v c = v.level (v.own c)

-- -22 of unshare and clone new: the children's namespace isn't the caller's own (W-203).
abbrev pub elsewhere : View → ℕ → Bool
elsewhere v c = not (eqb (children v c) (v.own c))

-- No room: 64 processes, or 48 namespaces (W-206), counted before the call.
abbrev pub processes_full : View → Bool
processes_full v = eqb (free_slot v) process_slots

-- likewise of namespaces
abbrev pub namespaces_full : View → Bool
namespaces_full v = eqb (free_namespace_slot v) namespace_slots

-- ---- clone

-- Answer: the child's number in the caller's namespace. The host is told its slot. (u is the table with the child.)
abbrev pub born : Table → ℕ → Table → Outcome
born t c u =
    record { reply = record { answer = Number (next_pid (view t) ((view t).own c)); child = record { 0 = free_slot (view t) } }; table = u }

-- Plain: the child's own namespace is the caller's children's namespace.
abbrev pub clone_refusals : View → ℕ → List (Refusal × Bool)
clone_refusals v c =
    (Enomem, dead v (children v c))
    ∷ (Eagain, processes_full v)
    ∷ []

abbrev pub clone_gives : Table → ℕ → Unit {0} → Outcome
clone_gives t c z = born t c (birth t c (children (view t) c))

unfoldable pub clone : Table → ℕ → Outcome
clone t c = judged t (clone_refusals (view t) c) (clone_gives t c)

-- an unborn namespace, in the lowest free slot, whose parent is the caller's own
unfoldable pub new_namespace : Table → ℕ → Table
new_namespace t c =
    put_namespace t (free_namespace_slot (view t))
    (placed blank_namespace ((view t).own c) (suc (own_level (view t) c)))

-- the refusals of clone new and of unshare, which differ in what there is to be room for
abbrev pub making_refusals : View → ℕ → Bool → List (Refusal × Bool)
making_refusals v c no_room =
    (Einval, elsewhere v c)
    ∷ (Enospc, leb deepest (own_level v c))
    ∷ (Eagain, no_room)
    ∷ []

-- New: a fresh namespace whose parent is the caller's own, child as init.
abbrev pub clone_new_refusals : View → ℕ → List (Refusal × Bool)
clone_new_refusals v c = making_refusals v c (processes_full v or namespaces_full v)

abbrev pub clone_new_gives : Table → ℕ → Unit {0} → Outcome
clone_new_gives t c z = born t c (birth (new_namespace t c) c (free_namespace_slot (view t)))

unfoldable pub clone_new : Table → ℕ → Outcome
clone_new t c = judged t (clone_new_refusals (view t) c) (clone_new_gives t c)

-- ---- unshare and setns

-- The caller's children's namespace becomes n; the caller's own stays.
unfoldable pub set_children : Table → ℕ → ℕ → Table
set_children t c n = freed (put t c (with_children (process t c) n))

-- unshare: an unborn namespace below the caller's own becomes its children's namespace; 0.
abbrev pub unshare_refusals : View → ℕ → List (Refusal × Bool)
unshare_refusals v c = making_refusals v c (namespaces_full v)

abbrev pub unshare_gives : Table → ℕ → Unit {0} → Outcome
unshare_gives t c z = answers (set_children (new_namespace t c) c (free_namespace_slot (view t))) 0

unfoldable pub unshare : Table → ℕ → Outcome
unshare t c = judged t (unshare_refusals (view t) c) (unshare_gives t c)

-- the slot of the process that a number names in the caller's namespace, or 64; nobody has a number of 0 or below
unfoldable pub named : View → ℕ → ℤ → ℕ
named v c (pos zero) = process_slots
named v c (pos (suc k)) = find v (v.own c) (suc k)
named v c (negsuc k) = process_slots

-- setns n: children's namespace becomes n's own; 0.
abbrev pub setns_refusals : View → ℕ → ℤ → List (Refusal × Bool)
setns_refusals v c n =
    let i = named v c n in
    (Esrch, eqb i process_slots or v.ended i)
    ∷ []

abbrev pub setns_gives : Table → ℕ → ℤ → Unit {0} → Outcome
setns_gives t c n z = answers (set_children t c ((view t).own (named (view t) c n))) 0

unfoldable pub setns : Table → ℕ → ℤ → Outcome
setns t c n = judged t (setns_refusals (view t) c n) (setns_gives t c n)

-- ---- getpid and getppid

-- getpid: number in the own namespace.
unfoldable pub getpid : Table → ℕ → Outcome
getpid t c = answers t (pid_to (view t) c c)

-- getppid: parent's number there, or 0 if the parent is outside or there is none.
unfoldable pub getppid : Table → ℕ → Outcome
getppid t c = answers t (pid_in (view t) ((view t).own c) ((view t).parent c))

-- ---- exit and wait

-- the remainder by 256, from 0 to 255, so -1 gives 255
abbrev pub status : ℤ → ℕ
status (pos k) = k % statuses
status (negsuc k) = pred statuses - k % statuses

-- exit s: the remainder is kept. The process ends; 0. The root init's is refused.
abbrev pub exit_refusals : ℕ → List (Refusal × Bool)
exit_refusals c =
    (Ebusy, eqb c 0)
    ∷ []

abbrev pub exit_gives : Table → ℕ → ℤ → Unit {0} → Outcome
exit_gives t c s z = answers (freed (end t c (Exited (status s)))) 0

unfoldable pub exit : Table → ℕ → ℤ → Outcome
exit t c s = judged t (exit_refusals c) (exit_gives t c s)

-- the slot of the caller's ended child with the lowest number seen, or 64
unfoldable pub first_ended : View → ℕ → ℕ
first_ended v c = least (λ i. child_of v c i and v.ended i) (pid_to v c) process_slots process_slots

-- The child at i, which is in a state, is removed if it has ended; answer its number and how it ended.
unfoldable pub reap : Table → ℕ → ℕ → State → Outcome
reap t c i Running = answers t 0
reap t c i Stopped = answers t 0
reap t c i (Ended e) = granted (freed (put t i empty_process)) (Reaped (to_pid (pid_to (view t) c i)) e)

-- wait: among the caller's ended children, the one with the lowest number seen is removed. Children but none ended: 0.
abbrev pub wait_refusals : View → ℕ → List (Refusal × Bool)
wait_refusals v c =
    (Echild, not (any process_slots (child_of v c)))
    ∷ []

abbrev pub wait_gives : Table → ℕ → Unit {0} → Outcome
wait_gives t c z = reap t c (first_ended (view t) c) ((view t).state (first_ended (view t) c))

unfoldable pub wait : Table → ℕ → Outcome
wait t c = judged t (wait_refusals (view t) c) (wait_gives t c)

-- ---- handle and poll

-- with signal s handled
unfoldable pub handle_on : Process → ℕ → Process
handle_on p s = with_traits p (with_signals p.traits (with_signal p.traits.handled s) p.traits.pending)

-- off also drops a pending s
unfoldable pub handle_off : Process → ℕ → Process
handle_off p s =
    with_traits p
    (with_signals p.traits (without_signal p.traits.handled s) (without_signal p.traits.pending s))

-- handle s on or off: 0.
abbrev pub handle_refusals : ℤ → List (Refusal × Bool)
handle_refusals s =
    (Einval, not (within 1 signals s) or eqb (natural s) sigkill or eqb (natural s) sigstop)
    ∷ []

abbrev pub handle_gives : Table → ℕ → ℤ → Bool → Unit {0} → Outcome
handle_gives t c s on z =
    answers (put t c (when on then handle_on (process t c) (natural s) else handle_off (process t c) (natural s))) 0

unfoldable pub handle : Table → ℕ → ℤ → Bool → Outcome
handle t c s on = judged t (handle_refusals s) (handle_gives t c s on)

-- with signal s no longer pending
unfoldable pub taken_up : Process → ℕ → Process
taken_up p s = with_traits p (with_signals p.traits p.traits.handled (without_signal p.traits.pending s))

-- poll: lowest pending signal, then dropped, or 0.
unfoldable pub poll : Table → ℕ → Outcome
poll t c =
    let s = lowest_signal (process t c).traits.pending in
    when eqb s signals then answers t 0
    else answers (put t c (taken_up (process t c) s)) s

-- ---- kill

-- n = -1 means all seen but the caller and number 1, in ascending number.
unfoldable pub others : View → ℕ → List ℕ
others v c = only (λ i. not (eqb i c) and not (eqb (pid_to v c i) 1)) (all_seen v (v.own c))

-- Whom a kill finds, before any delivery: the one of that number in the caller's namespace, or the others.
unfoldable pub targets : View → ℕ → ℤ → List ℕ
targets v c (pos n) = when eqb (named v c (pos n)) process_slots then [] else named v c (pos n) ∷ []
targets v c (negsuc n) = others v c

-- 0 or below -1
abbrev pub names_group : ℤ → Bool
names_group (pos n) = eqb n 0
names_group (negsuc n) = not (eqb n 0)

-- kill n s: 0 if found.
abbrev pub kill_refusals : View → ℕ → ℤ → ℤ → List (Refusal × Bool)
kill_refusals v c n s =
    (Einval, not (within 0 signals s))
    ∷ (Enosys, names_group n)
    ∷ (Esrch, eqb (length (targets v c n)) 0)
    ∷ []

abbrev pub kill_gives : Table → ℕ → ℤ → ℤ → Unit {0} → Outcome
kill_gives t c n s z = answers (freed (deliver_all t ((view t).own c) (targets (view t) c n) (natural s))) 0

unfoldable pub kill : Table → ℕ → ℤ → ℤ → Outcome
kill t c n s = judged t (kill_refusals (view t) c n s) (kill_gives t c n s)
