-- "When a table is sound": a test for each sentence of document 01, in its order.
use Rattle.std.specs.Prelude.{ℕ, zero, suc, Bool, true, false, not, eqb, leb, ltb, length}
use Rattle.std.proofs.Math.Bool.{So}
use Rattle.table.specs.Limits.{process_slots, namespace_slots, levels, deepest, greatest_pid, no_slot, hold_slots, signals, statuses}
use Rattle.table.specs.Slots.{process, is_running}
use Rattle.rules.specs.Read.{View, view, taken, namespace_taken, living, children, alive, dead, unborn, init, below, seen, pid_seen, numbers, unlike}
use Rattle.table.specs.Tests.{◌and◌, ◌or◌, ◌implies◌, agree, when◌then◌else◌, all, any, one}
use Rattle.table.specs.declared.End.TheVariants.{Exited, Signaled}
use Rattle.table.specs.declared.State.{State}
use Rattle.table.specs.declared.State.TheVariants.{Running, Stopped, Ended}
use Rattle.table.specs.declared.Table.{Table}
use Rattle.table.specs.Traits.{blank_traits, bare_traits, traits_ok, traits_shaped}

-- f holds of each process
abbrev pub each_process : View → (ℕ → Bool) → Bool
each_process v f = all process_slots (λ i. taken v i implies f i)

-- of each but the root init
abbrev pub each_other_process : View → (ℕ → Bool) → Bool
each_other_process v f = each_process v (λ i. eqb i 0 or f i)

-- of each namespace
abbrev pub each_namespace : View → (ℕ → Bool) → Bool
each_namespace v f = all namespace_slots (λ n. namespace_taken v n implies f n)

-- of each but the root
abbrev pub each_other_namespace : View → (ℕ → Bool) → Bool
each_other_namespace v f = each_namespace v (λ n. eqb n 0 or f n)

-- Process slot 0 is the root init, not ended, own namespace slot 0, number 1, no parent;
unfoldable pub root_process : View → Bool
root_process v = eqb (init v 0) 0 and living v 0 and eqb (v.own 0) 0 and eqb (v.pid 0 0) 1 and eqb (v.parent 0) no_slot

-- every other process has one (a parent).
unfoldable pub have_parents : View → Bool
have_parents v = each_other_process v (λ i. taken v (v.parent i))

-- Namespace slot 0 is alive, level 0, without a parent.
unfoldable pub root_namespace : View → Bool
root_namespace v = alive v 0 and eqb (v.level 0) 0 and eqb (v.up 0) no_slot

-- A living namespace's init belongs to it and isn't ended.
unfoldable pub inits : View → Bool
inits v = each_namespace v (λ n. alive v n implies living v (init v n) and eqb (v.own (init v n)) n)

-- all zero, and running
unfoldable pub zero_process : View → ℕ → Bool
zero_process v i =
    eqb (v.own i) 0 and all hold_slots (λ k. eqb (v.hold i k) 0) and eqb (v.parent i) 0 and is_running (v.state i)
    and blank_traits (v.traits i) and all levels (λ l. eqb (v.pid i l) 0)

-- all zero, and unborn
unfoldable pub zero_namespace : View → ℕ → Bool
zero_namespace v n = eqb (v.up n) 0 and eqb (v.level n) 0 and eqb (v.last n) 0 and unborn v n

-- Empty slots are all zero (running, unborn).
unfoldable pub empty_slots : View → Bool
empty_slots v =
    all process_slots (λ i. taken v i or zero_process v i)
    and all namespace_slots (λ n. namespace_taken v n or zero_namespace v n)

-- Each other namespace has a taken parent one level up and a level of at most 32 (W-206);
unfoldable pub namespace_tree : View → Bool
namespace_tree v =
    each_other_namespace v
    (λ n. namespace_taken v (v.up n) and eqb (v.level n) (suc (v.level (v.up n))) and leb (v.level n) deepest)

-- all below a dead one are dead. (From parent to child. It follows from the other sentences.)
unfoldable pub below_dead : View → Bool
below_dead v = each_other_namespace v (λ n. dead v (v.up n) implies dead v n)

-- the process at i holds n for its children
unfoldable pub holds : View → ℕ → ℕ → Bool
holds v n i = taken v i and any hold_slots (λ k. eqb (v.hold i k) n)

-- n has last number 0, no members, no namespace below it and one holder, whose own namespace is its parent.
unfoldable pub unborn_namespace : View → ℕ → Bool
unborn_namespace v n =
    eqb (v.last n) 0
    and each_process v (λ i. not (eqb (v.own i) n))
    and each_other_namespace v (λ m. not (eqb (v.up m) n))
    and one process_slots (holds v n)
    and all process_slots (λ i. holds v n i implies eqb (v.own i) (v.up n))

-- An unborn one is such.
unfoldable pub unborn_namespaces : View → Bool
unborn_namespaces v = each_namespace v (λ n. unborn v n implies unborn_namespace v n)

-- Last numbers are 0 to 32,767.
unfoldable pub last_pids : View → Bool
last_pids v = all namespace_slots (λ n. leb (v.last n) greatest_pid)

-- Numbers are 1 to 32,767 up to the own level and 0 beyond;
unfoldable pub pid_range : View → Bool
pid_range v =
    each_process v
    (λ i. all levels
    (λ l. when leb l (v.level (v.own i)) then leb 1 (v.pid i l) and leb (v.pid i l) greatest_pid else eqb (v.pid i l) 0))

-- no two processes share one in the same namespace;
unfoldable pub pids_differ : View → Bool
pids_differ v =
    each_namespace v
    (λ n. all process_slots (λ i. seen v n i implies all i (λ j. unlike v n (numbers v i) (numbers v j))))

-- in a living namespace its init alone has 1.
unfoldable pub first_pids : View → Bool
first_pids v =
    each_namespace v
    (λ n. alive v n implies all process_slots (λ i. seen v n i implies agree (eqb (pid_seen v n i) 1) (eqb i (init v n))))

-- Members of a dead namespace are ended, (A member's own namespace is a taken slot.)
unfoldable pub dead_members : View → Bool
dead_members v = each_process v (λ i. namespace_taken v (v.own i) and (dead v (v.own i) implies v.ended i))

-- and none belongs to an unborn one. (It follows from the sentence on unborn namespaces.)
unfoldable pub unborn_members : View → Bool
unborn_members v = each_process v (λ i. not (unborn v (v.own i)))

-- following parents, at most k of them, reaches slot 0
unfoldable pub reaches_root : (ℕ → ℕ) → ℕ → ℕ → Bool
reaches_root parent zero i = eqb i 0
reaches_root parent (suc k) i = elim (eqb i 0) [ true ↦ true | false ↦ reaches_root parent k (parent i) ]

-- Each parent is not ended, its own namespace is the child's or above it, and following parents reaches slot 0.
-- (As many parents as there are slots are enough: a way that passes more comes to some slot twice, and goes round in a
-- circle for ever.)
unfoldable pub parents : View → Bool
parents v =
    each_other_process v
    (λ i. not (v.ended (v.parent i)) and below v (v.own i) (v.own (v.parent i)) and reaches_root v.parent process_slots i)

-- Any process but the root init with number 1 in its own namespace has its parent in the parent namespace.
unfoldable pub first_parents : View → Bool
first_parents v =
    each_other_process v
    (λ i. eqb (pid_seen v (v.own i) i) 1 implies eqb (v.own (v.parent i)) (v.up (v.own i)))

-- A living process's children's namespace is its own or below.
unfoldable pub children_namespaces : View → Bool
children_namespaces v =
    each_process v (λ i. living v i implies namespace_taken v (children v i) and below v (children v i) (v.own i))

-- Handled signals are within 1 to 31 without 9 and 19; pending ones are among the handled. (`traits_ok` of `table`'s
-- specs/Traits.antt)
unfoldable pub process_traits : View → Bool
process_traits v = each_process v (λ i. traits_ok (v.traits i))

-- An ended process has no children's namespace or signals;
unfoldable pub ended_bare : View → Bool
ended_bare v =
    each_process v
    (λ i. v.ended i implies all hold_slots (λ k. eqb (v.hold i k) no_slot) and bare_traits (v.traits i))

-- a kept number is 0 to 255, a signal 1 to 31
abbrev pub kept_end : State → Bool
kept_end Running = true
kept_end Stopped = true
kept_end (Ended (Exited k)) = ltb k statuses
kept_end (Ended (Signaled s)) = leb 1 s and ltb s signals

-- its kept number is 0 to 255, or its signal 1 to 31.
unfoldable pub ends_kept : View → Bool
ends_kept v = each_process v (λ i. kept_end (v.state i))

-- some process, ended or not, has n as own, some process holds it for children, it has a child namespace, or it is the
-- root (004)
unfoldable pub held : View → ℕ → Bool
held v n =
    eqb n 0
    or any process_slots (λ i. taken v i and eqb (v.own i) n)
    or any process_slots (holds v n)
    or any namespace_slots (λ m. not (eqb m 0) and namespace_taken v m and eqb (v.up m) n)

-- A namespace slot is taken exactly if that is so.
unfoldable pub namespaces_held : View → Bool
namespaces_held v = all namespace_slots (λ n. agree (namespace_taken v n) (held v n))

-- A table is sound if it meets each sentence.
unfoldable pub sound_view : View → Bool
sound_view v =
    root_process v and have_parents v and root_namespace v and inits v and empty_slots v and namespace_tree v and below_dead v
    and unborn_namespaces v and last_pids v and pid_range v and pids_differ v and first_pids v and dead_members v
    and unborn_members v and parents v and first_parents v and children_namespaces v and process_traits v
    and ended_bare v and ends_kept v and namespaces_held v

-- the same of a table
abbrev pub sound : Table → Bool
sound t = sound_view (view t)

-- What the declared types give of themselves, and a list and a number of the definitions do not: the arrays' lengths,
-- and that no set of signals has a bit past signal 31. No table of the code lacks it, so no call tests it.
unfoldable pub shaped : Table → Bool
shaped t =
    eqb (length t.processes) process_slots and eqb (length t.namespaces) namespace_slots
    and all process_slots
    (λ i. eqb (length (process t i).pids) levels and traits_shaped (process t i).traits)

-- A sound table of the declared type.
pub record SoundTable (t : Table) : Type 0 where
  pub shape : So (shaped t)
  pub rules : So (sound t)
