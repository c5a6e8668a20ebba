-- The four touches by which an outsider may change the sheet of S (a touch is document 01's own term).
use Rattle.std.specs.Prelude.{ℕ, Bool, true, false, not, List, [], ◌∷◌, eqb, ℤ}
use Rattle.rules.specs.Answers.{is_refused}
use Rattle.rules.specs.Calls.{natural, targets}
use Rattle.sameness.specs.Events.{Place, at, gone, Event, inside, outside, is_inside, namespace_inside, next_table, next_place}
use Rattle.table.specs.Limits.{process_slots, namespace_slots}
use Rattle.rules.specs.Read.{view, taken, living, children, alive, below}
use Rattle.rules.specs.Step.{step}
use Rattle.table.specs.Tests.{◌and◌, ◌or◌, any, some_of}
use Rattle.table.specs.declared.Call.{Call}
use Rattle.table.specs.declared.Call.TheVariants.{Clone, CloneNew, Unshare, Setns, Kill, Exit, Wait, Getpid, Getppid, Handle, Poll}
use Rattle.table.specs.declared.Table.{Table}

-- A child cloned into the subtree; clone new makes a namespace below the caller's own, which is outside.
unfoldable pub clones_into : Table → Place → ℕ → Bool
clones_into t p c = namespace_inside t p (children (view t) c)

-- a signal sent to a process in it. (Signal 0 is none, and an ended process takes none.)
unfoldable pub signals_into : Table → Place → List ℕ → ℤ → Bool
signals_into t p is s = not (eqb (natural s) 0) and some_of (λ i. is_inside t p i and living (view t) i) is

-- the end of an init above S: a namespace above S lives in the table t before the call and not in u after it
unfoldable pub ends_above : Table → Table → Place → Bool
ends_above t u (at s) =
    any namespace_slots (λ n. not (eqb n s) and below (view t) s n and alive (view t) n and not (alive (view u) n))
ends_above t u (gone l) = false

-- a wait that removes one of its processes
unfoldable pub removes_from : Table → Table → Place → Bool
removes_from t u p = any process_slots (λ i. is_inside t p i and not (taken (view u) i))

-- the touches of a call by the process at c that took the table t to u
unfoldable pub touched : Table → Table → Place → ℕ → Call → Bool
touched t u p c Clone = clones_into t p c
touched t u p c CloneNew = false
touched t u p c Unshare = false
touched t u p c (Setns n) = false
touched t u p c (Kill n s) = signals_into t p (targets (view t) c n) s or ends_above t u p
touched t u p c (Exit s) = ends_above t u p
touched t u p c Wait = removes_from t u p
touched t u p c Getpid = false
touched t u p c Getppid = false
touched t u p c (Handle s on) = false
touched t u p c Poll = false

-- A refused call makes none.
unfoldable pub touches : Table → Place → ℕ → Call → Bool
touches t p c call = not (is_refused (step t c call).reply.answer) and touched t (step t c call).table p c call

-- Whether a call is outside, and whether it makes a touch, is judged on the table that it gets.
unfoldable pub allowed : Table → Place → Event → Bool
allowed t p (inside k c) = true
allowed t p (outside i c) = not (is_inside t p i) and not (touches t p i c)

-- each outside call of the list is one and makes no touch
unfoldable pub untouched : Table → Place → List Event → Bool
untouched t p [] = true
untouched t p (e ∷ es) = allowed t p e and untouched (next_table t p e) (next_place t p e) es
