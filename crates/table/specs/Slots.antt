-- A table by its slots: what stands at each, the conditions that a record can be in, and a table with a record changed.
use Rattle.std.specs.Prelude.{ℕ, zero, suc, Bool, true, false, [], get_or, set}
use Rattle.table.specs.Limits.{process_slots, namespace_slots, no_slot}
use Rattle.table.specs.Records.{to_pid, blank_process, blank_namespace}
use Rattle.table.specs.Tests.{changed_to}
use Rattle.table.specs.declared.Life.{Life}
use Rattle.table.specs.declared.Life.TheVariants.{Unborn, Alive, Dead}
use Rattle.table.specs.declared.Namespace.{Namespace}
use Rattle.table.specs.declared.Pid.{Pid}
use Rattle.table.specs.declared.Process.{Process}
use Rattle.table.specs.declared.State.{State}
use Rattle.table.specs.declared.State.TheVariants.{Running, Stopped, Ended}
use Rattle.table.specs.declared.Table.{Table}

-- ---- what is read past the end of an array: all zero, running, unborn

abbrev pub no_pid : Pid
no_pid = to_pid 0

-- Nothing is stored there. Rattle's logic reads an array past its end as zeros, and a list within as empty, so this
-- record has no numbers at all: with the same default here, what the code reads is what the definitions read. What the
-- code stores in a freed slot is another record, `empty_process` of Fresh.antt, with a number 0 for each level. The two
-- read alike, since each number of either reads as 0 (`rules`' proofs/Laws/ReadAt.antt).
abbrev pub no_process : Process
no_process = blank_process []

-- (A namespace has no list, so this one and `empty_namespace` of Fresh.antt are the same.)
abbrev pub no_namespace : Namespace
no_namespace = blank_namespace

-- ---- what stands at a slot

-- the process
abbrev pub process : Table → ℕ → Process
process t i = get_or t.processes i no_process

-- the namespace
abbrev pub namespace : Table → ℕ → Namespace
namespace t n = get_or t.namespaces n no_namespace

-- a process's number at a level
abbrev pub pid_at : Process → ℕ → ℕ
pid_at p l = (get_or p.pids l no_pid).0

-- a namespace that a process holds beside its own, by an index: at 0 that of its children; past the last, none
abbrev pub hold_at : Process → ℕ → ℕ
hold_at p zero = p.children.0
hold_at p (suc k) = no_slot

-- ---- a state is running, stopped or ended

abbrev pub is_running : State → Bool
is_running Running = true
is_running Stopped = false
is_running (Ended e) = false

abbrev pub is_ended : State → Bool
is_ended Running = false
is_ended Stopped = false
is_ended (Ended e) = true

-- ---- a namespace's condition is unborn (no process yet), alive (with its init) or dead (init ended)

abbrev pub is_unborn : Life → Bool
is_unborn Unborn = true
is_unborn (Alive i) = false
is_unborn Dead = false

abbrev pub is_alive : Life → Bool
is_alive Unborn = false
is_alive (Alive i) = true
is_alive Dead = false

abbrev pub is_dead : Life → Bool
is_dead Unborn = false
is_dead (Alive i) = false
is_dead Dead = true

-- the slot of the init, or no slot
abbrev pub init_of : Life → ℕ
init_of Unborn = no_slot
init_of (Alive i) = i.0
init_of Dead = no_slot

-- ---- a table with a record changed

-- a process put at a slot
abbrev pub put : Table → ℕ → Process → Table
put t i p = record { processes = set t.processes i p; namespaces = t.namespaces }

-- a namespace put at a slot
abbrev pub put_namespace : Table → ℕ → Namespace → Table
put_namespace t n s = record { processes = t.processes; namespaces = set t.namespaces n s }

-- each process, and each namespace, changed by its slot
abbrev pub changed : Table → (ℕ → Process → Process) → (ℕ → Namespace → Namespace) → Table
changed t f g = record { processes = changed_to f no_process process_slots t.processes; namespaces = changed_to g no_namespace namespace_slots t.namespaces }
