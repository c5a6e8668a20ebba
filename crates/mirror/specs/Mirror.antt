-- A table without enums, as a host holds it: the mirror of a table. A state is a kind and a number beside it, and so is
-- the condition of a namespace.
use Rattle.std.specs.Prelude.{ℕ, Bool, [], map, eqb, length, get_or, replicate}
use Rattle.table.specs.Fresh.{empty_process, empty_namespace}
use Rattle.table.specs.Limits.{process_slots, namespace_slots}
use Rattle.table.specs.Slots.{no_pid}
use Rattle.table.specs.Tests.{◌and◌, all, when◌then◌else◌}
use Rattle.table.specs.declared.End.TheVariants.{Exited, Signaled}
use Rattle.table.specs.declared.Life.{Life}
use Rattle.table.specs.declared.Life.TheVariants.{Unborn, Alive, Dead}
use Rattle.table.specs.declared.Namespace.{Namespace}
use Rattle.table.specs.declared.Process.{Process}
use Rattle.table.specs.declared.State.{State}
use Rattle.table.specs.declared.State.TheVariants.{Running, Stopped, Ended}
use Rattle.table.specs.declared.Table.{Table}
use Rattle.mirror.specs.declared.Mirror.{Mirror}
use Rattle.mirror.specs.declared.ProcessRow.{ProcessRow}
use Rattle.mirror.specs.declared.NamespaceRow.{NamespaceRow}

-- ---- a table written

-- 0 is running, 1 stopped, 2 ended with a number, 3 ended by a signal
abbrev pub state_kind : State → ℕ
state_kind Running = 0
state_kind Stopped = 1
state_kind (Ended (Exited k)) = 2
state_kind (Ended (Signaled k)) = 3

-- that number or signal; 0 beside a process that has not ended
abbrev pub state_end : State → ℕ
state_end Running = 0
state_end Stopped = 0
state_end (Ended (Exited k)) = k
state_end (Ended (Signaled k)) = k

-- 0 is unborn, 1 alive, 2 dead
abbrev pub life_kind : Life → ℕ
life_kind Unborn = 0
life_kind (Alive i) = 1
life_kind Dead = 2

-- the init of a living namespace; 0 beside any other
abbrev pub life_init : Life → ℕ
life_init Unborn = 0
life_init (Alive i) = i.0
life_init Dead = 0

-- The byte that nothing needs is 0.
unfoldable pub process_row : Process → ProcessRow
process_row p =
    record {
      own = p.own;
      children = p.children;
      parent = p.parent;
      state = state_kind p.state;
      end = state_end p.state;
      reserved = 0;
      pids = p.pids;
      handled = p.traits.handled;
      pending = p.traits.pending;
    }

unfoldable pub namespace_row : Namespace → NamespaceRow
namespace_row n =
    record {
      parent = n.parent;
      level = n.level;
      life = life_kind n.life;
      init = life_init n.life;
      last = n.last;
    }

unfoldable pub mirror_of : Table → Mirror
mirror_of t = record { processes = map process_row t.processes; namespaces = map namespace_row t.namespaces }

-- ---- rows read

unfoldable pub state_from : ℕ → ℕ → State
state_from kind value =
    when eqb kind 0 then Running
    else (when eqb kind 1 then Stopped
    else (when eqb kind 2 then Ended (Exited value) else Ended (Signaled value)))

unfoldable pub life_from : ℕ → ℕ → Life
life_from kind init =
    when eqb kind 0 then Unborn
    else (when eqb kind 1 then Alive (record { 0 = init }) else Dead)

unfoldable pub process_from : ProcessRow → Process
process_from r =
    record {
      own = r.own;
      children = r.children;
      parent = r.parent;
      state = state_from r.state r.end;
      traits = record { handled = r.handled; pending = r.pending };
      pids = r.pids;
    }

unfoldable pub namespace_from : NamespaceRow → Namespace
namespace_from r =
    record { parent = r.parent; level = r.level; last = r.last; life = life_from r.life r.init }

-- ---- bytes that no writer makes

-- The state is written as these two bytes. So no kind is above 3, and beside a process that has not ended stands 0.
abbrev pub writes_state : State → ℕ → ℕ → Bool
writes_state s kind value = eqb (state_kind s) kind and eqb (state_end s) value

-- The same of a condition: no kind is above 2, and beside a namespace that is not alive stands 0.
abbrev pub writes_life : Life → ℕ → ℕ → Bool
writes_life l kind init = eqb (life_kind l) kind and eqb (life_init l) init

unfoldable pub is_process_row : ProcessRow → Bool
is_process_row r = writes_state (state_from r.state r.end) r.state r.end and eqb r.reserved 0

unfoldable pub is_namespace_row : NamespaceRow → Bool
is_namespace_row r = writes_life (life_from r.life r.init) r.life r.init

-- what lies past the end of an array
abbrev pub no_process_row : ProcessRow
no_process_row =
    record {
      own = record { 0 = 0 };
      children = record { 0 = 0 };
      parent = record { 0 = 0 };
      state = 0;
      end = 0;
      reserved = 0;
      pids = [];
      handled = 0;
      pending = 0;
    }

abbrev pub no_namespace_row : NamespaceRow
no_namespace_row = record { parent = record { 0 = 0 }; level = 0; life = 0; init = 0; last = no_pid }

-- Each row, of an empty slot too, is one that a writer makes.
unfoldable pub is_written : Mirror → Bool
is_written m =
    all (length m.processes) (λ i. is_process_row (get_or m.processes i no_process_row))
    and all (length m.namespaces) (λ n. is_namespace_row (get_or m.namespaces n no_namespace_row))

-- ---- a mirror read

-- every slot empty: not even a root init, so it is not sound
abbrev pub empty_table : Table
empty_table =
    record {
      processes = replicate process_slots empty_process;
      namespaces = replicate namespace_slots empty_namespace;
    }

-- The table whose mirror it is. Bytes that no writer makes are no table's: they read as the empty table, so that each
-- call on them is refused as on any table that isn't sound.
unfoldable pub table_from : Mirror → Table
table_from m =
    when is_written m then record { processes = map process_from m.processes; namespaces = map namespace_from m.namespaces }
    else empty_table
