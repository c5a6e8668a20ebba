-- The fresh table: the root init alone, running, children's namespace the root, last number 1.
use Rattle.std.specs.Prelude.{pred, ◌∷◌, replicate}
use Rattle.table.specs.Limits.{process_slots, namespace_slots, levels, no_slot}
use Rattle.table.specs.Records.{to_pid, blank_process, with_parent, blank_namespace, placed, with_last, with_life}
use Rattle.table.specs.Slots.{no_pid}
use Rattle.table.specs.declared.Life.TheVariants.{Alive}
use Rattle.table.specs.declared.Namespace.{Namespace}
use Rattle.table.specs.declared.Process.{Process}
use Rattle.table.specs.declared.Table.{Table}

-- Empty slots are all zero (running, unborn). The code stores these in a slot that it frees, so the process has as many
-- numbers, 33, as every record of a table. Past the table's last slot nothing is stored: what is read there is
-- `no_process` of Slots.antt, which has none, and reads the same.
abbrev pub empty_process : Process
empty_process = blank_process (replicate levels no_pid)

abbrev pub empty_namespace : Namespace
empty_namespace = blank_namespace

abbrev pub root_init : Process
root_init = with_parent (blank_process (to_pid 1 ∷ replicate (pred levels) no_pid)) no_slot

abbrev pub root : Namespace
root = with_life (with_last (placed blank_namespace no_slot 0) 1) (Alive (record { 0 = 0 }))

unfoldable pub fresh : Table
fresh =
    record {
      processes = root_init ∷ replicate (pred process_slots) empty_process;
      namespaces = root ∷ replicate (pred namespace_slots) empty_namespace;
    }
