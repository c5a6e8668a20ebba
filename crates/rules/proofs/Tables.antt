-- Small tables, written down for computed facts.
use Prim.Native.Nat.{ℕ, zero, suc, pred, ◌-◌}
use mathlib.Core.List.{List, [], ◌∷◌, ◌++◌, map}
use lib.ListN.{length, replicate}
use Rattle.table.specs.Fresh.{empty_process, empty_namespace, root_init}
use Rattle.table.specs.Limits.{process_slots, namespace_slots, levels, no_slot}
use Rattle.table.specs.Slots.{no_pid}
use Rattle.rules.specs.Answers.{refused}
use Rattle.rules.specs.Read.{view}
use Rattle.rules.specs.Step.{make, runs}
use Rattle.table.specs.Tests.{when◌then◌else◌}
use Rattle.table.specs.declared.Call.{Call}
use Rattle.table.specs.declared.End.TheVariants.{Exited}
use Rattle.table.specs.declared.Life.{Life}
use Rattle.table.specs.declared.Life.TheVariants.{Alive, Dead}
use Rattle.table.specs.declared.Namespace.{Namespace}
use Rattle.table.specs.declared.Outcome.{Outcome}
use Rattle.table.specs.declared.Process.{Process}
use Rattle.table.specs.declared.Refusal.TheVariants.{NotRunning}
use Rattle.table.specs.declared.Table.{Table}
use Rattle.table.specs.Records.{to_pid, as_ended, of_namespace, with_parent, with_last, with_life, blank_process, blank_namespace, placed}

-- a running process with an own namespace, a parent and numbers from the root's level down
abbrev pub running : ℕ → ℕ → List ℕ → Process
running n p ks = with_parent (of_namespace (blank_process (map to_pid ks ++ replicate (levels - length ks) no_pid)) n) p

-- the same, ended
abbrev pub exited : ℕ → ℕ → List ℕ → Process
exited n p ks = as_ended (running n p ks) (Exited 0)

-- a namespace with a parent, a level, a last number and a condition
abbrev pub ns : ℕ → ℕ → ℕ → Life → Namespace
ns up level last life = with_life (with_last (placed blank_namespace up level) last) life

abbrev pub alive_with : ℕ → Life
alive_with i = Alive (record { 0 = i })

-- the root with a last number
abbrev pub root_at : ℕ → Namespace
root_at k = ns no_slot 0 k (alive_with 0)

-- The table that has these processes after the root init, and these namespaces; every other slot is empty.
abbrev pub table_of : List Process → List Namespace → Table
table_of ps ss =
    record {
      processes = root_init ∷ ps ++ replicate (process_slots - suc (length ps)) empty_process;
      namespaces = ss ++ replicate (namespace_slots - length ss) empty_namespace;
    }

-- n children of the root init in slots 1 to n, with the numbers 2 to n + 1
abbrev pub children_from : ℕ → ℕ → List Process
children_from k zero = []
children_from k (suc n) = running 0 0 (k ∷ []) ∷ children_from (suc k) n

abbrev pub crowd : ℕ → Table
crowd n = table_of (children_from 2 n) (root_at (suc n) ∷ [])

-- dead namespaces at the n slots from k, each below the one before it
abbrev pub dead_from : ℕ → ℕ → List Namespace
dead_from k zero = []
dead_from k (suc n) = ns (pred k) k 1 Dead ∷ dead_from (suc k) n

-- a call on a table that is known to be sound: without the check, which would take most of the computing
abbrev pub served : Table → ℕ → Call → Outcome
served t c call = when runs (view t) c then make t c call else refused t NotRunning

-- the table after a list of calls, each by the process at its slot (from a sound table on, as `step` makes it)
abbrev pub after : Table → List (ℕ × Call) → Table
after t [] = t
after t (l ∷ ls) = after (served t l.0 l.1).table ls
