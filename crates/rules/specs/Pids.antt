-- "A number", and the slot of a new entry.
use Rattle.std.specs.Prelude.{ℕ, suc, ◌-◌, Bool, not, eqb, leb}
use Rattle.table.specs.Limits.{process_slots, namespace_slots, greatest_pid, restart_pid}
use Rattle.rules.specs.Read.{View, taken, namespace_taken, seen, pid_seen}
use Rattle.table.specs.Tests.{◌and◌, when◌then◌else◌, any, lowest}

-- No process seen from n has the number k there. An ended process keeps its numbers until removed.
unfoldable pub free_pid : View → ℕ → ℕ → Bool
free_pid v n k = not (any process_slots (λ i. seen v n i and eqb (pid_seen v n i) k))

-- The lowest free number above the namespace's last; if there is none up to 32,767, the lowest free from 300 (as
-- Linux). (The first search tries all numbers above the last, the second all from 300 on, to 32,767. These are more
-- than 64 processes can have, so the second one finds one.)
unfoldable pub next_pid : View → ℕ → ℕ
next_pid v n =
    let k = lowest (free_pid v n) (greatest_pid - v.last n) (suc (v.last n)) in
    let r = lowest (free_pid v n) (suc greatest_pid - restart_pid) restart_pid in
    when leb k greatest_pid then k else r

-- New entries take the lowest free slot; 64, or 48 for a namespace (W-206), says that there is none.
unfoldable pub free_slot : View → ℕ
free_slot v = lowest (λ i. not (taken v i)) process_slots 0

-- likewise for a namespace
unfoldable pub free_namespace_slot : View → ℕ
free_namespace_slot v = lowest (λ n. not (namespace_taken v n)) namespace_slots 0
