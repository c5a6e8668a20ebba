-- A birth, of clone: the child's record, and what it changes in its namespace and those above.
use Rattle.std.specs.Prelude.{ℕ, List, leb, replicate}
use Rattle.table.specs.Limits.{levels}
use Rattle.rules.specs.Pids.{next_pid, free_slot}
use Rattle.table.specs.Slots.{no_pid, is_unborn, put, changed}
use Rattle.rules.specs.Read.{View, view, below, above_at}
use Rattle.table.specs.Tests.{when◌then◌else◌, changed_to}
use Rattle.table.specs.declared.Life.TheVariants.{Alive}
use Rattle.table.specs.declared.Namespace.{Namespace}
use Rattle.table.specs.declared.Pid.{Pid}
use Rattle.table.specs.declared.Process.{Process}
use Rattle.table.specs.declared.Table.{Table}
use Rattle.table.specs.Traits.{born_traits}
use Rattle.table.specs.Records.{to_pid, with_parent, with_life, with_last, of_namespace, with_traits, blank_process}

-- It gets a number at each level: from the root's to that of its own namespace n, and 0 beyond.
unfoldable pub new_pids : View → ℕ → List Pid
new_pids v n =
    changed_to (λ l p. when leb l (v.level n) then to_pid (next_pid v (above_at v n l)) else p) no_pid levels
    (replicate levels no_pid)

-- The child runs, its parent is the caller, children's namespace its own, signals empty.
unfoldable pub newborn : View → ℕ → ℕ → Process
newborn v caller n =
    with_traits (with_parent (of_namespace (blank_process (new_pids v n)) n) caller) (born_traits (v.traits caller))

-- In n and above, the number becomes the last; if n is unborn the child is its init.
-- (What becomes of the namespace s at slot m.)
unfoldable pub joined : View → ℕ → ℕ → ℕ → Namespace → Namespace
joined v child n m s =
    when below v n m
    then with_life (with_last s (next_pid v m)) (when is_unborn s.life then Alive (record { 0 = child }) else s.life)
    else s

-- A child of the caller is born into n, in the lowest free slot.
unfoldable pub birth : Table → ℕ → ℕ → Table
birth t caller n =
    changed (put t (free_slot (view t)) (newborn (view t) caller n)) (λ i p. p) (joined (view t) (free_slot (view t)) n)
