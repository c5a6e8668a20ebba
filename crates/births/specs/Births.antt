-- A birth and a new namespace, with the slot given. The definitions of `rules` take the lowest free one;
-- proofs/Given.antt says that there these are the same.
use Rattle.std.specs.Prelude.{ℕ, List}
use Rattle.rules.specs.Births.{newborn, joined}
use Rattle.table.specs.Slots.{is_unborn, put, put_namespace, changed}
use Rattle.rules.specs.Read.{view}
use Rattle.table.specs.Tests.{when◌then◌else◌}
use Rattle.table.specs.declared.Life.TheVariants.{Alive}
use Rattle.table.specs.declared.Namespace.{Namespace}
use Rattle.table.specs.declared.Pid.{Pid}
use Rattle.table.specs.declared.Process.{Process}
use Rattle.table.specs.declared.Table.{Table}
use Rattle.table.specs.Records.{blank_process, of_namespace, with_parent, with_traits, blank_namespace, placed, with_last, with_life}
use Rattle.table.specs.declared.Traits.{Traits}

-- a child of the caller is born into n, at a slot
unfoldable pub birth_at : Table → ℕ → ℕ → ℕ → Table
birth_at t slot caller n = changed (put t slot (newborn (view t) caller n)) (λ i p. p) (joined (view t) slot n)

-- an unborn namespace at a slot, with its parent and its level
unfoldable pub namespace_at : Table → ℕ → ℕ → ℕ → Table
namespace_at t slot parent level =
    put_namespace t slot (placed blank_namespace parent level)

-- ---- parts

-- the child's record, its traits and numbers given
abbrev pub child_with : ℕ → ℕ → Traits → List Pid → Process
child_with caller n x pids = with_traits (with_parent (of_namespace (blank_process pids) n) caller) x

-- a namespace in which the child at a slot takes the number k: it becomes the last; if the namespace is unborn the
-- child is its init
abbrev pub joined_by : ℕ → ℕ → Namespace → Namespace
joined_by child k s =
    with_life (with_last s k) (when is_unborn s.life then Alive (record { 0 = child }) else s.life)
