-- Which namespaces are held, as marks, and which are kept for them.
use Rattle.std.specs.Prelude.{ℕ, Bool, false, List, eqb, get_or, replicate}
use Rattle.table.proofs.FoldLoops.{turns}
use Rattle.table.specs.Fresh.{empty_namespace}
use Rattle.table.specs.Limits.{namespace_slots, process_slots}
use Rattle.table.specs.Slots.{process}
use Rattle.rules.specs.Read.{climb}
use Rattle.table.specs.Tests.{◌and◌, ◌or◌, when◌then◌else◌, any}
use Rattle.table.specs.declared.Namespace.{Namespace}
use Rattle.table.specs.declared.Table.{Table}
use Rattle.tree.specs.Tree.{mark_process}

-- a mark, and none past the last
abbrev pub mark_at : List Bool → ℕ → Bool
mark_at marks n = get_or marks n false

-- the marks of all processes
unfoldable pub marks_of : Table → List Bool
marks_of t = turns process_slots (λ i marks. mark_process marks (process t i)) (replicate namespace_slots false)

-- m is marked and lies in the subtree of n
unfoldable pub keeps : (ℕ → ℕ) → (ℕ → ℕ) → (ℕ → Bool) → ℕ → ℕ → Bool
keeps up level mark n m = mark m and climb up (level m) m n

-- n is the root, or some namespace keeps it
unfoldable pub kept_for : (ℕ → ℕ) → (ℕ → ℕ) → (ℕ → Bool) → ℕ → Bool
kept_for up level mark n = eqb n 0 or any namespace_slots (keeps up level mark n)

unfoldable pub once_freed : (ℕ → ℕ) → (ℕ → ℕ) → (ℕ → Bool) → ℕ → Namespace → Namespace
once_freed up level mark n s = when kept_for up level mark n then s else empty_namespace
