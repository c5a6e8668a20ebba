-- The definitions of `rules` read a view, that is a table by its slots. The code takes a table's parents and levels out
-- once, as small arrays, and one process at a time: these say the same of such arrays and of a process.
use Rattle.std.specs.Prelude.{ℕ, Bool, true, not, List, Option, Some, None, eqb, get_or, set}
use Rattle.table.specs.Limits.{process_slots, namespace_slots}
use Rattle.table.specs.Slots.{no_namespace, pid_at, is_unborn}
use Rattle.rules.specs.Read.{climb}
use Rattle.table.specs.Tests.{◌and◌, ◌or◌, when◌then◌else◌}
use Rattle.table.specs.declared.Namespace.{Namespace}
use Rattle.table.specs.declared.NsSlot.{NsSlot}
use Rattle.table.specs.declared.ProcSlot.{ProcSlot}
use Rattle.table.specs.declared.Process.{Process}

-- ---- the parents and the levels of namespaces, as functions of the slot: in the table, and in an array

abbrev pub ups_of : List Namespace → ℕ → ℕ
ups_of s n = (get_or s n no_namespace).parent.0

abbrev pub levels_of : List Namespace → ℕ → ℕ
levels_of s n = (get_or s n no_namespace).level

abbrev pub slot_in : List NsSlot → ℕ → ℕ
slot_in up n = (get_or up n (record { 0 = 0 })).0

abbrev pub level_in : List ℕ → ℕ → ℕ
level_in levels n = get_or levels n 0

-- ---- one process, given the parents and the levels

-- it is seen from n: a climb of as many steps as its own namespace's level, which come to the root
abbrev pub seen_from : (ℕ → ℕ) → (ℕ → ℕ) → ℕ → Process → Bool
seen_from up level n p = not (eqb (pid_at p 0) 0) and climb up (level p.own.0) p.own.0 n

-- its number in n, or 0 where it is not seen
abbrev pub pid_from : (ℕ → ℕ) → (ℕ → ℕ) → ℕ → Process → ℕ
pid_from up level n p = when seen_from up level n p then pid_at p (level n) else 0

-- it is seen from n, and its number at the level l is k
abbrev pub named_from : (ℕ → ℕ) → (ℕ → ℕ) → ℕ → ℕ → ℕ → Process → Bool
named_from up level n l k p = seen_from up level n p and eqb (pid_at p l) k

-- the slot n holds the namespace s, and does not lie empty
abbrev pub holds_namespace : ℕ → Namespace → Bool
holds_namespace n s = eqb n 0 or not (eqb s.level 0)

-- nothing stands at a namespace slot with the record s: all zero, and unborn
unfoldable pub is_blank_namespace : Namespace → Bool
is_blank_namespace s = eqb s.parent.0 0 and eqb s.level 0 and eqb s.last.0 0 and is_unborn s.life

-- marks of namespaces with those of one process, if it is there: its own, and the one for its children
abbrev pub mark_process : List Bool → Process → List Bool
mark_process m p = when not (eqb (pid_at p 0) 0) then set (set m p.own.0 true) p.children.0 true else m

-- ---- what a search for a slot gives, as the definitions number it: where there is none, the first past the last

abbrev pub process_found : Option ProcSlot → ℕ
process_found None = process_slots
process_found (Some s) = s.0

abbrev pub namespace_found : Option NsSlot → ℕ
namespace_found None = namespace_slots
namespace_found (Some s) = s.0
