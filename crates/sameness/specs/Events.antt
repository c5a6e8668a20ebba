-- Inside and outside calls, and the namespace S that is meant, from the start to the end of a list of calls.
use Rattle.std.specs.Prelude.{ℕ, Bool, false, List, [], ◌∷◌, eqb}
use Rattle.std.proofs.Math.Option.{Option, none, some}
use Rattle.table.specs.Limits.{process_slots}
use Rattle.rules.specs.Answers.{Shown, shown}
use Rattle.rules.specs.Read.{view, namespace_taken, below, seen, find}
use Rattle.sameness.specs.Sheet.{Sheet, sheet}
use Rattle.rules.specs.Step.{step}
use Rattle.table.specs.Tests.{when◌then◌else◌}
use Rattle.table.specs.declared.Call.{Call}
use Rattle.table.specs.declared.Outcome.{Outcome}
use Rattle.table.specs.declared.Table.{Table}

-- ---- where S is

-- S stands at a slot, alive or ended, or it was freed and had a level.
pub data Place : Type 0 where
  at : ℕ → Place
  gone : ℕ → Place

-- Where S is after a call that took the table t to u. (A call that frees a slot gives none away, so a slot that is
-- taken before and after is the same namespace's.)
unfoldable pub follow : Table → Table → Place → Place
follow t u (at s) = when namespace_taken (view u) s then at s else gone ((view t).level s)
follow t u (gone l) = gone l

-- Once S is freed its sheet is its level and no rows for good, whatever takes its slot later.
unfoldable pub sheet_of : Table → Place → Sheet
sheet_of t (at s) = sheet (view t) s
sheet_of t (gone l) = record { level = l; rows = [] }

-- the process at i is of the subtree, a stopped or ended one too
unfoldable pub is_inside : Table → Place → ℕ → Bool
is_inside t (at s) i = seen (view t) s i
is_inside t (gone l) i = false

-- the namespace n is of the subtree
unfoldable pub namespace_inside : Table → Place → ℕ → Bool
namespace_inside t (at s) n = below (view t) n s
namespace_inside t (gone l) n = false

-- the slot of the process with number k in S, or 64 where no row has it
unfoldable pub slot_of : Table → Place → ℕ → ℕ
slot_of t (at s) k = find (view t) s k
slot_of t (gone l) k = process_slots

-- ---- calls

-- An inside call is one by a process of the subtree, named by its number in S. Every other call is an outside one, by
-- any slot.
pub data Event : Type 0 where
  inside : ℕ → Call → Event
  outside : ℕ → Call → Event

-- caller's number in S, call and arguments, in order
unfoldable pub inside_calls : List Event → List (ℕ × Call)
inside_calls [] = []
inside_calls (inside k c ∷ es) = (k, c) ∷ inside_calls es
inside_calls (outside i c ∷ es) = inside_calls es

-- The host puts in that process's slot. A number that no row has makes no call.
unfoldable pub happens : Table → Place → Event → Option Outcome
happens t p (inside k c) = when eqb (slot_of t p k) process_slots then none else some (step t (slot_of t p k) c)
happens t p (outside i c) = some (step t i c)

-- the table then; where no call is made, it stays
unfoldable pub table_after : Table → Option Outcome → Table
table_after t none = t
table_after t (some r) = r.table

-- the answer as it is shown, without the slot told to the host
unfoldable pub answer_of : Option Outcome → Option Shown
answer_of none = none
answer_of (some r) = some (shown r.reply.answer)

-- the table after an event
abbrev pub next_table : Table → Place → Event → Table
next_table t p e = table_after t (happens t p e)

-- where S is then
abbrev pub next_place : Table → Place → Event → Place
next_place t p e = follow t (next_table t p e) p
