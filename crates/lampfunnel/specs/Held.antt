-- What a host is told of the table that it holds. One call is `turn` (`turns`' specs/Turns.antt), whether a table is
-- sound is document 01's `sound` of what the mirror reads as; here is the rest.
use Rattle.std.specs.Prelude.{ℕ, ◌≡◌, ltb}
use Rattle.mirror.specs.Mirror.{table_from}
use Rattle.mirror.specs.declared.Mirror.{Mirror}
use Rattle.requests.specs.declared.Request.{Request}
use Rattle.requests.specs.declared.Told.{Told}
use Rattle.rules.specs.Pids.{next_pid}
use Rattle.rules.specs.Read.{view}
use Rattle.table.specs.Limits.{namespace_slots}
use Rattle.table.specs.Tests.{when◌then◌else◌}
use Rattle.turns.specs.Turns.{turn}

-- The host held m, was told x, and holds the last one then: as one call makes it.
abbrev pub Called : Mirror → ℕ → Request → Told → Mirror → Type 0
Called m c r x after = (x ≡ (turn m c r).told) × (after ≡ (turn m c r).mirror)

-- The number that the namespace at a slot would give next, or 0 where the slot is past the table's end.
unfoldable pub next_number : Mirror → ℕ → ℕ
next_number m n = when ltb n namespace_slots then next_pid (view (table_from m)) n else 0
