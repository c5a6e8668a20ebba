-- What is claimed of writing and reading.
use Rattle.std.specs.Prelude.{true, false, ◌≡◌}
use Rattle.table.specs.declared.Table.{Table}
use Rattle.mirror.specs.Mirror.{table_from, mirror_of, is_written, empty_table}
use Rattle.mirror.specs.declared.Mirror.{Mirror}

-- Reading what was written gives the table back, for every table: no words about its shape are needed.
abbrev pub MirrorsAreRead : Type 0
MirrorsAreRead = (t : Table) → table_from (mirror_of t) ≡ t

-- What is written is what a writer makes; and where that is so, writing what was read gives the mirror back.
abbrev pub MirrorsAreWritten : Type 0
MirrorsAreWritten = (t : Table) → is_written (mirror_of t) ≡ true

abbrev pub WrittenIsKept : Type 0
WrittenIsKept = (m : Mirror) → is_written m ≡ true → mirror_of (table_from m) ≡ m

-- Any other mirror reads as the empty table.
abbrev pub OthersReadAsEmpty : Type 0
OthersReadAsEmpty = (m : Mirror) → is_written m ≡ false → table_from m ≡ empty_table
