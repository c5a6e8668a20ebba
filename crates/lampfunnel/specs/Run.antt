-- What a host is told of a script that it hands in whole, with a buffer for the answers.
use Rattle.std.specs.Prelude.{ℕ, ◌*◌, List, ◌++◌, ltb, length, drop}
use Rattle.lines.specs.Runs.{run}
use Rattle.lines.specs.Splitting.{lines}
use Rattle.script.specs.Sizes.{answer_bytes}
use Rattle.table.specs.Tests.{when◌then◌else◌}

-- "the buffer is too short"
abbrev pub short : ℕ
short = 18446744073709551615

-- the room that the answers of a script may need
unfoldable pub needed : List ℕ → ℕ
needed script = answer_bytes * length (lines script)

-- The number that is told for a buffer of so many bytes: how many bytes the answers are.
unfoldable pub told : List ℕ → ℕ → ℕ
told script size = when ltb size (needed script) then short else length (run script)

-- What the buffer holds then: the answers, and after them what it held before.
unfoldable pub filled : List ℕ → List ℕ → List ℕ
filled script before =
    when ltb (length before) (needed script) then before else run script ++ drop (length (run script)) before
