-- What is carried of an open line: its first bytes, one more than a good line may have, so that a line that is too long
-- is still seen to be.
use Rattle.std.specs.Prelude.{ℕ, suc, ◌≤◌, ◌<◌, min, max, true, false, List, [], ◌∷◌, ◌≡◌, length, take, drop}
use Rattle.lines.specs.Splitting.{ended, left}
use Rattle.lines.specs.declared.Line.{Line}
use Rattle.lines.specs.declared.Taken.{Taken}
use Rattle.script.specs.Sizes.{line_bytes}

abbrev pub carried : ℕ
carried = suc line_bytes

-- t carries the line l
pub record Carries (t : Line) (l : List ℕ) : Type 0 where
  pub size : t.len ≡ min carried (length l)
  pub holds : take t.len t.bytes ≡ take carried l

-- A line as it is taken in: a length above `carried` counts as `carried`. So cut, every line carries something
-- (`carries_own` of proofs/Carrying.antt).
abbrev pub cut : Line → Line
cut t = record { bytes = t.bytes; len = min carried t.len }

-- Of the bytes of a chunk after place `from`, with l before them, the first line has ended: it is `line`, and the rest
-- of the lines are those after place `at`.
pub record LineEnded (l chunk : List ℕ) (from : ℕ) (r : Taken) : Type 0 where
  pub line : List ℕ
  pub carries : Carries r.line line
  pub lines_are : ended l (drop from chunk) ≡ line ∷ ended [] (drop r.at chunk)
  pub left_is : left l (drop from chunk) ≡ left [] (drop r.at chunk)
  pub further : from < r.at
  pub within : r.at ≤ length chunk

-- No line has ended, and the open one goes on after the chunk.
pub record StillOpen (l chunk : List ℕ) (from : ℕ) (r : Taken) : Type 0 where
  pub lines_are : ended l (drop from chunk) ≡ []
  pub carries : Carries r.line (left l (drop from chunk))
  pub at_is : r.at ≡ max from (length chunk)

pub record Took (l chunk : List ℕ) (from : ℕ) (r : Taken) : Type 0 where
  pub on_end : r.ended ≡ true → LineEnded l chunk from r
  pub on_more : r.ended ≡ false → StillOpen l chunk from r
