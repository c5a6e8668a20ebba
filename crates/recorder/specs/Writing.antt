-- What a writer holds after a text was given to it, where it is known what it holds.
use Rattle.std.specs.Prelude.{ℕ, ◌≤◌, List, length, take, Option}
use Rattle.std.specs.Io.KnownBytes.{Appends}

-- The writer was given the first bytes of a text, in order, and no other.
abbrev pub TookFirst : Option (List ℕ) → Option (List ℕ) → List ℕ → Type 0
TookFirst old new text = (n : ℕ) × (n ≤ length text) × Appends old new (take n text)
