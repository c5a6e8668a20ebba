-- What a kill's number names, and what a byte can hold.
use Rattle.std.specs.Prelude.{ℕ, Bool, false, eqb, ℤ, pos, negsuc}

-- -1: all seen but the caller and number 1
abbrev pub names_everyone : ℤ → Bool
names_everyone (pos n) = false
names_everyone (negsuc n) = eqb n 0

-- how many numbers a byte can hold
abbrev pub byte_values : ℕ
byte_values = 256
