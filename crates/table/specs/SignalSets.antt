-- A set of signals as a number: bit s stands for signal s.
use Rattle.std.specs.Prelude.{ℕ, zero, suc, ◌+◌, ◌*◌, ◌/◌, ◌%◌, Bool, eqb}
use Rattle.table.specs.Limits.{signals}
use Rattle.table.specs.Tests.{lowest}

-- signal s is in the set m
unfoldable pub has : ℕ → ℕ → Bool
has m zero = eqb (m % 2) 1
has m (suc s) = has (m / 2) s

-- m with s
unfoldable pub with_signal : ℕ → ℕ → ℕ
with_signal m zero = m / 2 * 2 + 1
with_signal m (suc s) = with_signal (m / 2) s * 2 + m % 2

-- m without s
unfoldable pub without_signal : ℕ → ℕ → ℕ
without_signal m zero = m / 2 * 2
without_signal m (suc s) = without_signal (m / 2) s * 2 + m % 2

-- the lowest signal of a set, or 32 where it is empty
unfoldable pub lowest_signal : ℕ → ℕ
lowest_signal m = lowest (has m) signals 0
