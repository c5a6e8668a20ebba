-- Traits: what a process has and no rule of the tree reads. Today these are its handled and pending signals. All that
-- makes, changes or tests traits stands here and is shut, so that a new one is a line in each of these definitions.
use Rattle.std.specs.Prelude.{ℕ, ◌^◌, Bool, not, eqb, ltb}
use Rattle.table.specs.Limits.{signals, sigkill, sigstop}
use Rattle.table.specs.SignalSets.{has}
use Rattle.table.specs.Tests.{◌and◌, ◌implies◌, all}
use Rattle.table.specs.declared.Traits.{Traits}

-- An empty slot's are all zero,
abbrev pub no_traits : Traits
no_traits = record { handled = 0; pending = 0 }

-- and this tells them.
unfoldable pub blank_traits : Traits → Bool
blank_traits x = eqb x.handled 0 and eqb x.pending 0

-- With these signals handled and pending.
unfoldable pub with_signals : Traits → ℕ → ℕ → Traits
with_signals x h q = record { handled = h; pending = q }

-- A child's, by its parent's: signals empty.
unfoldable pub born_traits : Traits → Traits
born_traits x = with_signals x 0 0

-- What an end leaves of them: no signals;
unfoldable pub ended_traits : Traits → Traits
ended_traits x = with_signals x 0 0

-- and this tells it: an ended process has no signals.
unfoldable pub bare_traits : Traits → Bool
bare_traits x = eqb x.handled 0 and eqb x.pending 0

-- ---- what a sound table says of them

-- Handled signals are within 1 to 31 without 9 and 19;
unfoldable pub handled_ok : Traits → Bool
handled_ok x = not (has x.handled 0) and not (has x.handled sigkill) and not (has x.handled sigstop)

-- pending ones are among the handled.
unfoldable pub pending_ok : Traits → Bool
pending_ok x = all signals (λ s. has x.pending s implies has x.handled s)

-- both
unfoldable pub traits_ok : Traits → Bool
traits_ok x = handled_ok x and pending_ok x

-- What the declared type gives of itself: no set of signals has a bit past signal 31.
unfoldable pub traits_shaped : Traits → Bool
traits_shaped x = ltb x.handled (2 ^ signals) and ltb x.pending (2 ^ signals)
