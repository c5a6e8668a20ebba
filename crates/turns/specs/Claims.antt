-- What is claimed of one call on the table that a host holds: read before and after, it goes as document 01's `step`
-- says.
use Rattle.std.specs.Prelude.{ℕ, true, false, None, Some, List, ◌≡◌, negsuc}
use Rattle.mirror.specs.Mirror.{is_written, table_from, mirror_of}
use Rattle.mirror.specs.declared.Mirror.{Mirror}
use Rattle.requests.specs.Requests.{asked_by, told_of, no_call}
use Rattle.requests.specs.declared.Request.{Request}
use Rattle.rules.specs.Answers.{refused}
use Rattle.rules.specs.Sound.{sound}
use Rattle.rules.specs.Step.{step}
use Rattle.table.specs.Fresh.{fresh}
use Rattle.table.specs.declared.Call.{Call}
use Rattle.table.specs.declared.Refusal.TheVariants.{Unsound}
use Rattle.turns.specs.Turns.{turn, told_all, held_after, steps_told, steps_after}

-- A request that is a call: document 01's answer and child, and its table afterwards.
abbrev pub TurnsStep : Type 0
TurnsStep =
    (m : Mirror) (c : ℕ) (r : Request) (call : Call) → asked_by r ≡ Some call
    → ((turn m c r).told ≡ told_of (step (table_from m) c call).reply)
    × (table_from (turn m c r).mirror ≡ (step (table_from m) c call).table)

-- An answer below 0 leaves what the host holds as it was, to the last bit.
abbrev pub RefusalsLeave : Type 0
RefusalsLeave =
    (m : Mirror) (c : ℕ) (r : Request) (k : ℕ) → (turn m c r).told.answer ≡ negsuc k → (turn m c r).mirror ≡ m

-- A request that is no call is told so and does nothing, whatever the host holds.
abbrev pub OthersDoNothing : Type 0
OthersDoNothing =
    (m : Mirror) (c : ℕ) (r : Request) → asked_by r ≡ None → ((turn m c r).told ≡ no_call) × ((turn m c r).mirror ≡ m)

-- Bytes that no writer makes are caught: whatever else the host holds, each call is told that the table isn't sound and
-- leaves it.
abbrev pub CorruptionIsCaught : Type 0
CorruptionIsCaught =
    (m : Mirror) (c : ℕ) (r : Request) (call : Call) → is_written m ≡ false → asked_by r ≡ Some call
    → ((turn m c r).told ≡ told_of (refused (table_from m) Unsound).reply) × ((turn m c r).mirror ≡ m)

-- So what reads as a sound table is its mirror and no other: two that read as one sound table are the same bytes.
abbrev pub SoundIsWritten : Type 0
SoundIsWritten = (m : Mirror) → sound (table_from m) ≡ true → mirror_of (table_from m) ≡ m

-- ---- whole lists of requests

-- What a host is told, call after call, and what it holds at last, are document 01's on the table that it began with.
-- So each promise about a list of steps holds of a host.
abbrev pub HostsGoOn : Type 0
HostsGoOn =
    (m : Mirror) (rs : List (ℕ × Request))
    → (told_all m rs ≡ steps_told (table_from m) rs) × (table_from (held_after m rs) ≡ steps_after (table_from m) rs)

-- From the fresh table on, whatever is asked by whomever, the table is sound.
abbrev pub HostsStaySound : Type 0
HostsStaySound = (rs : List (ℕ × Request)) → sound (table_from (held_after (mirror_of fresh) rs)) ≡ true
