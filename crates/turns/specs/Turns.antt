-- One call on the table that a host holds.
use Rattle.std.specs.Prelude.{ℕ, Option, None, Some, List, [], ◌∷◌, ltb}
use Rattle.mirror.specs.Mirror.{table_from, mirror_of}
use Rattle.mirror.specs.declared.Mirror.{Mirror}
use Rattle.requests.specs.Requests.{asked_by, told_of, no_call}
use Rattle.requests.specs.declared.Request.{Request}
use Rattle.requests.specs.declared.Told.{Told}
use Rattle.rules.specs.Answers.{is_refused}
use Rattle.rules.specs.Step.{step}
use Rattle.table.specs.Limits.{process_slots, no_slot}
use Rattle.table.specs.Tests.{when◌then◌else◌}
use Rattle.table.specs.declared.Call.{Call}
use Rattle.table.specs.declared.Outcome.{Outcome}
use Rattle.table.specs.declared.Table.{Table}
use Rattle.turns.specs.declared.Done.{Done}

-- What the host is told, and what it holds then: after a refusal what it held, to the last bit.
unfoldable pub given_back : Mirror → Outcome → Done
given_back m o =
    record { told = told_of o.reply; mirror = when is_refused o.reply.answer then m else mirror_of o.table }

-- The call that is asked for, made by document 01's `step` on the table that the mirror reads as. The caller is any
-- number: past the table's end it is nobody.
unfoldable pub turned : Mirror → ℕ → Option Call → Done
turned m c None = record { told = no_call; mirror = m }
turned m c (Some call) = given_back m (step (table_from m) c call)

unfoldable pub turn : Mirror → ℕ → Request → Done
turn m c r = turned m c (asked_by r)

-- ---- a host's calls one after the other, each a caller and a request

-- what the host is told of each
unfoldable pub told_all : Mirror → List (ℕ × Request) → List Told
told_all m [] = []
told_all m (r ∷ rs) = (turn m r.0 r.1).told ∷ told_all (turn m r.0 r.1).mirror rs

-- what it holds at last
unfoldable pub held_after : Mirror → List (ℕ × Request) → Mirror
held_after m [] = m
held_after m (r ∷ rs) = held_after (turn m r.0 r.1).mirror rs

-- The same by document 01 alone, on a table: the number, child and end of each answer, and the table at last. Where
-- nothing is asked nothing happens.
unfoldable pub asked_told : Table → ℕ → Option Call → Told
asked_told t c None = no_call
asked_told t c (Some call) = told_of (step t c call).reply

unfoldable pub asked_after : Table → ℕ → Option Call → Table
asked_after t c None = t
asked_after t c (Some call) = (step t c call).table

unfoldable pub steps_told : Table → List (ℕ × Request) → List Told
steps_told t [] = []
steps_told t (r ∷ rs) = asked_told t r.0 (asked_by r.1) ∷ steps_told (asked_after t r.0 (asked_by r.1)) rs

unfoldable pub steps_after : Table → List (ℕ × Request) → Table
steps_after t [] = t
steps_after t (r ∷ rs) = steps_after (asked_after t r.0 (asked_by r.1)) rs

-- ---- how the code names the caller: a slot is a byte

unfoldable pub slot_of : ℕ → ℕ
slot_of c = when ltb c process_slots then c else no_slot
