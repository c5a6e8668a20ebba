-- Whether a call's refusals leave it granted, and what it gives by that.
use Rattle.std.specs.Prelude.{Bool, true, false, List, [], ◌∷◌, Result, Ok, Err}
use Rattle.rules.specs.Answers.{refused}
use Rattle.table.specs.declared.Outcome.{Outcome}
use Rattle.table.specs.declared.Refusal.{Refusal}
use Rattle.table.specs.declared.Table.{Table}

-- the first refusal of a list whose test holds, or none
abbrev pub verdict : List (Refusal × Bool) → Result (Unit {0}) Refusal
verdict [] = Ok tt
verdict (r ∷ rs) = elim r.1 [ true ↦ Err r.0 | false ↦ verdict rs ]

-- what a call on a table gives: the outcome that it came to, or the refusal's
abbrev pub settled : Table → Result Outcome Refusal → Outcome
settled t (Ok o) = o
settled t (Err e) = refused t e
