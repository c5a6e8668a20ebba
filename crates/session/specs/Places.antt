-- From call to call through a chunk: what is left to do at a place, and what is written on the way to the next.
use Rattle.std.specs.Prelude.{ℕ, suc, ◌≤◌, ◌+◌, ◌*◌, List, [], ◌++◌, ◌≡◌, length, take, drop, Some, None}
use Rattle.lines.specs.Carried.{Carries}
use Rattle.lines.specs.Runs.{Ran, run_line, run_all}
use Rattle.lines.specs.Splitting.{ended, left}
use Rattle.script.specs.Sizes.{answer_bytes}
use Rattle.script.specs.declared.Asked.{Asked}
use Rattle.session.specs.declared.Place.{Place}
use Rattle.table.specs.declared.Table.{Table}

-- ---- what is left at a place

-- the lines of a chunk that end after a place
abbrev pub lines_after : List ℕ → Place → List (List ℕ)
lines_after chunk p = ended [] (drop p.at chunk)

-- how many lines are left: where a call was found, that line and those after it
unfoldable pub left_at : List ℕ → Place → ℕ
left_at chunk p = elim p.asked [ Some a ↦ suc (length (lines_after chunk p)) | None ↦ 0 ]

-- a text, and what is given after it
abbrev pub and_then : List ℕ → Ran → Ran
and_then text r = record { text = text ++ r.text; table = r.table }

-- what the lines that are left give on the table t
unfoldable pub run_at : Table → List ℕ → Place → Ran
run_at t chunk p =
    elim p.asked [
      | Some a ↦ (let r = run_line t (Some a) in and_then r.text (run_all r.table (lines_after chunk p)))
      | None ↦ run_all t []
    ]

-- m is what stands on the line that is left open
pub record Leaves (chunk : List ℕ) (p : Place) (m : List ℕ) : Type 0 where
  pub on_call : (a : Asked) → p.asked ≡ Some a → m ≡ left [] (drop p.at chunk)
  pub on_end : p.asked ≡ None → Carries p.line m

-- ---- what is written

-- A lent buffer holds a text from place `at` on, and all else as before.
pub record Puts (text : List ℕ) (at : ℕ) (before after : List ℕ) (next : ℕ) : Type 0 where
  pub place : next ≡ at + length text
  pub holds : after ≡ take at before ++ text ++ drop next before

-- From the place `from` of a chunk on, with l on the line: `first` was written, and after it a line for each line up to
-- the first call, or to the end. r is there.
pub record Sought (first l chunk : List ℕ) (from used : ℕ) (before after : List ℕ) (r : Place) : Type 0 where
  pub text : List ℕ
  pub wrote : Puts (first ++ text) used before after r.used
  pub gives : (t : Table) → run_all t (ended l (drop from chunk)) ≡ and_then text (run_at t chunk r)
  pub leaves : Leaves chunk r (left l (drop from chunk))
  pub short : length first ≤ answer_bytes
  pub room : r.used + answer_bytes * left_at chunk r ≤ used + length first + answer_bytes * length (ended l (drop from chunk))

-- All lines that were left at p were run on the table t, and z is the table then.
pub record Called (t : Table) (p : Place) (chunk before after : List ℕ) (z : Table) (r : Place) : Type 0 where
  pub table_is : z ≡ (run_at t chunk p).table
  pub wrote : Puts (run_at t chunk p).text p.used before after r.used
  pub carries : (m : List ℕ) → Leaves chunk p m → Carries r.line m
