-- "A small program runs a script of calls": what a script gives, from the fresh table.
use Rattle.std.specs.Prelude.{ℕ, List, [], ◌∷◌, ◌++◌, ◌≡◌, Option, Some, None}
use Rattle.lines.specs.Splitting.{ended, left, last_line, lines, whole}
use Rattle.script.specs.Outputs.{answer_line, bad_line}
use Rattle.script.specs.Reading.{read_line}
use Rattle.script.specs.declared.Asked.{Asked}
use Rattle.table.specs.Fresh.{fresh}
use Rattle.rules.specs.Step.{step}
use Rattle.table.specs.declared.Table.{Table}

-- what a line writes, and the table then
pub record Ran : Type 0 where
  pub text : List ℕ
  pub table : Table

-- "Any other line, an empty one included, gives `?` and does nothing."
unfoldable pub run_line : Table → Option Asked → Ran
run_line t None = record { text = bad_line; table = t }
run_line t (Some a) =
    let o = step t a.slot.0 a.call in
    record { text = answer_line o.reply.answer; table = o.table }

-- "Each line gives one output line. No header."
unfoldable pub run_all : Table → List (List ℕ) → Ran
run_all t [] = record { text = []; table = t }
run_all t (l ∷ ls) =
    let r = run_line t (read_line l) in
    let s = run_all r.table ls in
    record { text = r.text ++ s.text; table = s.table }

-- "From the fresh table."
unfoldable pub run : List ℕ → List ℕ
run input = (run_all fresh (lines input)).text

-- ---- an input in chunks

-- the table and the open line are carried on from each chunk to the next
unfoldable pub run_chunks : Table → List ℕ → List (List ℕ) → List ℕ
run_chunks t l [] = (run_all t (last_line l)).text
run_chunks t l (c ∷ cs) =
    let r = run_all t (ended l c) in
    r.text ++ run_chunks r.table (left l c) cs

-- For any way of cutting the input the output is the same.
abbrev pub CutsChangeNoOutput : Type 0
CutsChangeNoOutput = (chunks : List (List ℕ)) → run_chunks fresh [] chunks ≡ run (whole chunks)
