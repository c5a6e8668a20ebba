-- Where a session stands after the first bytes of an input.
use Rattle.std.specs.Prelude.{List, [], ℕ, ◌≡◌}
use Rattle.lines.specs.Carried.{Carries}
use Rattle.lines.specs.Runs.{run_all}
use Rattle.lines.specs.Splitting.{ended, left}
use Rattle.session.specs.declared.Session.{Session}
use Rattle.table.specs.Fresh.{fresh}

-- The lines that ended in the input were run and gave the text, and the line that it left open is carried.
pub record Stands (input text : List ℕ) (s : Session) : Type 0 where
  pub table_is : s.table ≡ (run_all fresh (ended [] input)).table
  pub carries : Carries s.line (left [] input)
  pub text_is : text ≡ (run_all fresh (ended [] input)).text
