-- What a session writes and what it holds then, after a chunk and the end of the input.
use Rattle.std.specs.Prelude.{ℕ, List, ◌++◌, ◌≡◌, length, drop}
use Rattle.lines.specs.Carried.{Carries}
use Rattle.lines.specs.Runs.{run_all}
use Rattle.lines.specs.Splitting.{ended, left}
use Rattle.session.specs.declared.Fed.{Fed}
use Rattle.session.specs.declared.Session.{Session}

-- A lent buffer holds the bytes of a text and, after them, what it held before.
pub record Wrote (text before after : List ℕ) (used : ℕ) : Type 0 where
  pub size : used ≡ length text
  pub holds : after ≡ text ++ drop used before

-- A chunk after the line l: the lines that end in it were run, and the session goes on from there.
pub record Feeds (s : Session) (l chunk before after : List ℕ) (r : Fed) : Type 0 where
  pub table_is : r.session.table ≡ (run_all s.table (ended l chunk)).table
  pub carries : Carries r.session.line (left l chunk)
  pub wrote : Wrote (run_all s.table (ended l chunk)).text before after r.used
