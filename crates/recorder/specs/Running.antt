-- What a chunk, and all chunks, do to a reader and a writer.
use Rattle.std.specs.Prelude.{List, [], ℕ, ◌≡◌, ◌++◌, Option, Result, IfSome, IfOk}
use Rattle.std.specs.Io.KnownBytes.{Appends, Consumes}
use Rattle.lines.specs.Runs.{run_all, run}
use Rattle.lines.specs.Splitting.{ended}
use Rattle.recorder.specs.Standing.{Stands}
use Rattle.recorder.specs.Writing.{TookFirst}
use Rattle.recorder.specs.declared.faults.Stopped.{Stopped}
use Rattle.session.specs.declared.Session.{Session}
use Rattle.table.specs.Fresh.{fresh}

-- After an input that gave a text a chunk was run, and the writer was given the first bytes of what the chunk gave: all
-- where a session goes on from there.
pub record Answers (input text chunk : List ℕ) (old new : Option (List ℕ)) (r : Result Session Stopped) : Type 0 where
  pub gave : List ℕ
  pub text_is : text ++ gave ≡ (run_all fresh (ended [] (input ++ chunk))).text
  pub first : TookFirst old new gave
  pub whole : IfOk r (λ s. Stands (input ++ chunk) (text ++ gave) s × Appends old new gave)

-- What was read from the start of a script on was run.
pub record GoesOn (unread rest old new : Option (List ℕ)) (r : Result Session Stopped) : Type 0 where
  pub input : List ℕ
  pub consumes : Consumes unread rest input
  pub answers : Answers [] [] input old new r

-- The writer was given the first bytes of what the script gives, where the script is known.
abbrev pub WritesFirst : Option (List ℕ) → Option (List ℕ) → Option (List ℕ) → Type 0
WritesFirst script old new = IfSome script (λ input. TookFirst old new (run input))

-- The writer was given all that the script gives.
abbrev pub WritesAll : Option (List ℕ) → Option (List ℕ) → Option (List ℕ) → Type 0
WritesAll script old new = IfSome script (λ input. Appends old new (run input))
