-- A whole session: it starts, is fed chunk by chunk, and finishes. It writes what the script gives, however it was cut.
use Rattle.std.specs.Prelude.{ℕ, List, [], ◌∷◌, ◌++◌, ◌≡◌, take}
use Rattle.lines.specs.Carried.{Carries}
use Rattle.lines.specs.Runs.{run_all, run}
use Rattle.lines.specs.Splitting.{last_line, whole}
use Rattle.table.specs.Fresh.{fresh}
use Rattle.session.specs.Sessions.{Wrote, Feeds}
use Rattle.session.specs.declared.Fed.{Fed}
use Rattle.session.specs.declared.Session.{Session}

-- `finish` of s, as its contract says where the line carries l, writes the text
pub record Last (s : Session) (text : List ℕ) : Type 0 where
  pub before : List ℕ
  pub after : List ℕ
  pub used : ℕ
  pub finished : (l : List ℕ) → Carries s.line l → Wrote (run_all s.table (last_line l)).text before after used
  pub text_is : text ≡ take used after

-- `feed` of a chunk to s, as its contract says where the line carries l, and what is written after it, write the text
pub record Next (s : Session) (chunk : List ℕ) (Later : Session → List ℕ → Type 0) (text : List ℕ) : Type 0 where
  pub before : List ℕ
  pub after : List ℕ
  pub fed : Fed
  pub feeds : (l : List ℕ) → Carries s.line l → Feeds s l chunk before after fed
  pub rest : List ℕ
  pub goes_on : Later fed.session rest
  pub text_is : text ≡ take fed.used after ++ rest

-- s is fed the chunks, finishes, and writes the text
unfoldable pub Writes : List (List ℕ) → Session → List ℕ → Type 0
Writes [] s text = Last s text
Writes (c ∷ cs) s text = Next s c (Writes cs) text

abbrev pub SessionsWriteWhatScriptsGive : Type 0
SessionsWriteWhatScriptsGive =
    (s : Session) (chunks : List (List ℕ)) (text : List ℕ)
    → (s.table ≡ fresh) × Carries s.line [] → Writes chunks s text → text ≡ run (whole chunks)
