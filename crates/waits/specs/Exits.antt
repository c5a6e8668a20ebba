-- exit as the code brings it about: the definition's, but for the end, which is that of `ending`.
use Rattle.std.specs.Prelude.{ℕ, ◌≡◌, ℤ}
use Rattle.std.proofs.Math.Bool.{So}
use Rattle.ending.specs.Ending.{end_process}
use Rattle.rules.specs.Answers.{judged, answers}
use Rattle.rules.specs.Calls.{status, exit_refusals, exit}
use Rattle.rules.specs.Freeing.{freed}
use Rattle.rules.specs.Read.{view}
use Rattle.rules.specs.Sound.{sound}
use Rattle.rules.specs.Step.{runs}
use Rattle.table.specs.declared.End.TheVariants.{Exited}
use Rattle.table.specs.declared.Outcome.{Outcome}
use Rattle.table.specs.declared.Table.{Table}

abbrev pub exit_by_gives : Table → ℕ → ℤ → Unit {0} → Outcome
exit_by_gives t c s z = answers (freed (end_process t c (Exited (status s)))) 0

unfoldable pub exit_by : Table → ℕ → ℤ → Outcome
exit_by t c s = judged t (exit_refusals c) (exit_by_gives t c s)

-- r is what exit with the number s gives the caller c
pub record Exits (t : Table) (c : ℕ) (s : ℤ) (r : Outcome) : Type 0 where
  -- on any table, whoever calls
  pub always : r ≡ exit_by t c s
  -- and document 01's exit, where the table is sound and the caller runs
  pub as_defined : So (sound t) → So (runs (view t) c) → r ≡ exit t c s
