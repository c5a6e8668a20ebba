-- kill as the code brings it about: the definition's, but for the deliveries, which are those of `delivery`.
use Rattle.std.specs.Prelude.{ℕ, ◌<◌, Bool, not, List, [], ◌∷◌, ◌≡◌, ℤ}
use Rattle.std.proofs.Math.Bool.{So}
use Rattle.delivery.specs.Delivery.{deliver_all_by}
use Rattle.rules.specs.Answers.{judged, answers}
use Rattle.rules.specs.Calls.{within, natural, names_group, targets, kill_refusals, kill}
use Rattle.rules.specs.Delivery.{deliver_all}
use Rattle.rules.specs.Freeing.{freed}
use Rattle.rules.specs.Read.{view}
use Rattle.rules.specs.Sound.{sound}
use Rattle.table.specs.Limits.{signals}
use Rattle.table.specs.declared.Outcome.{Outcome}
use Rattle.table.specs.declared.Refusal.{Refusal}
use Rattle.table.specs.declared.Refusal.TheVariants.{Einval, Enosys}
use Rattle.table.specs.declared.Table.{Table}

-- ---- the refusals but the last: no signal, and a group

abbrev pub first_refusals : ℤ → ℤ → List (Refusal × Bool)
first_refusals n s = (Einval, not (within 0 signals s)) ∷ (Enosys, names_group n) ∷ []

-- ---- what is left once it is not refused: what becomes of those whom it found

-- the caller c sends signal s to those of a list
unfoldable pub sends : Table → ℕ → List ℕ → ℕ → Outcome
sends t c found s = answers (freed (deliver_all t ((view t).own c) found s)) 0

unfoldable pub sends_by : Table → ℕ → List ℕ → ℕ → Outcome
sends_by t c found s = answers (freed (deliver_all_by t ((view t).own c) found s)) 0

-- r is what that gives
pub record Sends (t : Table) (c : ℕ) (found : List ℕ) (s : ℕ) (r : Outcome) : Type 0 where
  -- on any table, whoever calls
  pub always : r ≡ sends_by t c found s
  -- and by the definition, where the table is sound and the signal is one
  pub as_defined : s < signals → So (sound t) → r ≡ sends t c found s

-- ---- the call

-- by what those are sent whom it found
abbrev pub kill_with : (List ℕ → ℕ → Outcome) → Table → ℕ → ℤ → ℤ → Outcome
kill_with send t c n s = judged t (kill_refusals (view t) c n s) (λ z. send (targets (view t) c n) (natural s))

unfoldable pub kill_by : Table → ℕ → ℤ → ℤ → Outcome
kill_by t c n s = kill_with (sends_by t c) t c n s

-- r is what kill of the number n with signal s gives the caller c
pub record Kills (t : Table) (c : ℕ) (n s : ℤ) (r : Outcome) : Type 0 where
  -- on any table, whoever calls
  pub always : r ≡ kill_by t c n s
  -- and document 01's kill, where the table is sound
  pub as_defined : So (sound t) → r ≡ kill t c n s
