-- A call is made by a running caller of a sound table, and refused to any other.
use Prim.Native.Nat.{ℕ, pred, ◌-◌, ◌%◌}
use native.Mathlib.Omega.{arith}
use mathlib.Core.Bool.{Bool, true, false, So, not, false≢true}
use mathlib.Core.Path.{◌≡◌, refl}
use borrow.Author.Tests.{lt-ltb}
use lib.IntN.{pos, ℤ, negsuc}
use Rattle.rules.proofs.Laws.Tests.{left, right, both}
use Rattle.rules.specs.Answers.{refused}
use Rattle.rules.specs.Calls.{status}
use Rattle.table.specs.Limits.{statuses}
use Rattle.table.specs.Slots.{is_running, is_ended, process}
use Rattle.rules.specs.Read.{view, living}
use Rattle.rules.specs.Sound.{SoundTable, kept_end}
use Rattle.rules.specs.Step.{make, runs, step}
use Rattle.table.specs.declared.Call.{Call}
use Rattle.table.specs.declared.End.TheVariants.{Exited}
use Rattle.table.specs.declared.Outcome.{Outcome}
use Rattle.table.specs.declared.Refusal.TheVariants.{NotRunning}
use Rattle.table.specs.declared.State.TheVariants.{Running, Stopped, Ended}
use Rattle.table.specs.declared.State.{State}
use Rattle.table.specs.declared.Table.{Table}

-- made, or refused
pub step_made : (t : Table) (c : ℕ) (call : Call) → SoundTable t → So (runs (view t) c) → step t c call ≡ make t c call
unfolding step
step_made t c call h k = rw (h.rules, k)

pub step_refused : (t : Table) (c : ℕ) (call : Call) → SoundTable t → runs (view t) c ≡ false → step t c call ≡ refused t NotRunning
unfolding step
step_refused t c call h k = rw (h.rules, k)

-- what holds of a refusal and of what a made call gives holds of each call's outcome
pub outcome_of : (Q : Outcome → Type 0) (t : Table) (c : ℕ) (call : Call) → SoundTable t → Q (refused t NotRunning) → (So (runs (view t) c) → Q (make t c call)) → Q (step t c call)
outcome_of Q t c call h p m = go (runs (view t) c) refl
  where
    go : (b : Bool) → runs (view t) c ≡ b → Q (step t c call)
    go true e = rw (step_made t c call h e) (m e)
    go false e = rw (step_refused t c call h e) p

-- and the same of its table
pub made_or_refused : (P : Table → Type 0) (t : Table) (c : ℕ) (call : Call) → SoundTable t → P t → (So (runs (view t) c) → P (make t c call).table) → P (step t c call).table
unfolding refused
made_or_refused P = outcome_of (λ o. P o.table)

-- a running process lives
pub runs_lives : (t : Table) (c : ℕ) → So (runs (view t) c) → So (living (view t) c)
unfolding runs living
runs_lives t c h = both _ _ (left _ _ h) (go (process t c).state (right _ _ h))
  where
    go : (x : State) → So (is_running x) → So (not (is_ended x))
    go Running h = refl
    go Stopped h = refl
    go (Ended e) h = absurd (false≢true h)

-- what an exit keeps is from 0 to 255
pub remainder : (s : ℤ) → So (kept_end (Ended (Exited (status s))))
remainder (pos k) = lt-ltb (k % statuses) statuses (omega arith)
remainder (negsuc k) = lt-ltb (pred statuses - k % statuses) statuses (omega arith)
