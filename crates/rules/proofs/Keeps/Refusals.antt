-- A refusal leaves the whole table unchanged and tells the host no slot.
use Prim.Native.Nat.{ℕ}
use mathlib.Core.Option.{none}
use mathlib.Core.Path.{◌≡◌, refl, sym, ◌∙◌, ap}
use lib.IntN.{negsuc}
use Rattle.rules.proofs.Laws.Judged.{gives, gives_granted, made_is, some_none, told}
use Rattle.rules.proofs.Laws.Tests.{choose}
use Rattle.rules.specs.Answers.{number_of, refused}
use Rattle.rules.specs.Claims.{RefusalLeaves}
use Rattle.rules.specs.Refusals.{below_0}
use Rattle.table.specs.Limits.{no_slot}
use Rattle.rules.specs.Read.{view}
use Rattle.rules.specs.Sound.{sound}
use Rattle.rules.specs.Step.{make, runs, step}
use Rattle.table.specs.declared.Call.{Call}
use Rattle.table.specs.declared.Outcome.{Outcome}
use Rattle.table.specs.declared.Refusal.TheVariants.{Unsound, NotRunning}
use Rattle.table.specs.declared.Refusal.{Refusal}
use Rattle.table.specs.declared.Table.{Table}

-- If the outcome's number is below 0, it leaves t and tells no slot.
abbrev Leaves : Table → ℕ → Outcome → Type 0
Leaves t k o = number_of o.reply.answer ≡ negsuc k → (o.table ≡ t) × (o.reply.child.0 ≡ no_slot)

refuses : (t : Table) (k : ℕ) (e : Refusal) → Leaves t k (refused t e)
unfolding refused
refuses t k e q = (refl, refl)

-- an outcome whose number is not
grants : (t : Table) (k : ℕ) (o : Outcome) → told o ≡ none → Leaves t k o
unfolding below_0
grants t k o h q = absurd (some_none (sym (ap below_0 q) ∙ h))

make_leaves : (t : Table) (k c : ℕ) (call : Call) → Leaves t k (make t c call)
make_leaves t k c call = made_is (Leaves t k) t c call (refuses t k) (λ n q. grants t k (gives t c call tt) (gives_granted t c call))

-- a refusal of any call on any table
pub refusal_leaves : RefusalLeaves
unfolding RefusalLeaves step
refusal_leaves t c k call = choose (Leaves t k) (sound t) (λ a. choose (Leaves t k) (runs (view t) c) (λ a. make_leaves t k c call) (λ a. refuses t k NotRunning)) (λ a. refuses t k Unsound)
