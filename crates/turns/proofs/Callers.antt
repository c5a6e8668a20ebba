-- A caller past the table's end is nobody, whatever its number. So a byte is enough to name a caller.
use Prim.Native.Nat.{ℕ, ◌<◌, ◌≤◌}
use mathlib.Core.Bool.{false, not}
use mathlib.Core.Path.{◌≡◌, sym, ap, ◌∙◌}
use lib.Dec.{eqb, ltb}
use lib.ListN.{length, get_or-eq_default}
use native.Mathlib.Decide.{dec_lt}
use native.Mathlib.Omega.{arith}
use borrow.Author.Tests.{lt-ltb, le-ltb}
use Rattle.rules.specs.Answers.{refused}
use Rattle.rules.specs.Read.{view, taken}
use Rattle.rules.specs.Sound.{sound}
use Rattle.rules.specs.Step.{runs, step}
use Rattle.table.proofs.Chains.{and_false, pick_yes, pick_no}
use Rattle.table.specs.Limits.{process_slots, no_slot}
use Rattle.table.specs.Slots.{no_process, pid_at}
use Rattle.table.specs.Tests.{when◌then◌else◌}
use Rattle.table.specs.declared.Call.{Call}
use Rattle.table.specs.declared.Outcome.{Outcome}
use Rattle.table.specs.declared.Process.{Process}
use Rattle.table.specs.declared.Refusal.TheVariants.{Unsound, NotRunning}
use Rattle.table.specs.declared.Table.{Table}
use Rattle.turns.specs.Turns.{slot_of}

runs_past : (t : Table) (c : ℕ) → length t.processes ≤ c → runs (view t) c ≡ false
unfolding runs taken
runs_past t c h =
    and_false _ _ (ap (λ (p : Process). not (eqb (pid_at p 0) 0)) (get_or-eq_default t.processes no_process {n = c} h))

step_past : (t : Table) (c : ℕ) (call : Call) → length t.processes ≤ c → step t c call ≡ (when sound t then refused t NotRunning else refused t Unsound)
unfolding step
step_past t c call h =
    ap (λ (o : Outcome). when sound t then o else refused t Unsound) (pick_no (runs (view t) c) _ (refused t NotRunning) (runs_past t c h))

slot_within : (c : ℕ) → c < process_slots → slot_of c ≡ c
unfolding slot_of
slot_within c h = pick_yes (ltb c process_slots) c no_slot (lt-ltb c process_slots h)

slot_past : (c : ℕ) → process_slots ≤ c → slot_of c ≡ no_slot
unfolding slot_of
slot_past c h = pick_no (ltb c process_slots) c no_slot (le-ltb c process_slots h)

pub by_slot : (t : Table) (c s : ℕ) (call : Call) → length t.processes ≡ process_slots → s ≡ slot_of c → step t s call ≡ step t c call
by_slot t c s call e p = ap (λ k. step t k call) p ∙ at (dec_lt c process_slots)
  where
    long : length t.processes ≡ process_slots
    long = e

    at : Dec (c < process_slots) → step t (slot_of c) call ≡ step t c call
    at (yes b) = ap (λ k. step t k call) (slot_within c b)
    at (no o) =
        ap (λ k. step t k call) (slot_past c (omega arith)) ∙ step_past t no_slot call (omega (arith, long))
        ∙ sym (step_past t c call (omega (arith, long)))
