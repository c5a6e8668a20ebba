-- What the code's steps say of the definitions.
use Prim.Native.Nat.{ℕ}
use mathlib.Core.Bool.{Bool, true, false}
use mathlib.Core.Path.{◌≡◌, sym, ap, ◌∙◌}
use lib.ListN.{length}
use Rattle.mirror.specs.Mirror.{table_from, mirror_of}
use Rattle.mirror.specs.declared.Mirror.{Mirror}
use Rattle.requests.specs.Requests.{asked_by, told_of, no_call}
use Rattle.requests.specs.declared.Request.{Request}
use Rattle.requests.specs.declared.Told.{Told}
use Rattle.rules.specs.Answers.{is_refused}
use Rattle.rules.specs.Step.{step}
use Rattle.table.proofs.Chains.{pick_yes, pick_no}
use Rattle.table.specs.Limits.{process_slots}
use Rattle.std.specs.Prelude.{Option, None, Some}
use Rattle.table.specs.declared.Call.{Call}
use Rattle.table.specs.declared.Outcome.{Outcome}
use Rattle.table.specs.declared.ProcSlot.{ProcSlot}
use Rattle.table.specs.declared.Table.{Table}
use Rattle.turns.proofs.Callers.{by_slot}
use Rattle.turns.specs.Turns.{slot_of, given_back, turned, turn}
use Rattle.turns.specs.declared.Done.{Done}

pub given_refused : (m : Mirror) (o : Outcome) (d : Told) (b : Bool) → d ≡ told_of o.reply → b ≡ is_refused o.reply.answer → b ≡ true → ◌≡◌ {A = Done} (record { told = d; mirror = m }) (given_back m o)
unfolding given_back
given_refused m o d b p q h = rw p (ap (λ (x : Mirror). record { told = told_of o.reply; mirror = x }) (sym (pick_yes (is_refused o.reply.answer) m (mirror_of o.table) (sym q ∙ h))))

pub given_granted : (m w : Mirror) (o : Outcome) (d : Told) (b : Bool) → d ≡ told_of o.reply → b ≡ is_refused o.reply.answer → b ≡ false → w ≡ mirror_of o.table → ◌≡◌ {A = Done} (record { told = d; mirror = w }) (given_back m o)
unfolding given_back
given_granted m w o d b p q h e = rw (p, e) (ap (λ (x : Mirror). record { told = told_of o.reply; mirror = x }) (sym (pick_no (is_refused o.reply.answer) m (mirror_of o.table) (sym q ∙ h))))

pub turn_nothing : (m : Mirror) (c : ℕ) (r : Request) (a : Option Call) (d : Told) → a ≡ asked_by r → a ≡ None → d ≡ no_call → ◌≡◌ {A = Done} (record { told = d; mirror = m }) (turn m c r)
unfolding turn turned
turn_nothing m c r a d p q e = rw e (ap (turned m c) (sym q ∙ p))

pub turn_makes : (m : Mirror) (c : ℕ) (r : Request) (a : Option Call) (k : Call) (t : Table) (s : ProcSlot) (o : Outcome) (x : Done) → a ≡ asked_by r → a ≡ Some k → t ≡ table_from m → length t.processes ≡ process_slots → s.0 ≡ slot_of c → o ≡ step t s.0 k → x ≡ given_back m o → x ≡ turn m c r
unfolding turn turned
turn_makes m c r a k t s o x p q e l n f h =
    h ∙ ap (given_back m) (f ∙ by_slot t c s.0 k l n ∙ ap (λ (u : Table). step u c k) e) ∙ ap (turned m c) (sym q ∙ p)
