-- What is claimed of a turn, proved.
use Prim.Native.Nat.{ℕ}
use mathlib.Core.Bool.{false, true≢false}
use mathlib.Core.Path.{◌≡◌, refl, sym, ap, ◌∙◌}
use lib.IntN.{ℤ, pos, negsuc}
use Rattle.mirror.proofs.RoundTrip.{mirrors_are_read, written_is_kept, others_read_as_empty}
use Rattle.mirror.specs.Mirror.{is_written, empty_table, table_from}
use Rattle.mirror.specs.declared.Mirror.{Mirror}
use Rattle.requests.specs.Requests.{asked_by, told_of}
use Rattle.requests.specs.declared.Told.{Told}
use Rattle.rules.proofs.Promises.{refusal_leaves}
use Rattle.rules.specs.Answers.{refused, refusal_number, is_refused, number_of}
use Rattle.rules.specs.Claims.{RefusalLeaves}
use Rattle.rules.proofs.Open.{everything}
use Rattle.rules.specs.Sound.{sound}
use Rattle.rules.specs.Step.{step}
use Rattle.table.proofs.Chains.{by_bool, pick_no}
use Rattle.std.specs.Prelude.{Option, None, Some}
use Rattle.table.specs.declared.Call.{Call}
use Rattle.table.specs.declared.Outcome.{Outcome}
use Rattle.table.specs.declared.Refusal.TheVariants.{Unsound}
use Rattle.table.specs.declared.Table.{Table}
use Rattle.turns.specs.Claims.{TurnsStep, RefusalsLeave, OthersDoNothing, CorruptionIsCaught, SoundIsWritten}
use Rattle.turns.specs.Turns.{given_back, turned, turn}

kept : (t : Table) (c : ℕ) (call : Call) (k : ℕ) → number_of (step t c call).reply.answer ≡ negsuc k → (step t c call).table ≡ t
unfolding RefusalLeaves
kept t c call k h = (refusal_leaves t c k call h).0

-- z is the number of the outcome o, which leaves the table where z is below 0
reads : (m : Mirror) (o : Outcome) (z : ℤ) → number_of o.reply.answer ≡ z → ((k : ℕ) → z ≡ negsuc k → o.table ≡ table_from m) → table_from (given_back m o).mirror ≡ o.table
unfolding given_back is_refused
reads m o (negsuc k) p h = rw p (sym (h k refl))
reads m o (pos k) p h = rw p (mirrors_are_read o.table)

tells : (m : Mirror) (o : Outcome) → (given_back m o).told ≡ told_of o.reply
unfolding given_back
tells m o = refl

pub turns_step : TurnsStep
unfolding turn turned
turns_step m c r call e = (
  rw e (tells m (step (table_from m) c call)),
  rw e (reads m (step (table_from m) c call) (number_of (step (table_from m) c call).reply.answer) refl (λ k q. kept (table_from m) c call k q)),
)

leaves : (m : Mirror) (o : Outcome) (k : ℕ) → (given_back m o).told.answer ≡ negsuc k → (given_back m o).mirror ≡ m
unfolding given_back told_of is_refused
leaves m o k h = rw h

refusal_keeps : (m : Mirror) (c : ℕ) (a : Option Call) (k : ℕ) → (turned m c a).told.answer ≡ negsuc k → (turned m c a).mirror ≡ m
unfolding turned
refusal_keeps m c None k h = refl
refusal_keeps m c (Some call) k h = leaves m (step (table_from m) c call) k h

pub refusals_leave : RefusalsLeave
unfolding turn
refusals_leave m c r k h = refusal_keeps m c (asked_by r) k h

pub others_do_nothing : OthersDoNothing
unfolding turn turned
others_do_nothing m c r e = (rw e, rw e)

-- ---- bytes that no writer makes

empty_unsound : sound empty_table ≡ false
unfolding everything
empty_unsound = refl

unwritten_unsound : (m : Mirror) → is_written m ≡ false → sound (table_from m) ≡ false
unwritten_unsound m e = ap sound (others_read_as_empty m e) ∙ empty_unsound

step_unsound : (t : Table) (c : ℕ) (call : Call) → sound t ≡ false → step t c call ≡ refused t Unsound
unfolding step
step_unsound t c call e = pick_no (sound t) _ (refused t Unsound) e

pub corruption_is_caught : CorruptionIsCaught
unfolding refused told_of number_of refusal_number
corruption_is_caught m c r call w e =
    let o = step_unsound (table_from m) c call (unwritten_unsound m w) in
    let told = (turns_step m c r call e).0 ∙ ap (λ (x : Outcome). told_of x.reply) o in
    (told, refusals_leave m c r 999 (ap (λ (x : Told). x.answer) told))

pub sound_is_written : SoundIsWritten
sound_is_written m e =
    by_bool (is_written m) (written_is_kept m) (λ w. absurd (true≢false (sym e ∙ unwritten_unsound m w)))
