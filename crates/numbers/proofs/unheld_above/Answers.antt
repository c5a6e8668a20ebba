-- `unheld_above` marks which numbers above the last are taken, and gives the first without a mark.
use mathlib.Core.Path.{refl}
use borrow.Author.Rules.{rules}
use Rattle.numbers.specs.Marks.{unheld}
use Rattle.numbers.proofs.ByMarks.{placed_same}
use Rattle.numbers.proofs.Marking.{marking_starts, marking_marks, marking_passes, marks_all, marks_past_greatest, marks_give}
use Rattle.numbers.proofs.Window.{none_above}
use Rattle.numbers.proofs.unheld_above.Goals as goal
use Rattle.numbers.proofs.unheld_above.Goals.{in-Some, in_default}

pub returns-then-last-ge-GREATEST_PID-clause-pid : goal.returns-then-last-ge-GREATEST_PID-clause-pid
returns-then-last-ge-GREATEST_PID-clause-pid c = search none_above

pub loop-holder-init : goal.loop-holder-init
loop-holder-init c = record { marking = marking_starts _ _ _ _; same = refl }

pub loop-holder-preserved : goal.loop-holder-preserved
loop-holder-preserved c =
    record {
      marking = elim c.match-place_above.branch [
        | in-Some w ↦ marking_marks _ _ _ _ c.loop-holder.marks _ _ c.loop-holder.invariant.marking (search rules) (placed_same _ _ _ _ _ _ _ c.loop-holder.invariant.same w.in-Some.ensures.place) _ (search rules) w.marks-is
        | in_default w ↦ marking_passes _ _ _ _ c.loop-holder.marks _ _ c.loop-holder.invariant.marking (search rules) (placed_same _ _ _ _ _ _ _ c.loop-holder.invariant.same w.in_default.ensures.place) _ (search rules) w.marks-is
      ];
      same = search rules;
    }

pub returns-in_err-place-clause-pid : goal.returns-in_err-place-clause-pid
unfolding unheld
returns-in_err-place-clause-pid c =
    rw c.from_residual.ensures (marks_all _ _ _ _ _ _ _ c.loop-holder.invariant.marking (search rules) c.in_err-place.ensures.place (search rules))

pub returns-then-number-gt-GREATEST_PID-clause-pid : goal.returns-then-number-gt-GREATEST_PID-clause-pid
unfolding unheld
returns-then-number-gt-GREATEST_PID-clause-pid c =
    marks_past_greatest _ _ _ _ _ _ _ c.loop-holder.invariant.marking (search rules) c.in_ok-place.ensures.place c.if-number-gt-GREATEST_PID.true

pub returns-clause-pid : goal.returns-clause-pid
unfolding unheld
returns-clause-pid c =
    marks_give _ _ _ _ _ _ _ c.loop-holder.invariant.marking (search rules) c.in_ok-place.ensures.place c.in_ok-place.ensures.within c.if-number-gt-GREATEST_PID.false
