-- `one_by_one` chooses between the two searches as the definition does, and the second one finds a number.
use mathlib.Core.Path.{refl}
use Rattle.numbers.proofs.Choice.{found_above, none_above, past_greatest}
use Rattle.numbers.proofs.Tried.{again_finds, again_gives}
use Rattle.numbers.proofs.one_by_one.Goals as goal
use Rattle.numbers.proofs.one_by_one.Goals.{then-last-lt-GREATEST_PID+in_default, else-last-lt-GREATEST_PID}

pub returns-in-Some : goal.returns-in-Some
returns-in-Some c = found_above c.args.t.now _ _ c.namespace-last.ensures _ c.in-Some.ensures.0 c.in-Some.ensures.1

pub unwrap-requires : goal.unwrap-requires
unwrap-requires c =
    again_finds _ _ _ c.free_from-2.ensures
    (elim c.if-last-lt-GREATEST_PID.branch [
      | then-last-lt-GREATEST_PID+in_default w ↦ none_above c.args.t.now _ _ c.namespace-last.ensures _ _ refl w.in_default.ensures refl
      | else-last-lt-GREATEST_PID w ↦ past_greatest c.args.t.now _ _ c.namespace-last.ensures _ w.if-last-lt-GREATEST_PID.false refl
    ])

pub returns : goal.returns
returns c =
    again_gives _ _ _ _ c.free_from-2.ensures c.unwrap.ensures
    (elim c.if-last-lt-GREATEST_PID.branch [
      | then-last-lt-GREATEST_PID+in_default w ↦ none_above c.args.t.now _ _ c.namespace-last.ensures _ _ refl w.in_default.ensures refl
      | else-last-lt-GREATEST_PID w ↦ past_greatest c.args.t.now _ _ c.namespace-last.ensures _ w.if-last-lt-GREATEST_PID.false refl
    ])
