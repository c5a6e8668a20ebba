-- `digits_value` reads digits from the left: ten at most, so that no sum is too great.
use Rattle.script.proofs.Scans.{value_loop}
use Rattle.script.proofs.digits_value.Goals as goal

pub returns-then-not-is_ascii_digit : goal.returns-then-not-is_ascii_digit
returns-then-not-is_ascii_digit c = search value_loop

pub loop-b-preserved : goal.loop-b-preserved
loop-b-preserved c = search value_loop

pub returns : goal.returns
returns c = search value_loop
