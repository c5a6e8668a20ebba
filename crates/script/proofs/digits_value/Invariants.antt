-- `digits_value` reads digits from the left: ten at most, so that no sum is too great.
use Rattle.script.proofs.Scans.{Valued}
use Rattle.script.proofs.digits_value.Given as goal

abbrev pub invariant-loop-b : goal.invariant-loop-b
invariant-loop-b l = Valued l.s l.value l.b-index
