-- `below_zero` takes the value of digits for a number below 0, where it is one and fits 32 bits.
use Rattle.script.proofs.Numbers.{minus_stops, minus_out, minus_number}
use Rattle.script.proofs.below_zero.Goals as goal

pub returns-in_err-n : goal.returns-in_err-n
returns-in_err-n c = minus_stops _ _ c.from_residual.ensures c.in_err-n.was

pub returns-then-n-eq0 : goal.returns-then-n-eq0
returns-then-n-eq0 c = minus_out _ _ c.in_ok-n.was c.then-n-eq0.either

pub returns : goal.returns
returns c = minus_number _ _ c.in_ok-n.was c.if-n-eq0.false c.if-n-gt-PAST_32_BIT.false
