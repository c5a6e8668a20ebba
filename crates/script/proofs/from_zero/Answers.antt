-- `from_zero` takes the value of digits for a number from 0, where it fits 32 bits.
use Rattle.script.proofs.Numbers.{zero_stops, zero_tried}
use Rattle.script.proofs.from_zero.Goals as goal

pub returns-in_err-natural : goal.returns-in_err-natural
returns-in_err-natural c = zero_stops _ _ c.from_residual.ensures c.in_err-natural.was

pub returns : goal.returns
returns c = zero_tried _ _ _ _ c.try_from.ensures c.ok.ensures.value c.in_ok-natural.was
