-- `kill_call` takes two numbers.
use Rattle.script.proofs.Calls.{kill_none, kill_half, kill_taken}
use Rattle.script.proofs.kill_call.Goals as goal

pub returns-in_err-target : goal.returns-in_err-target
returns-in_err-target c = kill_none _ _ _ c.from_residual.ensures c.in_err-target.was

pub returns-in_err-signal : goal.returns-in_err-signal
returns-in_err-signal c = kill_half _ _ _ _ c.from_residual-in_err-signal.ensures c.in_ok-target.was c.in_err-signal.was

pub returns : goal.returns
returns c = search (kill_taken, c.in_ok-target.was, c.in_ok-signal.was)
