-- `exit` ends the caller; one that runs lives, so its end is the definition's.
use Rattle.waits.proofs.Waits.{exit_refused, exit_ends}
use Rattle.waits.proofs.exit.Goals as goal

pub returns-in_err-refuse_if : goal.returns-in_err-refuse_if
returns-in_err-refuse_if c = exit_refused c.args.t c.args.caller.0 c.args.s c.ranges.s _ _ c.in_err-refuse_if.ensures c.from_residual.ensures.1

pub returns : goal.returns
returns c =
    exit_ends c.args.t c.args.caller.0 c.args.s c.ranges.s _ _ _ _ _ _ c.well_formed.0 c.in_ok-refuse_if.ensures c.exit_status.ensures
    c.end_process-u.ensures c.free_unheld.ensures c.answers.ensures
