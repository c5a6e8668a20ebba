-- `handle` makes the test of the definition, and puts the caller back with the sets changed.
use Rattle.handlers.proofs.Signals.{handle_refused, handle_does}
use Rattle.handlers.proofs.handle.Goals as goal

pub returns-in_err-refuse_if : goal.returns-in_err-refuse_if
returns-in_err-refuse_if c =
    handle_refused c.args.s c.ranges.s _ c.cannot_handle.ensures _ _ _ _ _ c.in_err-refuse_if.ensures c.from_residual.ensures.1

pub returns : goal.returns
returns c =
    handle_does c.args.s c.ranges.s _ c.cannot_handle.ensures _ c.in_ok-refuse_if.ensures _ _ _ _ _ _ _ _
    c.process-p.ensures c.signal_of.ensures c.handling-q.ensures c.with_process.ensures c.answers.ensures
