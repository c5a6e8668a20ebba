-- `attempt` makes the first two tests, and then the call; the tests tell that the table is sound and that the caller runs.
use Rattle.calls.proofs.Steps.{step_unsound, step_empty, step_idle, step_makes}
use Rattle.calls.proofs.attempt.Goals as goal

pub returns-in_err-refuse_if : goal.returns-in_err-refuse_if
returns-in_err-refuse_if c = λ e. step_unsound c.args.t _ _ _ e _ _ c.in_err-refuse_if.ensures c.from_residual.ensures.1

pub returns-in_err-refuse_if-2 : goal.returns-in_err-refuse_if-2
returns-in_err-refuse_if-2 c = λ e.
    step_empty c.args.t _ _ _ e _ c.in_ok-refuse_if.ensures _ _ c.process-p.ensures c.is_taken.ensures _ _ c.in_err-refuse_if-2.ensures
    c.from_residual-in_err-refuse_if-2.ensures.1

pub returns-in_err-refuse_if-3 : goal.returns-in_err-refuse_if-3
returns-in_err-refuse_if-3 c = λ e.
    step_idle c.args.t _ _ _ e _ c.in_ok-refuse_if.ensures _ _ c.process-p.ensures c.is_taken.ensures _ c.in_ok-refuse_if-2.ensures _
    c.is_running.ensures _ _ c.in_err-refuse_if-3.ensures c.from_residual-in_err-refuse_if-3.ensures.1

pub returns : goal.returns
returns c = λ e.
    step_makes c.args.t _ _ _ e _ c.in_ok-refuse_if.ensures _ _ c.process-p.ensures c.is_taken.ensures _ c.in_ok-refuse_if-2.ensures _
    c.is_running.ensures _ _ c.in_ok-refuse_if-3.ensures c.make.ensures
