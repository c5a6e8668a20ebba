-- `wait` makes the test of the definition, and goes by the state of the child that it found.
use borrow.Author.Rules.{rules}
use Rattle.waits.proofs.Waits.{wait_refused, wait_finds_none, wait_idle, wait_reaps}
use Rattle.waits.proofs.wait.Goals as goal

pub returns-in_err-refuse_if : goal.returns-in_err-refuse_if
returns-in_err-refuse_if c = wait_refused c.args.t c.args.caller.0 _ c.has_child.ensures _ _ c.in_err-refuse_if.ensures c.from_residual.ensures.1

pub returns-in_default : goal.returns-in_default
returns-in_default c =
    wait_finds_none c.args.t c.args.caller.0 _ c.has_child.ensures _ c.in_ok-refuse_if.ensures _ _ c.own_level-level.ensures c.first_ended.ensures _
    c.in_default.is (search (rules, c.well_formed)) c.answers.ensures

pub returns-in-Running : goal.returns-in-Running
returns-in-Running c =
    wait_idle c.args.t c.args.caller.0 _ c.has_child.ensures _ c.in_ok-refuse_if.ensures _ _ c.own_level-level.ensures c.first_ended.ensures _
    c.in-Some.slot c.in-Some.is _ c.process-child.ensures c.in-Running.is c.answers-in-Running.ensures

pub returns-in-Ended : goal.returns-in-Ended
returns-in-Ended c =
    wait_reaps c.args.t c.args.caller.0 _ c.has_child.ensures _ c.in_ok-refuse_if.ensures _ _ c.own_level-level.ensures c.first_ended.ensures _
    c.in-Some.slot c.in-Some.is _ c.process-child.ensures c.in-Ended.how _ c.in-Ended.is c.pid_at.ensures c.reap.ensures
