-- `kill_others` makes the tests of the definition, the last on those that it found.
use borrow.Author.Rules.{rules}
use Rattle.kills.proofs.Kills.{kill_refused, others_missed, others_come}
use Rattle.kills.proofs.kill_others.Goals as goal

pub returns-in_err-may_kill : goal.returns-in_err-may_kill
returns-in_err-may_kill c = λ o.
    kill_refused c.args.t c.args.caller.0 c.args.n c.args.s c.ranges.n c.ranges.s _ c.may_kill.ensures.verdict _ _ c.in_err-may_kill.was
    c.from_residual.ensures.1

pub returns-in_err-refuse_if : goal.returns-in_err-refuse_if
returns-in_err-refuse_if c = λ o.
    others_missed c.args.t c.args.caller.0 c.args.n c.args.s c.ranges.n c.ranges.s _ c.may_kill.ensures.verdict _ c.in_ok-may_kill.was
    c.others-found.result c.others-found.ensures _ (search rules) o _ _ c.in_err-refuse_if.ensures
    c.from_residual-in_err-refuse_if.ensures.1

pub returns : goal.returns
returns c = λ o.
    others_come c.args.t c.args.caller.0 c.args.n c.args.s c.ranges.n c.ranges.s _ c.may_kill.ensures.verdict _ c.in_ok-may_kill.was
    c.others-found.result c.others-found.ensures _ (search rules) o _ _ _ c.in_ok-refuse_if.ensures c.in_ok-may_kill.ensures.signal
    c.signal_of.ensures c.send_all.ensures
