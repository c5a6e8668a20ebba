-- `kill_one` makes the tests of the definition, the last on the one that it found.
use Rattle.kills.proofs.Kills.{kill_refused, one_missed, one_comes}
use Rattle.kills.proofs.kill_one.Goals as goal

pub returns-in_err-may_kill : goal.returns-in_err-may_kill
returns-in_err-may_kill c = λ o.
    kill_refused c.args.t c.args.caller.0 c.args.n c.args.s c.ranges.n c.ranges.s _ c.may_kill.ensures.verdict _ _ c.in_err-may_kill.was
    c.from_residual.ensures.1

pub returns-in_err-slot : goal.returns-in_err-slot
returns-in_err-slot c = λ o.
    one_missed c.args.t c.args.caller.0 c.args.n c.args.s c.ranges.n c.ranges.s _ c.may_kill.ensures.verdict _ c.in_ok-may_kill.was _
    c.named.ensures.slot o c.in_err-slot.ensures.ok_part _ _ c.in_err-slot.ensures.value c.from_residual-in_err-slot.ensures.1

pub returns : goal.returns
returns c = λ o.
    one_comes c.args.t c.args.caller.0 c.args.n c.args.s c.ranges.n c.ranges.s _ c.may_kill.ensures.verdict _ c.in_ok-may_kill.was _
    c.named.ensures.slot o _ c.in_ok-slot.slot _ c.in_ok-slot.ensures.ok_part c.named.ensures.within c.in_ok-may_kill.ensures.signal
    c.signal_of.ensures c.send_one.ensures
