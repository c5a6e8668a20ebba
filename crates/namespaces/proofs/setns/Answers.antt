-- `setns` makes the test of the definition on the process that it found.
use Rattle.namespaces.proofs.Children.{setns_nobody, setns_ended, setns_sets}
use Rattle.namespaces.proofs.setns.Goals as goal

pub returns-in_err-slot : goal.returns-in_err-slot
returns-in_err-slot c =
    setns_nobody c.args.t _ c.args.n c.ranges.n _ c.named.ensures.slot c.in_err-slot.ensures.ok_part _ _ c.in_err-slot.ensures.value
    c.from_residual.ensures.1

pub returns-in_err-refuse_if : goal.returns-in_err-refuse_if
returns-in_err-refuse_if c =
    setns_ended c.args.t _ c.args.n c.ranges.n _ c.named.ensures.slot c.in_ok-slot.slot c.in_ok-slot.ensures.ok_part c.named.ensures.within _
    c.process-target.ensures _ c.has_ended.ensures _ _ c.in_err-refuse_if.ensures c.from_residual-in_err-refuse_if.ensures.1

pub returns : goal.returns
returns c =
    setns_sets c.args.t _ c.args.n c.ranges.n _ c.named.ensures.slot c.in_ok-slot.slot c.in_ok-slot.ensures.ok_part c.named.ensures.within _
    c.process-target.ensures _ c.has_ended.ensures _ _ _ c.in_ok-refuse_if.ensures c.set_children.ensures c.answers.ensures
