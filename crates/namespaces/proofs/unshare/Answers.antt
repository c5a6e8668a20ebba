-- `unshare` makes the tests of the definition, and sets the namespace that it made.
use Rattle.namespaces.proofs.Children.{unshare_refused, unshare_full, unshare_sets}
use Rattle.namespaces.proofs.unshare.Goals as goal

pub returns-in_err-may_make : goal.returns-in_err-may_make
returns-in_err-may_make c =
    unshare_refused c.args.t _ _ c.own_level-level.ensures _ _ c.in_err-may_make.ensures c.from_residual.ensures.1

pub returns-in_err-n : goal.returns-in_err-n
returns-in_err-n c =
    unshare_full c.args.t _ _ c.own_level-level.ensures _ c.in_ok-may_make.ensures _ c.free_namespace_slot.ensures.slot
    c.in_err-n.ensures.ok_part _ _ c.in_err-n.ensures.value c.from_residual-in_err-n.ensures.1

pub returns : goal.returns
returns c =
    unshare_sets c.args.t _ _ c.own_level-level.ensures _ c.in_ok-may_make.ensures _ c.free_namespace_slot.ensures.slot _ _ _ _ _
    c.in_ok-n.ensures.ok_part c.free_namespace_slot.ensures.within c.process-p.ensures c.new_namespace-u.ensures c.set_children.ensures
    c.answers.ensures
