-- `clone_new` makes the tests of the definition, and gives birth in the namespace that it made.
use Rattle.clones.proofs.Clones.{clone_new_refused, clone_new_full, clone_new_unhoused, clone_new_born}
use Rattle.clones.proofs.clone_new.Goals as goal

pub returns-in_err-may_make : goal.returns-in_err-may_make
returns-in_err-may_make c =
    clone_new_refused c.args.t _ _ c.own_level-level.ensures _ _ c.in_err-may_make.ensures c.from_residual.ensures.1

pub returns-in_err-slot : goal.returns-in_err-slot
returns-in_err-slot c =
    clone_new_full c.args.t _ _ c.own_level-level.ensures _ c.in_ok-may_make.ensures _ c.free_slot.ensures.slot c.in_err-slot.ensures.ok_part
    _ _ c.in_err-slot.ensures.value c.from_residual-in_err-slot.ensures.1

pub returns-in_err-n : goal.returns-in_err-n
returns-in_err-n c =
    clone_new_unhoused c.args.t _ _ c.own_level-level.ensures _ c.in_ok-may_make.ensures _
    c.free_namespace_slot.ensures.slot c.in_err-n.ensures.ok_part _ _ c.in_err-n.ensures.value c.from_residual-in_err-n.ensures.1

pub returns : goal.returns
returns c =
    clone_new_born c.args.t _ _ c.own_level-level.ensures _ c.in_ok-may_make.ensures _ c.free_slot.ensures.slot _
    c.free_namespace_slot.ensures.slot c.in_ok-slot.slot _ _ _ _ _ c.in_ok-slot.ensures.ok_part c.free_slot.ensures.within
    c.in_ok-n.ensures.ok_part c.free_namespace_slot.ensures.within c.process-p.ensures c.new_namespace-u.ensures c.birth.ensures
    c.born.ensures
