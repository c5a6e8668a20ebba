-- `clone` makes the tests of the definition, and gives birth at the slot that it found free.
use Rattle.clones.proofs.Clones.{clone_dead, clone_full, clone_born}
use Rattle.clones.proofs.clone.Goals as goal

pub returns-in_err-refuse_if : goal.returns-in_err-refuse_if
returns-in_err-refuse_if c =
    clone_dead c.args.t _ _ _ _ c.process-p.ensures c.namespace-home.ensures c.is_dead.ensures _ _ c.in_err-refuse_if.ensures
    c.from_residual.ensures.1

pub returns-in_err-slot : goal.returns-in_err-slot
returns-in_err-slot c =
    clone_full c.args.t _ _ _ _ c.process-p.ensures c.namespace-home.ensures c.is_dead.ensures _ c.in_ok-refuse_if.ensures _
    c.free_slot.ensures.slot c.in_err-slot.ensures.ok_part _ _ c.in_err-slot.ensures.value c.from_residual-in_err-slot.ensures.1

pub returns : goal.returns
returns c =
    clone_born c.args.t _ _ _ _ c.process-p.ensures c.namespace-home.ensures c.is_dead.ensures _ c.in_ok-refuse_if.ensures _
    c.free_slot.ensures.slot c.in_ok-slot.slot _ _ c.in_ok-slot.ensures.ok_part c.free_slot.ensures.within c.birth.ensures c.born.ensures
