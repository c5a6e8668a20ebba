-- `after_slot` takes a slot that fits, and a call.
use Rattle.script.proofs.Parts.{slot_none, slot_past, slot_fits, call_missing}
use Rattle.script.proofs.after_slot.Goals as goal

pub returns-in_err-slot : goal.returns-in_err-slot
returns-in_err-slot c = slot_none _ _ _ c.from_residual.ensures c.in_err-slot.was

pub returns-in_err-ok : goal.returns-in_err-ok
returns-in_err-ok c =
    slot_past _ _ _ _ _ _ c.in_ok-slot.was c.try_from.ensures c.ok.ensures.value c.in_err-ok.was
    c.from_residual-in_err-ok.ensures

pub returns-in_err-call : goal.returns-in_err-call
returns-in_err-call c = call_missing _ _ _ c.in_err-call.ensures c.from_residual-in_err-call.ensures

pub returns : goal.returns
returns c = slot_fits _ _ _ _ _ _ _ c.in_ok-slot.was c.try_from.ensures c.ok.ensures.value c.in_ok-ok.was c.in_ok-call.ensures
