-- `parse` reads a line of at most 64 bytes as a slot and a call.
use Rattle.script.proofs.Parts.{line_long, line_short, line_whole}
use Rattle.script.proofs.parse.Goals as goal

pub returns-then-line-gt-LINE_BYTES : goal.returns-then-line-gt-LINE_BYTES
returns-then-line-gt-LINE_BYTES c = search line_long

pub returns-in_err-slot : goal.returns-in_err-slot
returns-in_err-slot c = line_short _ _ c.if-line-gt-LINE_BYTES.false c.in_err-slot.ensures c.from_residual.ensures

pub returns : goal.returns
returns c =
    line_whole _ _ _ _ _ c.if-line-gt-LINE_BYTES.false c.in_ok-slot.ensures c.read_natural.ensures
    c.after_slot.ensures
