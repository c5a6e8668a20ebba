-- `split_word` parts a text at its first space.
use Rattle.script.proofs.Scans.{space_parts, space_missing}
use Rattle.script.proofs.split_word.Goals as goal

pub returns-in_err-end : goal.returns-in_err-end
returns-in_err-end c = rw c.from_residual.ensures (space_missing _ c.in_err-end.ensures)

pub returns : goal.returns
returns c = space_parts _ _ c.in_ok-end.ensures
