-- `append` puts bytes after a line, as many as there is room for.
use Rattle.lines.proofs.Carrying.{appended}
use Rattle.lines.proofs.append.Goals as goal

pub returns : goal.returns
returns c = search appended
