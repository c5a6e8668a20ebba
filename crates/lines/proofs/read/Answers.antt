-- `read` reads a line by the part of it that is carried.
use Rattle.lines.proofs.Carrying.{full_read}
use Rattle.lines.proofs.read.Goals as goal

pub returns-then-n-gt-LINE_BYTES : goal.returns-then-n-gt-LINE_BYTES
returns-then-n-gt-LINE_BYTES c = search full_read
