-- `take_line` takes bytes in up to a line feed, or to the end of the chunk.
use mathlib.Core.Path.{refl}
use Rattle.lines.proofs.Carrying.{taken_ended, taken_open}
use Rattle.lines.proofs.take_line.Goals as goal

pub returns-in-Some : goal.returns-in-Some
returns-in-Some c = taken_ended _ _ _ _ _ _ _ c.min-start.ensures refl c.in-Some.ensures c.append.ensures

pub returns-in-None : goal.returns-in-None
returns-in-None c = taken_open _ _ _ _ _ _ _ c.min-start.ensures refl c.in-None.ensures c.append-in-None.ensures c.max.ensures
