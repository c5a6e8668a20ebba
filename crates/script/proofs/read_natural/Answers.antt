-- `read_natural` reads one to ten digits with no needless zero.
use Rattle.script.proofs.Parts.{read_natural_laws}
use Rattle.script.proofs.read_natural.Goals as goal

pub returns-then-is_empty : goal.returns-then-is_empty
returns-then-is_empty c = search (read_natural_laws, c.then-is_empty.either)

pub returns-then-s-eq48 : goal.returns-then-s-eq48
returns-then-s-eq48 c = search read_natural_laws

pub returns : goal.returns
returns c = search read_natural_laws
