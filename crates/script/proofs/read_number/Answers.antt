-- `read_number` reads a sign, if there is one, and digits.
use Rattle.script.proofs.Parts.{read_number_laws}
use Rattle.script.proofs.read_number.Goals as goal

pub returns-in-empty : goal.returns-in-empty
returns-in-empty c = search read_number_laws

pub returns-in-45 : goal.returns-in-45
returns-in-45 c = search read_number_laws

pub returns-in_default : goal.returns-in_default
returns-in_default c = search read_number_laws
