-- `below` is the climb of the definitions.
use Rattle.table.proofs.Chains.{facts}
use Rattle.tree.proofs.Climbs.{climb_there, climb_ends, climb_on}
use Rattle.tree.proofs.Tree.+below.Goals as goal

pub returns-then-eq : goal.returns-then-eq
returns-then-eq t c = search (climb_there, facts)

pub returns-then-steps-eq0 : goal.returns-then-steps-eq0
returns-then-steps-eq0 t c = search (climb_ends, facts)

pub returns : goal.returns
returns t c = search (climb_on, facts)
