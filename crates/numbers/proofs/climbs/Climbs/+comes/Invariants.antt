-- The steps left fall at each call.
use Rattle.numbers.proofs.climbs.Climbs.+comes.Given as goal

abbrev pub decreases-comes : goal.decreases-comes
decreases-comes l = l.steps
