-- `new` knows nothing.
use Rattle.numbers.proofs.Knowing.{nothing_known}
use Rattle.numbers.proofs.climbs.Climbs.new.Goals as goal

pub invariant_of-result : goal.invariant_of-result
invariant_of-result c = nothing_known _
