-- `deliver_all` delivers to each of the list, by the laws of that loop.
use Rattle.delivery.proofs.Delivers.{Delivering}
use Rattle.delivery.proofs.deliver_all.Given as goal

abbrev pub invariant-loop-slot : goal.invariant-loop-slot
invariant-loop-slot l = Delivering l.initial.t l.from.0 l.s l.found l.t l.slot-index
