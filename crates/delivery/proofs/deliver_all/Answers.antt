-- `deliver_all` delivers to each of the list, by the laws of that loop.
use Rattle.delivery.proofs.Delivers.{delivery_loops}
use Rattle.delivery.proofs.deliver_all.Goals as goal

pub loop-slot-init : goal.loop-slot-init
loop-slot-init c = search delivery_loops

pub loop-slot-preserved : goal.loop-slot-preserved
loop-slot-preserved c = search delivery_loops

pub returns : goal.returns
returns c = search delivery_loops
