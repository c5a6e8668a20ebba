-- `insert` puts a slot at its place, by the laws of that loop.
use Rattle.delivery.proofs.Inserts.{Placing}
use Rattle.delivery.specs.Targets.{pid_in}
use Rattle.delivery.proofs.insert.Given as goal

abbrev pub invariant-loop-i : goal.invariant-loop-i
invariant-loop-i l =
    Placing (pid_in l.pids) l.fn.slot.0 l.initial.found l.found l.held l.placed l.i
