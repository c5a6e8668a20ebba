-- `birth` is the walk up from the child's namespace: what it makes of the numbers and of the namespaces is the
-- definition's. The number at each level is what the marks find, or what `next_pid` gives.
use Rattle.births.proofs.Walk.{Walking}
use Rattle.births.proofs.birth.Given as goal

abbrev pub invariant-loop-level : goal.invariant-loop-level
invariant-loop-level l =
    Walking l.t l.slot.0 l.n.0 l.level l.place.0 l.pids l.namespaces
