-- `others` gathers all that the caller sees beside itself, by the laws of that loop.
use Rattle.delivery.proofs.Gathers.{Gathering}
use Rattle.delivery.proofs.others.Given as goal

abbrev pub invariant-loop-i : goal.invariant-loop-i
invariant-loop-i l =
    Gathering l.t l.caller.0 l.n.0 l.tree.parents l.tree.levels l.pids l.found l.i
