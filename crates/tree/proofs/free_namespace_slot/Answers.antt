-- `free_namespace_slot` gives the lowest free namespace slot, by the laws of a loop that leaves with the first.
use Rattle.table.proofs.Chains.{chains}
use Rattle.table.proofs.FirstLoops.{first_loops_by}
use Rattle.rules.specs.Pids.{free_namespace_slot}
use Rattle.rules.specs.Read.{namespace_taken}
use Rattle.tree.proofs.free_namespace_slot.Goals as goal

pub loop-i-init : goal.loop-i-init
loop-i-init c = search first_loops_by

pub returns-then-not-holds_namespace-clause-slot : goal.returns-then-not-holds_namespace-clause-slot
unfolding namespace_taken free_namespace_slot
returns-then-not-holds_namespace-clause-slot c = search (first_loops_by, chains)

pub loop-i-preserved : goal.loop-i-preserved
unfolding namespace_taken
loop-i-preserved c = search (first_loops_by, chains)

pub returns-clause-slot : goal.returns-clause-slot
unfolding free_namespace_slot
returns-clause-slot c = search first_loops_by
