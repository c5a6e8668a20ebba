-- `action_on` makes the tests of the definition in their order.
use Rattle.table.proofs.Chains.{chains}
use Rattle.delivery.proofs.Actions.{action_told}
use borrow.Author.Rules.{rules}
use Rattle.delivery.proofs.action_on.Goals as goal

pub returns-then-passes_by : goal.returns-then-passes_by
returns-then-passes_by c = action_told _ _ _ _ _ (search rules) (search chains)

pub returns-then-s-eq-SIGCONT : goal.returns-then-s-eq-SIGCONT
returns-then-s-eq-SIGCONT c = action_told _ _ _ _ _ (search rules) (search chains)

pub returns-then-is_forced : goal.returns-then-is_forced
returns-then-is_forced c = action_told _ _ _ _ _ (search rules) (search chains)

pub returns : goal.returns
returns c = action_told _ _ _ _ _ (search rules) (search chains)
