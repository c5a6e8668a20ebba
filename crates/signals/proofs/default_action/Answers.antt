-- `signals::default_action` meets its contract: antt computes the rule at all 32 entries, and compares the two lists
-- whole. Assumes nothing.
use Rattle.rules.specs.Delivery.{default_action}
use Rattle.table.specs.Limits.{signals}
use Rattle.table.specs.Tests.{◌or◌, values}
use Rattle.table.specs.declared.Action.TheVariants.{Nothing}
use Rattle.signals.proofs.Defaults.{values_at, default_past}
use borrow.Author.Rules.{rules}
use Rattle.signals.proofs.default_action.Goals as goal

pub returns-then-s-lt-SIGNALS : goal.returns-then-s-lt-SIGNALS
unfolding values default_action ◌or◌
returns-then-s-lt-SIGNALS c = values_at default_action Nothing signals c.args.s (search rules)

pub returns : goal.returns
returns c = default_past c.args.s (search rules)
