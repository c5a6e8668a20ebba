-- `signals::without_signal` meets its contract. Assumes nothing.
use Rattle.table.specs.Limits.{signals}
use Rattle.signals.proofs.Sets.{without_is, without_past}
use borrow.Author.Rules.{rules}
use Rattle.signals.proofs.without_signal.Goals as goal

pub returns-then-s-lt-SIGNALS : goal.returns-then-s-lt-SIGNALS
returns-then-s-lt-SIGNALS c = without_is signals c.args.set c.args.s (search rules) (search rules)

pub returns : goal.returns
returns c = without_past signals c.args.set c.args.s (search rules) (search rules)
