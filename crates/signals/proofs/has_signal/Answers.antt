-- `signals::has_signal` meets its contract: a shift brings the bit of a signal down, and there is none from 32 on.
-- Assumes nothing.
use borrow.Author.Tests.{le-ltb}
use Rattle.signals.proofs.Sets.{has_is, has_past_by}
use borrow.Author.Rules.{rules}
use Rattle.signals.proofs.has_signal.Goals as goal

pub returns-then-s-lt-SIGNALS : goal.returns-then-s-lt-SIGNALS
returns-then-s-lt-SIGNALS c = has_is c.args.set c.args.s

pub returns-else-s-lt-SIGNALS : goal.returns-else-s-lt-SIGNALS
returns-else-s-lt-SIGNALS c = search (rules, le-ltb, has_past_by)
