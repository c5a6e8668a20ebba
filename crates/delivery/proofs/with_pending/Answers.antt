-- `with_pending` sets the signal's bit.
use Rattle.rules.specs.Delivery.{with_pending}
use Rattle.signals.proofs.Sets.{with_fitting}
use Rattle.delivery.proofs.with_pending.Goals as goal

pub returns : goal.returns
unfolding with_pending
returns c = rw (c.with_signals-p.ensures, with_fitting _ _ _ c.requires c.with_signal.ensures)
