-- `signals::with_signal` meets its contract. Assumes nothing.
use borrow.Author.Tests.{lt-ltb}
use Rattle.table.proofs.Chains.{if_yes}
use Rattle.table.specs.Limits.{signals}
use Rattle.signals.proofs.Sets.{with_is}
use Rattle.signals.proofs.with_signal.Goals as goal

pub returns-then-s-lt-SIGNALS : goal.returns-then-s-lt-SIGNALS
returns-then-s-lt-SIGNALS c =
    let l = c.if-s-lt-SIGNALS.true in
    if_yes _ _ _ _ (lt-ltb c.args.s signals l) (with_is signals c.args.set c.args.s l)
