-- `signals::lowest_signal` meets its contract: its count of zeros is at most 32. Assumes nothing.
use native.Mathlib.Omega.{arith}
use mathlib.Core.Path.{◌≡◌, ◌∙◌}
use lib.Count.{count_trailing_zeros, trailing_le}
use Rattle.table.specs.Limits.{signals}
use Rattle.signals.proofs.Sets.{lowest_is}
use Rattle.signals.proofs.lowest_signal.Goals as goal

pub returns-then-zeros-lt-SIGNALS-clause-signal : goal.returns-then-zeros-lt-SIGNALS-clause-signal
returns-then-zeros-lt-SIGNALS-clause-signal c = lowest_is c.args.set

pub returns-clause-signal : goal.returns-clause-signal
returns-clause-signal c =
    let h = c.if-zeros-lt-SIGNALS.false in
    let l = trailing_le signals c.args.set in
    let e : signals ≡ count_trailing_zeros signals c.args.set = omega arith in
    e ∙ lowest_is c.args.set
