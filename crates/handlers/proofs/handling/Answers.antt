-- `handling` is the definition, with the sets that the callees give.
use mathlib.Core.Path.{◌∙◌}
use Rattle.handlers.proofs.Signals.{handles, ignores}
use Rattle.handlers.proofs.handling.Goals as goal
use Rattle.handlers.proofs.handling.Goals.{then-on, else-on}

pub returns : goal.returns
returns c =
    elim c.if-on.branch [
      | then-on w ↦ handles c.args.p c.args.s _ c.if-on.traits c.args.on c.requires w.if-on.true w.with_signal.ensures (w.traits-is ∙ w.with_signals-traits.ensures)
      | else-on w ↦ ignores c.args.p c.args.s _ c.if-on.traits c.args.on _ w.if-on.false w.without_signal.ensures w.without_signal-else-on.ensures (w.traits-is ∙ w.with_signals-traits-else-on.ensures)
    ]
