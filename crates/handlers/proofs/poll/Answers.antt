-- `poll` looks for the lowest pending signal, and puts the caller back without it.
use mathlib.Core.Path.{ap, ◌∙◌}
use Rattle.rules.specs.Answers.{answers}
use Rattle.handlers.proofs.Signals.{poll_finds_none, poll_finds}
use Rattle.handlers.proofs.poll.Goals as goal

pub returns-in_default : goal.returns-in_default
returns-in_default c = search poll_finds_none

pub returns : goal.returns
returns c =
    poll_finds _ _ _ _ _ c.process-p.ensures c.lowest_signal.ensures.signal c.in-Some.s _ _ _ c.in-Some.is c.lowest_signal.ensures.within
    c.without_signal.ensures c.with_signals-traits.ensures c.with_process.ensures (c.answers-2.ensures ∙ ap (answers c.with_process.result) c.from.ensures)
