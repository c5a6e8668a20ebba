-- What was read so far was run, and the writer was given what it gave.
use Rattle.std.proofs.Common.{Ok}
use Rattle.recorder.specs.Running.{GoesOn}
use Rattle.recorder.proofs.run.read_all.Given as goal

abbrev pub invariant-loop : goal.invariant-loop
invariant-loop g l = GoesOn (g.R.Read.remaining l.fn.from) (g.R.Read.remaining l.from) (g.W.Write.contents l.fn.to) (g.W.Write.contents l.to) (Ok l.session)
