-- What was written of a chunk goes on where it ended before.
use Rattle.std.proofs.Common.{Err}
use Rattle.std.proofs.lemmas.Result.{err_from_is_err_and}
use Rattle.recorder.proofs.Going.{goes_further}
use Rattle.recorder.proofs.run.read_all.Goals as goal

pub returns-in_err-session-clause-goes_on : goal.returns-in_err-session-clause-goes_on
returns-in_err-session-clause-goes_on g c =
    let p = err_from_is_err_and c.from_residual-in_err-session.result c.from_residual-in_err-session.ensures.1 in
    rw p.1 (goes_further _ _ _ _ _ _ c.loop.session _ (Err p.0) c.loop.invariant c.in_ok-n.ensures.bytes.0 c.in_err-session.ensures)
