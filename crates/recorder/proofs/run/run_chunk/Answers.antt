-- A chunk's lines are answered, and nothing is written but the answers.
use Rattle.std.proofs.Common.{refl, [], Ok, arith}
use Rattle.std.proofs.lemmas.Result.{IfOk-from_err}
use Rattle.lines.proofs.Cuts.{ended_few}
use Rattle.recorder.proofs.Going.{answered}
use Rattle.recorder.proofs.run.run_chunk.Goals as goal
use Rattle.session.proofs.Using.{fed_within, fed_part}

-- An answer for each byte has room.
pub feed-fed-requires : goal.feed-fed-requires
feed-fed-requires g c = omega (arith, c.requires, ended_few [] c.args.chunk.now)

pub slice_bounds-out-end : goal.slice_bounds-out-end
slice_bounds-out-end g c = fed_within c.args.s _ _ _ c.feed-fed.result c.well_formed.1.1.1.0 c.feed-fed.ensures

pub slice_bounds-write_out-end : goal.slice_bounds-write_out-end
slice_bounds-write_out-end g c = fed_part c.args.s _ _ _ c.feed-fed.result c.well_formed.1.1.1.0 c.feed-fed.ensures

pub returns-in_err-write_out : goal.returns-in_err-write_out
returns-in_err-write_out g c input text a =
    answered input text c.args.chunk.now _ c.feed-fed.new.out _ _ c.args.s c.feed-fed.result c.feed-fed.ensures a c.from_residual.result
    c.in_err-write_out.ensures.first (IfOk-from_err _ _ c.from_residual.ensures.0)

pub returns : goal.returns
returns g c input text a =
    answered input text c.args.chunk.now _ c.feed-fed.new.out _ _ c.args.s c.feed-fed.result c.feed-fed.ensures a (Ok c.feed-fed.result.session)
    c.in_ok-write_out.ensures.first (refl, c.in_ok-write_out.ensures.whole)
