-- `feed` runs the calls of a chunk from the first one on.
use Rattle.session.proofs.Calling.{feed_laws}
use Rattle.session.proofs.feed.Goals as goal

pub run_calls-place-requires : goal.run_calls-place-requires
run_calls-place-requires c = search feed_laws

pub returns : goal.returns
returns c = search feed_laws
