-- Each call is found on the table that the one before it left.
use Rattle.session.proofs.Calling.{passed_room, passed_next, passed_all, fewer_left}
use Rattle.session.proofs.run_calls.Goals as goal

pub go_on-q-requires : goal.go_on-q-requires
go_on-q-requires c = search passed_room

pub loop-q-smaller : goal.loop-q-smaller
loop-q-smaller c = search fewer_left

pub loop-q-preserved : goal.loop-q-preserved
loop-q-preserved c = search passed_next

pub returns : goal.returns
returns c = search passed_all
