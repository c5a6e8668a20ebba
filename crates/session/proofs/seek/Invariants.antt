-- `seek` answers the lines that are no calls one by one, up to a call or to the end of the chunk.
use Rattle.session.proofs.Seeking.{Seeking, lines_left}
use Rattle.session.proofs.seek.Given as goal

abbrev pub invariant-loop-taken : goal.invariant-loop-taken
invariant-loop-taken l = Seeking l.initial.taken l.chunk l.from l.initial.used l.initial.out l.taken l.used l.out

abbrev pub decreases-loop-taken : goal.decreases-loop-taken
decreases-loop-taken l = lines_left l.chunk l.taken
