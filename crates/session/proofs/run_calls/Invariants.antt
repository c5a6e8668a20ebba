-- `run_calls` goes from call to call on one table. Its measure is the number of lines that are left.
use Rattle.session.specs.Places.{left_at}
use Rattle.session.proofs.Calling.{Passed}
use Rattle.session.proofs.run_calls.Given as goal

abbrev pub invariant-loop-q : goal.invariant-loop-q
invariant-loop-q l = Passed l.initial.t l.initial.q l.chunk l.initial.out l.t l.q l.out

abbrev pub decreases-loop-q : goal.decreases-loop-q
decreases-loop-q l = left_at l.chunk l.q
