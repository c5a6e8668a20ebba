-- The measure is twice the levels left, and one more for the namespace.
use Prim.Native.Nat.{◌+◌}
use Rattle.table.proofs.FoldLoops.{Turned}
use Rattle.table.specs.Limits.{process_slots}
use Rattle.ending.proofs.Members.{turn}
use Rattle.ending.proofs.+end_member_end_namespace.Given as goal

abbrev pub decreases-end_member : goal.decreases-end_member
decreases-end_member l = l.left + l.left

abbrev pub decreases-end_namespace : goal.decreases-end_namespace
decreases-end_namespace l = l.left + l.left + 1

abbrev pub invariant-end_namespace-loop-i : goal.invariant-end_namespace-loop-i
invariant-end_namespace-loop-i l = Turned process_slots (turn l.left l.n.0) l.initial.t l.t l.i
