-- The cycle of `end_member` and `end_namespace`.
use lib.Seq.{set-get_or}
use Rattle.table.proofs.Chains.{facts}
use Rattle.table.proofs.FoldLoops.{fold_loops, fold_goes_on}
use Rattle.ending.proofs.Members.{member_own, member_spent, member_down, turn_ends, turn_passes, namespace_done}
use Rattle.ending.proofs.+end_member_end_namespace.Goals as goal
use Rattle.ending.proofs.+end_member_end_namespace.Goals.{end_namespace-then-falls_with, end_namespace-else-falls_with}

pub end_member-returns-then-eq : goal.end_member-returns-then-eq
end_member-returns-then-eq t c = search (member_own, facts)

pub end_member-returns-then-left-eq0 : goal.end_member-returns-then-left-eq0
end_member-returns-then-left-eq0 t c = search (member_spent, facts)

pub end_member-returns : goal.end_member-returns
end_member-returns t c = search (member_down, facts)

pub end_namespace-loop-i-init : goal.end_namespace-loop-i-init
end_namespace-loop-i-init t c = search fold_loops

pub end_namespace-loop-i-preserved : goal.end_namespace-loop-i-preserved
end_namespace-loop-i-preserved t c =
    let ends = turn_ends c.args.left c.args.n.0 c.loop-i.i c.loop-i.t _ c.falls_with.ensures _ (set-get_or _ _ _) c.if-falls_with.t in
    let passes = turn_passes c.args.left c.args.n.0 c.loop-i.i c.loop-i.t _ c.falls_with.ensures _ (set-get_or _ _ _) c.if-falls_with.t in
    fold_goes_on _ _ _ _ _ _ c.loop-i.invariant c.loop-i-test.true
    (elim c.if-falls_with.branch [ end_namespace-then-falls_with w ↦ ends _ w.if-falls_with.true w.end_member.ensures w.t-is | end_namespace-else-falls_with w ↦ passes w.if-falls_with.false w.t-is ])

pub end_namespace-returns : goal.end_namespace-returns
end_namespace-returns t c = search namespace_done
