-- `birth` is the walk up from the child's namespace: what it makes of the numbers and of the namespaces is the
-- definition's. The number at each level is what the marks find, or what `next_pid` gives.
use mathlib.Core.Path.{ap, ◌∙◌}
use borrow.Author.Rules.{rules}
use Rattle.numbers.proofs.Columns.{marks_give_next}
use Rattle.table.specs.declared.Pid.{Pid}
use Rattle.births.proofs.Walk.{walk_goes_on, walk_done}
use Rattle.births.proofs.birth.Goals as goal
use Rattle.births.proofs.birth.Goals.{in-Some, in-None}

pub loop-level-preserved : goal.loop-level-preserved
loop-level-preserved c =
    walk_goes_on _ _ _ _ _ _ _ c.namespace-here.result c.match-found.pid _ _ c.loop-level.invariant c.loop-level-test.true c.namespace-here.ensures
    (elim c.match-found.branch [
      | in-Some w ↦
          ap (λ (x : Pid). x.0) w.pid-is
          ∙ marks_give_next c.args.t _ _ c.of-tree.result c.holders-holders.result _ _ w.in-Some.ensures.pid w.in-Some.ensures.some
          (record { here = c.namespace-here.ensures; ups = c.of-tree.ensures.parents; depths = c.of-tree.ensures.levels; own = c.holders-holders.ensures.own; held = c.holders-holders.ensures.pid })
      | in-None w ↦ ap (λ (x : Pid). x.0) w.pid-is ∙ w.next_pid-pid.ensures
    ])
    c.set_at.ensures (search rules)

pub returns : goal.returns
returns c =
    walk_done _ _ _ _ _ _ _ _ _ _ _ _ c.loop-level.invariant (search rules) (search (rules, c.well_formed))
    c.process.ensures c.born.ensures c.newborn.ensures c.with_process-u.ensures
