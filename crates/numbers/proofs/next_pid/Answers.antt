-- `next_pid` gives what the marks find, or what the search one by one does.
use Rattle.numbers.proofs.Columns.{marks_give_next}
use Rattle.numbers.proofs.next_pid.Goals as goal

pub returns-in-Some : goal.returns-in-Some
returns-in-Some c =
    marks_give_next c.args.t.now _ _ c.of-tree.result c.holders-holders.result _ _ c.in-Some.ensures.pid c.in-Some.ensures.some
    (record { here = c.namespace-here.ensures; ups = c.of-tree.ensures.parents; depths = c.of-tree.ensures.levels; own = c.holders-holders.ensures.own; held = c.holders-holders.ensures.pid })
