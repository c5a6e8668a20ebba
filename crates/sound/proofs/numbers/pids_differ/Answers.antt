-- A loop over the levels from the deepest up, with the namespaces above at each.
use native.Mathlib.Numerals.{add-one}
use Rattle.table.proofs.AllLoops.{all_starts, all_goes_on, all_fails}
use Rattle.table.specs.Limits.{levels as level_count}
use Rattle.rules.specs.Read.{view}
use Rattle.sound.specs.Quick.{top}
use Rattle.sound.proofs.Keys.{next_top, next_differs}
use borrow.Author.Rules.{rules}
use Rattle.sound.proofs.numbers.pids_differ.Goals as goal

pub loop-k-init : goal.loop-k-init
unfolding top
loop-k-init c = (all_starts level_count _, c.themselves-tops.ensures)

pub returns-then-not-all_differ : goal.returns-then-not-all_differ
returns-then-not-all_differ c =
    let v = view c.args.t.now in
    let k = c.loop-k.k in
    let next = next_top v k _ _ _ _ c.of-tree.ensures.parents c.of-tree.ensures.levels c.loop-k.invariant.1 c.raise.ensures in
    let e = next_differs v k _ _ c.all_differ.result next c.pid_keys.ensures c.all_differ.ensures in
    all_fails level_count _ k c.all_differ.result (search rules) e (search rules)

pub loop-k-preserved : goal.loop-k-preserved
loop-k-preserved c =
    let v = view c.args.t.now in
    let k = c.loop-k.k in
    let next = next_top v k _ _ _ _ c.of-tree.ensures.parents c.of-tree.ensures.levels c.loop-k.invariant.1 c.raise.ensures in
    let e = next_differs v k _ _ c.all_differ.result next c.pid_keys.ensures c.all_differ.ensures in
    (all_goes_on level_count _ k c.all_differ.result c.loop-k.invariant.0 (search rules) e (search rules), rw add-one next)
