-- A loop that tests every slot with the records that its namespace names.
use mathlib.Core.Path.{ap₂, ◌∙◌}
use Rattle.sound.proofs.Marks.{marks_all}
use Rattle.sound.proofs.Records.{namespace_reads}
use Rattle.table.specs.Tests.{◌or◌}
use Rattle.table.specs.Limits.{namespace_slots}
use Rattle.sound.specs.Quick.{namespaces_ok}
use Rattle.table.proofs.AllLoops.{all_starts, all_goes_on, all_fails, all_passes}
use borrow.Author.Rules.{rules}
use Rattle.sound.proofs.namespaces.namespaces_ok.Goals as goal

pub loop-n-init : goal.loop-n-init
loop-n-init c = all_starts namespace_slots _

pub returns-then-not-namespace_ok : goal.returns-then-not-namespace_ok
unfolding namespaces_ok ◌or◌
returns-then-not-namespace_ok c =
    let t = c.args.t.now in
    let n = c.loop-n.n in
    let held = ap₂ (λ x y. x or y) (c.held_by_processes-by_process.ensures.says n c.loop-n-test.true) (c.held_by_children-by_child.ensures.says n c.loop-n-test.true) ∙ marks_all t n in
    let m = c.of-place.ensures in
    let e = namespace_reads t n _ _ _ _ _ c.namespace_ok.result held m.slot m.namespace m.above m.init c.namespace_ok.ensures in
    all_fails namespace_slots _ n c.namespace_ok.result c.loop-n-test.true e (search rules)

pub loop-n-preserved : goal.loop-n-preserved
unfolding ◌or◌
loop-n-preserved c =
    let t = c.args.t.now in
    let n = c.loop-n.n in
    let held = ap₂ (λ x y. x or y) (c.held_by_processes-by_process.ensures.says n c.loop-n-test.true) (c.held_by_children-by_child.ensures.says n c.loop-n-test.true) ∙ marks_all t n in
    let m = c.of-place.ensures in
    let e = namespace_reads t n _ _ _ _ _ c.namespace_ok.result held m.slot m.namespace m.above m.init c.namespace_ok.ensures in
    all_goes_on namespace_slots _ n c.namespace_ok.result c.loop-n.invariant c.loop-n-test.true e (search rules)

pub returns : goal.returns
unfolding namespaces_ok
returns c = all_passes namespace_slots _ _ c.loop-n.invariant (search rules)
