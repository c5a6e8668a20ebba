-- A loop that tests every slot with the records that its process names.
use Rattle.sound.proofs.Records.{process_reads}
use Rattle.table.proofs.AllLoops.{all_starts, all_goes_on, all_fails, all_passes}
use Rattle.table.specs.Limits.{process_slots}
use Rattle.sound.specs.Quick.{processes_ok}
use borrow.Author.Rules.{rules}
use Rattle.sound.proofs.processes.processes_ok.Goals as goal

pub loop-i-init : goal.loop-i-init
loop-i-init c = all_starts process_slots _

pub returns-then-not-process_ok : goal.returns-then-not-process_ok
unfolding processes_ok
returns-then-not-process_ok c =
    let m = c.of.ensures in
    let e = process_reads c.args.t.now c.loop-i.i _ _ _ _ _ c.process_ok.result c.of-tree.ensures.parents m.process m.home m.inner m.parent c.process_ok.ensures in
    all_fails process_slots _ _ c.process_ok.result c.loop-i-test.true e (search rules)

pub loop-i-preserved : goal.loop-i-preserved
loop-i-preserved c =
    let m = c.of.ensures in
    let e = process_reads c.args.t.now c.loop-i.i _ _ _ _ _ c.process_ok.result c.of-tree.ensures.parents m.process m.home m.inner m.parent c.process_ok.ensures in
    all_goes_on process_slots _ _ c.process_ok.result c.loop-i.invariant c.loop-i-test.true e (search rules)

pub returns : goal.returns
unfolding processes_ok
returns c = all_passes process_slots _ _ c.loop-i.invariant (search rules)
