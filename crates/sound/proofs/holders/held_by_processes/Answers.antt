-- The marks of each process, after the root.
use mathlib.Core.Bool.{true, false}
use mathlib.Core.Path.{◌≡◌, sym, subst}
use lib.ListN.{set, replicate}
use Rattle.table.proofs.FoldLoops.{turns, fold_loops}
use Rattle.table.proofs.MarkLoops.{Marks}
use Rattle.table.specs.Limits.{process_slots, namespace_slots}
use Rattle.rules.specs.Read.{view, taken}
use Rattle.sound.proofs.Marks.{process_turn, processes_marked}
use Rattle.sound.specs.Quick.{held_by_processes}
use Rattle.sound.proofs.holders.held_by_processes.Goals as goal

pub loop-p-init : goal.loop-p-init
loop-p-init c = search fold_loops

pub loop-p-preserved : goal.loop-p-preserved
unfolding taken
loop-p-preserved c = search fold_loops

pub returns : goal.returns
returns c =
    let v = view c.args.t.now in
    let e : c.loop-p.marks ≡ turns process_slots (process_turn v) (set (replicate namespace_slots false) 0 true) = search fold_loops in
    subst (λ m. Marks namespace_slots m (held_by_processes v)) (sym e) (processes_marked v)
