-- The marks of each namespace.
use mathlib.Core.Bool.{false}
use mathlib.Core.Path.{◌≡◌, sym, subst}
use lib.ListN.{replicate}
use Rattle.table.proofs.FoldLoops.{turns, fold_loops}
use Rattle.table.proofs.MarkLoops.{Marks}
use Rattle.table.specs.Limits.{namespace_slots}
use Rattle.sound.proofs.Marks.{namespace_turn, children_marked}
use Rattle.sound.specs.Quick.{held_by_children}
use Rattle.sound.proofs.holders.held_by_children.Goals as goal

pub loop-n-init : goal.loop-n-init
loop-n-init c = search fold_loops

pub loop-n-preserved : goal.loop-n-preserved
loop-n-preserved c = search fold_loops

pub returns : goal.returns
returns c =
    let s = c.args.namespaces.now in
    let e : c.loop-n.marks ≡ turns namespace_slots (namespace_turn s) (replicate namespace_slots false) = search fold_loops in
    subst (λ m. Marks namespace_slots m (held_by_children s)) (sym e) (children_marked s)
