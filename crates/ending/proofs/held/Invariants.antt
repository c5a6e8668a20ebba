-- `held` marks what each process holds in turn, by the laws of a loop of turns.
use Rattle.table.proofs.FoldLoops.{Turned}
use Rattle.table.specs.Limits.{process_slots}
use Rattle.table.specs.Slots.{process}
use Rattle.tree.specs.Tree.{mark_process}
use Rattle.ending.proofs.held.Given as goal

abbrev pub invariant-loop-p : goal.invariant-loop-p
invariant-loop-p l =
    Turned process_slots (λ k m. mark_process m (process l.t k)) l.initial.marks l.marks l.p-index
