-- The marks of each process, after the root.
use Rattle.table.proofs.FoldLoops.{Turned}
use Rattle.table.specs.Limits.{process_slots}
use Rattle.rules.specs.Read.{view}
use Rattle.sound.proofs.Marks.{process_turn}
use Rattle.sound.proofs.holders.held_by_processes.Given as goal

abbrev pub invariant-loop-p : goal.invariant-loop-p
invariant-loop-p l = Turned process_slots (process_turn (view l.t)) l.initial.marks l.marks l.p-index
