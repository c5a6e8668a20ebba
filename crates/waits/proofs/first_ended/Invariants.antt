-- `first_ended` keeps the best slot; the definition is the same turns over the slots.
use Rattle.std.specs.Prelude.{IfSome, ◌<◌}
use Rattle.table.specs.Limits.{process_slots}
use Rattle.table.proofs.FoldLoops.{Turned}
use Rattle.tree.specs.Tree.{process_found}
use Rattle.waits.proofs.Waits.{turn}
use Rattle.waits.proofs.first_ended.Given as goal

abbrev pub invariant-loop-i : goal.invariant-loop-i
invariant-loop-i l = record {
  turned : Turned process_slots (turn l.t l.parent.0 l.level) process_slots (process_found l.best) l.i;
  within : IfSome l.best (λ s. s.0 < process_slots);
}
