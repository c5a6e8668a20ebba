-- The marks of each namespace.
use Rattle.table.proofs.FoldLoops.{Turned}
use Rattle.table.specs.Limits.{namespace_slots}
use Rattle.sound.proofs.Marks.{namespace_turn}
use Rattle.sound.proofs.holders.held_by_children.Given as goal

abbrev pub invariant-loop-n : goal.invariant-loop-n
invariant-loop-n l = Turned namespace_slots (namespace_turn l.namespaces) l.initial.marks l.marks l.n
