-- A loop that tests every slot with the records that its process names.
use Rattle.rules.specs.Read.{view, children}
use Rattle.table.proofs.AllLoops.{Passed}
use Rattle.table.specs.Limits.{process_slots}
use Rattle.sound.specs.Quick.{process_at, namespace_at, process_ok}
use Rattle.sound.proofs.processes.processes_ok.Given as goal

abbrev pub invariant-loop-i : goal.invariant-loop-i
invariant-loop-i l = Passed process_slots (λ k. process_ok (view l.t).up k (process_at (view l.t) k) (namespace_at (view l.t) ((view l.t).own k)) (namespace_at (view l.t) (children (view l.t) k)) (process_at (view l.t) ((view l.t).parent k))) l.i
