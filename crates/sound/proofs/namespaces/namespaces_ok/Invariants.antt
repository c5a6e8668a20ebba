-- A loop that tests every slot with the records that its namespace names.
use Rattle.table.specs.Slots.{init_of}
use Rattle.rules.specs.Read.{view}
use Rattle.table.proofs.AllLoops.{Passed}
use Rattle.table.specs.Limits.{namespace_slots}
use Rattle.rules.specs.Sound.{held as held_in}
use Rattle.sound.specs.Quick.{process_at, namespace_at, namespace_ok}
use Rattle.sound.proofs.namespaces.namespaces_ok.Given as goal

abbrev pub invariant-loop-n : goal.invariant-loop-n
invariant-loop-n l = Passed namespace_slots (λ k. namespace_ok k (held_in (view l.t) k) (namespace_at (view l.t) k) (namespace_at (view l.t) ((view l.t).up k)) (process_at (view l.t) (init_of ((view l.t).life k)))) l.n
