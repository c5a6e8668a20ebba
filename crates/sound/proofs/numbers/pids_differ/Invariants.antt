-- A loop over the levels from the deepest up, with the namespaces above at each.
use mathlib.Core.Path.{◌≡◌}
use Rattle.table.proofs.AllLoops.{Passed}
use Rattle.table.specs.Limits.{levels as level_count}
use Rattle.rules.specs.Read.{view}
use Rattle.tree.specs.Tree.{slot_in}
use Rattle.sound.specs.Quick.{differ, pid_keys, top}
use Rattle.sound.proofs.numbers.pids_differ.Given as goal

abbrev pub invariant-loop-k : goal.invariant-loop-k
invariant-loop-k l = (Passed level_count (λ j. differ (pid_keys (view l.t) j)) l.k) × (slot_in l.tops ≡ top (view l.t).up (view l.t).level l.k)
