-- `free_from` gives the lowest free number, by the laws of the candidate loop and of the loop over slots in it.
use Prim.Native.Nat.{suc, ◌-◌}
use mathlib.Core.Path.{◌≡◌}
use lib.Dec.{eqb}
use Rattle.table.proofs.AnyLoops.{Unmet}
use Rattle.table.proofs.SeekLoops.{Seeking}
use Rattle.table.specs.Limits.{greatest_pid, process_slots}
use Rattle.rules.specs.Pids.{free_pid}
use Rattle.rules.specs.Read.{view, seen, pid_seen}
use Rattle.table.specs.Tests.{◌and◌}
use Rattle.numbers.proofs.free_from.Given as goal

abbrev pub invariant-loop-p : goal.invariant-loop-p
invariant-loop-p l =
    (l.candidate ≡ l.initial.candidate) × Unmet process_slots (λ k. seen (view l.t) l.n.0 k and eqb (pid_seen (view l.t) l.n.0 k) l.candidate) l.p-index

abbrev pub invariant-candidates : goal.invariant-candidates
invariant-candidates l = Seeking (free_pid (view l.t) l.n.0) greatest_pid l.initial.candidate l.candidate

abbrev pub decreases-candidates : goal.decreases-candidates
decreases-candidates l = suc greatest_pid - l.candidate
