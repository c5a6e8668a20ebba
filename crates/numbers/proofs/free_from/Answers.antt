-- `free_from` gives the lowest free number, by the laws of the candidate loop and of the loop over slots in it.
use native.Mathlib.Omega.{arith}
use Rattle.table.proofs.AnyLoops.{any_loops}
use Rattle.table.proofs.SeekLoops.{seek_loops}
use Rattle.rules.specs.Pids.{free_pid}
use Rattle.tree.proofs.Sights.{named_test}
use borrow.Author.Rules.{rules}
use Rattle.numbers.proofs.Tried.{none_left}
use Rattle.numbers.proofs.free_from.Goals as goal

pub loop-p-init : goal.loop-p-init
loop-p-init c = search (any_loops, rules)

pub candidates-preserved : goal.candidates-preserved
unfolding free_pid
candidates-preserved c = search (seek_loops, any_loops, named_test)

pub loop-p-preserved : goal.loop-p-preserved
loop-p-preserved c = search (any_loops, named_test, rules)

pub returns-then-candidate-gt-GREATEST_PID : goal.returns-then-candidate-gt-GREATEST_PID
returns-then-candidate-gt-GREATEST_PID c = none_left _ _ _ _ c.candidates.invariant (search rules)

pub returns-after-loop-p : goal.returns-after-loop-p
unfolding free_pid
returns-after-loop-p c =
    (search (seek_loops, any_loops), search (rules, arith))
