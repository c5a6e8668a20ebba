-- A chain that tests every level.
use Prim.Native.Nat.{ℕ}
use borrow.Author.Rules.{rules}
use borrow.Author.Tests.{tests}
use mathlib.Core.Path.{refl}
use Rattle.table.specs.Limits.{levels}
use Rattle.table.specs.Slots.{pid_at}
use Rattle.sound.proofs.Places.{all_of_range}
use Rattle.sound.specs.Quick.{pid_ok, pids_ok}
use Rattle.sound.proofs.processes.pids_ok.Goals as goal

pub returns : goal.returns
unfolding pids_ok
returns c =
    all_of_range _ _ levels (λ (l : ℕ). pid_ok (pid_at c.args.p.now l) l c.args.level) _ refl c.all.ensures.ran (λ x q k. search (rules, tests)) (λ x q k. search (rules, tests))
