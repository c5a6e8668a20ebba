-- A chain that tests every number.
use mathlib.Core.Bool.{true, false}
use mathlib.Core.Path.{◌≡◌, refl}
use borrow.Author.Rules.{rules}
use borrow.Author.Tests.{tests}
use lib.Dec.{eqb}
use Rattle.std.proofs.lemmas.Iterator.{cases_from_all, YieldsList-from_slice}
use Rattle.table.proofs.IterLaws.{all_of_chain}
use Rattle.table.specs.Limits.{levels}
use Rattle.table.specs.Slots.{no_pid}
use Rattle.table.specs.declared.Pid.{Pid}
use Rattle.sound.proofs.processes.no_pids.Goals as goal

pub returns : goal.returns
returns c =
    let pids = c.args.p.now.pids in
    all_of_chain pids no_pid levels (λ (k : Pid). eqb k.0 0) _ (search rules) (λ i k. refl) _
    (cases_from_all _ _ _ (λ (k : Pid). eqb k.0 0 ≡ true) (λ (k : Pid). eqb k.0 0 ≡ false) c.all.ensures.ran (YieldsList-from_slice pids (search rules)) (λ x q k. search (rules, tests)) (λ x q k. search (rules, tests)))
