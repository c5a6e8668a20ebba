-- `free_slot` gives the lowest free process slot, by the law of a chain that ends in `position`.
use mathlib.Core.Bool.{true, false, not}
use mathlib.Core.Path.{◌≡◌, refl, ◌∙◌}
use borrow.Author.Rules.{rules}
use borrow.Author.Tests.{tests}
use lib.Dec.{eqb}
use Rattle.std.proofs.lemmas.Iterator.{IsFirst-from_position, YieldsList-from_slice}
use Rattle.table.proofs.IterLaws.{first_of_chain}
use Rattle.table.specs.Limits.{process_slots}
use Rattle.table.specs.Slots.{no_process, pid_at}
use Rattle.table.specs.declared.Process.{Process}
use Rattle.rules.specs.Pids.{free_slot}
use Rattle.rules.specs.Read.{taken}
use Rattle.tree.proofs.free_slot.Goals as goal

pub returns-clause-slot : goal.returns-clause-slot
unfolding taken free_slot
returns-clause-slot c =
    c.process_at.ensures.slot
    ∙ first_of_chain c.args.t.now.processes no_process process_slots (λ (p : Process). not (not (eqb (pid_at p 0) 0))) _ (search rules) (λ i k. refl) _
    (IsFirst-from_position _ _ _ (λ (p : Process). not (not (eqb (pid_at p 0) 0)) ≡ true) (λ (p : Process). not (not (eqb (pid_at p 0) 0)) ≡ false) c.position.ensures.ran (YieldsList-from_slice c.args.t.now.processes (search rules)) (λ x q k. search (rules, tests)) (λ x q k. search (rules, tests)))
