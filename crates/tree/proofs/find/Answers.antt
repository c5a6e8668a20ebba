-- `find` gives the slot of the process with a number, by the law of a chain that ends in `position`.
use mathlib.Core.Bool.{Bool, true, false}
use mathlib.Core.Path.{◌≡◌, ◌∙◌}
use borrow.Author.Rules.{rules}
use borrow.Author.Tests.{tests}
use Rattle.std.proofs.lemmas.Iterator.{IsFirst-from_position, YieldsList-from_slice}
use Rattle.table.proofs.IterLaws.{first_of_chain}
use Rattle.table.specs.Limits.{process_slots}
use Rattle.table.specs.Slots.{no_process, process}
use Rattle.table.specs.declared.Process.{Process}
use Rattle.rules.specs.Read.{view, find}
use Rattle.tree.proofs.Sights.{named_read, itself}
use Rattle.tree.specs.Tree.{named_from, slot_in, level_in}
use Rattle.tree.proofs.find.Goals as goal

pub returns-clause-slot : goal.returns-clause-slot
unfolding find
returns-clause-slot c =
    let t = c.args.t.now in
    let b : Process → Bool = λ (p : Process). named_from (slot_in c.of-tree.result.parents) (level_in c.of-tree.result.levels) c.args.n.0 c.level-level.result c.args.pid.0 p in
    c.process_at.ensures.slot
    ∙ first_of_chain t.processes no_process process_slots b _ (search rules) (λ i k. named_read (view t) c.of-tree.result.parents c.of-tree.result.levels c.args.n.0 i (process t i) (itself t i) c.of-tree.ensures.parents c.of-tree.ensures.levels c.level-level.result c.args.pid.0 c.level-level.ensures) _
    (IsFirst-from_position _ _ _ (λ (p : Process). b p ≡ true) (λ (p : Process). b p ≡ false) c.position.ensures.ran (YieldsList-from_slice t.processes (search rules)) (λ x q k. search (rules, tests)) (λ x q k. search (rules, tests)))
