-- `has_child` looks for a child, by the law of a chain that ends in `any`.
use mathlib.Core.Bool.{Bool, true, false, not}
use mathlib.Core.Path.{◌≡◌, refl}
use borrow.Author.Rules.{rules}
use borrow.Author.Tests.{tests}
use lib.Dec.{eqb}
use Rattle.std.proofs.lemmas.Iterator.{cases_from_any, YieldsList-from_slice}
use Rattle.rules.specs.Read.{taken, child_of}
use Rattle.table.proofs.IterLaws.{any_of_chain}
use Rattle.table.specs.Limits.{process_slots}
use Rattle.table.specs.Slots.{no_process, pid_at}
use Rattle.table.specs.Tests.{◌and◌}
use Rattle.table.specs.declared.Process.{Process}
use Rattle.waits.proofs.has_child.Goals as goal

pub returns : goal.returns
unfolding child_of taken
returns c =
    let b : Process → Bool = λ (p : Process). not (eqb (pid_at p 0) 0) and eqb p.parent.0 c.args.parent.0 in
    any_of_chain c.args.t.now.processes no_process process_slots b _ (search rules) (λ i k. refl) _
    (cases_from_any _ _ _ (λ (p : Process). b p ≡ true) (λ (p : Process). b p ≡ false) c.any.ensures.ran (YieldsList-from_slice c.args.t.now.processes (search rules)) (λ x q k. search (rules, tests)) (λ x q k. search (rules, tests)))
