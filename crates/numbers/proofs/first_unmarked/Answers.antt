-- `first_unmarked` is a chain that ends in `position`.
use mathlib.Core.Bool.{Bool, true, false, not}
use mathlib.Core.Path.{◌≡◌, refl}
use borrow.Author.Rules.{rules}
use borrow.Author.Tests.{tests}
use Rattle.std.proofs.lemmas.Iterator.{IsFirst-from_position, YieldsList-from_slice}
use Rattle.table.proofs.IterLaws.{first_of_chain}
use Rattle.numbers.specs.Marks as window
use Rattle.numbers.proofs.first_unmarked.Goals as goal

pub returns-clause-place : goal.returns-clause-place
returns-clause-place c =
    first_of_chain c.args.marks.now false window.marks not _ (search rules) (λ i k. refl) _
    (IsFirst-from_position _ _ _ (λ (b : Bool). not b ≡ true) (λ (b : Bool). not b ≡ false) c.position.ensures.ran (YieldsList-from_slice c.args.marks.now (search rules)) (λ x q k. search (rules, tests)) (λ x q k. search (rules, tests)))
