-- A chain that tests every key.
use borrow.Author.Rules.{rules}
use borrow.Author.Tests.{tests}
use mathlib.Core.Path.{refl}
use Rattle.table.specs.Limits.{process_slots}
use Rattle.sound.proofs.Places.{all_of_range}
use Rattle.sound.specs.Quick.{key_in, differs_at, differ}
use Rattle.sound.proofs.numbers.all_differ.Goals as goal

pub returns : goal.returns
unfolding differ
returns c =
    all_of_range _ _ process_slots (differs_at (key_in c.args.keys.now)) _ refl c.all.ensures.ran (λ x q k. search (rules, tests)) (λ x q k. search (rules, tests))
