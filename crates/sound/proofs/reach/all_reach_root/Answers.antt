-- A chain that tests every slot.
use borrow.Author.Rules.{rules}
use borrow.Author.Tests.{tests}
use mathlib.Core.Path.{◌≡◌, refl, ap, ◌∙◌}
use Rattle.table.specs.Limits.{process_slots}
use Rattle.rules.specs.Sound.{reaches_root}
use Rattle.sound.proofs.Places.{all_of_range}
use Rattle.sound.specs.Quick.{process_in, reach_ok}
use Rattle.sound.proofs.reach.all_reach_root.Goals as goal

pub returns : goal.returns
unfolding reach_ok
returns c =
    let up = process_in c.parents-parents.result in
    let e : c.all.result ≡ reach_ok up = all_of_range _ _ process_slots (reaches_root up process_slots) _ refl c.all.ensures.ran (λ x q k. (search (rules, tests), search (rules, tests))) (λ x q k. search (rules, tests)) in
    e ∙ ap reach_ok c.parents-parents.ensures
