-- Promise 3 applies to the tables and lists of Actual.antt.
use mathlib.Core.Path.{refl, sym, ◌∙◌}
use Rattle.sameness.proofs.Promise3.{sameness}
use Rattle.sameness.proofs.Actual.{alone, among, some_calls, other_calls, sound, lives, same_sheets, untouching}
use Rattle.sameness.specs.Claims.{Sameness, Agree, observations}
use Rattle.sameness.specs.Events.{at, inside_calls}

-- All that promise 3 supposes is met, on two tables of which one has twice as many processes.
pub applies : Agree (observations alone (at 1) some_calls) (observations among (at 1) other_calls)
unfolding Sameness inside_calls
applies =
    sameness alone among 1 1 sound.0 sound.1 lives.0 lives.1 (same_sheets.0 ∙ sym same_sheets.1) some_calls other_calls refl
    untouching.0 untouching.1
