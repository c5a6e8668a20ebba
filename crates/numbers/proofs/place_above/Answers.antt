-- `place_above` is the definition, by its tests.
use Rattle.numbers.proofs.Places.{places}
use Rattle.numbers.proofs.place_above.Goals as goal

pub returns-then-holder-last-clause-place : goal.returns-then-holder-last-clause-place
returns-then-holder-last-clause-place c = search places

pub returns-then-place-ge-MARKS-clause-place : goal.returns-then-place-ge-MARKS-clause-place
returns-then-place-ge-MARKS-clause-place c = search places

pub returns-then-not-seen-clause-place : goal.returns-then-not-seen-clause-place
returns-then-not-seen-clause-place c = search places

pub returns-clause-place : goal.returns-clause-place
returns-clause-place c = search places
