-- `comes_first` makes the tests of one turn of the search.
use Rattle.waits.proofs.Waits.{comes_by_number}
use Rattle.waits.proofs.comes_first.Goals as goal

pub returns-in-Some : goal.returns-in-Some
returns-in-Some c = search comes_by_number
