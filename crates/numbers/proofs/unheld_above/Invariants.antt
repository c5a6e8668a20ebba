-- `unheld_above` marks which numbers above the last are taken, and gives the first without a mark.
use mathlib.Core.Path.{◌≡◌}
use Rattle.numbers.proofs.Marking.{Marking}
use Rattle.numbers.specs.Climbs.{below_in}
use Rattle.numbers.specs.Holders.{own_in, pid_in}
use Rattle.numbers.specs.Marks.{marks as count}
use Rattle.numbers.proofs.unheld_above.Given as goal

abbrev pub invariant-loop-holder : goal.invariant-loop-holder
invariant-loop-holder l = record {
  marking : Marking count (pid_in l.holders) (λ j. below_in l.fn.climbs (own_in l.holders j)) l.last.0 l.marks l.holder-index;
  same : l.climbs ≡ l.fn.climbs;
}
