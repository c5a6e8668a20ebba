-- `line_count` counts the lines that begin.
use Rattle.lampfunnel.proofs.Counting.{Counted}
use Rattle.lampfunnel.proofs.line_count.Given as goal

abbrev pub invariant-loop-b : goal.invariant-loop-b
invariant-loop-b l = Counted l.script l.count l.inside l.b-index
