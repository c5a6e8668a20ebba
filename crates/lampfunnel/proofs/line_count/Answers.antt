-- `line_count` counts the lines that begin.
use Rattle.lampfunnel.proofs.Counting.{counted_on, counted_new, counted_all}
use borrow.Author.Rules.{rules}
use Rattle.lampfunnel.proofs.line_count.Goals as goal
use Rattle.lampfunnel.proofs.line_count.Goals.{else-not-inside, then-not-inside}

pub loop-b-preserved : goal.loop-b-preserved
loop-b-preserved c =
    let inv = c.loop-b.invariant in
    let within = c.loop-b-test.true in
    elim c.if-not-inside.branch [ then-not-inside w ↦ counted_new _ _ _ _ _ inv within (search rules) w.count-is | else-not-inside w ↦ counted_on _ _ _ _ _ inv within (search rules) w.count-is ]

pub returns : goal.returns
returns c = search (counted_all)
