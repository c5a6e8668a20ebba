-- `insert` puts a slot at its place, by the laws of that loop.
use borrow.Author.Rules.{rules}
use borrow.Author.Tests.{tests}
use Rattle.table.proofs.Chains.{chains}
use Rattle.delivery.proofs.Inserts.{insert_loops}
use Rattle.delivery.proofs.insert.Goals as goal
use Rattle.delivery.proofs.insert.Goals.{then-placed, then-placed-via-then-placed, then-placed-via-else-placed+then-lt, else-placed+else-lt}

pub loop-i-init : goal.loop-i-init
loop-i-init c = search insert_loops

pub loop-i-preserved : goal.loop-i-preserved
loop-i-preserved c =
    elim c.if-placed.branch [ then-placed w ↦ elim w.then-placed.branch [ then-placed-via-then-placed v ↦ search (insert_loops, chains) | then-placed-via-else-placed+then-lt v ↦ search (insert_loops, chains, rules, tests) ] | else-placed+else-lt w ↦ search (insert_loops, chains, rules, tests) ]

pub returns-clause-list : goal.returns-clause-list
returns-clause-list c = search insert_loops
