-- The holders as a column, read by either field.
use mathlib.Core.Path.{refl}
use borrow.Author.Rules.{rules}
use borrow.Author.Tests.{tests}
use Rattle.table.proofs.EachRow.{column_reads}
use Rattle.table.specs.declared.Process.{Process}
use Rattle.numbers.specs.Holders.{nobody}
use Rattle.numbers.specs.Marks.{held_pid}
use Rattle.numbers.specs.declared.Holder.{Holder}
use Rattle.numbers.proofs.holders.Goals as goal

pub returns-clause-own : goal.returns-clause-own
returns-clause-own c =
    column_reads _ _ (λ (x : Holder). x.own.0) (λ (p : Process). p.own.0) c.args.processes.now nobody c.column.result
    c.column.ensures.length refl c.column.ensures.each (λ p r q. search (rules, tests))

pub returns-clause-pid : goal.returns-clause-pid
returns-clause-pid c =
    column_reads _ _ (λ (x : Holder). x.pid.0) (λ (p : Process). held_pid p c.args.level) c.args.processes.now nobody c.column.result
    c.column.ensures.length refl c.column.ensures.each (λ p r q. search (rules, tests))
