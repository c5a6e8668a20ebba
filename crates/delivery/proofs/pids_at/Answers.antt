-- The numbers as a column.
use mathlib.Core.Path.{refl}
use borrow.Author.Rules.{rules}
use borrow.Author.Tests.{tests}
use Rattle.table.proofs.EachRow.{column_reads}
use Rattle.table.specs.Slots.{no_pid, pid_at}
use Rattle.table.specs.declared.Pid.{Pid}
use Rattle.table.specs.declared.Process.{Process}
use Rattle.delivery.proofs.pids_at.Goals as goal

pub returns : goal.returns
returns c =
    column_reads _ _ (λ (k : Pid). k.0) (λ (p : Process). pid_at p c.args.level) c.args.processes.now no_pid c.column.result
    c.column.ensures.length refl c.column.ensures.each (λ p r q. search (rules, tests))
