-- One call on a table that is lent: what is told is the by-value step's reply, and what lies there then is its table.
use Rattle.std.specs.Prelude.{◌≡◌}
use Rattle.rules.specs.Step.{step}
use Rattle.table.specs.declared.Call.{Call}
use Rattle.table.specs.declared.ProcSlot.{ProcSlot}
use Rattle.table.specs.declared.Reply.{Reply}
use Rattle.table.specs.declared.Table.{Table}

pub record Applied (before : Table) (caller : ProcSlot) (call : Call) (r : Reply) (after : Table) : Type 0 where
  pub reply_is : r ≡ (step before caller.0 call).reply
  pub table_is : after ≡ (step before caller.0 call).table
