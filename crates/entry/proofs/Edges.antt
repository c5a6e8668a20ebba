-- What `Applied` comes to on tables that can be computed: the answer is the caller's own, the table that was lent is
-- the one after the call, and a refusal leaves it. By computation.
use Prim.Native.Nat.{ℕ}
use mathlib.Core.Option.{none}
use mathlib.Core.Path.{◌≡◌, ap}
use lib.IntN.{pos}
use Rattle.entry.specs.Applied.{Applied}
use Rattle.rules.proofs.Open.{everything}
use Rattle.rules.specs.Answers.{minus, shown}
use Rattle.rules.specs.Read.{view}
use Rattle.rules.specs.Step.{step}
use Rattle.table.specs.Fresh.{fresh}
use Rattle.table.specs.declared.Call.TheVariants.{Clone, Getpid}
use Rattle.table.specs.declared.ProcSlot.{ProcSlot}
use Rattle.table.specs.declared.Reply.{Reply}
use Rattle.table.specs.declared.Table.{Table}

abbrev slot : ℕ → ProcSlot
slot i = record { 0 = i }

-- the root init and a child
abbrev two : Table
two = (step fresh 0 Clone).table

-- The child asks for its number, and is not told the root init's.
pub told_its_own : (r : Reply) (after : Table) → Applied two (slot 1) Getpid r after → shown r.answer ≡ (pos 2, none)
unfolding everything
told_its_own r after a = ap (λ (x : Reply). shown x.answer) a.reply_is

-- After a clone the child is in the table that was lent.
pub child_kept : (r : Reply) (after : Table) → Applied fresh (slot 0) Clone r after → (view after).pid 1 0 ≡ 2
unfolding everything
child_kept r after a = ap (λ t. (view t).pid 1 0) a.table_is

-- A slot that nobody has makes no call, and the table stays as it was.
pub nobody_calls : (r : Reply) (after : Table) → Applied fresh (slot 5) Clone r after → (shown r.answer ≡ (minus 1001, none)) × (after ≡ fresh)
unfolding everything
nobody_calls r after a = (ap (λ (x : Reply). shown x.answer) a.reply_is, a.table_is)
