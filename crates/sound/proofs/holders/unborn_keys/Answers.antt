-- The keys as a column.
use Prim.Native.Nat.{ℕ}
use mathlib.Core.Path.{refl}
use borrow.Author.Rules.{rules}
use borrow.Author.Tests.{tests}
use Rattle.table.specs.Slots.{namespace}
use Rattle.table.specs.Tests.{◌and◌}
use Rattle.table.specs.declared.Process.{Process}
use Rattle.rules.specs.Read.{taken, namespace_taken}
use Rattle.sound.specs.Quick.{process_row, namespace_row, unborn_key}
use Rattle.table.proofs.EachRow.{column_reads}
use Rattle.sound.proofs.holders.unborn_keys.Goals as goal

pub returns : goal.returns
unfolding taken namespace_taken unborn_key ◌and◌
returns c =
    let t = c.args.t.now in
    column_reads _ _ (λ (k : ℕ). k) (λ (p : Process). unborn_key (process_row p) (namespace_row p.children.0 (namespace t p.children.0))) t.processes 0 c.column.result
    c.column.ensures.length refl c.column.ensures.each (λ p r q. search (rules, tests))
