-- The keys as a column.
use Prim.Native.Nat.{ℕ}
use mathlib.Core.Path.{refl}
use borrow.Author.Rules.{rules}
use borrow.Author.Tests.{tests}
use Rattle.table.specs.declared.Process.{Process}
use Rattle.rules.specs.Read.{taken}
use Rattle.tree.specs.Tree.{slot_in}
use Rattle.sound.specs.Quick.{process_row, pid_key}
use Rattle.table.proofs.EachRow.{column_reads}
use Rattle.sound.proofs.numbers.pid_keys.Goals as goal

pub returns : goal.returns
unfolding taken pid_key
returns c =
    let a = c.args in
    column_reads _ _ (λ (k : ℕ). k) (λ (p : Process). pid_key (slot_in a.tops.now) a.level (process_row p)) a.t.now.processes 0 c.column.result
    c.column.ensures.length refl c.column.ensures.each (λ p r q. search (rules, tests))
