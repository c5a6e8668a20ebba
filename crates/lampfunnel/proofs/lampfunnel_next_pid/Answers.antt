-- The number is that of `next_pid` on the table that the mirror reads as.
use Prim.Native.Nat.{ℕ}
use mathlib.Core.Path.{◌≡◌, ap, ◌∙◌}
use Rattle.table.proofs.Chains.{chains}
use Rattle.rules.specs.Pids.{next_pid}
use Rattle.rules.specs.Read.{view}
use Rattle.table.specs.declared.Table.{Table}
use Rattle.lampfunnel.specs.Held.{next_number}
use Rattle.lampfunnel.proofs.lampfunnel_next_pid.Goals as goal

-- what was found of the table that was read holds of the table that the mirror reads as
of-the-mirror : (t u : Table) (r n : ℕ) → t ≡ u → r ≡ next_pid (view t) n → r ≡ next_pid (view u) n
of-the-mirror t u r n e f = f ∙ ap (λ (x : Table). next_pid (view x) n) e

pub returns-then-namespace : goal.returns-then-namespace
unfolding next_number
returns-then-namespace c = search chains depth 12

pub returns : goal.returns
unfolding next_number
returns c =
    let e = of-the-mirror _ _ _ _ c.table_from.ensures c.next_pid.ensures in
    search chains depth 12
