-- What `Called` comes to on tables that can be computed: what is told is the caller's own, what the host holds then is
-- the table after the call, and a refusal leaves it. By computation.
use mathlib.Core.Path.{◌≡◌, ap}
use lib.IntN.{pos}
use Rattle.lampfunnel.specs.Held.{Called}
use Rattle.mirror.specs.Mirror.{table_from}
use Rattle.mirror.specs.declared.Mirror.{Mirror}
use Rattle.requests.specs.declared.Told.{Told}
use Rattle.rules.specs.Answers.{minus}
use Rattle.rules.specs.Read.{view}
use Rattle.turns.proofs.Edges.{opened, request, held}
use Rattle.turns.specs.Turns.{turn}

-- the root init and a child
abbrev two : Mirror
two = (turn held 0 (request 1 (pos 0))).mirror

-- The child asks for its number, and is not told the root init's.
pub told_its_own : (x : Told) (after : Mirror) → Called two 1 (request 8 (pos 0)) x after → x.answer ≡ pos 2
unfolding opened
told_its_own x after a = ap (λ (y : Told). y.answer) a.0

-- After a clone the child is in what the host holds.
pub child_kept : (x : Told) (after : Mirror) → Called held 0 (request 1 (pos 0)) x after → (view (table_from after)).pid 1 0 ≡ 2
unfolding opened
child_kept x after a = ap (λ m. (view (table_from m)).pid 1 0) a.1

-- A slot that no table has makes no call, and what the host holds stays as it was.
pub nobody_calls : (x : Told) (after : Mirror) → Called held 256 (request 1 (pos 0)) x after → (x.answer ≡ minus 1001) × (after ≡ held)
unfolding opened
nobody_calls x after a = (ap (λ (y : Told). y.answer) a.0, a.1)
