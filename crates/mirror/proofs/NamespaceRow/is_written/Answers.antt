use Rattle.mirror.proofs.Rows.{life_passes, life_fails}
use Rattle.mirror.proofs.NamespaceRow.is_written.Goals as goal

pub returns-then-life_kind-self : goal.returns-then-life_kind-self
returns-then-life_kind-self c = search life_passes

pub returns-else-life_kind-self : goal.returns-else-life_kind-self
returns-else-life_kind-self c = search life_fails
