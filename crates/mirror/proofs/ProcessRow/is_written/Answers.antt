use mathlib.Core.Bool.{true≢false}
use mathlib.Core.Path.{sym, ◌∙◌}
use borrow.Author.Tests.{ne_eqb}
use Rattle.mirror.proofs.Rows.{state_passes, state_fails, end_fails}
use Rattle.mirror.proofs.ProcessRow.is_written.Goals as goal
use Rattle.mirror.proofs.ProcessRow.is_written.Goals.{then-state_kind-self, else-state_kind-self}

pub returns-then-state_end-self : goal.returns-then-state_end-self
returns-then-state_end-self c =
    let yes = c.if-state_end-self.true in
    elim c.if-state_kind-self.branch [ then-state_kind-self w ↦ state_passes _ _ _ _ _ c.state-s.ensures c.state_kind.ensures w.state_end.ensures w.if-state_kind-self.true w.value-is yes | else-state_kind-self w ↦ absurd (true≢false (sym yes ∙ w.value-is ∙ ne_eqb _ _ w.if-state_kind-self.false)) ]

pub returns-else-state_end-self : goal.returns-else-state_end-self
returns-else-state_end-self c =
    let no = c.if-state_end-self.false in
    elim c.if-state_kind-self.branch [ then-state_kind-self w ↦ no ∙ end_fails _ _ _ c.state-s.ensures w.state_end.ensures (sym w.value-is ∙ no) | else-state_kind-self w ↦ no ∙ state_fails _ _ _ c.state-s.ensures c.state_kind.ensures w.if-state_kind-self.false ]
