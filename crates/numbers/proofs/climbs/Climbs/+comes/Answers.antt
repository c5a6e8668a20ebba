-- `comes` is the climb of the definitions. What it keeps has come to n.
use mathlib.Core.Path.{sym, ◌∙◌}
use Rattle.table.proofs.Chains.{facts}
use Rattle.tree.proofs.Climbs.{climb_there, climb_ends}
use Rattle.numbers.proofs.Knowing.{known_is, climbs_on}
use Rattle.numbers.proofs.climbs.Climbs.+comes.Goals as goal
use Rattle.numbers.proofs.climbs.Climbs.+comes.Goals.{then-knows, else-knows}

pub returns-then-eq-clause-answer : goal.returns-then-eq-clause-answer
returns-then-eq-clause-answer t c = rw (← c.self.view_is) (search (climb_there, facts))

pub returns-then-steps-eq0-clause-answer : goal.returns-then-steps-eq0-clause-answer
returns-then-steps-eq0-clause-answer t c = rw (← c.self.view_is) (search (climb_ends, facts))

pub keep-requires : goal.keep-requires
keep-requires t c =
    elim c.if-knows.branch [
      | then-knows w ↦
          rw w.self-is (sym (climbs_on _ _ _ _ _ _ c.self.view_is (sym c.eq.ensures ∙ c.if-eq.false) c.if-steps-eq0.false c.parent-parent.ensures (known_is _ _ _ w.found-is w.if-knows.true c.knows.ensures)) ∙ c.if-found.true)
      | else-knows w ↦
          rw (w.self-is, w.comes-found.ensures.same) (sym (climbs_on _ _ _ _ _ _ c.self.view_is (sym c.eq.ensures ∙ c.if-eq.false) c.if-steps-eq0.false c.parent-parent.ensures (w.found-is ∙ w.comes-found.ensures.answer)) ∙ c.if-found.true)
    ]

pub returns-then-found-clause-answer : goal.returns-then-found-clause-answer
returns-then-found-clause-answer t c =
    climbs_on _ _ _ _ _ _ c.self.view_is (sym c.eq.ensures ∙ c.if-eq.false) c.if-steps-eq0.false c.parent-parent.ensures
    (elim c.if-knows.branch [ then-knows w ↦ known_is _ _ _ w.found-is w.if-knows.true c.knows.ensures | else-knows w ↦ w.found-is ∙ w.comes-found.ensures.answer ])

pub returns-else-found-clause-answer : goal.returns-else-found-clause-answer
returns-else-found-clause-answer t c =
    climbs_on _ _ _ _ _ _ c.self.view_is (sym c.eq.ensures ∙ c.if-eq.false) c.if-steps-eq0.false c.parent-parent.ensures
    (elim c.if-knows.branch [ then-knows w ↦ known_is _ _ _ w.found-is w.if-knows.true c.knows.ensures | else-knows w ↦ w.found-is ∙ w.comes-found.ensures.answer ])
