-- `named` finds the process that a number names; a number past what a Pid holds names nobody, since no record has it.
use Rattle.callers.proofs.Naming.{names_nobody, names_too_far, names_somebody}
use Rattle.callers.proofs.named.Goals as goal

pub returns-then-not-names_one-clause-slot : goal.returns-then-not-names_one-clause-slot
returns-then-not-names_one-clause-slot c = search names_nobody

pub returns-in_default-clause-slot : goal.returns-in_default-clause-slot
returns-in_default-clause-slot c =
    names_too_far _ _ c.args.n c.ranges.n _ c.names_one.ensures c.if-not-names_one.false _ c.well_formed.0 c.in_default.ensures

pub returns-clause-slot : goal.returns-clause-slot
returns-clause-slot c =
    names_somebody _ _ c.args.n c.ranges.n _ c.names_one.ensures c.if-not-names_one.false _ _ _ c.in-Ok.ensures.1 c.process-p.ensures c.find.ensures.slot
