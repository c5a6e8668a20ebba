-- `answers` grants a number.
use Rattle.rules.specs.Answers.{answers}
use Rattle.outcomes.proofs.answers.Goals as goal

pub returns : goal.returns
unfolding answers
returns c = c.granted.ensures
