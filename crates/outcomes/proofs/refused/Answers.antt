-- `refused` is the definition, spelt out.
use Rattle.rules.specs.Answers.{refused}
use mathlib.Core.Path.{refl}
use Rattle.outcomes.proofs.refused.Goals as goal

pub returns : goal.returns
unfolding refused
returns c = refl
