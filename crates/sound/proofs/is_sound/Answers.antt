-- The passes say what soundness says.
use mathlib.Core.Path.{◌∙◌}
use Rattle.rules.specs.Read.{view}
use Rattle.rules.proofs.Laws.Facts.{past_from}
use Rattle.sound.proofs.Same.{same}
use borrow.Author.Rules.{rules}
use Rattle.sound.proofs.is_sound.Goals as goal

pub returns : goal.returns
returns c =
    let t = c.args.t in
    c.passes.ensures ∙ same (view t) (past_from t (search (rules, c.well_formed)) (search (rules, c.well_formed)))
