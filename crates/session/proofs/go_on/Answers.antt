-- `go_on` writes the answer, and seeks on from there.
use mathlib.Core.Path.{◌∙◌}
use Rattle.session.proofs.Seeking.{answer_sought}
use Rattle.session.proofs.go_on.Goals as goal

pub returns : goal.returns
returns c =
    answer_sought _ _ _ _ _ _ _ _ _ _ _ _ c.requires c.answer_text-text.ensures (c.as_bytes.ensures.value ∙ c.deref.ensures.0) c.put-used.ensures
    c.empty.ensures c.seek.ensures
