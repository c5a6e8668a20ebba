-- `read_call` takes a line apart at its first two spaces.
use Rattle.script.proofs.Parts.{call_plain, call_one, call_two}
use Rattle.script.proofs.read_call.Goals as goal

pub returns-in_default : goal.returns-in_default
returns-in_default c = call_plain _ _ c.in_default.ensures c.plain_call.ensures

pub returns-in_default-split_word : goal.returns-in_default-split_word
returns-in_default-split_word c = call_one _ _ _ _ c.in-Some.ensures c.in_default-split_word.ensures c.call_with.ensures

pub returns : goal.returns
returns c = call_two _ _ _ _ _ _ c.in-Some.ensures c.in-Some-split_word.ensures c.call_with_two.ensures
