-- `answer_text` writes an answer and a line feed.
use native.Mathlib.Omega.{arith}
use Rattle.script.proofs.Writes.{feed_room, answer_written}
use Rattle.script.proofs.answer_text.Goals as goal

pub push_str-requires : goal.push_str-requires
push_str-requires c = (omega arith, search feed_room)

pub returns : goal.returns
returns c = search answer_written
