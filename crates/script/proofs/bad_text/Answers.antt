-- `bad_text` is a question mark and a line feed.
use Rattle.script.proofs.Writes.{bad_written}
use Rattle.script.proofs.bad_text.Goals as goal

pub returns : goal.returns
returns c = search bad_written
