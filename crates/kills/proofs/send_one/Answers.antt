-- `send_one` delivers to the list of one.
use Rattle.kills.proofs.Kills.{sent_one}
use Rattle.kills.proofs.send_one.Goals as goal

pub returns : goal.returns
returns c = search sent_one
