-- `send_all` delivers to the list of the others.
use Rattle.kills.proofs.Kills.{sent_all}
use Rattle.kills.proofs.send_all.Goals as goal

pub returns : goal.returns
returns c = search sent_all
