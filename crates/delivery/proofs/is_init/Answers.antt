-- `is_init` reads the process and its own namespace.
use Rattle.delivery.proofs.Actions.{init_read}
use Rattle.delivery.proofs.is_init.Goals as goal

pub returns : goal.returns
returns c = search init_read
