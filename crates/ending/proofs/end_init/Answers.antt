-- `end_init` ends the namespace, puts the init's own reason, and sweeps.
use Rattle.ending.proofs.Members.{init_swept}
use Rattle.ending.proofs.end_init.Goals as goal

pub returns : goal.returns
returns c = search init_swept
