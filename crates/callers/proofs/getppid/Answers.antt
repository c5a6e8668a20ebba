-- `getppid` gives the parent's number as `pid_in` has it.
use Rattle.callers.proofs.Callers.{getppid_read}
use Rattle.callers.proofs.getppid.Goals as goal

pub returns : goal.returns
returns c = search getppid_read
