-- `getpid` reads the caller's number at the level of its own namespace.
use Rattle.callers.proofs.Callers.{getpid_read}
use Rattle.callers.proofs.getpid.Goals as goal

pub returns : goal.returns
returns c = search getpid_read
