-- `push_end` puts after a text how a process ended.
use Rattle.script.proofs.Writes.{end_pushes}
use Rattle.script.proofs.push_end.Goals as goal

pub push_decimal-requires : goal.push_decimal-requires
push_decimal-requires c = search end_pushes

pub push_decimal-requires-in-Signaled : goal.push_decimal-requires-in-Signaled
push_decimal-requires-in-Signaled c = search end_pushes

pub returns-in-Exited : goal.returns-in-Exited
returns-in-Exited c = search end_pushes

pub returns-in-Signaled : goal.returns-in-Signaled
returns-in-Signaled c = search end_pushes
