-- `push_answer` writes a number, and how a removed process ended.
use Rattle.script.proofs.Writes.{answer_pushes}
use Rattle.script.proofs.push_answer.Goals as goal

pub push_decimal-requires : goal.push_decimal-requires
push_decimal-requires c = search answer_pushes

pub push_decimal-requires-in-Reaped : goal.push_decimal-requires-in-Reaped
push_decimal-requires-in-Reaped c = search answer_pushes

pub push_end-requires : goal.push_end-requires
push_end-requires c = search answer_pushes

pub push_decimal-requires-in-Refused : goal.push_decimal-requires-in-Refused
push_decimal-requires-in-Refused c = search answer_pushes

pub returns-in-Number : goal.returns-in-Number
returns-in-Number c = search answer_pushes

pub returns-in-Reaped : goal.returns-in-Reaped
returns-in-Reaped c = search answer_pushes

pub returns-in-Refused : goal.returns-in-Refused
returns-in-Refused c = search answer_pushes
