-- `push_decimal` puts a number after a text.
use native.Mathlib.Omega.{arith}
use Rattle.script.proofs.Writes.{decimal_pushes}
use Rattle.script.proofs.push_decimal.Goals as goal

pub push_str-requires : goal.push_str-requires
push_str-requires c = (omega arith, search decimal_pushes)

pub returns : goal.returns
returns c = search decimal_pushes
