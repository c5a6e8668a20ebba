-- `traits_ok` tests by two masks.
use Rattle.sound.proofs.Masks.{traits_fail, traits_last}
use borrow.Author.Rules.{rules}
use Rattle.sound.proofs.processes.traits_ok.Goals as goal

pub returns-then-x : goal.returns-then-x
returns-then-x c = traits_last c.args.x (search rules) (search rules) c.if-x.true

pub returns-else-x : goal.returns-else-x
returns-else-x c = traits_fail c.args.x (search rules) (search rules) c.if-x.false
