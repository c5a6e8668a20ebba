-- `finish` feeds the line feed that is missing, if there is a byte on the line.
use Rattle.session.proofs.Calling.{last_laws}
use Rattle.session.proofs.finish.Goals as goal

pub returns-then-line-eq0 : goal.returns-then-line-eq0
returns-then-line-eq0 c = search last_laws

pub feed-fed-requires : goal.feed-fed-requires
feed-fed-requires c = search last_laws

pub returns : goal.returns
returns c = search last_laws
