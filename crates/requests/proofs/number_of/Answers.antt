use Rattle.requests.proofs.Laws.{refused_number}
use Rattle.requests.proofs.number_of.Goals as goal

pub returns-in-Refused : goal.returns-in-Refused
returns-in-Refused c = refused_number _ _ _ c.in-Refused.is c.refusal_number.ensures
