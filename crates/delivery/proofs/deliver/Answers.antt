-- `deliver` reads the target, decides, and does the action: each arm is the definition's.
use Rattle.delivery.proofs.Actions.{target, does_nothing, does_resume, does_stop, does_finish, does_pend}
use borrow.Author.Rules.{rules}
use Rattle.delivery.proofs.deliver.Goals as goal

pub with_pending-requires : goal.with_pending-requires
with_pending-requires c =
    let low = c.action_on.ensures.1 c.in-Pend.is in
    search (rules, low)

pub returns-in-Nothing : goal.returns-in-Nothing
returns-in-Nothing c =
    does_nothing _ _ _ _ _ _ (target _ _ _ _ _ _ _ c.process-p.ensures c.is_init.ensures c.action_on.ensures.0) c.in-Nothing.is

pub returns-in-Resume : goal.returns-in-Resume
returns-in-Resume c =
    does_resume _ _ _ _ _ _ (target _ _ _ _ _ _ _ c.process-p.ensures c.is_init.ensures c.action_on.ensures.0) _ _ c.in-Resume.is (search (rules, c.well_formed)) c.resumed.ensures c.with_process.ensures

pub returns-in-Stop : goal.returns-in-Stop
returns-in-Stop c =
    does_stop _ _ _ _ _ _ (target _ _ _ _ _ _ _ c.process-p.ensures c.is_init.ensures c.action_on.ensures.0) _ _ c.in-Stop.is (search (rules, c.well_formed)) c.stopped.ensures c.with_process-in-Stop.ensures

pub returns-in-Finish : goal.returns-in-Finish
returns-in-Finish c =
    does_finish _ _ _ _ _ _ (target _ _ _ _ _ _ _ c.process-p.ensures c.is_init.ensures c.action_on.ensures.0) _ c.in-Finish.is c.end_process.ensures

pub returns-in-Pend : goal.returns-in-Pend
returns-in-Pend c =
    does_pend _ _ _ _ _ _ (target _ _ _ _ _ _ _ c.process-p.ensures c.is_init.ensures c.action_on.ensures.0) _ _ c.in-Pend.is (search (rules, c.well_formed)) c.with_pending.ensures c.with_process-in-Pend.ensures
