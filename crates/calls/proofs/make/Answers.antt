-- `make` goes by which call it is.
use Rattle.table.specs.declared.Call.TheVariants.{Clone, CloneNew, Unshare, Wait, Getpid, Getppid, Poll}
use Rattle.rules.specs.Step.{make}
use Rattle.calls.proofs.Steps.{made, made_setns, made_kill, made_exit, made_handle}
use borrow.Author.Rules.{rules}
use Rattle.calls.proofs.make.Goals as goal

pub returns-in-Clone : goal.returns-in-Clone
unfolding make
returns-in-Clone c = λ s q. made c.args.t c.args.caller.0 c.args.call _ Clone c.in-Clone.is c.clone.ensures

pub returns-in-CloneNew : goal.returns-in-CloneNew
unfolding make
returns-in-CloneNew c = λ s q. made c.args.t c.args.caller.0 c.args.call _ CloneNew c.in-CloneNew.is c.clone_new.ensures

pub returns-in-Unshare : goal.returns-in-Unshare
unfolding make
returns-in-Unshare c = λ s q. made c.args.t c.args.caller.0 c.args.call _ Unshare c.in-Unshare.is c.unshare.ensures

pub returns-in-Setns : goal.returns-in-Setns
returns-in-Setns c = λ s q. made_setns c.args.t c.args.caller.0 c.args.call _ _ (search rules) c.in-Setns.is c.setns.ensures

pub returns-in-Kill : goal.returns-in-Kill
returns-in-Kill c = λ s q. made_kill c.args.t c.args.caller.0 c.args.call _ _ (search rules) _ (search rules) c.in-Kill.is (c.kill.ensures.as_defined s)

pub returns-in-Exit : goal.returns-in-Exit
returns-in-Exit c = λ s q. made_exit c.args.t c.args.caller.0 c.args.call _ _ (search rules) c.in-Exit.is (c.exit.ensures.as_defined s q)

pub returns-in-Wait : goal.returns-in-Wait
unfolding make
returns-in-Wait c = λ s q. made c.args.t c.args.caller.0 c.args.call _ Wait c.in-Wait.is c.wait.ensures

pub returns-in-Getpid : goal.returns-in-Getpid
unfolding make
returns-in-Getpid c = λ s q. made c.args.t c.args.caller.0 c.args.call _ Getpid c.in-Getpid.is c.getpid.ensures

pub returns-in-Getppid : goal.returns-in-Getppid
unfolding make
returns-in-Getppid c = λ s q. made c.args.t c.args.caller.0 c.args.call _ Getppid c.in-Getppid.is c.getppid.ensures

pub returns-in-Handle : goal.returns-in-Handle
returns-in-Handle c = λ s q. made_handle c.args.t c.args.caller.0 c.args.call _ _ (search rules) _ c.in-Handle.is c.handle.ensures

pub returns-in-Poll : goal.returns-in-Poll
unfolding make
returns-in-Poll c = λ s q. made c.args.t c.args.caller.0 c.args.call _ Poll c.in-Poll.is c.poll.ensures
