-- For facts that are computed: a proof that says `unfolding everything` opens each definition that its line names.
use Rattle.rules.specs.Answers as Answers
use Rattle.rules.specs.Births as Births
use Rattle.rules.specs.Calls as Calls
use Rattle.rules.specs.Delivery as Delivery
use Rattle.rules.specs.Ends as Ends
use Rattle.rules.specs.Freeing as Freeing
use Rattle.table.specs.Fresh as Fresh
use Rattle.rules.specs.Pids as Pids
use Rattle.rules.specs.Read as Read
use Rattle.table.specs.SignalSets as SignalSets
use Rattle.rules.specs.Refusals as Refusals
use Rattle.rules.specs.Sound as Sound
use Rattle.rules.specs.Step as Step
use Rattle.table.specs.Tests as Tests
use Rattle.table.specs.Traits as Traits

unfoldable pub everything : Unit {0}
unfolding Tests.◌and◌ Tests.◌or◌ Tests.◌implies◌ Tests.agree Tests.all Tests.any Tests.one Tests.lowest Tests.least Tests.insert Tests.ascending Tests.only Tests.some_of Tests.values Tests.changed_to SignalSets.has SignalSets.with_signal SignalSets.without_signal SignalSets.lowest_signal Traits.blank_traits Traits.born_traits Traits.ended_traits Traits.bare_traits Traits.with_signals Traits.handled_ok Traits.pending_ok Traits.traits_ok Traits.traits_shaped Read.taken Read.living Read.child_of Read.namespace_taken Read.is_init Read.climb Read.below Read.up_by Read.above_at Read.seen Read.pid_seen Read.pid_in Read.find Read.all_seen Sound.root_process Sound.have_parents Sound.root_namespace Sound.inits Sound.zero_process Sound.zero_namespace Sound.empty_slots Sound.namespace_tree Sound.below_dead Sound.holds Sound.unborn_namespace Sound.unborn_namespaces Sound.last_pids Sound.pid_range Sound.pids_differ Sound.first_pids Sound.dead_members Sound.unborn_members Sound.reaches_root Sound.parents Sound.first_parents Sound.children_namespaces Sound.process_traits Sound.ended_bare Sound.ends_kept Sound.held Sound.namespaces_held Sound.sound_view Sound.shaped Fresh.fresh Pids.free_pid Pids.next_pid Pids.free_slot Pids.free_namespace_slot Ends.member_ends Ends.init_ends Ends.namespace_dies Ends.end Freeing.kept Freeing.freed Delivery.default_action Delivery.action_on Delivery.with_pending Delivery.resumed Delivery.act Delivery.deliver Delivery.deliver_all Births.new_pids Births.newborn Births.joined Births.birth Answers.refusal_number Answers.number_of Answers.end_of Answers.is_refused Answers.is_no_room Answers.refused Answers.granted Answers.answers Calls.clone Calls.new_namespace Calls.clone_new Calls.set_children Calls.unshare Calls.named Calls.setns Calls.getpid Calls.getppid Calls.exit Calls.first_ended Calls.reap Calls.wait Calls.handle_on Calls.handle_off Calls.handle Calls.taken_up Calls.poll Calls.others Calls.targets Calls.kill Step.make Step.runs Step.step Refusals.meant
everything = tt
