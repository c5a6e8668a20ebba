-- The sentences of a sound table, by name.
use mathlib.Core.Bool.{So}
use Rattle.rules.proofs.Laws.Tests.{tests}
use Rattle.rules.specs.Read.{View}
use Rattle.rules.specs.Sound as S
use Rattle.rules.specs.Sound.{sound_view}

pub record Sound (v : View) : Type 0 where
  pub root_process : So (S.root_process v)
  pub have_parents : So (S.have_parents v)
  pub root_namespace : So (S.root_namespace v)
  pub inits : So (S.inits v)
  pub empty_slots : So (S.empty_slots v)
  pub namespace_tree : So (S.namespace_tree v)
  pub below_dead : So (S.below_dead v)
  pub unborn_namespaces : So (S.unborn_namespaces v)
  pub last_pids : So (S.last_pids v)
  pub pid_range : So (S.pid_range v)
  pub pids_differ : So (S.pids_differ v)
  pub first_pids : So (S.first_pids v)
  pub dead_members : So (S.dead_members v)
  pub unborn_members : So (S.unborn_members v)
  pub parents : So (S.parents v)
  pub first_parents : So (S.first_parents v)
  pub children_namespaces : So (S.children_namespaces v)
  pub process_traits : So (S.process_traits v)
  pub ended_bare : So (S.ended_bare v)
  pub ends_kept : So (S.ends_kept v)
  pub namespaces_held : So (S.namespaces_held v)

-- together they are soundness
pub sound_is : (v : View) → So (sound_view v) → Sound v
unfolding sound_view
sound_is v h =
    let ((((((((((((((((((((root_process, have_parents), root_namespace), inits), empty_slots), namespace_tree), below_dead), unborn_namespaces), last_pids), pid_range), pids_differ), first_pids), dead_members), unborn_members), parents), first_parents), children_namespaces), process_traits), ended_bare), ends_kept), namespaces_held) = simp tests at h in
    record { root_process = root_process; have_parents = have_parents; root_namespace = root_namespace; inits = inits; empty_slots = empty_slots; namespace_tree = namespace_tree; below_dead = below_dead; unborn_namespaces = unborn_namespaces; last_pids = last_pids; pid_range = pid_range; pids_differ = pids_differ; first_pids = first_pids; dead_members = dead_members; unborn_members = unborn_members; parents = parents; first_parents = first_parents; children_namespaces = children_namespaces; process_traits = process_traits; ended_bare = ended_bare; ends_kept = ends_kept; namespaces_held = namespaces_held }

pub is_sound : (v : View) → Sound v → So (sound_view v)
unfolding sound_view
is_sound v s = simp tests ((((((((((((((((((((s.root_process, s.have_parents), s.root_namespace), s.inits), s.empty_slots), s.namespace_tree), s.below_dead), s.unborn_namespaces), s.last_pids), s.pid_range), s.pids_differ), s.first_pids), s.dead_members), s.unborn_members), s.parents), s.first_parents), s.children_namespaces), s.process_traits), s.ended_bare), s.ends_kept), s.namespaces_held)
