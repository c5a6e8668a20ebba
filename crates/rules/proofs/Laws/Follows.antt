-- Two sentences of soundness follow from the others, for any table of the declared type.
use Prim.Native.Nat.{ℕ, ◌<◌}
use native.Mathlib.Omega.{arith}
use mathlib.Core.Bool.{So, Bool}
use mathlib.Core.Path.{◌≡◌, refl, sym, ◌∙◌, ap, subst}
use Rattle.rules.proofs.Laws.Clauses.{is_sound}
use Rattle.rules.proofs.Laws.Facts.{Stands, Taken, Other, Past, in_range, is_seen, past_of, in_namespace}
use Rattle.rules.proofs.Laws.Tests.{dead_otherwise, tests}
use Rattle.rules.proofs.Laws.Tree.{below_refl}
use Rattle.table.specs.Limits.{namespace_slots, no_slot, hold_slots}
use Rattle.rules.specs.Read.{View, living, pid_seen, dead, unborn, alive, init, below, view}
use Rattle.rules.specs.Sound.{root_process, have_parents, inits, below_dead, holds, unborn_namespace, unborn_namespaces, first_pids, dead_members, unborn_members, parents, first_parents, ended_bare, sound, root_namespace, empty_slots, namespace_tree, last_pids, pid_range, pids_differ, children_namespaces, ends_kept, namespaces_held, shaped, process_traits}
use Rattle.table.specs.Tests.{one, ◌and◌}
use Rattle.table.specs.declared.Table.{Table}

module _ (v : View) (r : Past v) (u : So (unborn_namespaces v)) (d : So (dead_members v)) where
  -- "None belongs to an unborn one": an unborn namespace has no members.
  pub unborn_members_follow : So (unborn_members v)
  unfolding unborn_members unborn_namespaces unborn_namespace dead_members
  unborn_members_follow =
      simp tests (λ i l t b. let s = ((simp tests at d) i l t).0 in ((simp tests at u) (v.own i) (in_namespace v r _ s) s b).0.0.0.1 i l t refl)

  ended : (i : ℕ) → Taken v i → So (dead v (v.own i)) → So (v.ended i)
  unfolding dead_members
  ended i t = ((simp tests at d) i (in_range v r i t) t).1

  -- "All below a dead one are dead": one that lives has an init, whose parent belongs to the namespace above and is not
  -- ended; an unborn one has a holder that belongs there, and an ended process holds no namespace.
  module _ (h : So (root_process v)) (hp : So (have_parents v)) (hi : So (inits v)) (hn : So (first_pids v)) (p : So (parents v)) (fp : So (first_parents v)) (e : So (ended_bare v)) where
    not_unborn : (n : ℕ) → n < namespace_slots → Stands v n → So (dead v (v.up n)) → So (unborn v n) → ⊥
    unfolding unborn_namespaces unborn_namespace holds one ended_bare
    not_unborn n l s z b =
        let q = (simp tests at u) n l s b in
        let (i, m, x) = q.0.1 in
        let o : v.own i ≡ v.up n = q.1 i m x.0 in
        let k : (j : ℕ) → j < hold_slots → v.hold i j ≡ no_slot = ((simp tests at e) i m x.0.0 (ended i x.0.0 (subst (λ y. So (dead v y)) (sym o) z))).0 in
        omega (arith, k x.0.1.0 x.0.1.1, x.0.1.2)

    not_alive : (n : ℕ) → n < namespace_slots → Stands v n → Other n → So (dead v (v.up n)) → So (alive v n) → ⊥
    unfolding inits first_pids parents first_parents have_parents root_process living pid_seen
    not_alive n l s o z a =
        let i = init v n in
        let x = (simp tests at hi) n l s a in
        let t : Taken v i = x.0.0 in
        let m = in_range v r i t in
        let k : Other i = λ q. o (sym x.1 ∙ ap v.own q ∙ (simp tests at h).0.0.1) in
        let first = ((simp tests at hn) n l s a i m (is_seen v n i t (subst (λ y. So (below v y n)) (sym x.1) (below_refl v n)))).1 refl in
        let q : v.own (v.parent i) ≡ v.up (v.own i) = (simp tests at fp) i m t k (ap (λ y. v.pid i (v.level y)) x.1 ∙ first) in
        ((simp tests at p) i m t k).0.0 (ended (v.parent i) ((simp tests at hp) i m t k) (subst (λ y. So (dead v y)) (sym (q ∙ ap v.up x.1)) z))

    pub below_dead_follows : So (below_dead v)
    unfolding below_dead
    below_dead_follows = simp tests (λ n l s o z. dead_otherwise (v.life n) (not_unborn n l s z) (not_alive n l s o z))

-- the sentences but these two
abbrev pub the_others : View → Bool
the_others v =
    root_process v and have_parents v and root_namespace v and inits v and empty_slots v and namespace_tree v and unborn_namespaces v and last_pids v and pid_range v and pids_differ v and first_pids v and dead_members v and parents v and first_parents v and children_namespaces v and process_traits v and ended_bare v and ends_kept v and namespaces_held v

-- A table of the declared type that meets the others is sound.
pub others_suffice : (t : Table) → So (shaped t) → So (the_others (view t)) → So (sound t)
others_suffice t g h =
    let ((((((((((((((((((has_root_process, has_have_parents), has_root_namespace), has_inits), has_empty_slots), has_namespace_tree), has_unborn_namespaces), has_last_pids), has_pid_range), has_pids_differ), has_first_pids), has_dead_members), has_parents), has_first_parents), has_children_namespaces), has_process_traits), has_ended_bare), has_ends_kept), has_namespaces_held) = simp tests at h in
    let r = past_of t g in
    is_sound (view t)
    (record {
      root_process = has_root_process;
      have_parents = has_have_parents;
      root_namespace = has_root_namespace;
      inits = has_inits;
      empty_slots = has_empty_slots;
      namespace_tree = has_namespace_tree;
      below_dead = below_dead_follows (view t) r has_unborn_namespaces has_dead_members has_root_process has_have_parents has_inits has_first_pids has_parents has_first_parents has_ended_bare;
      unborn_namespaces = has_unborn_namespaces;
      last_pids = has_last_pids;
      pid_range = has_pid_range;
      pids_differ = has_pids_differ;
      first_pids = has_first_pids;
      dead_members = has_dead_members;
      unborn_members = unborn_members_follow (view t) r has_unborn_namespaces has_dead_members;
      parents = has_parents;
      first_parents = has_first_parents;
      children_namespaces = has_children_namespaces;
      process_traits = has_process_traits;
      ended_bare = has_ended_bare;
      ends_kept = has_ends_kept;
      namespaces_held = has_namespaces_held;
    })
