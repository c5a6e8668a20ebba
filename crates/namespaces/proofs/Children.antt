-- unshare and setns: the children's namespace of the caller is set.
use Prim.Native.Nat.{ℕ, ◌+◌, ◌<◌}
use mathlib.Core.Bool.{Bool, true, false}
use mathlib.Core.List.{[], ◌∷◌}
use mathlib.Core.Path.{◌≡◌, refl, sym, ap, subst, ◌∙◌}
use lib.Dec.{eqb}
use lib.IntN.{ℤ}
use lib.ListN.{get_or}
use mir.Syntax.{w32}
use mir.Val.{SFits, to_z, of_z}
use mir.ValLaws.{to_z-of_z}
use Rattle.births.proofs.Given.{namespace_given}
use Rattle.births.specs.Births.{namespace_at}
use Rattle.callers.proofs.Callers.{put_changed}
use Rattle.callers.specs.Making.{refusals_at}
use Rattle.outcomes.proofs.Verdicts.{Verdict, err_ok, judged_grants, judged_refuses, passed_first, refused_first, refused_or, tested}
use Rattle.outcomes.specs.Verdicts.{settled, verdict}
use Rattle.std.specs.Prelude.{Result, Ok, Err, Option, Some, None, IfSome, ok_or}
use Rattle.std.specs.Result.{IsErrAnd}
use Rattle.tree.specs.Tree.{process_found, namespace_found}
use Rattle.table.proofs.Chains.{if_yes, if_no, or_goes, or_true}
use Rattle.table.specs.declared.NsSlot.{NsSlot}
use Rattle.table.specs.declared.ProcSlot.{ProcSlot}
use borrow.Author.Tests.{eq-eqb, ne_eqb}
use native.Mathlib.Omega.{arith}
use Rattle.rules.proofs.Laws.ReadAt.{read_at}
use Rattle.rules.specs.Answers.{answers}
use Rattle.rules.specs.Calls.{own_level, namespaces_full, new_namespace, set_children, unshare_refusals, unshare_gives, unshare, named, setns_refusals, setns_gives, setns}
use Rattle.rules.specs.Freeing.{freed}
use Rattle.table.specs.Fresh.{empty_process}
use Rattle.table.specs.Limits.{process_slots, namespace_slots}
use Rattle.rules.specs.Pids.{free_namespace_slot}
use Rattle.table.specs.Slots.{is_ended, put}
use Rattle.rules.specs.Read.{view}
use Rattle.table.specs.Tests.{◌or◌}
use Rattle.table.specs.declared.Outcome.{Outcome}
use Rattle.table.specs.declared.Process.{Process}
use Rattle.table.specs.declared.Refusal.TheVariants.{Eagain, Einval, Enospc, Esrch}
use Rattle.table.specs.declared.Refusal.{Refusal}
use Rattle.table.specs.declared.Table.{Table}
use Rattle.table.specs.Records.{with_children}

-- p is the process read at the caller's slot c
pub children_set : (t u r : Table) (c n : ℕ) (p : Process) → p ≡ get_or t.processes c empty_process → u ≡ put t c (with_children p n) → r ≡ freed u → r ≡ set_children t c n
unfolding set_children
children_set t u r c n p e d f =
    f ∙ ap freed (d ∙ put_changed t c p (λ q. with_children q n) e)

-- ---- setns: o is what `named` gives of the argument z

module _ (t : Table) (c : ℕ) (z : ℤ) (fits : SFits w32 z) (o : Option ProcSlot) (e : process_found o ≡ named (view t) c (to_z w32 (of_z w32 z))) where
  slot : process_found o ≡ named (view t) c z
  slot = e ∙ ap (named (view t) c) (to_z-of_z w32 z fits)

  -- x is the refusal
  pub setns_nobody : o ≡ None → (x : Refusal) (r : Result Outcome Refusal) → ◌≡◌ {A = Result ProcSlot Refusal} (Err x) (ok_or o Esrch) → IsErrAnd r (λ y. y ≡ x) → settled t r ≡ setns t c z
  unfolding setns
  setns_nobody n x r m w =
      judged_refuses t (setns_refusals (view t) c z) (setns_gives t c z) x r w
      (if_yes _ _ _ _ (or_true _ ((view t).ended (named (view t) c z)) (eq-eqb (named (view t) c z) process_slots (sym slot ∙ ap process_found n))) (refused_or Esrch x (m ∙ ap (λ y. ok_or y Esrch) n)))

  -- p is the process read at the slot i, and b whether it has ended
  module _ (i : ProcSlot) (n : o ≡ Some i) (l : IfSome o (λ j. j.0 < process_slots)) (p : Process) (d : p ≡ get_or t.processes i.0 empty_process) (b : Bool) (q : b ≡ is_ended p.state) where
    here : i.0 ≡ named (view t) c z
    here = sym (ap process_found n) ∙ slot

    test : b ≡ (eqb (named (view t) c z) process_slots or (view t).ended (named (view t) c z))
    test =
        let k : i.0 < process_slots = subst (λ y. IfSome y (λ j. j.0 < process_slots)) n l in
        or_goes _ _ _ (ne_eqb (named (view t) c z) process_slots (λ (y : named (view t) c z ≡ process_slots). omega (arith, here, y)))
        (q ∙ (read_at t i.0 p d).ended ∙ ap (view t).ended here)

    pub setns_ended : (x : Refusal) (r : Result Outcome Refusal) → Err x ≡ tested b Esrch → IsErrAnd r (λ y. y ≡ x) → settled t r ≡ setns t c z
    unfolding setns
    setns_ended x r h w =
        judged_refuses t (setns_refusals (view t) c z) (setns_gives t c z) x r w (refused_first Esrch x b _ (Ok tt) h test)

    -- u is the table with the caller's children's namespace set
    pub setns_sets : (y : Unit {0}) (u : Table) (r : Outcome) → Ok y ≡ tested b Esrch → u ≡ set_children t c p.own.0 → r ≡ answers u 0 → r ≡ setns t c z
    unfolding setns
    setns_sets y u r h g a =
        judged_grants t (setns_refusals (view t) c z) (setns_gives t c z) tt r (passed_first Esrch b _ y (Ok tt) (Ok tt) h test refl)
        (a ∙ ap (λ x. answers x 0) (g ∙ ap (set_children t c) ((read_at t i.0 p d).own ∙ ap (view t).own here)))

-- ---- unshare: the tests by their values, a and d of the first two, and b of whether there is no room

before_room : (a d b : Bool) (x : Refusal) → Err x ≡ verdict ((Einval, a) ∷ (Enospc, d) ∷ (Eagain, false) ∷ []) → Err x ≡ verdict ((Einval, a) ∷ (Enospc, d) ∷ (Eagain, b) ∷ [])
before_room true d b x h = h
before_room false true b x h = h
before_room false false b x h = absurd (err_ok h)

-- v is the verdict on the room
by_room : (a d b : Bool) (u : Unit {0}) (v : Verdict) → Ok u ≡ verdict ((Einval, a) ∷ (Enospc, d) ∷ (Eagain, false) ∷ []) → v ≡ tested b Eagain → v ≡ verdict ((Einval, a) ∷ (Enospc, d) ∷ (Eagain, b) ∷ [])
by_room true d b u v h e = absurd (err_ok (sym h))
by_room false true b u v h e = absurd (err_ok (sym h))
by_room false false b u v h e = e

-- l is the caller's level as `own_level` gives it
module _ (t : Table) (c l : ℕ) (k : l ≡ own_level (view t) c) where
  ruled : verdict (refusals_at (view t) c l (namespaces_full (view t))) ≡ verdict (unshare_refusals (view t) c)
  ruled = ap (λ i. verdict (refusals_at (view t) c i (namespaces_full (view t)))) k

  pub unshare_refused : (x : Refusal) (r : Result Outcome Refusal) → Err x ≡ verdict (refusals_at (view t) c l false) → IsErrAnd r (λ y. y ≡ x) → settled t r ≡ unshare t c
  unfolding unshare
  unshare_refused x r h w =
      judged_refuses t (unshare_refusals (view t) c) (unshare_gives t c) x r w (before_room _ _ _ x h ∙ ruled)

  -- once they are passed: m is what `free_namespace_slot` gives
  module _ (z : Unit {0}) (q : Ok z ≡ verdict (refusals_at (view t) c l false)) (m : Option NsSlot) (g : namespace_found m ≡ free_namespace_slot (view t)) where
    pub unshare_full : m ≡ None → (x : Refusal) (r : Result Outcome Refusal) → ◌≡◌ {A = Result NsSlot Refusal} (Err x) (ok_or m Eagain) → IsErrAnd r (λ y. y ≡ x) → settled t r ≡ unshare t c
    unfolding unshare
    unshare_full n x r h w =
        judged_refuses t (unshare_refusals (view t) c) (unshare_gives t c) x r w
        (by_room _ _ _ z (Err x) q (if_yes _ _ _ _ (eq-eqb (free_namespace_slot (view t)) namespace_slots (sym g ∙ ap namespace_found n)) (refused_or Eagain x (h ∙ ap (λ y. ok_or y Eagain) n))) ∙ ruled)

    -- p is the process read at the caller's slot, u the table with the namespace, and w the one where it is the caller's
    pub unshare_sets : (n : NsSlot) (p : Process) (u w : Table) (r : Outcome) → m ≡ Some n → IfSome m (λ s. s.0 < namespace_slots) → p ≡ get_or t.processes c empty_process → u ≡ namespace_at t n.0 p.own.0 (l + 1)
        → w ≡ set_children u c n.0 → r ≡ answers w 0 → r ≡ unshare t c
    unfolding unshare
    unshare_sets n p u w r f j e x y a =
        let v : n.0 ≡ free_namespace_slot (view t) = sym (ap namespace_found f) ∙ g in
        let i : n.0 < namespace_slots = subst (λ o. IfSome o (λ s. s.0 < namespace_slots)) f j in
        let b : namespaces_full (view t) ≡ false = ne_eqb (free_namespace_slot (view t)) namespace_slots (λ (o : free_namespace_slot (view t) ≡ namespace_slots). omega (arith, v, i, o)) in
        judged_grants t (unshare_refusals (view t) c) (unshare_gives t c) tt r (by_room _ _ _ z (Ok tt) q (if_no _ _ _ _ b refl) ∙ ruled)
        (a
        ∙ ap (λ z. answers z 0)
        (y
        ∙ ap (λ z. set_children z c n.0) (namespace_given t u c n.0 p.own.0 l v (read_at t c p e).own k x)
        ∙ ap (λ j. set_children (new_namespace t c) c j) v))
