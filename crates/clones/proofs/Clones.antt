-- clone in both kinds: the refusals, a new namespace and a birth.
use Prim.Native.Nat.{ℕ, ◌+◌, ◌<◌}
use mathlib.Core.Bool.{Bool, true, false}
use mathlib.Core.Path.{◌≡◌, refl, sym, ap, ap₂, subst, ◌∙◌}
use lib.ListN.{get_or}
use Rattle.births.proofs.Given.{birth_given, clone_new_given}
use Rattle.births.specs.Births.{birth_at, namespace_at}
use Rattle.callers.specs.Making.{refusals_at}
use Rattle.outcomes.proofs.Verdicts.{Verdict, err_ok, judged_grants, judged_refuses, passed_first, refused_first, refused_or, tested}
use Rattle.outcomes.specs.Verdicts.{settled, verdict}
use Rattle.std.specs.Prelude.{Result, Ok, Err, Option, Some, None, IfSome, ok_or}
use Rattle.std.specs.Result.{IsErrAnd}
use Rattle.tree.specs.Tree.{process_found, namespace_found}
use Rattle.table.proofs.Chains.{if_yes, if_no, or_true, or_true_later, or_false}
use Rattle.table.specs.declared.NsSlot.{NsSlot}
use borrow.Author.Tests.{eq-eqb, ne_eqb}
use native.Mathlib.Omega.{arith}
use mathlib.Core.List.{[], ◌∷◌}
use Rattle.rules.proofs.Laws.ReadAt.{read_at}
use Rattle.rules.specs.Births.{birth}
use Rattle.rules.specs.Calls.{own_level, processes_full, namespaces_full, born, clone_refusals, clone_gives, clone, clone_new_refusals, clone_new_gives, clone_new}
use Rattle.table.specs.Fresh.{empty_process}
use Rattle.table.specs.Limits.{process_slots, namespace_slots}
use Rattle.rules.specs.Pids.{next_pid, free_slot, free_namespace_slot}
use Rattle.table.specs.Slots.{namespace, is_dead}
use Rattle.rules.specs.Read.{view, children, dead}
use Rattle.table.specs.Tests.{◌or◌}
use Rattle.table.specs.declared.Answer.TheVariants.{Number}
use Rattle.table.specs.declared.Namespace.{Namespace}
use Rattle.table.specs.declared.Outcome.{Outcome}
use Rattle.table.specs.declared.ProcSlot.{ProcSlot}
use Rattle.table.specs.declared.Process.{Process}
use Rattle.table.specs.declared.Refusal.TheVariants.{Enomem, Eagain, Einval, Enospc}
use Rattle.table.specs.declared.Refusal.{Refusal}
use Rattle.table.specs.declared.Table.{Table}

-- the child's number k and its slot i, and the table with it
abbrev told_of : ℕ → ℕ → Table → Outcome
told_of k i u = record { reply = record { answer = Number k; child = record { 0 = i } }; table = u }

-- p is the process read at the caller's slot c, and k the number that `next_pid` gives
pub born_is : (t u : Table) (c k : ℕ) (slot : ProcSlot) (p : Process) → p ≡ get_or t.processes c empty_process → k ≡ next_pid (view t) p.own.0 → slot.0 ≡ free_slot (view t) → told_of k slot.0 u ≡ born t c u
born_is t u c k slot p e q f =
    ap₂ (λ (a b : ℕ). told_of a b u) (q ∙ ap (next_pid (view t)) (read_at t c p e).own) f

-- ---- plain

-- s is the namespace read for the caller's children, b whether it is dead
module _ (t : Table) (c : ℕ) (p : Process) (s : Namespace) (b : Bool) (e : p ≡ get_or t.processes c empty_process) (d : s ≡ namespace t p.children.0) (q : b ≡ is_dead s.life) where
  dead_is : b ≡ dead (view t) (children (view t) c)
  dead_is = q ∙ ap (λ x. is_dead x.life) d ∙ ap (λ n. is_dead (namespace t n).life) (read_at t c p e).children

  -- x is the refusal
  pub clone_dead : (x : Refusal) (r : Result Outcome Refusal) → Err x ≡ tested b Enomem → IsErrAnd r (λ y. y ≡ x) → settled t r ≡ clone t c
  unfolding clone
  clone_dead x r h w =
      judged_refuses t (clone_refusals (view t) c) (clone_gives t c) x r w
      (refused_first Enomem x b (dead (view t) (children (view t) c)) (verdict ((Eagain, processes_full (view t)) ∷ [])) h dead_is)

  -- o is what `free_slot` gives
  module _ (u : Unit {0}) (h : Ok u ≡ tested b Enomem) (o : Option ProcSlot) (f : process_found o ≡ free_slot (view t)) where
    -- v is the verdict on the room
    on : (v : Verdict) → v ≡ tested (processes_full (view t)) Eagain → v ≡ verdict (clone_refusals (view t) c)
    on v g = passed_first Enomem b (dead (view t) (children (view t) c)) u (tested (processes_full (view t)) Eagain) v h dead_is g

    pub clone_full : o ≡ None → (x : Refusal) (r : Result Outcome Refusal) → ◌≡◌ {A = Result ProcSlot Refusal} (Err x) (ok_or o Eagain) → IsErrAnd r (λ y. y ≡ x) → settled t r ≡ clone t c
    unfolding clone
    clone_full n x r m w =
        judged_refuses t (clone_refusals (view t) c) (clone_gives t c) x r w
        (on (Err x) (if_yes _ _ _ _ (eq-eqb (free_slot (view t)) process_slots (sym f ∙ ap process_found n)) (refused_or Eagain x (m ∙ ap (λ y. ok_or y Eagain) n))))

    -- w is the table with the child
    pub clone_born : (i : ProcSlot) (w : Table) (r : Outcome) → o ≡ Some i → IfSome o (λ j. j.0 < process_slots) → w ≡ birth_at t i.0 c p.children.0 → (i.0 ≡ free_slot (view t) → r ≡ born t c w) → r ≡ clone t c
    unfolding clone
    clone_born i w r n l g a =
        let j : i.0 ≡ free_slot (view t) = sym (ap process_found n) ∙ f in
        let k : i.0 < process_slots = subst (λ y. IfSome y (λ z. z.0 < process_slots)) n l in
        judged_grants t (clone_refusals (view t) c) (clone_gives t c) tt r
        (on (Ok tt) (if_no _ _ _ _ (ne_eqb (free_slot (view t)) process_slots (λ (y : free_slot (view t) ≡ process_slots). omega (arith, j, y))) refl))
        (a j ∙ ap (born t c) (birth_given t w i.0 c p.children.0 j g ∙ ap (birth t c) (read_at t c p e).children))

-- ---- new: the tests by their values, a and d of the first two, and b of whether there is no room

before_room : (a d b : Bool) (x : Refusal) → Err x ≡ verdict ((Einval, a) ∷ (Enospc, d) ∷ (Eagain, false) ∷ []) → Err x ≡ verdict ((Einval, a) ∷ (Enospc, d) ∷ (Eagain, b) ∷ [])
before_room true d b x h = h
before_room false true b x h = h
before_room false false b x h = absurd (err_ok h)

-- v is the verdict on the room
by_room : (a d b : Bool) (u : Unit {0}) (v : Verdict) → Ok u ≡ verdict ((Einval, a) ∷ (Enospc, d) ∷ (Eagain, false) ∷ []) → v ≡ tested b Eagain → v ≡ verdict ((Einval, a) ∷ (Enospc, d) ∷ (Eagain, b) ∷ [])
by_room true d b u v h e = absurd (err_ok (sym h))
by_room false true b u v h e = absurd (err_ok (sym h))
by_room false false b u v h e = e

-- l is the caller's level as `own_level` gives it
module _ (t : Table) (c l : ℕ) (k : l ≡ own_level (view t) c) where
  abbrev no_room : Bool
  no_room = processes_full (view t) or namespaces_full (view t)

  ruled : verdict (refusals_at (view t) c l no_room) ≡ verdict (clone_new_refusals (view t) c)
  ruled = ap (λ i. verdict (refusals_at (view t) c i no_room)) k

  pub clone_new_refused : (x : Refusal) (r : Result Outcome Refusal) → Err x ≡ verdict (refusals_at (view t) c l false) → IsErrAnd r (λ y. y ≡ x) → settled t r ≡ clone_new t c
  unfolding clone_new
  clone_new_refused x r h w =
      judged_refuses t (clone_new_refusals (view t) c) (clone_new_gives t c) x r w (before_room _ _ _ x h ∙ ruled)

  -- once they are passed
  module _ (z : Unit {0}) (q : Ok z ≡ verdict (refusals_at (view t) c l false)) where
    full : no_room ≡ true → (x : Refusal) (r : Result Outcome Refusal) → ◌≡◌ {A = Verdict} (Err x) (Err Eagain) → IsErrAnd r (λ y. y ≡ x) → settled t r ≡ clone_new t c
    unfolding clone_new
    full b x r h w =
        judged_refuses t (clone_new_refusals (view t) c) (clone_new_gives t c) x r w
        (by_room _ _ _ z (Err x) q (if_yes _ _ _ _ b h) ∙ ruled)

    -- o is what `free_slot` gives, and m what `free_namespace_slot` gives
    pub clone_new_full : (o : Option ProcSlot) → process_found o ≡ free_slot (view t) → o ≡ None → (x : Refusal) (r : Result Outcome Refusal) → ◌≡◌ {A = Result ProcSlot Refusal} (Err x) (ok_or o Eagain) → IsErrAnd r (λ y. y ≡ x) → settled t r ≡ clone_new t c
    clone_new_full o f n x r h w =
        full (or_true _ _ (eq-eqb (free_slot (view t)) process_slots (sym f ∙ ap process_found n))) x r
        (refused_or Eagain x (h ∙ ap (λ y. ok_or y Eagain) n)) w

    pub clone_new_unhoused : (m : Option NsSlot) → namespace_found m ≡ free_namespace_slot (view t) → m ≡ None → (x : Refusal) (r : Result Outcome Refusal) → ◌≡◌ {A = Result NsSlot Refusal} (Err x) (ok_or m Eagain) → IsErrAnd r (λ y. y ≡ x) → settled t r ≡ clone_new t c
    clone_new_unhoused m g n x r h w =
        full (or_true_later _ _ (eq-eqb (free_namespace_slot (view t)) namespace_slots (sym g ∙ ap namespace_found n))) x r
        (refused_or Eagain x (h ∙ ap (λ y. ok_or y Eagain) n)) w

    -- p is the process read at the caller's slot, u the table with the namespace, and w the one with the child
    pub clone_new_born : (o : Option ProcSlot) → process_found o ≡ free_slot (view t) → (m : Option NsSlot) → namespace_found m ≡ free_namespace_slot (view t) → (i : ProcSlot) (n : NsSlot) (p : Process) (u w : Table) (r : Outcome) → o ≡ Some i → IfSome o (λ s. s.0 < process_slots) → m ≡ Some n → IfSome m (λ s. s.0 < namespace_slots) → p ≡ get_or t.processes c empty_process
        → u ≡ namespace_at t n.0 p.own.0 (l + 1) → w ≡ birth_at u i.0 c n.0 → (i.0 ≡ free_slot (view t) → r ≡ born t c w) → r ≡ clone_new t c
    unfolding clone_new
    clone_new_born o f m g i n p u w r oi fw mn gw e x y h =
        let j : i.0 ≡ free_slot (view t) = sym (ap process_found oi) ∙ f in
        let v : n.0 ≡ free_namespace_slot (view t) = sym (ap namespace_found mn) ∙ g in
        let a : i.0 < process_slots = subst (λ s. IfSome s (λ d. d.0 < process_slots)) oi fw in
        let b : n.0 < namespace_slots = subst (λ s. IfSome s (λ d. d.0 < namespace_slots)) mn gw in
        let room : no_room ≡ false =
        or_false _ _ (ne_eqb (free_slot (view t)) process_slots (λ (s : free_slot (view t) ≡ process_slots). omega (arith, j, a, s)))
        (ne_eqb (free_namespace_slot (view t)) namespace_slots (λ (s : free_namespace_slot (view t) ≡ namespace_slots). omega (arith, v, b, s)))
        in
        judged_grants t (clone_new_refusals (view t) c) (clone_new_gives t c) tt r (by_room _ _ _ z (Ok tt) q (if_no _ _ _ _ room refl) ∙ ruled)
        (h j ∙ ap (born t c) (clone_new_given t u w c n.0 i.0 p.own.0 l v (read_at t c p e).own k x j y))
