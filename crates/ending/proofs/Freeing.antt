-- Freeing by marks is the freeing of the definitions, in every table.
use Prim.Native.Nat.{ℕ, ◌<◌, ◌≤◌}
use mathlib.Core.Bool.{Bool, true, false, So, false≢true}
use mathlib.Core.List.{List}
use mathlib.Core.Logic.{⊎_elim}
use mathlib.Core.Path.{◌≡◌, refl, sym, ap, ap₂, subst, ◌∙◌}
use native.Mathlib.Decide.{dec_lt}
use native.Mathlib.Omega.{arith}
use borrow.Author.Tests.{eq-eqb, eqb-true}
use lib.Dec.{eqb}
use lib.ListN.{length, get_or-eq_default}
use Rattle.rules.proofs.Laws.Below.{shallow_below}
use Rattle.rules.proofs.Laws.Tests.{left, right, both, cases, or_left, or_right, any_elim, any_intro, bool_ext}
use Rattle.rules.proofs.Laws.Facts.{Below}
use Rattle.table.proofs.MapLoops.{Mapped, map_done, changed_same, changed_none}
use Rattle.table.proofs.MarkLoops.{marks_if, marked_alone}
use Rattle.rules.specs.Freeing.{kept, freed}
use Rattle.table.specs.Fresh.{empty_namespace}
use Rattle.table.specs.Limits.{namespace_slots, process_slots}
use Rattle.table.specs.Slots.{process, namespace, no_process, no_namespace, is_unborn}
use Rattle.rules.specs.Read.{View, view, taken, below, climb, children}
use Rattle.table.specs.Tests.{◌and◌, ◌or◌, when◌then◌else◌, any}
use Rattle.table.specs.declared.Life.{Life}
use Rattle.table.specs.declared.Life.TheVariants.{Unborn, Alive, Dead}
use Rattle.table.specs.declared.Namespace.{Namespace}
use Rattle.table.specs.declared.Table.{Table}
use Rattle.tree.specs.Tree.{is_blank_namespace, mark_process}
use Rattle.ending.specs.Holding.{mark_at, marks_of, kept_for, keeps, once_freed}
use Rattle.rules.proofs.Laws.OneHold.{kept_one}

-- ---- the marks

-- i holds m
abbrev holder : Table → ℕ → ℕ → Bool
holder t m i = (taken (view t) i and eqb ((view t).own i) m) or (taken (view t) i and eqb (children (view t) i) m)

-- a mark says whether some process holds the namespace
says_held : (t : Table) (m : ℕ) → m < namespace_slots → mark_at (marks_of t) m ≡ any process_slots (holder t m)
unfolding marks_of taken
says_held t =
    (marked_alone namespace_slots (λ i l. mark_process l (process t i)) (λ i m. holder t m i)
    (λ i. marks_if namespace_slots (taken (view t) i) ((view t).own i) (children (view t) i)) process_slots).says

-- ---- who is kept

module _ (t : Table) (count : length t.namespaces ≡ namespace_slots) where
  abbrev v : View
  v = view t

  -- what lies past the last slot is below itself alone
  slot_below : (a n : ℕ) → n < namespace_slots → Below v a n → a < namespace_slots
  slot_below a n h b = go (dec_lt a namespace_slots)
    where
      go : Dec (a < namespace_slots) → a < namespace_slots
      go (yes l) = l
      go (no l) =
          absurd (omega (arith, shallow_below v a n (ap (λ (x : Namespace). x.level) (get_or-eq_default t.namespaces no_namespace {n = a} (omega arith))) b))

  pub kept_is : (n : ℕ) → n < namespace_slots → kept_for v.up v.level (mark_at (marks_of t)) n ≡ kept v n
  unfolding kept_for keeps below
  kept_is n h =
      bool_ext _ _
      (λ k. ⊎_elim (λ (z : So (eqb n 0)). or_left _ _ z) (λ (a : _). or_right (eqb n 0) _ (by_holder a)) (cases (eqb n 0) _ k))
      (λ k. ⊎_elim (λ (z : So (eqb n 0)). or_left _ _ z) (λ (a : _). or_right (eqb n 0) _ (by_mark a)) (cases (eqb n 0) _ k))
      ∙ sym (kept_one v n)
    where
      by_holder : So (any namespace_slots (λ m. mark_at (marks_of t) m and climb v.up (v.level m) m n)) → So (any process_slots (λ i. taken v i and (climb v.up (v.level (v.own i)) (v.own i) n or climb v.up (v.level (children v i)) (children v i) n)))
      by_holder a =
          let (m, l, k) = any_elim _ _ a in
          let (i, b, c) = any_elim process_slots (holder t m) (sym (says_held t m l) ∙ left _ _ k) in
          any_intro process_slots _ i b
          (⊎_elim
          (λ (o : So (taken v i and eqb (v.own i) m)).
          both _ _ (left _ _ o) (or_left _ _ (subst (λ x. So (climb v.up (v.level x) x n)) (sym (eqb-true _ m (right _ _ o))) (right _ _ k))))
          (λ (o : So (taken v i and eqb (children v i) m)).
          both _ _ (left _ _ o) (or_right (climb v.up (v.level (v.own i)) (v.own i) n) _ (subst (λ x. So (climb v.up (v.level x) x n)) (sym (eqb-true _ m (right _ _ o))) (right _ _ k))))
          (cases _ _ c))

      -- the process at i, which is there, holds m, and m lies below n
      held_below : (i m : ℕ) → i < process_slots → So (holder t m i) → So (climb v.up (v.level m) m n) → So (any namespace_slots (λ m. mark_at (marks_of t) m and climb v.up (v.level m) m n))
      held_below i m l o b =
          let s = slot_below m n h b in
          any_intro namespace_slots _ m s (both _ _ (says_held t m s ∙ any_intro process_slots (holder t m) i l o) b)

      by_mark : So (any process_slots (λ i. taken v i and (climb v.up (v.level (v.own i)) (v.own i) n or climb v.up (v.level (children v i)) (children v i) n))) → So (any namespace_slots (λ m. mark_at (marks_of t) m and climb v.up (v.level m) m n))
      by_mark a =
          let (i, l, k) = any_elim _ _ a in
          ⊎_elim
          (λ (b : So (climb v.up (v.level (v.own i)) (v.own i) n)).
          held_below i (v.own i) l (or_left _ _ (both _ _ (left _ _ k) (eq-eqb (v.own i) (v.own i) refl))) b)
          (λ (b : So (climb v.up (v.level (children v i)) (children v i) n)).
          held_below i (children v i) l (or_right (taken v i and eqb (v.own i) (children v i)) _ (both _ _ (left _ _ k) (eq-eqb (children v i) (children v i) refl))) b)
          (cases _ _ (right _ _ k))

-- ---- the pass

pub freed_all : (t u : Table) (up level : ℕ → ℕ) (marks : List Bool) (i : ℕ)
    → length t.namespaces ≡ namespace_slots → up ≡ (view t).up → level ≡ (view t).level → marks ≡ marks_of t
    → Mapped namespace_slots (once_freed up level (mark_at marks)) no_namespace t.namespaces u.namespaces i → u.processes ≡ t.processes → namespace_slots ≤ i → u ≡ freed t
unfolding freed once_freed
freed_all t u up level marks i count a b c m s h =
    ap₂ (λ x y. record { processes = x; namespaces = y })
    (s ∙ sym (changed_none no_process process_slots t.processes))
    (map_done namespace_slots (once_freed up level (mark_at marks)) no_namespace t.namespaces u.namespaces i m h
    ∙ changed_same (once_freed up level (mark_at marks)) (λ n x. when kept (view t) n then x else empty_namespace) no_namespace namespace_slots t.namespaces
    (λ n k. ap (λ (y : Bool). when y then namespace t n else empty_namespace)
    (ap (λ (l : List Bool). kept_for up level (mark_at l) n) c ∙ ap₂ (λ (p q : ℕ → ℕ). kept_for p q (mark_at (marks_of t)) n) a b
    ∙ kept_is t count n k)))

-- ---- a blank slot is as a freed one

blank_is : (s : Namespace) → So (is_blank_namespace s) → s ≡ empty_namespace
unfolding is_blank_namespace
blank_is s h =
    let a : s.parent.0 ≡ 0 = eqb-true _ 0 (left _ _ (left _ _ (left _ _ h))) in
    let b : s.level ≡ 0 = eqb-true _ 0 (right _ _ (left _ _ (left _ _ h))) in
    let c : s.last.0 ≡ 0 = eqb-true _ 0 (right _ _ (left _ _ h)) in
    let d : s.life ≡ Unborn = unborn_is s.life (right _ _ h) in
    (λ j. record { parent = record { 0 = a j }; level = b j; last = record { 0 = c j }; life = d j })
  where
    unborn_is : (l : Life) → So (is_unborn l) → l ≡ Unborn
    unborn_is Unborn h = refl
    unborn_is (Alive i) h = absurd (false≢true h)
    unborn_is Dead h = absurd (false≢true h)

-- r says whether s is blank
pub freed_blank : (up level : ℕ → ℕ) (mark : ℕ → Bool) (n : ℕ) (s : Namespace) (r : Bool) → r ≡ is_blank_namespace s → r ≡ true → s ≡ once_freed up level mark n s
unfolding once_freed
freed_blank up level mark n s r e h = go (kept_for up level mark n)
  where
    go : (b : Bool) → s ≡ (when b then s else empty_namespace)
    go true = refl
    go false = blank_is s (sym e ∙ h)
