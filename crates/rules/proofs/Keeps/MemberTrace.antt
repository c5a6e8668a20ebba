-- What a signal leaves that ends a process that is no init.
use Prim.Native.Nat.{ℕ}
use mathlib.Core.Bool.{false, not, So}
use mathlib.Core.Logic.{⊎_elim}
use mathlib.Core.Path.{◌≡◌, refl, sym, ◌∙◌, ap, subst, ap₂}
use borrow.Author.Tests.{eq-eqb, ne_eqb, eqb-true, eqb-false}
use lib.Dec.{eqb}
use Rattle.rules.proofs.Keeps.End.{end_tree, member_ended_at}
use Rattle.rules.proofs.Keeps.Fixed.{end_stays}
use Rattle.rules.proofs.Keeps.MemberEnds.{reaches}
use Rattle.rules.proofs.Keeps.Trace.{over, over_same, Fell, Trace, parent_after_new, parent_after_old, rest_same}
use Rattle.rules.proofs.Laws.Facts.{Facts, Taken, Lives, Other, lives_taken, not_ended, Sane}
use Rattle.rules.proofs.Laws.Reach.{no_self}
use Rattle.rules.proofs.Laws.Slots.{init_own, init_living}
use Rattle.rules.proofs.Laws.Tests.{yes_or_no, same_or, no_so, isnt_so, right, both}
use Rattle.rules.specs.Claims.{parent_after}
use Rattle.rules.specs.Ends.{end, member_ends}
use Rattle.rules.specs.Read.{View, child_of, init, is_init, living, taken, view}
use Rattle.rules.proofs.Laws.Traits.{ended_again}
use Rattle.table.specs.Limits.{process_slots}
use Rattle.table.specs.Slots.{is_ended, pid_at, process}
use Rattle.table.specs.Tests.{◌and◌}
use Rattle.table.specs.declared.End.TheVariants.{Signaled}
use Rattle.table.specs.declared.End.{End}
use Rattle.table.specs.declared.Process.{Process}
use Rattle.table.specs.declared.Table.{Table}
use Rattle.table.specs.Records.{with_parent, as_ended}
use Rattle.table.specs.Traits.{ended_traits}

module _ (k from : ℕ) (P : ℕ → Type 0) (u : Table) (s : Sane u) (j : ℕ) (l : Lives (view u) j) (other : Other j) (no : is_init (view u) j ≡ false) where
  abbrev v : View
  v = view u

  abbrev w : Table
  w = end u j (Signaled k)

  f : Facts v
  f = s.facts

  here : Taken v j
  here = lives_taken v j l

  -- what stands then
  member_self : process w j ≡ as_ended (process u j) (Signaled k)
  unfolding member_ends
  member_self = member_ended_at u s j (Signaled k) here no j ∙ rw (eq-eqb j j refl)

  member_child : (i : ℕ) → eqb i j ≡ false → So (child_of v j i) → process w i ≡ with_parent (process u i) (init v (v.own j))
  unfolding member_ends
  member_child i o c = member_ended_at u s j (Signaled k) here no i ∙ rw (o, c)

  member_other : (i : ℕ) → eqb i j ≡ false → child_of v j i ≡ false → process w i ≡ process u i
  unfolding member_ends
  member_other i o c = member_ended_at u s j (Signaled k) here no i ∙ rw (o, c)

  -- the three cases
  pub by_case : (Q : ℕ → Type 0) (i : ℕ) → (i ≡ j → Q i) → ((i ≡ j → ⊥) → So (child_of v j i) → Q i) → ((i ≡ j → ⊥) → child_of v j i ≡ false → Q i) → Q i
  by_case Q i a b c = ⊎_elim a (λ o. ⊎_elim (b (eqb-false i j o)) (c (eqb-false i j o)) (yes_or_no (child_of v j i))) (same_or i j)

  field : {B : Type 0} (r : Process → B) → ((q : Process) (e : End) → r (as_ended q e) ≡ r q) → ((q : Process) (p : ℕ) → r (with_parent q p) ≡ r q) → (i : ℕ) → r (process w i) ≡ r (process u i)
  field r a b i =
      by_case (λ i. r (process w i) ≡ r (process u i)) i
      (λ e. subst (λ i. r (process w i) ≡ r (process u i)) (sym e) (ap r member_self ∙ a _ _))
      (λ o c. ap r (member_child i (ne_eqb i j o) c) ∙ b _ _)
      (λ o c. ap r (member_other i (ne_eqb i j o) c))

  taken_same : (i : ℕ) → taken (view w) i ≡ taken v i
  unfolding taken
  taken_same = field (λ p. not (eqb (pid_at p 0) 0)) (λ q e. refl) (λ q p. refl)

  ended_self : So ((view w).ended j)
  ended_self = ap (λ (p : Process). is_ended p.state) member_self

  ended_others : (i : ℕ) → (i ≡ j → ⊥) → (view w).ended i ≡ v.ended i
  ended_others i o =
      ⊎_elim (λ c. ap (λ (p : Process). is_ended p.state) (member_child i (ne_eqb i j o) c)) (λ c. ap (λ (p : Process). is_ended p.state) (member_other i (ne_eqb i j o) c)) (yes_or_no (child_of v j i))

  -- it alone is ended
  pub lives_self : Lives (view w) j → ⊥
  lives_self a = not_ended (view w) j a ended_self

  lives_others : (i : ℕ) → (i ≡ j → ⊥) → living (view w) i ≡ living v i
  unfolding living
  lives_others i o = ap₂ (λ a b. a and not b) (taken_same i) (ended_others i o)

  lives_back : (i : ℕ) → Lives (view w) i → Lives v i
  lives_back i a = ⊎_elim (λ e. absurd (lives_self (subst (Lives (view w)) e a))) (λ o. sym (lives_others i (eqb-false i j o)) ∙ a) (same_or i j)

  -- nobody is its own parent
  not_own : v.parent j ≡ j → ⊥
  not_own e = other (no_self v.parent process_slots j e (reaches v f j here))

  member_parents : (i : ℕ) → Taken (view w) i → (view w).parent i ≡ parent_after u w i
  unfolding child_of
  member_parents i h =
      by_case (λ i. Taken (view w) i → (view w).parent i ≡ parent_after u w i) i
      (λ e. subst (λ i. Taken (view w) i → (view w).parent i ≡ parent_after u w i) (sym e) (λ h. ap (λ (p : Process). p.parent.0) member_self ∙ sym (parent_after_old u w j (λ a. lives_others _ not_own ∙ a))))
      (λ o c h.
      let e : v.parent i ≡ j = eqb-true (v.parent i) j (right _ _ c) in
      ap (λ (p : Process). p.parent.0) (member_child i (ne_eqb i j o) c) ∙ ap (λ p. init v (v.own p)) (sym e) ∙ sym (parent_after_new u w i (subst (Lives v) (sym e) l) (λ a. lives_self (subst (Lives (view w)) e a))))
      (λ o c h.
      let d : v.parent i ≡ j → ⊥ = λ e. no_so c (both _ _ (sym (taken_same i) ∙ h) (eq-eqb _ j e)) in
      ap (λ (p : Process). p.parent.0) (member_other i (ne_eqb i j o) c) ∙ sym (parent_after_old u w i (λ a. lives_others _ d ∙ a)))
      h

  -- the others' records are as they were, but for the parent
  pub member_others : (i : ℕ) → (i ≡ j → ⊥) → process w i ≡ with_parent (process u i) ((view w).parent i)
  member_others i o =
      ⊎_elim
      (λ c. let e = member_child i (ne_eqb i j o) c in e ∙ ap (with_parent (process u i)) (sym (ap (λ (p : Process). p.parent.0) e)))
      (λ c. rest_same w i _ (member_other i (ne_eqb i j o) c))
      (yes_or_no (child_of v j i))

  pub member_ended : process w j ≡ with_parent (over k (process u j)) ((view w).parent j)
  member_ended = rest_same w j (over k (process u j)) (member_self ∙ sym (let e : is_ended (process u j).state ≡ false = isnt_so (not_ended v j l) in rw e))

  ended_all : (i : ℕ) → Taken (view w) i → (Lives (view w) i → ⊥) → process w i ≡ with_parent (over k (process u i)) ((view w).parent i)
  ended_all i h o =
      ⊎_elim (λ e. subst (λ i. process w i ≡ with_parent (over k (process u i)) ((view w).parent i)) (sym e) member_ended)
      (λ d.
      let n = eqb-false i j d in
      member_others i n ∙ ap (λ q. with_parent q ((view w).parent i)) (sym (over_same k u i (sym (taken_same i) ∙ h) (λ a. o (lives_others i n ∙ a)))))
      (same_or i j)

  none_fell : (m : ℕ) → Fell u w m → ⊥
  unfolding is_init
  none_fell m (a, o) =
      ⊎_elim (λ e. no_so no (eq-eqb _ j (ap (init v) (ap v.own (sym e) ∙ init_own v f m a) ∙ e)))
      (λ d. o (lives_others _ (eqb-false _ j d) ∙ init_living v f m a))
      (same_or (init v m) j)

  pub member_trace : Trace k from P u w
  member_trace =
      record {
        kin = λ i h. (field (λ p. p.own) (λ q e. refl) (λ q p. refl) i, field (λ p. p.pids) (λ q e. refl) (λ q p. refl) i, field (λ p. ended_traits p.traits) (λ q e. ended_again q.traits) (λ q p. refl) i);
        lives = lives_back;
        ups = (end_tree u s j (Signaled k) here).0;
        levels = (end_tree u s j (Signaled k) here).1;
        stay = end_stays u s j (Signaled k) l;
        parents = member_parents;
        removed = λ i h o. absurd (o (taken_same i ∙ h));
        ended = ended_all;
        heads = λ m z. absurd (none_fell m z);
      }
