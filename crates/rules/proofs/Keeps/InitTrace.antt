-- What a signal leaves that ends an init.
use Prim.Native.Nat.{ℕ}
use mathlib.Core.Bool.{Bool, true, false, not, So, false≢true}
use mathlib.Core.Logic.{◌⊎◌, inl, inr, ⊎_elim}
use mathlib.Core.Path.{◌≡◌, refl, sym, ◌∙◌, ap, subst}
use borrow.Author.Tests.{eq-eqb, eqb-true}
use lib.Dec.{eqb}
use Rattle.rules.proofs.Keeps.End.{end_tree, init_ended_at}
use Rattle.rules.proofs.Keeps.Fixed.{end_stays}
use Rattle.rules.proofs.Keeps.Trace.{over, over_same, Fell, InFell, Trace, parent_after_old, rest_same}
use Rattle.rules.proofs.Laws.Facts.{Facts, Taken, Lives, Below, Seen, lives_taken, not_ended, seen_below, is_seen, Sane}
use Rattle.rules.proofs.Laws.Slots.{init_own, init_living, living_own_alive, child_seen}
use Rattle.rules.proofs.Laws.Tests.{yes_or_no, same_or, no_so, isnt_so}
use Rattle.rules.proofs.Laws.Tree.{below_refl}
use Rattle.rules.specs.Ends.{end, init_ends}
use Rattle.rules.specs.Read.{View, init, is_init, living, seen, taken, view}
use Rattle.rules.proofs.Laws.Traits.{ended_again}
use Rattle.table.specs.Fresh.{empty_process}
use Rattle.table.specs.Slots.{is_ended, pid_at, process}
use Rattle.table.specs.Tests.{◌and◌, when◌then◌else◌}
use Rattle.table.specs.declared.End.TheVariants.{Signaled}
use Rattle.table.specs.declared.End.{End}
use Rattle.table.specs.declared.Process.{Process}
use Rattle.table.specs.declared.Table.{Table}
use Rattle.table.specs.Records.{with_parent, as_ended}
use Rattle.table.specs.Traits.{ended_traits}
use Rattle.table.specs.Limits.{sigkill}

module _ (k from : ℕ) (P : ℕ → Type 0) (u : Table) (s : Sane u) (j : ℕ) (l : Lives (view u) j) (yes_init : So (is_init (view u) j)) (nine : k ≡ sigkill) where
  abbrev v : View
  v = view u

  abbrev n : ℕ
  n = v.own j

  abbrev w : Table
  w = end u j (Signaled k)

  f : Facts v
  f = s.facts

  here : Taken v j
  here = lives_taken v j l

  -- what stands then
  outside_at : (i : ℕ) → seen v n i ≡ false → process w i ≡ process u i
  unfolding init_ends
  outside_at i o = init_ended_at u s j (Signaled k) here yes_init i ∙ rw o

  gone_at : (i : ℕ) → Seen v n i → Seen v n (v.parent i) → process w i ≡ empty_process
  unfolding init_ends
  gone_at i a b = init_ended_at u s j (Signaled k) here yes_init i ∙ rw (a, b)

  left_at : (i : ℕ) → Seen v n i → seen v n (v.parent i) ≡ false → process w i ≡ over k (process u i)
  unfolding init_ends
  left_at i a b = init_ended_at u s j (Signaled k) here yes_init i ∙ rw (a, b, nine) (⊎_elim (λ e. self e) (λ e. rw e) (same_or i j))
    where
      self : i ≡ j → (when eqb i j then as_ended (process u i) (Signaled sigkill) else over sigkill (process u i)) ≡ over sigkill (process u i)
      self e = let d : is_ended (process u i).state ≡ false = isnt_so (not_ended v i (subst (Lives v) (sym e) l)) in rw (eq-eqb i j e, d)

  -- the three cases
  by_place : {Q : Type 0} (i : ℕ) → (seen v n i ≡ false → Q) → (Seen v n i → Seen v n (v.parent i) → Q) → (Seen v n i → seen v n (v.parent i) ≡ false → Q) → Q
  by_place i a b c = ⊎_elim (λ h. ⊎_elim (b h) (c h) (yes_or_no (seen v n (v.parent i)))) a (yes_or_no (seen v n i))

  gone_taken : (i : ℕ) → process w i ≡ empty_process → Taken (view w) i → ⊥
  unfolding taken
  gone_taken i e h = false≢true (sym (ap (λ p. not (eqb (pid_at p 0) 0)) e) ∙ h)

  over_field : {B : Type 0} (r : Process → B) (q : Process) → ((e : End) → r (as_ended q e) ≡ r q) → r (over k q) ≡ r q
  over_field r q a = go (is_ended q.state)
    where
      go : (b : Bool) → r (when b then q else as_ended q (Signaled k)) ≡ r q
      go true = refl
      go false = a (Signaled k)

  over_ended : (q : Process) → So (is_ended (over k q).state)
  over_ended q = go (is_ended q.state) refl
    where
      go : (b : Bool) → is_ended q.state ≡ b → So (is_ended (when b then q else as_ended q (Signaled k)).state)
      go true e = e
      go false e = refl

  -- whoever is left has what no end changes
  field : {B : Type 0} (r : Process → B) → ((q : Process) (e : End) → r (as_ended q e) ≡ r q) → (i : ℕ) → Taken (view w) i → r (process w i) ≡ r (process u i)
  field r a i h =
      by_place i (λ o. ap r (outside_at i o)) (λ b c. absurd (gone_taken i (gone_at i b c) h)) (λ b c. ap r (left_at i b c) ∙ over_field r (process u i) (a (process u i)))

  -- whoever lives is outside
  lives_outside : (i : ℕ) → Lives (view w) i → seen v n i ≡ false
  lives_outside i a =
      by_place i (λ o. o) (λ b c. absurd (gone_taken i (gone_at i b c) (lives_taken (view w) i a)))
      (λ b c. absurd (not_ended (view w) i a (ap (λ (p : Process). is_ended p.state) (left_at i b c) ∙ over_ended (process u i))))

  lives_same : (i : ℕ) → seen v n i ≡ false → living (view w) i ≡ living v i
  unfolding living taken
  lives_same i o = ap (λ (p : Process). not (eqb (pid_at p 0) 0) and not (is_ended p.state)) (outside_at i o)

  taken_same : (i : ℕ) → Taken (view w) i → Taken v i
  unfolding taken
  taken_same i h = sym (field (λ p. not (eqb (pid_at p 0) 0)) (λ q e. refl) i h) ∙ h

  pub fell : Fell u w n
  unfolding is_init
  fell = (living_own_alive v f j l, λ a. no_so (lives_outside _ a) (subst (Seen v n) (sym (eqb-true _ j yes_init)) (is_seen v n j here (below_refl v n))))

  -- who is left has its parent outside
  left_parent : (i : ℕ) → Taken (view w) i → seen v n (v.parent i) ≡ false
  left_parent i h = by_place i (λ o. isnt_so (λ a. no_so o (child_seen v f n i (taken_same i h) a))) (λ b c. absurd (gone_taken i (gone_at i b c) h)) (λ b c. c)

  -- whoever is outside keeps its record
  pub init_others : (i : ℕ) → InFell u w i ⊎ (process w i ≡ with_parent (process u i) ((view w).parent i))
  init_others i = ⊎_elim (λ a. inl (n, fell, a)) (λ o. inr (rest_same w i _ (outside_at i o))) (yes_or_no (seen v n i))

  init_ended : (i : ℕ) → Taken (view w) i → (Lives (view w) i → ⊥) → process w i ≡ over k (process u i)
  init_ended i h o =
      by_place i
      (λ a. outside_at i a ∙ sym (over_same k u i (taken_same i h) (λ b. o (lives_same i a ∙ b))))
      (λ b c. absurd (gone_taken i (gone_at i b c) h))
      (left_at i)

  pub init_trace : P j → (n ≡ from → ⊥) → Trace k from P u w
  unfolding taken
  init_trace meant above =
      record {
        kin = λ i h. (field (λ p. p.own) (λ q e. refl) i h, field (λ p. p.pids) (λ q e. refl) i h, field (λ p. ended_traits p.traits) (λ q e. ended_again q.traits) i h);
        lives = λ i a. sym (lives_same i (lives_outside i a)) ∙ a;
        ups = (end_tree u s j (Signaled k) here).0;
        levels = (end_tree u s j (Signaled k) here).1;
        stay = end_stays u s j (Signaled k) l;
        parents = λ i h. field (λ p. p.parent.0) (λ q e. refl) i h ∙ sym (parent_after_old u w i (λ a. lives_same _ (left_parent i h) ∙ a));
        removed = λ i h o.
            by_place i
            (λ a. absurd (o (taken_as i a ∙ h)))
            (λ b c. (n, fell, b, c))
            (λ b c. absurd (o (taken_left i b c ∙ h)));
        ended = λ i h o. rest_same w i _ (init_ended i h o);
        heads = λ m (a, o).
            let b = init_living v f m a in
            ⊎_elim (λ c. (j, meant, nine, l, yes_init, above, subst (λ y. Below v y n) (init_own v f m a) (seen_below v n _ c))) (λ c. absurd (o (lives_same _ c ∙ b))) (yes_or_no (seen v n (init v m)));
      }
    where
      taken_as : (i : ℕ) → seen v n i ≡ false → taken (view w) i ≡ taken v i
      taken_as i a = ap (λ (p : Process). not (eqb (pid_at p 0) 0)) (outside_at i a)

      taken_left : (i : ℕ) → Seen v n i → seen v n (v.parent i) ≡ false → taken (view w) i ≡ taken v i
      taken_left i b c = ap (λ (p : Process). not (eqb (pid_at p 0) 0)) (left_at i b c) ∙ over_field (λ p. not (eqb (pid_at p 0) 0)) (process u i) (λ e. refl)
