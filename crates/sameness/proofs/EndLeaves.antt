-- The end of one outside S that is no init above S leaves the sheet; exit by an outsider.
use Prim.Native.Nat.{ℕ, zero, suc, ◌<◌}
use mathlib.Core.Bool.{false, not, So, false≢true}
use mathlib.Core.Logic.{◌⊎◌, inl, inr, ⊎_elim}
use mathlib.Core.Path.{◌≡◌, refl, sym, ◌∙◌, ap, subst}
use borrow.Author.Tests.{eqb-true, eqb-false, ne_eqb}
use lib.Dec.{eqb}
use lib.IntN.{ℤ}
use Rattle.table.specs.declared.Refusal.TheVariants.{Ebusy}
use Rattle.rules.proofs.Keeps.End.{end_view, end_sane}
use Rattle.rules.proofs.Keeps.Freed.{freed_view}
use Rattle.rules.proofs.Keeps.InitEnds.{gone, subtree_gone}
use Rattle.rules.proofs.Laws.Below.{shallow_below, up_level, below_trans}
use Rattle.rules.proofs.Laws.Facts.{Facts, Sane, sane, seen_below, lives_taken}
use Rattle.rules.proofs.Laws.Slots.{own_taken, init_own, living_own_alive}
use Rattle.rules.proofs.Laws.Steps.{remainder, runs_lives}
use Rattle.rules.proofs.Laws.Tests.{no_so, isnt_so, choose, right, both, cases, any_intro, isnt}
use Rattle.rules.proofs.Laws.Tree.{below_refl}
use Rattle.sameness.proofs.Freeing.{freed_still}
use Rattle.sameness.proofs.Ends.{not_seen_stays, fallen_places, member_of}
use Rattle.sameness.proofs.Anchor.{below_up}
use Rattle.sameness.proofs.Cases.{by_equal}
use Rattle.sameness.proofs.Calls.{GivesLeaves}
use Rattle.sameness.proofs.Twins.{pid_in_unseen}
use Rattle.sameness.proofs.Remain.{seen_same}
use Rattle.sameness.proofs.Still.{Still, near}
use Rattle.rules.specs.Answers.{answers, granted}
use Rattle.rules.specs.Calls.{status}
use Rattle.rules.proofs.Laws.Judged.{place}
use Rattle.rules.specs.Ends.{end}
use Rattle.sameness.specs.Events.{at}
use Rattle.rules.specs.Freeing.{freed, kept}
use Rattle.table.specs.Limits.{namespace_slots}
use Rattle.table.specs.Slots.{is_alive}
use Rattle.rules.specs.Read.{View, alive, below, child_of, init, is_init, living, pid_in, seen, taken, view}
use Rattle.table.specs.Tests.{when◌then◌else◌}
use Rattle.sameness.specs.Touches.{ends_above, touched}
use Rattle.table.specs.declared.Call.TheVariants.{Exit}
use Rattle.table.specs.declared.End.TheVariants.{Exited}
use Rattle.table.specs.declared.End.{End}
use Rattle.table.specs.declared.Table.{Table}

-- of two namespaces above one, one lies below the other
either_below : {v : View} (f : Facts v) (l a b c : ℕ) → v.level a ≡ l → So (below v a b) → So (below v a c) → So (below v b c) ⊎ So (below v c b)
either_below {v} f zero a b c e x y = inl (subst (λ n. So (below v n c)) (shallow_below v a b e x) y)
either_below {v} f (suc l) a b c e x y =
    by_equal a b (λ q. inl (subst (λ n. So (below v n c)) q y))
    (λ q. by_equal a c (λ z. inr (subst (λ n. So (below v n b)) z x)) (λ z. either_below f l (v.up a) b c (up_level v f a l e) (below_up f a b x q) (below_up f a c y z)))

-- ---- not an init

module _ {v : View} (f : Facts v) (x : ℕ) (e : End) (lives : So (alive v (v.own x))) (tx : So (taken v x)) (s : ℕ) (o : seen v s x ≡ false) where
  apart : (i : ℕ) → So (seen v s i) → eqb i x ≡ false
  apart i k = ne_eqb i x (λ q. no_so o (subst (λ j. So (seen v s j)) q k))

  -- neither the old parent nor the new is of S
  init_unseen : seen v s (init v (v.own x)) ≡ false
  unfolding seen taken
  init_unseen = isnt_so (λ k. no_so o (both _ _ tx (subst (λ n. So (below v n s)) (init_own v f (v.own x) lives) (right _ _ k))))

  parents_as : (i : ℕ) → So (seen v s i) → pid_in v s (when eqb i x then v.parent i else (when child_of v x i then init v (v.own x) else v.parent i)) ≡ pid_in v s (v.parent i)
  unfolding child_of
  parents_as i k =
      rw (apart i k)
      (choose (λ n. pid_in v s n ≡ pid_in v s (v.parent i)) (child_of v x i) (λ c. pid_in_unseen f s _ init_unseen ∙ sym (pid_in_unseen f s (v.parent i) (ap (seen v s) (eqb-true _ _ (right _ _ c)) ∙ o))) (λ c. refl))

  member_still : Still v (member_of v x e) s
  unfolding seen taken below
  member_still =
      record {
        ups = λ n h. refl;
        levels = λ n h. refl;
        lives = λ n h. refl;
        seens = λ i. refl;
        looks = λ i k. rw (apart i k);
        pids = λ i l k. refl;
        parents = parents_as;
        lasts = λ i k. refl;
      }

-- ---- an init, not above S

module _ {v : View} (f : Facts v) (x : ℕ) (e : End) (tx : So (taken v x)) (s : ℕ) (o : seen v s x ≡ false) (n : below v s (v.own x) ≡ false) where
  -- nothing lies in both
  disjoint : (m : ℕ) → So (below v m s) → So (below v m (v.own x)) → ⊥
  unfolding seen taken
  disjoint m a b = ⊎_elim (λ k. no_so n k) (λ k. no_so o (both _ _ tx k)) (either_below f (v.level m) m s (v.own x) refl a b)

  spared : (i : ℕ) → So (seen v s i) → seen v (v.own x) i ≡ false
  spared i k = isnt_so (λ q. disjoint (v.own i) (seen_below v s i k) (seen_below v (v.own x) i q))

  not_gone : (i : ℕ) → So (seen v s i) → gone v (v.own x) i ≡ false
  not_gone i k = isnt _ (not_seen_stays v x i (spared i k))

  near_lives : (m : ℕ) → So (near v s m) → below v m (v.own x) ≡ false
  near_lives m h = isnt_so (λ k. ⊎_elim (λ b. disjoint m b k) (λ b. no_so n (below_trans v f s m (v.own x) b k)) (cases _ _ h))

  init_still : Still v (subtree_gone v (v.own x) x e) s
  init_still =
      record {
        ups = λ m h. refl;
        levels = λ m h. refl;
        lives = λ m h. rw (near_lives m h);
        seens = seen_same f (fallen_places v x e) s (λ i k. not_seen_stays v x i (spared i k));
        looks = λ i k. rw (not_gone i k, spared i k);
        pids = λ i l k. rw (not_gone i k);
        parents = λ i k. rw (not_gone i k);
        lasts = λ i k. refl;
      }

-- ---- what lives then

-- an init's namespace lives no more
end_dies : {t : Table} (w : Sane t) (x : ℕ) (e : End) → So (taken (view t) x) → So (is_init (view t) x) → alive (view (end t x e)) ((view t).own x) ≡ false
end_dies {t} w x e tx q = subst (λ (u : View). alive u ((view t).own x) ≡ false) (sym (end_view t w x e tx)) (rw (q, below_refl (view t) ((view t).own x)))

-- what lives after a change lived before
freed_back : {t : Table} → Sane t → (n : ℕ) → So (alive (view (freed t)) n) → So (alive (view t) n)
freed_back {t} w n = subst (λ (u : View). So (alive u n) → So (alive (view t) n)) (sym (freed_view t w.shape_of)) (choose (λ l. So (is_alive l) → So (alive (view t) n)) (kept (view t) n) (λ k h. h) (λ k h. absurd (false≢true h)))

pub end_back : {t : Table} → Sane t → (x : ℕ) (e : End) → So (taken (view t) x) → (n : ℕ) → So (alive (view (end t x e)) n) → So (alive (view t) n)
end_back {t} w x e tx n =
    subst (λ (u : View). So (alive u n) → So (alive (view t) n)) (sym (end_view t w x e tx))
    (choose (λ (u : View). So (alive u n) → So (alive (view t) n)) (is_init (view t) x)
    (λ q. choose (λ l. So (is_alive l) → So (alive (view t) n)) (below (view t) n ((view t).own x)) (λ k h. absurd (false≢true h)) (λ k h. h)) (λ q h. h))

-- what lives above S in t lives in u
abbrev pub Above : Table → ℕ → Table → Type 0
Above t s u = (m : ℕ) → m < namespace_slots → (m ≡ s → ⊥) → So (below (view t) s m) → So (alive (view t) m) → alive (view u) m ≡ false → ⊥

-- no touch, then
pub lives_on : (t u : Table) (s : ℕ) → ends_above t u (at s) ≡ false → Above t s u
unfolding ends_above
lives_on t u s h n l o b a k = false≢true (sym h ∙ any_intro _ _ n l (both _ _ (both _ _ (both _ _ (ap not (ne_eqb n s o)) b) a) (ap not k)))

pub lives_freed : (t : Table) {t₁ : Table} (s : ℕ) → Sane t₁ → Above t s (freed t₁) → Above t s t₁
lives_freed t s w h m l o b a k = h m l o b a (isnt_so (λ y. no_so k (freed_back w m y)))

-- an end leaves all that the sheet of S rests on
pub end_still : {t : Table} (w : Sane t) (x : ℕ) (e : End) → So (living (view t) x) → (s : ℕ) → seen (view t) s x ≡ false → Above t s (end t x e) → Still (view t) (view (end t x e)) s
unfolding seen taken
end_still {t} w x e l s o h =
    let f = w.facts in
    let tx = lives_taken (view t) x l in
    let lives = living_own_alive (view t) f x l in
    let other : (view t).own x ≡ s → ⊥ = λ q. no_so o (both _ _ tx (subst (λ n. So (below (view t) ((view t).own x) n)) q (below_refl (view t) ((view t).own x)))) in
    let not_above : So (is_init (view t) x) → below (view t) s ((view t).own x) ≡ false =
    λ i. isnt_so (λ b. h ((view t).own x) (f.in_namespace _ (own_taken (view t) f x tx)) other b lives (end_dies w x e tx i)) in
    subst (λ u. Still (view t) u s) (sym (end_view t w x e tx))
    (choose (λ u. Still (view t) u s) (is_init (view t) x) (λ q. init_still f x e tx s o (not_above q)) (λ q. member_still f x e lives tx s o))

-- exit by an outsider
pub exit_leaves : (z : ℤ) → GivesLeaves (Exit z)
unfolding place answers granted touched
exit_leaves z t s i h hs k n o x g =
    let e = Exited (status z) in
    let li = runs_lives t i k in
    let w = end_sane t (sane t h) i e li (eqb-false _ _ (n Ebusy)) (remainder z) in
    freed_still h w hs (end_still (sane t h) i e li s o (lives_freed t s w (lives_on t (freed (end t i e)) s x)))
