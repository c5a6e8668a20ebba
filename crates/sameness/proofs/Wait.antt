-- wait: by twin callers, and by an outsider.
use Prim.Native.Nat.{ℕ, ◌<◌}
use native.Mathlib.Omega.{arith}
use mathlib.Core.Bool.{Bool, false, not, So, false≢true}
use mathlib.Core.Logic.{◌⊎◌, inl, inr, ⊎_elim}
use mathlib.Core.Path.{◌≡◌, refl, sym, ◌∙◌, ap, subst, subst₂}
use borrow.Author.Tests.{eqb-true, ne_eqb, eq-eqb}
use lib.Dec.{eqb}
use lib.ListN.{get_or-eq_default}
use Rattle.rules.proofs.Keeps.Changed.{process_count}
use Rattle.rules.proofs.Keeps.Freed.{freed_view}
use Rattle.rules.proofs.Keeps.Puts.{reaped_sane, reaped_view}
use Rattle.rules.proofs.Keeps.Reap.{without}
use Rattle.rules.proofs.Laws.Facts.{Facts, facts, sane}
use Rattle.rules.proofs.Laws.Find.{Least, least_cases}
use Rattle.rules.proofs.Laws.Judged.{alike, all_alike}
use Rattle.rules.proofs.Laws.Slots.{init_living, parent_living, child_seen}
use Rattle.rules.proofs.Laws.Tests.{no_so, zero_or, right, isnt, isnt_not, left, both, any_elim, any_intro, isnt_so, bool_ext}
use Rattle.rules.proofs.Laws.Tree.{below_refl}
use Rattle.sameness.proofs.Anchor.{init_or_none}
use Rattle.sameness.proofs.Calls.{Kept, Ready, as_it_was, both_tell, owns_twins, TestsAlike, GivesSame, GivesLeaves}
use Rattle.sameness.proofs.Light.{shown}
use Rattle.sameness.proofs.Freeing.{after, freed_alike, freed_leaves}
use Rattle.sameness.proofs.Readers.{twin_of_pid, twin_eqb, child_twins, seen_above, ended_twins}
use Rattle.sameness.proofs.Remain.{Remain, Lit, same_remain, pid_in_remain, name_remain, everyone, seen_same}
use Rattle.sameness.proofs.Same.{Same}
use Rattle.sameness.proofs.Still.{Still, same_still}
use Rattle.sameness.proofs.Twins.{Pair, Twin, twin_rows, flip_pair, flip_twin, twin_there, pid_twins, taken_v, taken_u}
use Rattle.rules.specs.Answers.{granted, answers}
use Rattle.rules.specs.Calls.{first_ended, pid_to, reap}
use Rattle.sameness.specs.Events.{at, is_inside}
use Rattle.rules.specs.Freeing.{freed}
use Rattle.table.specs.Fresh.{empty_process}
use Rattle.table.specs.Limits.{process_slots}
use Rattle.table.specs.Slots.{is_ended, no_process, put}
use Rattle.rules.specs.Read.{init, living, pid_in, taken, View, child_of, seen, view, namespace_taken, children}
use Rattle.sameness.specs.Sheet.{Row, name, row, sheet}
use Rattle.rules.specs.Sound.{SoundTable}
use Rattle.table.specs.Tests.{◌and◌, when◌then◌else◌, any}
use Rattle.sameness.specs.Touches.{removes_from, touched}
use Rattle.sameness.proofs.Names.{named_rows, children_named}
use Rattle.table.specs.declared.Answer.TheVariants.{Reaped}
use Rattle.table.specs.declared.Call.TheVariants.{Wait}
use Rattle.table.specs.declared.State.TheVariants.{Running, Stopped, Ended}
use Rattle.table.specs.declared.State.{State}
use Rattle.table.specs.declared.Table.{Table}
use Rattle.table.specs.Records.{to_pid}
use Rattle.table.specs.Traits.{no_traits}

-- ---- a slot emptied

-- who is left
abbrev pub others : ℕ → ℕ → Bool
others x i = not (eqb i x)

module _ {v : View} (f : Facts v) (x : ℕ) (tx : So (taken v x)) (ex : So (v.ended x)) where
  living_other : (i : ℕ) → So (living v i) → So (others x i)
  unfolding living
  living_other i l = ap not (ne_eqb i x (λ e. no_so (isnt _ (right _ _ l)) (subst (λ j. So (v.ended j)) (sym e) ex)))

  pub reap_remain : Remain v (without v x) everyone (others x)
  unfolding taken
  reap_remain =
      record {
        places =
            record {
              tree = record { ups = λ n k. refl; levels = λ n k. refl; up_kept = λ n k a b. refl };
              owns = λ i q. rw (isnt (eqb i x) q);
              pids = λ i l q. rw (isnt (eqb i x) q);
              gone = λ i q. rw (isnt_not (eqb i x) q);
              own_kept = λ i q a. refl;
            };
        lives = λ n k. refl;
        inits = λ n k. ⊎_elim (λ a. living_other _ (init_living v f n a)) (λ e. ap not (ne_eqb (init v n) x (λ q. omega (arith, e, q, f.in_range x tx)))) (init_or_none v n);
      }

  parent_other : (i : ℕ) → So (taken v i) → So (others x (v.parent i))
  parent_other i k = zero_or i (λ z. ap not (ne_eqb (v.parent i) x (λ e. omega (arith, ap v.parent z, f.root_parent, f.in_range x tx)))) (λ z. living_other _ (parent_living v f i k z))

  reap_parent : (s i : ℕ) → So (taken v i) → So (others x i) → pid_in (without v x) s ((without v x).parent i) ≡ pid_in v s (v.parent i)
  reap_parent s i k q = rw (isnt (eqb i x) q) (pid_in_remain f reap_remain.places s (v.parent i) refl (parent_other i k))

  reap_children : (s i : ℕ) → So (others x i) → name (without v x) s (children (without v x) i) ≡ name v s (children v i)
  reap_children s i q = rw (isnt (eqb i x) q) (name_remain f reap_remain s (children v i) refl refl)

-- ---- two tables

module _ {v u : View} {s r : ℕ} (w : Pair v u s r) {x y : ℕ} (k : Twin v u s r x y) (ex : So (v.ended x)) (ey : So (u.ended y)) where
  both_stay : (i j : ℕ) → Twin v u s r i j → others x i ≡ others y j
  both_stay i j m = ap not (twin_eqb w m k)

  reap_lit : (i j : ℕ) → Twin v u s r i j → So (others x i) → Lit v u (without v x) (without u y) s r i j
  unfolding row
  reap_lit i j m q =
      let q' = sym (both_stay i j m) ∙ q in
      let rows = twin_rows w m in
      let slot = twin_eqb w m k in
      record {
        states = λ z. when slot z then Running else (rows z).state;
        traitss = λ z. when slot z then no_traits else (rows z).traits;
        parents = reap_parent w.facts_v x (taken_v k) ex s i (taken_v m) q ∙ ap (λ (o : Row). o.parent) rows ∙ sym (reap_parent w.facts_u y (taken_u k) ey r j (taken_u m) q');
        holds = children_named _ _ s r i j (reap_children w.facts_v x (taken_v k) ex s i q ∙ named_rows v u s r i j rows 0 (omega arith) ∙ sym (reap_children w.facts_u y (taken_u k) ey r j q'));
        lasts = ap (λ (o : Row). o.last) rows;
      }

  -- each row that is left is the same on both
  pub same_reap : Same (without v x) (without u y) s r
  same_reap = same_remain w (reap_remain w.facts_v x (taken_v k) ex) (reap_remain w.facts_u y (taken_u k) ey) refl refl both_stay reap_lit

-- ---- wait, by twin callers

-- a child is seen from its parent's own namespace
kid_seen : {v : View} (f : Facts v) (c i : ℕ) → So (taken v c) → So (child_of v c i) → So (seen v (v.own c) i)
unfolding child_of seen taken
kid_seen {v} f c i h k =
    child_seen v f (v.own c) i (left _ _ k)
    (subst (λ y. So (seen v (v.own c) y)) (sym (eqb-true (v.parent i) c (right _ _ k))) (both _ _ h (below_refl v (v.own c))))

abbrev ended_kid : View → ℕ → ℕ → Bool
ended_kid v c i = child_of v c i and v.ended i

-- its first child that has ended, or none
abbrev FirstEnded : View → ℕ → ℕ → Type 0
FirstEnded v c x = Least (ended_kid v c) (pid_to v c) process_slots process_slots x

first_cases : (v : View) (c : ℕ) → FirstEnded v c (first_ended v c)
unfolding first_ended
first_cases v c = least_cases (ended_kid v c) (pid_to v c) process_slots process_slots (omega arith)

module _ {t u : Table} {s r c d : ℕ} (w : Ready t u s r c d) where
  -- a child here is a child there
  kid_there : (i : ℕ) → So (child_of (view t) c i) → (j : ℕ) × Twin (view t) (view u) s r i j
  kid_there i k = twin_there w.pair i (seen_above (facts t w.sound_t) _ s i (owns_twins w).below_v (kid_seen (facts t w.sound_t) c i (taken_v w.twin) k))

  kid_same : {i j : ℕ} → Twin (view t) (view u) s r i j → child_of (view t) c i ≡ child_of (view u) d j
  kid_same k = child_twins w.pair k w.twin

  any_there : So (any process_slots (child_of (view t) c)) → So (any process_slots (child_of (view u) d))
  any_there h =
      let (i, l, k) = any_elim _ _ h in
      let (j, m) = kid_there i k in
      any_intro _ _ j ((facts u w.sound_u).in_range j (taken_u m)) (sym (kid_same m) ∙ k)

  ended_there : (i : ℕ) → So (ended_kid (view t) c i) → (j : ℕ) × Twin (view t) (view u) s r i j × So (ended_kid (view u) d j) × (j < process_slots)
  ended_there i h =
      let (j, m) = kid_there i (left _ _ h) in
      (j, m, both _ _ (sym (kid_same m) ∙ left _ _ h) (sym (ended_twins w.pair m) ∙ right _ _ h), (facts u w.sound_u).in_range j (taken_u m))

flip_ready : {t u : Table} {s r c d : ℕ} → Ready t u s r c d → Ready u t r s d c
flip_ready w =
    record { sound_t = w.sound_u; sound_u = w.sound_t; pair = flip_pair w.pair; twin = flip_twin w.twin; runs_t = w.runs_u; runs_u = w.runs_t }

module _ {t u : Table} {s r c d : ℕ} (w : Ready t u s r c d) where
  any_same : any process_slots (child_of (view t) c) ≡ any process_slots (child_of (view u) d)
  any_same = bool_ext _ _ (any_there w) (any_there (flip_ready w))

  -- nobody that has ended, or a pair of twins
  abbrev First : ℕ → ℕ → Type 0
  First x y = ((x ≡ process_slots) × (y ≡ process_slots)) ⊎ (Twin (view t) (view u) s r x y × So ((view t).ended x) × So ((view u).ended y))

  -- the first that has ended is the same on both, or there is none
  pub first_twins : First (first_ended (view t) c) (first_ended (view u) d)
  first_twins = go (first_cases (view t) c) (first_cases (view u) d)
    where
      go : {x y : ℕ} → FirstEnded (view t) c x → FirstEnded (view u) d y → First x y
      go (inl (a, b)) (inl (a', b')) = inl (a, a')
      go {x} (inr (a, b, h)) (inl (a', b')) = let (j, m, k, q) = ended_there w x a in absurd (false≢true (sym (b' j q) ∙ k))
      go {y} (inl (a, b)) (inr (a', b', h')) = let (i, m, k, q) = ended_there (flip_ready w) y a' in absurd (false≢true (sym (b i q) ∙ k))
      go {x} {y} (inr (a, b, h)) (inr (a', b', h')) =
          let l = owns_twins w in
          let (j, m, k, q) = ended_there w x a in
          let (i, n, k', q') = ended_there (flip_ready w) y a' in
          let n' = flip_twin n in
          inr (
            twin_of_pid w.pair l (kid_seen (facts t w.sound_t) c x (taken_v w.twin) (left _ _ a)) (kid_seen (facts u w.sound_u) d y (taken_u w.twin) (left _ _ a'))
                (omega (arith, h i q' k', h' j q k, pid_twins w.pair m l, pid_twins w.pair n' l)),
            right _ _ a,
            right _ _ a',
          )

no_state : {t : Table} → SoundTable t → (x : ℕ) → x ≡ process_slots → (view t).state x ≡ Running
no_state {t} h x e = ap (λ p. p.state) (get_or-eq_default t.processes no_process (omega (arith, process_count t h.shape)))

-- two callers reap two twins that have ended in the same way
reap_kept : {t u : Table} {s r c d : ℕ} → Ready t u s r c d → {x y : ℕ} → Twin (view t) (view u) s r x y → So ((view t).ended x) → So ((view u).ended y) → (a : State) → So (is_ended a) → Kept t u s r (reap t c x a) (reap u d y a)
unfolding reap granted
reap_kept w k ex ey Running z = absurd (false≢true z)
reap_kept w k ex ey Stopped z = absurd (false≢true z)
reap_kept {t} {u} {s} {r} w {x} {y} k ex ey (Ended e) z =
    let a = reaped_sane t (sane t w.sound_t) x ex in
    let b = reaped_sane u (sane u w.sound_u) y ey in
    inr (
      ap (λ n. Reaped (to_pid n) e) (pid_twins w.pair k (owns_twins w)),
      freed_alike t u a b w.pair.alive_v w.pair.alive_u
          (subst₂ (λ (v' u' : View). Same v' u' s r) (sym (reaped_view t (sane t w.sound_t) x ex)) (sym (reaped_view u (sane u w.sound_u) y ey)) (same_reap w.pair k ex ey)),
    )

-- wait by twin callers
pub wait_alike : TestsAlike Wait
wait_alike t u s r c d w = alike (ap not (any_same w)) all_alike

pub wait_same : GivesSame Wait
unfolding reap
wait_same t u s r c d w n m h g = go (first_twins w)
  where
    x : ℕ
    x = first_ended (view t) c

    y : ℕ
    y = first_ended (view u) d

    go : First w x y → Kept t u s r (reap t c x ((view t).state x)) (reap u d y ((view u).state y))
    go (inl (a, b)) = rw (no_state w.sound_t x a, no_state w.sound_u y b, reap) (both_tell w 0 0 refl)
    go (inr (k, ex, ey)) = let q = (shown t u w.pair k).states in rw (← q) (reap_kept w k ex ey ((view t).state x) ex)

-- ---- wait by an outsider that removes nobody of S

-- one removed that is not of S
reap_still : {v : View} (f : Facts v) (x : ℕ) (tx : So (taken v x)) (ex : So (v.ended x)) {s : ℕ} → seen v s x ≡ false → Still v (without v x) s
reap_still {v} f x tx ex {s} o =
    record {
      ups = λ n h. refl;
      levels = λ n h. refl;
      lives = λ n h. refl;
      seens = seen_same f (reap_remain f x tx ex).places s (λ i k. ap not (apart i k));
      looks = λ i k. rw (apart i k);
      pids = λ i l k. rw (apart i k);
      parents = λ i k. rw (apart i k);
      lasts = λ i k. refl;
    }
  where
    apart : (i : ℕ) → So (seen v s i) → eqb i x ≡ false
    apart i k = ne_eqb i x (λ e. no_so o (subst (λ j. So (seen v s j)) e k))

-- who has ended and is found is there
first_taken : {t : Table} → SoundTable t → (c : ℕ) → So ((view t).ended (first_ended (view t) c)) → So (taken (view t) (first_ended (view t) c))
unfolding child_of
first_taken {t} h c e =
    ⊎_elim (λ a. absurd (no_so (ap is_ended (no_state h _ a.0)) e)) (λ a. left _ _ (left _ _ a.0)) (first_cases (view t) c)

-- wait by an outsider that removes nobody of S
pub wait_leaves : GivesLeaves Wait
unfolding reap answers granted touched removes_from is_inside taken namespace_taken
wait_leaves t s i h hs k n o no_touch g = go ((view t).state x) refl no_touch
  where
    x : ℕ
    x = first_ended (view t) i

    go : (z : State) → (view t).state x ≡ z → touched t (reap t i x z).table (at s) i Wait ≡ false → after t s (reap t i x z).table ≡ sheet (view t) s
    go Running q no_touch = as_it_was t s hs
    go Stopped q no_touch = as_it_was t s hs
    go (Ended y) q no_touch =
        let ex = ap is_ended q in
        let tx = first_taken h i ex in
        let removed : taken (view (freed (put t x empty_process))) x ≡ false =
        ap (λ (u : View). taken u x) (freed_view _ (reaped_sane t (sane t h) x ex).shape_of)
        ∙ ap (λ (u : View). taken u x) (reaped_view t (sane t h) x ex) ∙ (reap_remain (facts t h) x tx ex).places.gone x (ap not (eq-eqb x x refl)) in
        let unseen : seen (view t) s x ≡ false = isnt_so (λ m. no_so no_touch (any_intro _ _ x ((facts t h).in_range x tx) (both _ _ m (ap not removed)))) in
        freed_leaves h (reaped_sane t (sane t h) x ex) hs hs
        (subst (λ (u : View). Same u (view t) s s) (sym (reaped_view t (sane t h) x ex)) (same_still (facts t h) (reap_still (facts t h) x tx ex unseen)))
