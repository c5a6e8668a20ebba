-- clone, plain and with a new namespace, and unshare: by twin callers, and by an outsider.
use native.Mathlib.Omega.{arith}
use Prim.Native.Nat.{ℕ, zero, suc}
use mathlib.Core.Bool.{false, not, So, false≢true, true, Bool}
use mathlib.Core.Logic.{inl, inr, ⊎_elim}
use mathlib.Core.Path.{◌≡◌, refl, sym, ◌∙◌, ap, subst, subst₂}
use borrow.Author.Tests.{eqb-true, eqb-false, eq-eqb, ne_eqb}
use lib.Dec.{eqb, leb}
use native.Mathlib.Decide.{ℕ_discrete}
use Rattle.rules.proofs.Keeps.Birth.{birth_view, with_born}
use Rattle.rules.proofs.Keeps.Premises.{free_slot_is}
use Rattle.rules.proofs.Laws.Below.{not_deepest, up_level, below_trans}
use Rattle.rules.proofs.Laws.Facts.{Facts, facts, Sane, sane, seen_below, seen_taken, lives_taken, for_children, holds_children}
use Rattle.rules.proofs.Laws.Judged.{Alike, alike, all_alike, no_room, place}
use Rattle.rules.proofs.Laws.Slots.{alive_taken, alive_otherwise, root_only, alive_not_unborn}
use Rattle.rules.proofs.Laws.Steps.{runs_lives}
use Rattle.rules.proofs.Laws.Tests.{isnt_so, bool_ext, or_false_left, or_false_right, or_left, no_so, left, right, cases}
use Rattle.rules.proofs.Keeps.Changes.{namespace_sane, unshare_sane}
use Rattle.rules.proofs.Laws.Tree.{below_refl}
use Rattle.sameness.proofs.Anchor.{root_alive, is_dead_name, name_taken}
use Rattle.sameness.proofs.BirthSame.{birth_same}
use Rattle.sameness.proofs.Cases.{by_test}
use Rattle.sameness.proofs.Born.{cradle_stands, Cradles, next_twins, Room, below_grown, seen_grown, life_born, life_other, bottom, old}
use Rattle.sameness.proofs.Calls.{Kept, Ready, stands_same, owns_twins, the_rows, own_lives, taken_s, taken_r, stands_leaves, TestsAlike, GivesSame, GivesLeaves}
use Rattle.sameness.proofs.Readers.{children_names, children_unborn, home_twins, twin_eqb, children_taken}
use Rattle.sameness.proofs.Same.{Same, same_trans}
use Rattle.sameness.proofs.Twins.{Pair, Twin, Twins, taken_v, taken_u, twins_named, twins_level, owns, flip_same}
use Rattle.sameness.proofs.Freeing.{freed_alike, freed_leaves}
use Rattle.sameness.proofs.Light.{shown, same_put, shown_to}
use Rattle.sameness.proofs.NewNamespace.{the_namespace, new_name, new_taken, new_still, new_unborn, not_held, same_free, new_outside}
use Rattle.sameness.proofs.Still.{Still, near_here, same_still, stands_still, near, put_still}
use Rattle.rules.specs.Answers.{answers, granted}
use Rattle.rules.specs.Births.{birth}
use Rattle.rules.specs.Calls.{born, elsewhere, new_namespace, own_level, set_children, making_refusals, processes_full, namespaces_full}
use Rattle.table.specs.Limits.{process_slots, deepest, namespace_slots}
use Rattle.rules.specs.Pids.{free_slot, free_namespace_slot, next_pid}
use Rattle.table.specs.Slots.{is_dead, is_alive, process}
use Rattle.rules.specs.Read.{View, dead, namespace_taken, unborn, view, pid_seen, below, seen, children, taken}
use Rattle.sameness.specs.Sheet.{name_by, row}
use Rattle.rules.specs.Sound.{SoundTable}
use Rattle.table.specs.Tests.{◌or◌, when◌then◌else◌}
use Rattle.table.specs.declared.Answer.TheVariants.{Number}
use Rattle.table.specs.declared.Call.TheVariants.{Clone, CloneNew, Unshare}
use Rattle.table.specs.declared.Life.TheVariants.{Unborn, Alive, Dead}
use Rattle.table.specs.declared.Life.{Life}
use Rattle.table.specs.declared.Refusal.TheVariants.{Enomem, Eagain, Enospc}
use Rattle.table.specs.declared.Table.{Table}
use Rattle.table.specs.Records.{with_children}
use Rattle.sameness.specs.Events.{namespace_inside}
use Rattle.sameness.specs.Touches.{touched, clones_into}
use Rattle.sameness.proofs.Names.{named_rows}

-- ---- plain clone, by twin callers

-- an unborn namespace is not the root
pub one_up : {v : View} (f : Facts v) (n : ℕ) → So (unborn v n) → So (namespace_taken v n) → v.level n ≡ suc (v.level (v.up n))
one_up {v} f n h k = go (v.level n) refl
  where
    go : (l : ℕ) → v.level n ≡ l → v.level n ≡ suc (v.level (v.up n))
    go zero e = absurd (false≢true (sym (alive_not_unborn (v.life 0) (root_alive f)) ∙ ap (unborn v) (sym (root_only v f n k e)) ∙ h))
    go (suc l) e = e ∙ ap suc (sym (up_level v f n l e))

-- two births by twin callers, on their tables or with a fresh namespace each
pub born_kept : {t u t₁ u₁ : Table} {s r c d n m : ℕ} (w : Ready t u s r c d) → Sane t₁ → Sane u₁ → Pair (view t₁) (view u₁) s r → Twin (view t₁) (view u₁) s r c d → Cradles (view t₁) (view u₁) s r n m
    → ((i j : ℕ) → Twin (view t₁) (view u₁) s r i j → So (unborn (view t₁) (children (view t₁) i)) → So (unborn (view u₁) (children (view u₁) j)) → eqb (children (view t₁) i) n ≡ eqb (children (view u₁) j) m)
    → (free_slot (view t₁) ≡ process_slots → ⊥) → (free_slot (view u₁) ≡ process_slots → ⊥) → SoundTable (birth t₁ c n) → SoundTable (birth u₁ d m) → Kept t u s r (born t c (birth t₁ c n)) (born u d (birth u₁ d m))
unfolding namespace_taken
born_kept {t} {u} {t₁} {u₁} {s} {r} {c} {d} {n} {m} w a b p k cradles holders rt ru h g =
    let (lt, et) = free_slot_is (view t₁) rt in
    let (lu, eu) = free_slot_is (view u₁) ru in
    let (tn, tm) = cradle_stands p cradles in
    let ev = birth_view t₁ a.shape_of a.facts c n tn lt in
    let ew = birth_view u₁ b.shape_of b.facts d m tm lu in
    inr (
      ap Number (next_twins w.pair (owns_twins w)),
      stands_same t u h g (ap (λ (x : View). eqb s 0 or not (eqb (x.level s) 0)) ev ∙ alive_taken _ a.facts s p.alive_v) (ap (λ (x : View). eqb r 0 or not (eqb (x.level r) 0)) ew ∙ alive_taken _ b.facts r p.alive_u)
          (subst₂ (λ (x y : View). Same x y s r) (sym ev) (sym ew) (birth_same p (record { facts = a.facts; slot = lt; empty = isnt_so et; stands = tn }) (record { facts = b.facts; slot = lu; empty = isnt_so eu; stands = tm }) k cradles holders)),
    )

by_dead : (v : View) (s n : ℕ) (l : Life) → is_dead_name (name_by v s n l) ≡ is_dead l
unfolding name_by
by_dead v s n Unborn = refl
by_dead v s n (Alive i) = refl
by_dead v s n Dead = refl

module _ {t u : Table} {s r c d : ℕ} (w : Ready t u s r c d) where
  ft : Facts (view t)
  ft = facts t w.sound_t

  fu : Facts (view u)
  fu = facts u w.sound_u

  hn : So (namespace_taken (view t) (children (view t) c))
  hn = children_taken ft c (runs_lives t c w.runs_t)

  hm : So (namespace_taken (view u) (children (view u) d))
  hm = children_taken fu d (runs_lives u d w.runs_u)

  deads : dead (view t) (children (view t) c) ≡ dead (view u) (children (view u) d)
  unfolding row
  deads =
      sym (ap is_dead_name (name_taken ft s _ hn) ∙ by_dead (view t) s _ _) ∙ ap is_dead_name (named_rows _ _ _ _ _ _ (the_rows w) 0 (omega arith)) ∙ ap is_dead_name (name_taken fu r _ hm) ∙ by_dead (view u) r _ _

  unborns : unborn (view t) (children (view t) c) ≡ unborn (view u) (children (view u) d)
  unborns = children_unborn w.pair w.twin (runs_lives t c w.runs_t)

  cradles : dead (view t) (children (view t) c) ≡ false → Cradles (view t) (view u) s r (children (view t) c) (children (view u) d)
  cradles nd =
      by_test (unborn (view t) (children (view t) c))
      (λ h.
      let h' = sym unborns ∙ h in
      inr
      (record {
        unborn_v = h;
        unborn_u = h';
        lasts = ft.unborn_last _ hn h ∙ sym (fu.unborn_last _ hm h');
        ups = subst₂ (Twins (view t) (view u) s r) (ft.unborn_own _ hn h c (taken_v w.twin) (holds_children (view t) c)) (fu.unborn_own _ hm h' d (taken_u w.twin) (holds_children (view u) d)) (owns_twins w);
        level_v = one_up ft _ h hn;
        level_u = one_up fu _ h' hm;
      }))
      (λ h. inl (twins_named w.pair (children_names w.pair w.twin (runs_lives t c w.runs_t) h) (alive_otherwise ((view t).life (children (view t) c)) nd h)))

  holders : (i j : ℕ) → Twin (view t) (view u) s r i j → So (unborn (view t) (children (view t) i)) → So (unborn (view u) (children (view u) j)) → eqb (children (view t) i) (children (view t) c) ≡ eqb (children (view u) j) (children (view u) d)
  holders i j x h h' =
      let e = twin_eqb w.pair x w.twin in
      bool_ext _ _
      (λ q.
      let z = eqb-true _ _ q in
      eq-eqb _ _ (ap (children (view u)) (eqb-true j d (sym e ∙ eq-eqb i c (ft.unborn_one _ hn (subst (λ n. So (unborn (view t) n)) z h) i c (taken_v x) (for_children (view t) i _ z) (taken_v w.twin) (holds_children (view t) c))))))
      (λ q.
      let z = eqb-true _ _ q in
      eq-eqb _ _ (ap (children (view t)) (eqb-true i c (e ∙ eq-eqb j d (fu.unborn_one _ hm (subst (λ n. So (unborn (view u) n)) z h') j d (taken_u x) (for_children (view u) j _ z) (taken_u w.twin) (holds_children (view u) d))))))

-- plain clone
pub clone_alike : TestsAlike Clone
clone_alike t u s r c d w = alike (deads w) (no_room all_alike)

pub clone_same : GivesSame Clone
unfolding place
clone_same t u s r c d w n m h g =
    born_kept w (sane t w.sound_t) (sane u w.sound_u) w.pair w.twin (cradles w (n Enomem)) (holders w) (eqb-false _ _ (n Eagain)) (eqb-false _ _ (m Eagain)) h g

-- ---- unshare, and clone with a new namespace, by twin callers

module _ {t u : Table} {s r c d : ℕ} (w : Ready t u s r c d) (ot : own_level (view t) c ≡ deepest → ⊥) (ou : own_level (view u) d ≡ deepest → ⊥) (rt : free_namespace_slot (view t) ≡ namespace_slots → ⊥) (ru : free_namespace_slot (view u) ≡ namespace_slots → ⊥) where
  st : Sane t
  st = sane t w.sound_t

  su : Sane u
  su = sane u w.sound_u

  abbrev tn : Table
  tn = new_namespace t c

  abbrev un : Table
  un = new_namespace u d

  gt : Sane tn
  gt = namespace_sane t st c (runs_lives t c w.runs_t) ot rt

  gu : Sane un
  gu = namespace_sane u su d (runs_lives u d w.runs_u) ou ru

  still_t : Still (view t) (view tn) s
  still_t = new_still st c rt s (taken_s w)

  still_u : Still (view u) (view un) r
  still_u = new_still su d ru r (taken_r w)

  new_pair : Pair (view tn) (view un) s r
  new_pair =
      record {
        facts_v = gt.facts;
        facts_u = gu.facts;
        alive_v = ap is_alive (still_t.lives s (near_here st.facts s)) ∙ w.pair.alive_v;
        alive_u = ap is_alive (still_u.lives r (near_here su.facts r)) ∙ w.pair.alive_u;
        same = same_trans (same_still st.facts still_t) (same_trans w.pair.same (flip_same (same_still su.facts still_u)));
      }

  new_twin : Twin (view tn) (view un) s r c d
  unfolding new_namespace pid_seen
  new_twin =
      record {
        seen_v = still_t.seens c ∙ w.twin.seen_v;
        seen_u = still_u.seens d ∙ w.twin.seen_u;
        pids = ap ((view t).pid c) (still_t.levels s (near_here st.facts s)) ∙ w.twin.pids ∙ sym (ap ((view u).pid d) (still_u.levels r (near_here su.facts r)));
      }

  unshared_kept : Kept t u s r (answers (set_children tn c (free_namespace_slot (view t))) 0) (answers (set_children un d (free_namespace_slot (view u))) 0)
  unfolding set_children answers granted
  unshared_kept =
      let z = shown tn un new_pair new_twin in
      let a = unshare_sane t w.sound_t c w.runs_t ot rt in
      let b = unshare_sane u w.sound_u d w.runs_u ou ru in
      inr (
        refl,
        freed_alike t u a b new_pair.alive_v new_pair.alive_u
            (same_put tn un new_pair new_twin gt.shape_of gu.shape_of
            (shown_to z (new_name st c rt s ∙ sym (new_name su d ru r)))
            (refl, refl, refl) (refl, refl, refl)),
      )

  new_owns : Twins (view tn) (view un) s r ((view t).own c) ((view u).own d)
  unfolding new_namespace
  new_owns = owns new_pair new_twin (ap is_alive (still_t.lives ((view t).own c) (or_left _ _ (seen_below (view t) s c w.twin.seen_v))) ∙ own_lives w)

  new_cradles : Cradles (view tn) (view un) s r (free_namespace_slot (view t)) (free_namespace_slot (view u))
  new_cradles =
      let et = the_namespace st c rt in
      let eu = the_namespace su d ru in
      inr
      (record {
        unborn_v = new_unborn st c rt;
        unborn_u = new_unborn su d ru;
        lasts = ap (λ q. q.last.0) et ∙ sym (ap (λ q. q.last.0) eu);
        ups = subst₂ (λ a b. Twins (view tn) (view un) s r a b) (sym (ap (λ q. q.parent.0) et)) (sym (ap (λ q. q.parent.0) eu)) new_owns;
        level_v = one_up gt.facts _ (new_unborn st c rt) (new_taken st c rt);
        level_u = one_up gu.facts _ (new_unborn su d ru) (new_taken su d ru);
      })

  cloned_kept : (free_slot (view t) ≡ process_slots → ⊥) → (free_slot (view u) ≡ process_slots → ⊥) → SoundTable (birth tn c (free_namespace_slot (view t))) → SoundTable (birth un d (free_namespace_slot (view u))) → Kept t u s r (born t c (birth tn c (free_namespace_slot (view t)))) (born u d (birth un d (free_namespace_slot (view u))))
  cloned_kept pt pu h g =
      born_kept w gt gu new_pair new_twin new_cradles (λ i j m y z. ne_eqb _ _ (λ e. not_held st c rt i (taken_v m) (for_children (view tn) i _ e)) ∙ sym (ne_eqb _ _ (λ e. not_held su d ru j (taken_u m) (for_children (view un) j _ e))))
      (λ e. pt (sym (same_free t c) ∙ e)) (λ e. pu (sym (same_free u d) ∙ e)) h g

levels_alike : {t u : Table} {s r c d : ℕ} → Ready t u s r c d → own_level (view t) c ≡ own_level (view u) d
levels_alike w = twins_level w.pair (owns_twins w)

-- the callers' children are born elsewhere on both tables or on neither
homes_alike : {t u : Table} {s r c d : ℕ} → Ready t u s r c d → elsewhere (view t) c ≡ elsewhere (view u) d
homes_alike {t} {c} w = ap not (home_twins w.pair w.twin (runs_lives t c w.runs_t) (own_lives w))

-- both calls: twins agree on all but the room
making_alike : {t u : Table} {s r c d : ℕ} → Ready t u s r c d → (a b : Bool) → Alike (making_refusals (view t) c a) (making_refusals (view u) d b)
making_alike w a b = alike (homes_alike w) (alike (ap (leb deepest) (levels_alike w)) (no_room all_alike))

-- unshare by twin callers
pub unshare_alike : TestsAlike Unshare
unshare_alike t u s r c d w = making_alike w (namespaces_full (view t)) (namespaces_full (view u))

pub unshare_same : GivesSame Unshare
unfolding place answers granted
unshare_same t u s r c d w n m h g = unshared_kept w (not_deepest _ (n Enospc)) (not_deepest _ (m Enospc)) (eqb-false _ _ (n Eagain)) (eqb-false _ _ (m Eagain))

-- clone new by twin callers
pub clone_new_alike : TestsAlike CloneNew
clone_new_alike t u s r c d w = making_alike w (processes_full (view t) or namespaces_full (view t)) (processes_full (view u) or namespaces_full (view u))

pub clone_new_same : GivesSame CloneNew
unfolding place
clone_new_same t u s r c d w n m h g =
    cloned_kept w (not_deepest _ (n Enospc)) (not_deepest _ (m Enospc)) (eqb-false _ _ (or_false_right _ _ (n Eagain))) (eqb-false _ _ (or_false_right _ _ (m Eagain)))
    (eqb-false _ _ (or_false_left _ _ (n Eagain))) (eqb-false _ _ (or_false_left _ _ (m Eagain))) h g

-- ---- by an outsider: the child is born outside S

-- a birth in a namespace that is not of S
module _ {v : View} {n k : ℕ} (room : Room v n k) (c s : ℕ) (o : below v n s ≡ false) where
  abbrev v' : View
  v' = with_born v c n k

  apart : (i : ℕ) → So (seen v s i) → i ≡ k → ⊥
  apart i h = old room c i (seen_taken v s i h)

  seen_either : (i : ℕ) → Dec (i ≡ k) → seen v' s i ≡ seen v s i
  unfolding seen taken
  seen_either i (no e) = seen_grown room c s i e
  seen_either i (yes e) = bool_ext _ _ (λ h. absurd (no_so o (sym (below_grown room c n s) ∙ subst (λ x. So (below v' x s)) (rw (eq-eqb i k e)) (right _ _ h)))) (λ h. absurd (old room c i (left _ _ h) e))

  life_near : (m : ℕ) → So (near v s m) → (b : Bool) → unborn v m ≡ b → v'.life m ≡ v.life m
  life_near m h false e = life_born room c m e
  life_near m h true e = life_other room c m e (λ q. ⊎_elim (λ b. not_here (subst (λ x. So (below v x s)) (sym q) b)) (λ b. not_here (subst (λ x. So (below v n x)) (sym (bottom room.facts s m b e ∙ sym q)) (below_refl v n))) (cases _ _ h))
    where
      not_here : So (below v n s) → ⊥
      not_here b = false≢true (sym o ∙ b)

  -- it leaves all that the sheet of S rests on
  pub birth_still : Still v v' s
  birth_still =
      record {
        ups = λ m h. refl;
        levels = λ m h. refl;
        lives = λ m h. life_near m h (unborn v m) refl;
        seens = λ i. seen_either i (ℕ_discrete i k);
        looks = λ i h. rw (ne_eqb i k (apart i h));
        pids = λ i l h. rw (ne_eqb i k (apart i h));
        parents = λ i h. rw (ne_eqb i k (apart i h));
        lasts = λ i h. ap (λ (b : Bool). when b then next_pid v (v.own i) else v.last (v.own i)) (not_above i h);
      }
    where
      not_above : (i : ℕ) → So (seen v s i) → below v n (v.own i) ≡ false
      not_above i h = isnt_so (λ b. no_so o (below_trans v room.facts n (v.own i) s b (seen_below v s i h)))

module _ {t : Table} (w : Sane t) (c n : ℕ) (tn : So (namespace_taken (view t) n)) (room : free_slot (view t) ≡ process_slots → ⊥) (s : ℕ) (o : below (view t) n s ≡ false) where
  still : Still (view t) (view (birth t c n)) s
  still =
      let (low, free) = free_slot_is (view t) room in
      subst (λ u. Still (view t) u s) (sym (birth_view t w.shape_of w.facts c n tn low)) (birth_still (record { facts = w.facts; slot = low; empty = isnt_so free; stands = tn }) c s o)

  pub birth_leaves : Same (view (birth t c n)) (view t) s s
  birth_leaves = same_still w.facts still

  pub birth_stands : So (namespace_taken (view t) s) → So (namespace_taken (view (birth t c n)) s)
  birth_stands h = stands_still w.facts still h

-- plain clone
pub clone_leaves : GivesLeaves Clone
unfolding place touched clones_into namespace_inside
clone_leaves t s i h hs k n x o g =
    let m = children (view t) i in
    let tm = children_taken (facts t h) i (runs_lives t i k) in
    let room = eqb-false _ _ (n Eagain) in
    stands_leaves h g hs (birth_stands (sane t h) i m tm room s o hs) (birth_leaves (sane t h) i m tm room s o)

-- clone new
pub clone_new_leaves : GivesLeaves CloneNew
unfolding place
clone_new_leaves t s i h hs k n away z g =
    let x = free_namespace_slot (view t) in
    let room : x ≡ namespace_slots → ⊥ = eqb-false _ _ (or_false_right _ _ (n Eagain)) in
    let room₁ : free_slot (view (new_namespace t i)) ≡ process_slots → ⊥ = λ e. eqb-false _ _ (or_false_left _ _ (n Eagain)) (sym (same_free t i) ∙ e) in
    let still = new_still (sane t h) i room s hs in
    let li = runs_lives t i k in
    let f₁ = namespace_sane t (sane t h) i li (not_deepest _ (n Enospc)) room in
    let tx = new_taken (sane t h) i room in
    let o = new_outside (sane t h) i room s hs (lives_taken (view t) i li) f₁.facts away in
    stands_leaves h g hs (birth_stands f₁ i x tx room₁ s o (stands_still (facts t h) still hs))
    (same_trans (birth_leaves f₁ i x tx room₁ s o) (same_still (facts t h) still))

-- unshare
pub unshare_leaves : GivesLeaves Unshare
unfolding place set_children answers granted namespace_taken
unshare_leaves t s i h hs k n away z g =
    let room : free_namespace_slot (view t) ≡ namespace_slots → ⊥ = eqb-false _ _ (n Eagain) in
    let t₁ = new_namespace t i in
    let f₁ = (namespace_sane t (sane t h) i (runs_lives t i k) (not_deepest _ (n Enospc)) room).facts in
    let still = new_still (sane t h) i room s hs in
    freed_leaves h (unshare_sane t h i k (not_deepest _ (n Enospc)) room) hs (stands_still (facts t h) still hs)
    (same_trans
    (same_still f₁ (put_still t₁ f₁ i (with_children (process t₁ i) (free_namespace_slot (view t))) (refl, refl, refl) s (still.seens i ∙ away)))
    (same_still (facts t h) still))
