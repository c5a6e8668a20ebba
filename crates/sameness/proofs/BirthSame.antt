-- Two births by twin callers, in corresponding namespaces: the tables stay the same to S.
use Prim.Native.Nat.{ℕ, suc, ◌+◌, ◌-◌, ◌<◌, ◌≤◌}
use native.Mathlib.Decide.{ℕ_discrete, dec_le}
use native.Mathlib.Omega.{arith}
use mathlib.Core.Bool.{Bool, true, false, not, So, false≢true}
use mathlib.Core.Logic.{inl, inr, ⊎_elim}
use mathlib.Core.Path.{◌≡◌, refl, sym, ◌∙◌, ap, ap₂, fun_ext, subst}
use borrow.Author.Tests.{eqb-false, eqb-true, eq-eqb, ne_eqb, le-leb, lt-leb}
use lib.Dec.{eqb, leb}
use Rattle.rules.proofs.Keeps.Birth.{with_born}
use Rattle.rules.proofs.Laws.Below.{below_trans}
use Rattle.rules.proofs.Laws.Facts.{Facts, lives_taken, ended_children}
use Rattle.rules.proofs.Laws.Slots.{init_own, own_not_unborn, alive_not_unborn, init_taken, parent_living}
use Rattle.rules.proofs.Laws.Tests.{both, zero_or, no_so, bool_ext}
use Rattle.rules.proofs.Laws.Tree.{below_refl}
use Rattle.sameness.proofs.Anchor.{below_up, init_or_none, up_below, name_no_slot}
use Rattle.sameness.proofs.Cases.{by_test}
use Rattle.sameness.proofs.Born.{Room, cradle_below, seen_grown, pid_in_grown, life_born, life_new, name_born, name_other, name_new, old, child_seen, Cradles, cradle_next, next_unborn, next_twins, last_twins}
use Rattle.sameness.proofs.Readers.{children_taken, children_unborn, ended_twins, living_twins, is_init_twins}
use Rattle.sameness.proofs.Same.{Same, row_by}
use Rattle.sameness.proofs.Twins.{inits_twin, top_twins, Pair, Twin, Twins, flip_pair, flip_twin, pid_in_seen, twin_rows, twin_there, twins_level, owns, alive_named, own_names, below_twins, taken_v, taken_u}
use Rattle.table.specs.Limits.{levels}
use Rattle.rules.specs.Pids.{next_pid}
use Rattle.table.specs.Slots.{init_of}
use Rattle.rules.specs.Read.{View, above_at, alive, below, init, is_init, living, seen, taken, unborn, children}
use Rattle.sameness.specs.Sheet.{Row, by_init, name, row}
use Rattle.sameness.proofs.Names.{named_rows, children_named, values_same}
use Rattle.table.specs.Tests.{when◌then◌else◌, values}
use Rattle.table.specs.declared.Life.{Life}
use Rattle.table.specs.Traits.{born_traits}

left_pids : (v : View) (c n k i : ℕ) → eqb i k ≡ false → (a b : ℕ) → values ((with_born v c n k).pid i) a b ≡ values (v.pid i) a b
left_pids v c n k i e a b = ap (λ (f : ℕ → ℕ). values f a b) (fun_ext (λ l. rw e))

-- of a namespace that does not live nobody is the init
not_init : {v : View} (f : Facts v) (i : ℕ) → So (taken v i) → alive v (v.own i) ≡ false → is_init v i ≡ false
unfolding is_init
not_init {v} f i h a = ne_eqb (init v (v.own i)) i (λ e. ⊎_elim (no_so a) (λ q. omega (arith, e, q, f.in_range i h)) (init_or_none v (v.own i)))

-- an unborn namespace lies below a living one if its parent does
unborn_below : {v : View} (f : Facts v) (n o : ℕ) → So (unborn v n) → v.level n ≡ suc (v.level (v.up n)) → So (alive v o) → below v n o ≡ below v (v.up n) o
unborn_below {v} f n o h e a =
    bool_ext _ _ (λ b. below_up f n o b (λ q. no_so (alive_not_unborn (v.life o) a) (subst (λ x. So (unborn v x)) q h))) (λ b. below_trans v f n (v.up n) o (up_below f n _ e) b)

-- the last number that a row shows then
shows : {v : View} {n k : ℕ} (a : Room v n k) (c : ℕ) (i : ℕ) → So (taken v i) → (when is_init (with_born v c n k) i then (with_born v c n k).last ((with_born v c n k).own i) else 0) ≡ (when is_init v i then (when below v n (v.own i) then next_pid v (v.own i) else v.last (v.own i)) else 0)
unfolding is_init
shows {v} {n} {k} a c i h =
    rw (ne_eqb i k (old a c i h))
    (ap (λ (x : Life). when eqb (init_of x) i then (when below v n (v.own i) then next_pid v (v.own i) else v.last (v.own i)) else 0) (life_born a c (v.own i) (own_not_unborn v a.facts i h)))

-- nobody's parent was the child
parent_old : {v : View} {n k : ℕ} (a : Room v n k) (i : ℕ) → So (taken v i) → v.parent i ≡ k → ⊥
parent_old {v} a i h q =
    zero_or i (λ z. omega (arith, a.slot, a.facts.root_parent, ap v.parent z, q))
    (λ z. no_so a.empty (subst (λ x. So (taken v x)) q (lives_taken v _ (parent_living v a.facts i h z))))

-- and the child's row
in_old : {v : View} {n k : ℕ} (a : Room v n k) (c : ℕ) (x : ℕ) → So (alive v n) → (when eqb (init (with_born v c n k) n) k then x else 0) ≡ 0
in_old {v} {n} {k} a c x h =
    ap (λ (y : Life). when eqb (init_of y) k then x else 0) (life_born a c n (alive_not_unborn (v.life n) h))
    ∙ ap (λ (b : Bool). when b then x else 0) (ne_eqb (init v n) k (old a c (init v n) (init_taken v a.facts n h)))

in_new : {v : View} {n k : ℕ} (a : Room v n k) (c : ℕ) → So (unborn v n) → (when eqb (init (with_born v c n k) n) k then (with_born v c n k).last n else 0) ≡ next_pid v n
in_new {v} {n} {k} a c h =
    ap (λ (x : Life). when eqb (init_of x) k then (with_born v c n k).last n else 0) (life_new a c h)
    ∙ ap₂ (λ (b d : Bool). when b then (when d then next_pid v n else v.last n) else 0) (eq-eqb k k refl) (below_refl v n)

module _ {v u : View} {s r : ℕ} (w : Pair v u s r) {c d : ℕ} {n m k l : ℕ} (a : Room v n k) (b : Room u m l) (tc : Twin v u s r c d) (cradles : Cradles v u s r n m) (holders : (i j : ℕ) → Twin v u s r i j → So (unborn v (children v i)) → So (unborn u (children u j)) → eqb (children v i) n ≡ eqb (children u j) m) where
  abbrev v' : View
  v' = with_born v c n k

  abbrev u' : View
  u' = with_born u d m l

  bn : So (below v n s)
  bn = (cradle_below w cradles).0

  bm : So (below u m r)
  bm = (cradle_below w cradles).1

  levels_nm : v.level n ≡ u.level m
  levels_nm = ⊎_elim (λ x. twins_level w x) (λ x. omega (arith, x.level_v, x.level_u, twins_level w x.ups)) cradles

  unborn_nm : unborn v n ≡ unborn u m
  unborn_nm = ⊎_elim (λ x. alive_not_unborn (v.life n) x.lives_v ∙ sym (alive_not_unborn (u.life m) x.lives_u)) (λ x. x.unborn_v ∙ sym x.unborn_u) cradles

  -- the names of the namespace that the child is born in, then
  cradle_name : name v' s n ≡ name u' r m
  unfolding row
  cradle_name =
      by_test (unborn v n)
      (λ h. name_new a c s h bn ∙ ap by_init (next_twins w (top_twins w)) ∙ sym (name_new b d r (sym unborn_nm ∙ h) bm))
      (λ h. name_born a c s n h ∙ alike h cradles ∙ sym (name_born b d r m (sym unborn_nm ∙ h)))
    where
      alike : unborn v n ≡ false → Cradles v u s r n m → name v s n ≡ name u r m
      alike h (inl x) = ap (name v s) (sym (init_own v w.facts_v n x.lives_v)) ∙ ap (λ (o : Row). o.own) (twin_rows w (inits_twin w x)) ∙ ap (name u r) (init_own u w.facts_u m x.lives_u)
      alike h (inr x) = absurd (false≢true (sym h ∙ x.unborn_v))

  below_cradle : {o o' : ℕ} → Twins v u s r o o' → below v n o ≡ below u m o'
  below_cradle {o} {o'} z =
      ⊎_elim (λ y. below_twins w y z)
      (λ y. unborn_below w.facts_v n o y.unborn_v y.level_v z.lives_v ∙ below_twins w y.ups z ∙ sym (unborn_below w.facts_u m o' y.unborn_u y.level_u z.lives_u)) cradles

  module _ {i j : ℕ} (x : Twin v u s r i j) where
    rows : row v s i ≡ row u r j
    rows = twin_rows w x

    old_children : name v' s (children v i) ≡ name u' r (children u j)
    unfolding row living
    old_children =
        by_test (v.ended i)
        (λ e. name_no_slot v' s _ (ended_children v w.facts_v i (taken_v x) e) ∙ sym (name_no_slot u' r _ (ended_children u w.facts_u j (taken_u x) (sym (ended_twins w x) ∙ e))))
        (λ e.
        let li : So (living v i) = both _ _ (taken_v x) (ap not e) in
        let lj : So (living u j) = sym (living_twins w x) ∙ li in
        let both_unborn = children_unborn w x li in
        by_test (unborn v (children v i))
        (λ y.
        let y' : So (unborn u (children u j)) = sym both_unborn ∙ y in
        let same = holders i j x y y' in
        by_test (eqb (children v i) n)
        (λ q. ap (name v' s) (eqb-true _ _ q) ∙ cradle_name ∙ ap (name u' r) (sym (eqb-true _ _ (sym same ∙ q))))
        (λ q. name_other a c s _ (children_taken w.facts_v i li) y (λ z. eqb-false _ _ q (sym z)) ∙ sym (name_other b d r _ (children_taken w.facts_u j lj) y' (λ z. eqb-false _ _ (sym same ∙ q) (sym z)))))
        (λ y. name_born a c s (children v i) y ∙ named_rows v u s r i j rows 0 (omega arith) ∙ sym (name_born b d r (children u j) (sym both_unborn ∙ y))))

    old_last : (when is_init v' i then v'.last (v'.own i) else 0) ≡ (when is_init u' j then u'.last (u'.own j) else 0)
    unfolding row
    old_last = shows a c i (taken_v x) ∙ go (alive v (v.own i)) refl ∙ sym (shows b d j (taken_u x))
      where
        go : (z : Bool) → alive v (v.own i) ≡ z → (when is_init v i then (when below v n (v.own i) then next_pid v (v.own i) else v.last (v.own i)) else 0) ≡ (when is_init u j then (when below u m (u.own j) then next_pid u (u.own j) else u.last (u.own j)) else 0)
        go true h =
            let o = owns w x h in
            λ y. when is_init_twins w x h y then (when below_cradle o y then next_twins w o y else last_twins w o y) else 0
        go false h = rw (not_init w.facts_v i (taken_v x) h, not_init w.facts_u j (taken_u x) (sym (alive_named w (own_names w x)) ∙ h)) refl

    old_rows : row v' s i ≡ row u' r j
    unfolding row
    old_rows =
        let ei = ne_eqb i k (old a c i (taken_v x)) in
        let ej = ne_eqb j l (old b d j (taken_u x)) in
        row_by v' u' s r i j (left_pids v c n k i ei (levels - v.level s) (v.level s) ∙ ap (λ (o : Row). o.pids) rows ∙ sym (left_pids u d m l j ej (levels - u.level r) (u.level r))) (rw (ei, ej) (ap (λ (o : Row). o.state) rows)) (rw (ei, ej) (ap (λ (o : Row). o.traits) rows))
        (rw (ei, ej) (pid_in_grown a c s (v.parent i) (parent_old a i (taken_v x)) ∙ ap (λ (o : Row). o.parent) rows ∙ sym (pid_in_grown b d r (u.parent j) (parent_old b j (taken_u x)))))
        (rw (ei, ej) (name_born a c s (v.own i) (own_not_unborn v w.facts_v i (taken_v x)) ∙ ap (λ (o : Row). o.own) rows ∙ sym (name_born b d r (u.own j) (own_not_unborn u w.facts_u j (taken_u x)))))
        (children_named v' u' s r i j (rw (ei, ej) old_children))
        old_last

  new_pids : values (v'.pid k) (levels - v.level s) (v.level s) ≡ values (u'.pid l) (levels - u.level r) (u.level r)
  new_pids = values_same (v'.pid k) (u'.pid l) (levels - v.level s) (v.level s) each ∙ ap (λ y. values (u'.pid l) (levels - y) y) w.same.levels
    where
      each : (h : ℕ) → v.level s ≤ h → h < v.level s + (levels - v.level s) → v'.pid k h ≡ u'.pid l h
      each h x y = rw (eq-eqb k k refl, eq-eqb l l refl) (go (dec_le h (v.level n)))
        where
          go : Dec (h ≤ v.level n) → (when leb h (v.level n) then next_pid v (above_at v n h) else 0) ≡ (when leb h (u.level m) then next_pid u (above_at u m h) else 0)
          go (yes z) = rw (le-leb h (v.level n) z, le-leb h (u.level m) (omega (arith, levels_nm))) (cradle_next w n m h cradles x z)
          go (no z) = rw (lt-leb h (v.level n) (omega arith), lt-leb h (u.level m) (omega (arith, levels_nm))) refl

  new_last : (when is_init v' k then v'.last (v'.own k) else 0) ≡ (when is_init u' l then u'.last (u'.own l) else 0)
  unfolding is_init
  new_last = rw (eq-eqb k k refl, eq-eqb l l refl) (go cradles)
    where
      go : Cradles v u s r n m → (when eqb (init v' n) k then v'.last n else 0) ≡ (when eqb (init u' m) l then u'.last m else 0)
      go (inl y) = in_old a c (v'.last n) y.lives_v ∙ sym (in_old b d (u'.last m) y.lives_u)
      go (inr y) =
          in_new a c y.unborn_v ∙ next_unborn w.facts_v w.facts_u n m y.unborn_v y.unborn_u y.lasts
          ∙ sym (in_new b d y.unborn_u)

  new_rows : row v' s k ≡ row u' r l
  unfolding row
  new_rows =
      let ek = eq-eqb k k refl in
      let el = eq-eqb l l refl in
      row_by v' u' s r k l new_pids (rw (ek, el)) (rw (ek, el) (ap (λ (o : Row). born_traits o.traits) (twin_rows w tc)))
      (rw (ek, el) (pid_in_grown a c s c (old a c c (taken_v tc)) ∙ pid_in_seen v s c tc.seen_v ∙ tc.pids ∙ sym (pid_in_grown b d r d (old b d d (taken_u tc)) ∙ pid_in_seen u r d tc.seen_u)))
      (rw (ek, el) cradle_name) (children_named v' u' s r k l (rw (ek, el) cradle_name)) new_last

  -- each row stands as it stood, and the children's rows are the same
  pub birth_same : Same v' u' s r
  birth_same =
      record { levels = w.same.levels; there = λ i h. there_case i h (ℕ_discrete i k); back = λ j h. back_case j h (ℕ_discrete j l) }
    where
      there_case : (i : ℕ) → So (seen v' s i) → Dec (i ≡ k) → (j : ℕ) × So (seen u' r j) × (row v' s i ≡ row u' r j)
      there_case i h (yes e) = (l, child_seen b d r bm, ap (row v' s) e ∙ new_rows)
      there_case i h (no o) =
          let (j, x) = twin_there w i (sym (seen_grown a c s i o) ∙ h) in
          (j, seen_grown b d r j (old b d j (taken_u x)) ∙ x.seen_u, old_rows x)

      back_case : (j : ℕ) → So (seen u' r j) → Dec (j ≡ l) → (i : ℕ) × So (seen v' s i) × (row v' s i ≡ row u' r j)
      back_case j h (yes e) = (k, child_seen a c s bn, new_rows ∙ sym (ap (row u' r) e))
      back_case j h (no o) =
          let (i, x) = twin_there (flip_pair w) j (sym (seen_grown b d r j o) ∙ h) in
          (i, seen_grown a c s i (old a c i (taken_u x)) ∙ x.seen_u, old_rows (flip_twin x))
