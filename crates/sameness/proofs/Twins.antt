-- Two tables that are the same to a living namespace S: twins are processes with the same number in S, and living
-- namespaces whose inits are such. What lies above and below twins, and what they see, corresponds.
use Prim.Native.Nat.{ℕ, zero, suc, pred, ◌+◌, ◌-◌, ◌<◌, ◌≤◌}
use native.Mathlib.Decide.{dec_lt}
use native.Mathlib.Omega.{arith}
use mathlib.Core.Bool.{false, So}
use mathlib.Core.Path.{◌≡◌, sym, ◌∙◌, ap, ap₂, subst, subst₂}
use lib.ListN.{get_or}
use Rattle.rules.proofs.Laws.Below.{below_level, up_level, not_root, below_trans}
use Rattle.rules.proofs.Laws.Facts.{Facts, seen_taken, seen_below, lives_taken}
use Rattle.rules.proofs.Laws.Slots.{init_pid, pid_unique, own_taken, own_not_unborn, pid_pos, pid_zero, below_parent, below_up_by, up_by_below, alive_taken, alive_up, init_seen, init_own, init_parent, init_taken, parent_living}
use Rattle.rules.proofs.Laws.Tests.{bool_ext, both}
use Rattle.rules.proofs.Laws.Tree.{below_refl}
use Rattle.sameness.proofs.Anchor.{anchor, anchor_self, anchor_alive, anchor_below, anchor_least, is_by_init, name_pid, name_alive, name_anchor, name_level, name_level_dead}
use Rattle.sameness.proofs.Cases.{by_test}
use Rattle.sameness.proofs.Same.{Same, level_lt, row_pid}
use Rattle.sameness.proofs.Names.{getD_values}
use Rattle.table.specs.Limits.{levels}
use Rattle.rules.specs.Read.{View, alive, below, init, namespace_taken, pid_in, pid_seen, seen, taken, unborn, up_by}
use Rattle.sameness.specs.Sheet.{Row, name, row}
use Rattle.table.specs.Tests.{◌and◌}

-- S lives in both
pub record Pair (v u : View) (s r : ℕ) : Type 0 where
  pub facts_v : Facts v
  pub facts_u : Facts u
  pub alive_v : So (alive v s)
  pub alive_u : So (alive u r)
  pub same : Same v u s r

-- two processes with the same number in S
pub record Twin (v u : View) (s r i j : ℕ) : Type 0 where
  pub seen_v : So (seen v s i)
  pub seen_u : So (seen u r j)
  pub pids : pid_seen v s i ≡ pid_seen u r j

-- two living namespaces of the subtree whose inits are such
pub record Twins (v u : View) (s r n m : ℕ) : Type 0 where
  pub lives_v : So (alive v n)
  pub lives_u : So (alive u m)
  pub below_v : So (below v n s)
  pub below_u : So (below u m r)
  pub inits : pid_seen v s (init v n) ≡ pid_seen u r (init u m)

-- the two tables change places
pub flip_same : {v u : View} {s r : ℕ} → Same v u s r → Same u v r s
flip_same w =
    record { levels = sym w.levels; there = λ j k. let (i, m, q) = w.back j k in (i, m, sym q); back = λ i k. let (j, m, q) = w.there i k in (j, m, sym q) }

pub flip_pair : {v u : View} {s r : ℕ} → Pair v u s r → Pair u v r s
flip_pair w = record { facts_v = w.facts_u; facts_u = w.facts_v; alive_v = w.alive_u; alive_u = w.alive_v; same = flip_same w.same }

pub flip_twin : {v u : View} {s r i j : ℕ} → Twin v u s r i j → Twin u v r s j i
flip_twin w = record { seen_v = w.seen_u; seen_u = w.seen_v; pids = sym w.pids }

pub flip_twins : {v u : View} {s r n m : ℕ} → Twins v u s r n m → Twins u v r s m n
flip_twins w = record { lives_v = w.lives_u; lives_u = w.lives_v; below_v = w.below_u; below_u = w.below_v; inits = sym w.inits }

pub pid_in_seen : (v : View) (n i : ℕ) → So (seen v n i) → pid_in v n i ≡ pid_seen v n i
unfolding pid_in
pid_in_seen v n i h = rw h

pub taken_v : {v u : View} {s r i j : ℕ} → Twin v u s r i j → So (taken v i)
taken_v {v} {s} {i} k = seen_taken v s i k.seen_v

pub taken_u : {v u : View} {s r i j : ℕ} → Twin v u s r i j → So (taken u j)
taken_u {u} {r} {j} k = seen_taken u r j k.seen_u

pub twin_pid_in : {v u : View} {s r i j : ℕ} → Twin v u s r i j → pid_in v s i ≡ pid_in u r j
twin_pid_in {v} {u} {s} {r} k = pid_in_seen v s _ k.seen_v ∙ k.pids ∙ sym (pid_in_seen u r _ k.seen_u)

module _ {v u : View} {s r : ℕ} (w : Pair v u s r) where
  lv : v.level s < levels
  lv = level_lt w.facts_v s (alive_taken v w.facts_v s w.alive_v)

  lu : u.level r < levels
  lu = level_lt w.facts_u r (alive_taken u w.facts_u r w.alive_u)

  -- ---- rows

  -- twins have equal rows
  pub twin_rows : {i j : ℕ} → Twin v u s r i j → row v s i ≡ row u r j
  twin_rows {i} {j} k =
      let (x, m, q) = w.same.there i k.seen_v in
      q ∙ ap (row u r) (pid_unique u w.facts_u r x j (alive_taken u w.facts_u r w.alive_u) m k.seen_u (sym (row_pid v u s r i x lv lu q) ∙ k.pids))

  -- each seen process has a twin, and only one
  pub twin_there : (i : ℕ) → So (seen v s i) → (j : ℕ) × Twin v u s r i j
  twin_there i h = let (j, m, q) = w.same.there i h in (j, record { seen_v = h; seen_u = m; pids = row_pid v u s r i j lv lu q })

  pub twin_unique : {i j k l : ℕ} → Twin v u s r i j → Twin v u s r k l → i ≡ k → j ≡ l
  twin_unique {j} {l} a b e =
      pid_unique u w.facts_u r j l (alive_taken u w.facts_u r w.alive_u) a.seen_u b.seen_u (sym a.pids ∙ ap (pid_seen v s) e ∙ b.pids)

  -- numbers from S's level down
  pub twin_pid : {i j : ℕ} (l : ℕ) → Twin v u s r i j → v.level s ≤ l → l < levels → v.pid i l ≡ u.pid j l
  unfolding row
  twin_pid {i} {j} l k h m =
      let e : v.level s + (l - v.level s) ≡ l = omega arith in
      let d : u.level r + (l - v.level s) ≡ l = omega (arith, w.same.levels) in
      ap (v.pid i) (sym e)
      ∙ sym (getD_values (v.pid i) 0 (levels - v.level s) (v.level s) (l - v.level s) (omega arith))
      ∙ ap (λ (q : Row). get_or q.pids (l - v.level s) 0) (twin_rows k)
      ∙ getD_values (u.pid j) 0 (levels - u.level r) (u.level r) (l - v.level s) (omega (arith, w.same.levels))
      ∙ ap (u.pid j) d

-- the level of a process's own namespace, from its numbers
level_le : {v u : View} {s r : ℕ} (w : Pair v u s r) {i j : ℕ} → Twin v u s r i j → v.level (v.own i) ≤ u.level (u.own j)
level_le {v} {u} {s} w {i} {j} k = go (dec_lt (u.level (u.own j)) (v.level (v.own i)))
  where
    go : Dec (u.level (u.own j) < v.level (v.own i)) → v.level (v.own i) ≤ u.level (u.own j)
    go (no o) = omega arith
    go (yes l) =
        let n = v.level (v.own i) in
        let deep = level_lt w.facts_v _ (own_taken v w.facts_v i (taken_v k)) in
        absurd (omega (arith, pid_pos v w.facts_v i n (taken_v k) (omega arith), pid_zero u w.facts_u j n (taken_u k) deep l, twin_pid w n k (below_level v w.facts_v _ s (seen_below v s i k.seen_v)) deep))

-- ---- namespaces

-- two namespaces of the subtree that the sheets name alike, not unborn
pub record Namesakes (v u : View) (s r n m : ℕ) : Type 0 where
  pub names : name v s n ≡ name u r m
  pub stands_v : So (namespace_taken v n)
  pub stands_u : So (namespace_taken u m)
  pub below_v : So (below v n s)
  pub below_u : So (below u m r)
  pub born_v : unborn v n ≡ false
  pub born_u : unborn u m ≡ false

module _ {v u : View} {s r : ℕ} (w : Pair v u s r) where
  pub own_levels : {i j : ℕ} → Twin v u s r i j → v.level (v.own i) ≡ u.level (u.own j)
  own_levels k = omega (arith, level_le w k, level_le (flip_pair w) (flip_twin k))

  -- the own namespaces of twins are such
  pub own_names : {i j : ℕ} → Twin v u s r i j → Namesakes v u s r (v.own i) (u.own j)
  unfolding row
  own_names {i} {j} k =
      record {
        names = ap (λ (q : Row). q.own) (twin_rows w k);
        stands_v = own_taken v w.facts_v i (taken_v k);
        stands_u = own_taken u w.facts_u j (taken_u k);
        below_v = seen_below v s i k.seen_v;
        below_u = seen_below u r j k.seen_u;
        born_v = own_not_unborn v w.facts_v i (taken_v k);
        born_u = own_not_unborn u w.facts_u j (taken_u k);
      }

  -- they live both or not
  pub alive_named : {n m : ℕ} → Namesakes v u s r n m → alive v n ≡ alive u m
  alive_named {n} {m} a = sym (name_alive w.facts_v s n a.stands_v) ∙ ap is_by_init a.names ∙ name_alive w.facts_u r m a.stands_u

  -- the nearest living namespaces to them correspond
  pub anchors : {n m : ℕ} → Namesakes v u s r n m → Twins v u s r (anchor v n) (anchor u m)
  anchors {n} {m} a =
      let av = anchor_alive w.facts_v n a.stands_v in
      let au = anchor_alive w.facts_u m a.stands_u in
      let bv = anchor_least w.facts_v n s w.alive_v a.below_v in
      let bu = anchor_least w.facts_u m r w.alive_u a.below_u in
      record {
        lives_v = av;
        lives_u = au;
        below_v = bv;
        below_u = bu;
        inits =
            sym (pid_in_seen v s _ (init_seen v w.facts_v _ s av bv)) ∙ sym (name_anchor w.facts_v s n a.stands_v a.born_v) ∙ ap name_pid a.names
            ∙ name_anchor w.facts_u r m a.stands_u a.born_u ∙ pid_in_seen u r _ (init_seen u w.facts_u _ r au bu);
      }

  -- and so do they, where they live
  pub twins_named : {n m : ℕ} → Namesakes v u s r n m → So (alive v n) → Twins v u s r n m
  twins_named {n} {m} a h = subst₂ (Twins v u s r) (anchor_self w.facts_v n h) (anchor_self w.facts_u m (sym (alive_named a) ∙ h)) (anchors a)

  pub owns : {i j : ℕ} → Twin v u s r i j → So (alive v (v.own i)) → Twins v u s r (v.own i) (u.own j)
  owns k = twins_named (own_names k)

  pub inits_twin : {n m : ℕ} → Twins v u s r n m → Twin v u s r (init v n) (init u m)
  inits_twin {n} {m} k = record { seen_v = init_seen v w.facts_v n s k.lives_v k.below_v; seen_u = init_seen u w.facts_u m r k.lives_u k.below_u; pids = k.inits }

  -- S and S
  pub top_twins : Twins v u s r s r
  top_twins =
      record { lives_v = w.alive_v; lives_u = w.alive_u; below_v = below_refl v s; below_u = below_refl u r; inits = init_pid v w.facts_v s w.alive_v ∙ sym (init_pid u w.facts_u r w.alive_u) }

  pub twins_level : {n m : ℕ} → Twins v u s r n m → v.level n ≡ u.level m
  twins_level {n} {m} k = ap v.level (sym (init_own v w.facts_v n k.lives_v)) ∙ own_levels (inits_twin k) ∙ ap u.level (init_own u w.facts_u m k.lives_u)

  pub twins_unique : {n m k l : ℕ} → Twins v u s r n m → Twins v u s r k l → n ≡ k → m ≡ l
  twins_unique {m} {l} a b e =
      sym (init_own u w.facts_u m a.lives_u) ∙ ap u.own (twin_unique w (inits_twin a) (inits_twin b) (ap (init v) e)) ∙ init_own u w.facts_u l b.lives_u

  -- two that are named alike have the same level
  pub level_named : {n m : ℕ} → Namesakes v u s r n m → v.level n ≡ u.level m
  level_named {n} {m} a =
      by_test (alive v n) (λ h. twins_level (twins_named a h))
      (λ h. sym (name_level_dead w.facts_v s n a.stands_v h a.born_v) ∙ ap name_level a.names ∙ name_level_dead w.facts_u r m a.stands_u (sym (alive_named a) ∙ h) a.born_u)

-- ---- parents

module _ {v : View} (f : Facts v) where
  seen_pid : (n i : ℕ) → So (seen v n i) → 1 ≤ pid_seen v n i
  unfolding pid_seen
  seen_pid n i h = pid_pos v f i (v.level n) (seen_taken v n i h) (below_level v f _ n (seen_below v n i h))

  pub pid_in_unseen : (n i : ℕ) → seen v n i ≡ false → pid_in v n i ≡ 0
  unfolding pid_in
  pid_in_unseen n i h = rw h

  -- a number above 0 is of one seen
  pid_in_pos : (n i : ℕ) → 1 ≤ pid_in v n i → So (seen v n i)
  pid_in_pos n i h = by_test (seen v n i) (λ e. e) (λ e. absurd (omega (arith, pid_in_unseen n i e)))

  -- the parent of the init of a namespace below S, and not S
  init_parent_seen : (s n : ℕ) → So (alive v n) → So (below v n s) → v.level s < v.level n → So (seen v s (v.parent (init v n)))
  unfolding seen taken
  init_parent_seen s n a h l =
      let e : v.level n ≡ suc (pred (v.level n)) = omega arith in
      both _ _
      (lives_taken v _ (parent_living v f (init v n) (init_taken v f n a) (λ z. not_root v f n _ e (sym (init_own v f n a) ∙ ap v.own z ∙ f.root_own))))
      (subst (λ y. So (below v y s)) (sym (init_parent v f n _ a e)) (below_parent v f n s h l))

parent_there : {v u : View} {s r : ℕ} (w : Pair v u s r) {i j : ℕ} → Twin v u s r i j → So (seen v s (v.parent i)) → So (seen u r (u.parent j))
unfolding row
parent_there {v} {u} {s} {r} w {i} {j} k h =
    pid_in_pos w.facts_u r (u.parent j)
    (omega (arith, seen_pid w.facts_v s (v.parent i) h, pid_in_seen v s (v.parent i) h, ap (λ (q : Row). q.parent) (twin_rows w k)))

module _ {v u : View} {s r : ℕ} (w : Pair v u s r) where
  -- the parents of twins are seen both or not, and are twins then
  pub parent_seen : {i j : ℕ} → Twin v u s r i j → seen v s (v.parent i) ≡ seen u r (u.parent j)
  parent_seen k = bool_ext _ _ (parent_there w k) (parent_there (flip_pair w) (flip_twin k))

  pub parent_twin : {i j : ℕ} → Twin v u s r i j → So (seen v s (v.parent i)) → Twin v u s r (v.parent i) (u.parent j)
  unfolding row
  parent_twin k h =
      let g = parent_there w k h in
      record { seen_v = h; seen_u = g; pids = sym (pid_in_seen v s _ h) ∙ ap (λ (q : Row). q.parent) (twin_rows w k) ∙ pid_in_seen u r _ g }

  -- the namespaces above twins correspond
  pub twins_up : {n m : ℕ} → Twins v u s r n m → v.level s < v.level n → Twins v u s r (v.up n) (u.up m)
  twins_up {n} {m} k l =
      let e : v.level n ≡ suc (pred (v.level n)) = omega arith in
      let d : u.level m ≡ suc (pred (v.level n)) = omega (arith, twins_level w k) in
      let p = parent_twin (inits_twin w k) (init_parent_seen w.facts_v s n k.lives_v k.below_v l) in
      let up = init_parent v w.facts_v n _ k.lives_v e in
      subst₂ (Twins v u s r) up (init_parent u w.facts_u m _ k.lives_u d) (owns w p (subst (λ y. So (alive v y)) (sym up) (alive_up v w.facts_v n _ k.lives_v e)))

  pub twins_up_by : (d : ℕ) {n m : ℕ} → Twins v u s r n m → d ≤ v.level n - v.level s → Twins v u s r (up_by v.up d n) (up_by u.up d m)
  unfolding up_by
  twins_up_by zero k l = k
  twins_up_by (suc d) {n} k l =
      let e : v.level n ≡ suc (pred (v.level n)) = omega arith in
      twins_up_by d (twins_up k (omega arith)) (omega (arith, up_level v w.facts_v n _ e))

-- ---- what is seen

below_there : {v u : View} {s r : ℕ} (w : Pair v u s r) {a b n m : ℕ} → Twins v u s r a b → Twins v u s r n m → So (below v a n) → So (below u b m)
below_there {v} {u} {s} w {a} {b} {n} {m} j k h =
    up_by_below u w.facts_u (v.level a - v.level n) b m (omega (arith, twins_level w j))
    (twins_unique w (twins_up_by w (v.level a - v.level n) j (omega (arith, below_level v w.facts_v n s k.below_v))) k (below_up_by v w.facts_v a n h))

module _ {v u : View} {s r : ℕ} (w : Pair v u s r) where
  -- "below" is the same
  pub below_twins : {a b n m : ℕ} → Twins v u s r a b → Twins v u s r n m → below v a n ≡ below u b m
  below_twins j k = bool_ext _ _ (below_there w j k) (below_there (flip_pair w) (flip_twins j) (flip_twins k))

  -- to lie below a living namespace is to have one's nearest living namespace there
  pub below_named : {n m top end : ℕ} → Namesakes v u s r n m → Twins v u s r top end → below v n top ≡ below u m end
  below_named {n} {m} {top} {end} a l =
      bool_ext _ _
      (λ h. below_trans u w.facts_u _ _ end (anchor_below w.facts_u m) (sym (below_twins (anchors w a) l) ∙ anchor_least w.facts_v n top l.lives_v h))
      (λ h. below_trans v w.facts_v _ _ top (anchor_below w.facts_v n) (below_twins (anchors w a) l ∙ anchor_least w.facts_u m end l.lives_u h))

  pub seen_twins : {i j n m : ℕ} → Twin v u s r i j → Twins v u s r n m → seen v n i ≡ seen u m j
  unfolding seen taken
  seen_twins k l = ap₂ ◌and◌ (taken_v k ∙ sym (taken_u k)) (below_named (own_names w k) l)

  -- twins have the same number in corresponding namespaces
  pub pid_twins : {i j n m : ℕ} → Twin v u s r i j → Twins v u s r n m → pid_seen v n i ≡ pid_seen u m j
  unfolding pid_seen
  pid_twins {j} {n} k l =
      twin_pid w (v.level n) k (below_level v w.facts_v n s l.below_v) (level_lt w.facts_v n (alive_taken v w.facts_v n l.lives_v)) ∙ ap (u.pid j) (twins_level w l)
