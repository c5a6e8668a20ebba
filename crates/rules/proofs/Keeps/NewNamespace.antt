-- A new namespace, unborn, keeps the facts, but that somebody holds it.
use Prim.Native.Nat.{ℕ, zero, suc, ◌<◌, ◌≤◌}
use native.Mathlib.Omega.{arith}
use mathlib.Core.Bool.{Bool, true, false, So, false≢true}
use mathlib.Core.Logic.{◌⊎◌, inl, inr, ⊎_elim}
use mathlib.Core.Path.{◌≡◌, refl, sym, ◌∙◌, ap, subst}
use borrow.Author.Tests.{eq-eqb, ne_eqb}
use lib.Dec.{eqb}
use Rattle.rules.proofs.Laws.Below.{below_taken, deep_namespace, not_root, up_level, below_up}
use Rattle.rules.proofs.Laws.Facts.{Holder, root, member, holder, child, Facts, Held, Holds, Taken, Stands, Lives, Below, Seen, Other, hold_namespace, seen_taken, seen_below, root_namespace}
use Rattle.rules.proofs.Laws.Tests.{same_or, left, right, both}
use Rattle.rules.proofs.Laws.Tree.{below_refl}
use Rattle.table.specs.Limits.{deepest, namespace_slots}
use Rattle.rules.specs.Pids.{free_slot}
use Rattle.rules.specs.Read.{View, below, climb, dead, living, namespace_taken, pid_seen, seen, taken, unborn}
use Rattle.rules.specs.Sound.{zero_namespace, zero_process}
use Rattle.table.specs.Tests.{when◌then◌else◌}
use Rattle.table.specs.declared.Life.TheVariants.{Unborn}

-- the view with an unborn namespace at j below a
abbrev pub with_namespace : View → ℕ → ℕ → View
with_namespace v a j =
    record {
      own = v.own;
      hold = v.hold;
      parent = v.parent;
      state = v.state;
      ended = v.ended;
      traits = v.traits;
      pid = v.pid;
      up = λ m. when eqb m j then a else v.up m;
      level = λ m. when eqb m j then suc (v.level a) else v.level m;
      last = λ m. when eqb m j then 0 else v.last m;
      life = λ m. when eqb m j then Unborn else v.life m;
    }

-- a view in which c may have a child in n, or hold it for its children; k is the slot of the next child
pub record Ready (v : View) (c n k : ℕ) : Type 0 where
  pub facts : Facts v
  pub lives : Lives v c
  pub namespace : Stands v n
  pub below : Below v n (v.own c)
  pub not_dead : So (dead v n) → ⊥
  pub up_own : So (unborn v n) → v.own c ≡ v.up n
  pub alone : (i : ℕ) → Taken v i → Holds v i n → i ≡ c
  pub slot : free_slot v ≡ k
  pub holder : (m : ℕ) → Stands v m → So (unborn v m) → (m ≡ n → ⊥) → (i : ℕ) × Taken v i × Holds v i m
  pub held_by : (m : ℕ) → Stands v m → (m ≡ n) ⊎ Holder v m

module _ (v : View) (f : Facts v) (a j : ℕ) (a_namespace : Stands v a) (low : v.level a < deepest) (not_dead : So (dead v a) → ⊥) (not_unborn : So (unborn v a) → ⊥) (j_low : j < namespace_slots) (j_free : Stands v j → ⊥) where
  abbrev w : View
  w = with_namespace v a j

  pub old : (m : ℕ) → Stands v m → eqb m j ≡ false
  old m s = ne_eqb m j (λ x. j_free (subst (Stands v) x s))

  pub is_namespace : (m : ℕ) → Stands v m → Stands w m
  unfolding namespace_taken
  is_namespace m s = rw (old m s) s

  pub j_namespace : Stands w j
  j_namespace = deep_namespace w j (v.level a) (rw (eq-eqb j j refl))

  pub namespace_w : (m : ℕ) → Stands w m → (m ≡ j) ⊎ ((eqb m j ≡ false) × Stands v m)
  unfolding namespace_taken
  namespace_w m s = ⊎_elim inl (λ o. inr (o, rw o at s)) (same_or m j)

  climb_old : (k m b : ℕ) → v.level m ≡ k → Stands v m → climb w.up k m b ≡ climb v.up k m b
  unfolding climb
  climb_old zero m b e s = refl
  climb_old (suc k) m b e s =
      ap (λ x. elim (eqb m b) as (λ z. Bool) [ true ↦ true | false ↦ climb w.up k x b ]) (rw (old m s))
      ∙ ap (λ x. elim (eqb m b) as (λ z. Bool) [ true ↦ true | false ↦ x ]) (climb_old k (v.up m) b (up_level v f m k e) (f.tree m s (not_root v f m k e)).0.0)

  pub below_old : (m b : ℕ) → Stands v m → below w m b ≡ below v m b
  unfolding below
  below_old m b s = rw (old m s) (climb_old (v.level m) m b refl s)

  own_namespace : (i : ℕ) → Taken v i → Stands v (v.own i)
  own_namespace i t = (f.members i t).0.0

  pub was_seen : (m i : ℕ) → Seen w m i → Seen v m i
  unfolding seen taken
  was_seen m i h = both _ _ (left _ _ h) (sym (below_old (v.own i) m (own_namespace i (left _ _ h))) ∙ right _ _ h)

  not_j : (m : ℕ) → Stands v m → m ≡ j → ⊥
  not_j m s x = j_free (subst (Stands v) x s)

  pub none_seen : (m i : ℕ) → m ≡ j → Seen w m i → ⊥
  none_seen m i x h = not_j m (below_taken v f _ m (own_namespace i (seen_taken v m i (was_seen m i h))) (seen_below v m i (was_seen m i h))) x

  none_held : (m i : ℕ) → m ≡ j → Taken v i → Holds v i m → ⊥
  none_held m i x t h = not_j m (hold_namespace v f i m t h (omega arith)) x

  empty_namespace_w : (m : ℕ) → (Stands w m → ⊥) → So (zero_namespace w m)
  unfolding zero_namespace
  empty_namespace_w m o = ⊎_elim (λ x. absurd (o (subst (Stands w) (sym x) j_namespace))) (λ y. rw y (f.empty_namespace m (λ s. o (is_namespace m s)))) (same_or m j)

  pub same_pid : (m i : ℕ) → eqb m j ≡ false → pid_seen w m i ≡ pid_seen v m i
  unfolding pid_seen
  same_pid m i y = ap (v.pid i) (rw y)

  tree_w : (m : ℕ) → Stands w m → Other m → (Stands w (w.up m) × (w.level m ≡ suc (w.level (w.up m)))) × (w.level m ≤ deepest)
  tree_w m s o =
      ⊎_elim (λ x. rw (eq-eqb m j x, old a a_namespace) ((is_namespace a a_namespace, refl), low))
      (λ (y, z). let ((p, q), r) = f.tree m z o in rw (y, old _ p) ((is_namespace _ p, q), r)) (namespace_w m s)

  -- the facts then
  pub namespace_facts : Facts w
  unfolding taken living zero_process
  namespace_facts =
      record {
        ended_is = f.ended_is;
        in_range = f.in_range;
        in_namespace = λ m s. ⊎_elim (λ x. omega arith) (λ (y, z). f.in_namespace m z) (namespace_w m s);
        root_init = rw root f.root_init;
        root_lives = f.root_lives;
        root_own = f.root_own;
        root_pid = f.root_pid;
        root_parent = f.root_parent;
        root_alive = rw root f.root_alive;
        root_level = rw root f.root_level;
        root_up = rw root f.root_up;
        inits = λ m s x. ⊎_elim (λ y. absurd (false≢true (rw (eq-eqb m j y) at x))) (λ (y, z). rw y (f.inits m z (rw y at x))) (namespace_w m s);
        empty_process = f.empty_process;
        empty_namespace = empty_namespace_w;
        tree = tree_w;
        below_dead = λ m s o d. ⊎_elim (λ x. absurd (not_dead (rw (eq-eqb m j x, old a a_namespace) at d))) (λ (y, z). rw y (f.below_dead m z o (rw (y, old _ (f.tree m z o).0.0) at d))) (namespace_w m s);
        unborn_last = λ m s u. ⊎_elim (λ x. rw (eq-eqb m j x)) (λ (y, z). rw y (f.unborn_last m z (rw y at u))) (namespace_w m s);
        unborn_empty = λ m s u i t e. ⊎_elim (λ x. not_j _ (own_namespace i t) (e ∙ x)) (λ (y, z). f.unborn_empty m z (rw y at u) i t e) (namespace_w m s);
        unborn_leaf = λ m s u n k o e.
            ⊎_elim
            (λ x. let e' : a ≡ m = rw (eq-eqb n j x) at e in ⊎_elim (λ y. not_j a a_namespace (e' ∙ y)) (λ (y, z). not_unborn (subst (λ b. So (unborn v b)) (sym e') (rw y at u))) (namespace_w m s))
            (λ (y, z). let e' : v.up n ≡ m = rw y at e in ⊎_elim (λ x. not_j _ (f.tree n z o).0.0 (e' ∙ x)) (λ (p, q). f.unborn_leaf m q (rw p at u) n z o e') (namespace_w m s))
            (namespace_w n k);
        unborn_own = λ m s u i t e. ⊎_elim (λ x. absurd (none_held m i x t e)) (λ (y, z). rw y (f.unborn_own m z (rw y at u) i t e)) (namespace_w m s);
        unborn_one = λ m s u i k t e t' e'. ⊎_elim (λ x. absurd (none_held m i x t e)) (λ (y, z). f.unborn_one m z (rw y at u) i k t e t' e') (namespace_w m s);
        last_pids = λ m l. ⊎_elim (λ x. rw (eq-eqb m j x) (omega arith)) (λ y. rw y (f.last_pids m l)) (same_or m j);
        pid_range = λ i t l b. rw (old _ (own_namespace i t)) (f.pid_range i t l b);
        differ = λ m s i k h h' e. ⊎_elim (λ x. absurd (none_seen m i x h)) (λ (y, z). f.differ m z i k (was_seen m i h) (was_seen m k h') (sym (same_pid m i y) ∙ e ∙ same_pid m k y)) (namespace_w m s);
        first = λ m s x i h. ⊎_elim (λ y. absurd (none_seen m i y h)) (λ (y, z). let (p, q) = f.first m z (rw y at x) i (was_seen m i h) in rw y (λ e. p (sym (same_pid m i y) ∙ e), λ e. same_pid m i y ∙ q e)) (namespace_w m s);
        members = λ i t. let o = old _ (own_namespace i t) in rw o ((is_namespace _ (own_namespace i t), (f.members i t).0.1), (f.members i t).1);
        parents = λ i t o. let ((x, y), z) = f.parents i t o in ((x, below_old _ _ (own_namespace i t) ∙ y), z);
        first_parents = λ i t o e. let q = old _ (own_namespace i t) in rw q (f.first_parents i t o (sym (same_pid _ i q) ∙ e));
        children = λ i t h. let (x, y) = f.children i t h in (is_namespace _ x, below_old _ _ x ∙ y);
        traits = f.traits;
        ended_holds = f.ended_holds;
        ended_traits = f.ended_traits;
        ends_kept = f.ends_kept;
      }
    where
      root : eqb 0 j ≡ false
      root = old 0 (root_namespace v 0 refl)

  -- c, of a, may have a child in the new one, or hold it for its children
  pub ready : (c : ℕ) → Lives v c → v.own c ≡ a → Held v → Ready w c j (free_slot v)
  unfolding free_slot taken living
  ready c l e q =
      record {
        facts = namespace_facts;
        lives = l;
        namespace = j_namespace;
        below = below_up w namespace_facts j j_namespace other (v.own c) (subst (λ m. Below w m (v.own c)) (sym (up_j ∙ sym e)) (below_refl w (v.own c)));
        not_dead = λ d. false≢true (rw self at d);
        up_own = λ u. e ∙ sym up_j;
        alone = λ i t x. absurd (none_held j i refl t x);
        slot = refl;
        holder = λ m s u o. ⊎_elim (λ x. absurd (o x)) (λ (y, z). q.holder m z (rw y at u)) (namespace_w m s);
        held_by = λ m s. ⊎_elim inl (λ (y, z). inr (same m (q.held_by m z))) (namespace_w m s);
      }
    where
      self : eqb j j ≡ true
      self = eq-eqb j j refl

      up_j : w.up j ≡ a
      up_j = rw self

      other : Other j
      other z = j_free (root_namespace v j z)

      same : (m : ℕ) → Holder v m → Holder w m
      same m (root z) = root z
      same m (member i t x) = member i t x
      same m (holder i t h) = holder i t h
      same m (child n s o x) = child n (is_namespace n s) o (rw (old n s) x)
