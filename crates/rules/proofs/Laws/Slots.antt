-- What follows from the facts for a slot: namespaces above one another, living ones and their inits, numbers.
use Prim.Native.Nat.{ℕ, zero, suc, pred, ◌-◌, ◌<◌, ◌≤◌}
use native.Mathlib.Decide.{ℕ_discrete}
use native.Mathlib.Omega.{arith}
use mathlib.Core.Bool.{Bool, true, false, So, false≢true}
use mathlib.Core.Logic.{⊎_elim}
use mathlib.Core.Path.{◌≡◌, refl, sym, ◌∙◌, ap, subst}
use borrow.Author.Tests.{eq-eqb, eqb-true, eqb-false, leb-true, le-leb, lt-leb}
use lib.Dec.{eqb}
use Rattle.rules.proofs.Laws.Below.{deep_namespace, up_level, not_root, level_deepest, below_trans}
use Rattle.rules.proofs.Laws.Facts.{Facts, lives_taken}
use Rattle.rules.proofs.Laws.Tests.{isnt_so, no_so, left, right, cases, isnt, both}
use Rattle.rules.proofs.Laws.Tree.{below_refl}
use Rattle.table.specs.Limits.{levels}
use Rattle.table.specs.Slots.{is_alive, is_dead, is_unborn}
use Rattle.rules.specs.Read.{View, alive, below, climb, dead, init, living, namespace_taken, pid_seen, seen, taken, unborn, up_by}
use Rattle.rules.specs.Sound.{zero_namespace}
use Rattle.table.specs.Tests.{◌and◌}
use Rattle.table.specs.declared.Life.TheVariants.{Unborn, Alive, Dead}
use Rattle.table.specs.declared.Life.{Life}

-- ---- lives

pub alive_not_dead : (l : Life) → So (is_alive l) → is_dead l ≡ false
alive_not_dead Unborn h = refl
alive_not_dead (Alive i) h = refl
alive_not_dead Dead h = sym h

pub alive_not_unborn : (l : Life) → So (is_alive l) → is_unborn l ≡ false
alive_not_unborn Unborn h = sym h
alive_not_unborn (Alive i) h = refl
alive_not_unborn Dead h = refl

pub alive_otherwise : (l : Life) → is_dead l ≡ false → is_unborn l ≡ false → So (is_alive l)
alive_otherwise Unborn h k = sym k
alive_otherwise (Alive i) h k = refl
alive_otherwise Dead h k = sym h

module _ (v : View) (f : Facts v) where
  -- no two processes share a number in the same namespace
  pub pid_unique : (n i j : ℕ) → So (namespace_taken v n) → So (seen v n i) → So (seen v n j) → pid_seen v n i ≡ pid_seen v n j → i ≡ j
  pid_unique n i j k = f.differ n k i j

  -- ---- namespaces

  -- a living namespace is one
  pub alive_taken : (n : ℕ) → So (alive v n) → So (namespace_taken v n)
  unfolding zero_namespace
  alive_taken n a = go (namespace_taken v n) refl
    where
      go : (b : Bool) → namespace_taken v n ≡ b → So b
      go true e = refl
      go false e = absurd (false≢true (sym (alive_not_unborn (v.life n) a) ∙ right _ _ (f.empty_namespace n (no_so e))))

  pub root_only : (n : ℕ) → So (namespace_taken v n) → v.level n ≡ 0 → n ≡ 0
  unfolding namespace_taken
  root_only n h e = ⊎_elim (λ z. eqb-true n 0 z) (λ k. absurd (eqb-false _ _ (isnt _ k) e)) (cases _ _ h)

  pub up_taken : (n k : ℕ) → v.level n ≡ suc k → So (namespace_taken v (v.up n))
  up_taken n k e = (f.tree n (deep_namespace v n k e) (not_root v f n k e)).0.0

  -- an unborn namespace has none below it
  pub none_below_unborn : (n m k : ℕ) → So (unborn v n) → v.level m ≡ suc k → v.up m ≡ n → ⊥
  none_below_unborn n m k h e q = f.unborn_leaf n (subst (λ y. So (namespace_taken v y)) q (up_taken m k e)) h m (deep_namespace v m k e) (not_root v f m k e) q

  -- ---- parents of namespaces, many at once

  -- what is some parents up is a namespace, at its level
  pub up_by_taken : (m n : ℕ) → So (namespace_taken v n) → m ≤ v.level n → So (namespace_taken v (up_by v.up m n))
  unfolding up_by
  up_by_taken zero n h l = h
  up_by_taken (suc m) n h l =
      let e : v.level n ≡ suc (pred (v.level n)) = omega arith in
      up_by_taken m (v.up n) (up_taken n (pred (v.level n)) e) (omega (arith, up_level v f n (pred (v.level n)) e))

  pub up_by_level : (m n : ℕ) → m ≤ v.level n → v.level (up_by v.up m n) ≡ v.level n - m
  unfolding up_by
  up_by_level zero n l = omega arith
  up_by_level (suc m) n l =
      let e : v.level n ≡ suc (pred (v.level n)) = omega arith in
      omega (arith, up_by_level m (v.up n) (omega (arith, up_level v f n (pred (v.level n)) e)), up_level v f n (pred (v.level n)) e)

  climb_up_by : (k a b : ℕ) → So (climb v.up k a b) → (m : ℕ) × (m ≤ k) × (up_by v.up m a ≡ b)
  unfolding climb up_by
  climb_up_by zero a b h = (0, omega arith, eqb-true a b h)
  climb_up_by (suc k) a b h = go (eqb a b) refl h (λ g. climb_up_by k (v.up a) b g)
    where
      go : (x : Bool) → eqb a b ≡ x → So (elim x [ true ↦ true | false ↦ climb v.up k (v.up a) b ]) → (So (climb v.up k (v.up a) b) → (m : ℕ) × (m ≤ k) × (up_by v.up m (v.up a) ≡ b)) → (m : ℕ) × (m ≤ suc k) × (up_by v.up m a ≡ b)
      go true e h r = (0, omega arith, eqb-true a b e)
      go false e h r = let (m, l, q) = r h in (suc m, omega arith, q)

  up_by_climb : (m k a b : ℕ) → m ≤ k → up_by v.up m a ≡ b → So (climb v.up k a b)
  unfolding climb up_by
  up_by_climb zero zero a b l e = eq-eqb a b e
  up_by_climb zero (suc k) a b l e = rw (eq-eqb a b e, climb)
  up_by_climb (suc m) zero a b l e = absurd (omega arith)
  up_by_climb (suc m) (suc k) a b l e = go (eqb a b) (up_by_climb m k (v.up a) b (omega arith) e)
    where
      go : (x : Bool) → So (climb v.up k (v.up a) b) → So (elim x [ true ↦ true | false ↦ climb v.up k (v.up a) b ])
      go true h = refl
      go false h = h

  -- the upper of two is so many parents up, and back
  pub below_up_by : (a b : ℕ) → So (below v a b) → up_by v.up (v.level a - v.level b) a ≡ b
  unfolding below
  below_up_by a b h =
      let (m, l, e) = climb_up_by (v.level a) a b h in
      let q : v.level a - v.level b ≡ m = omega (arith, up_by_level m a l, ap v.level e) in
      ap (λ x. up_by v.up x a) q ∙ e

  pub up_by_below : (m a b : ℕ) → m ≤ v.level a → up_by v.up m a ≡ b → So (below v a b)
  unfolding below
  up_by_below m a b l e = up_by_climb m (v.level a) a b l e

  pub up_by_end : (m a : ℕ) → up_by v.up (suc m) a ≡ v.up (up_by v.up m a)
  unfolding up_by
  up_by_end zero a = refl
  up_by_end (suc m) a = up_by_end m (v.up a)

  -- one that lies strictly below another: its parent does too
  pub below_parent : (a b : ℕ) → So (below v a b) → v.level b < v.level a → So (below v (v.up a) b)
  unfolding up_by
  below_parent a b h l =
      let e : v.level a ≡ suc (pred (v.level a)) = omega arith in
      let q : v.level a - v.level b ≡ suc (pred (v.level a) - v.level b) = omega arith in
      up_by_below (pred (v.level a) - v.level b) (v.up a) b (omega (arith, up_level v f a (pred (v.level a)) e)) (ap (λ x. up_by v.up x a) (sym q) ∙ below_up_by a b h)

  -- and at the same level it is the other
  pub below_same : (a b : ℕ) → So (below v a b) → v.level a ≡ v.level b → a ≡ b
  unfolding up_by
  below_same a b h e = let q : 0 ≡ v.level a - v.level b = omega arith in ap (λ x. up_by v.up x a) q ∙ below_up_by a b h

  -- ---- living namespaces and their inits

  -- above a living namespace all live
  pub alive_up : (n k : ℕ) → So (alive v n) → v.level n ≡ suc k → So (alive v (v.up n))
  alive_up n k a e = alive_otherwise (v.life (v.up n)) (not_dead (dead v (v.up n)) refl) (not_unborn (unborn v (v.up n)) refl)
    where
      not_dead : (b : Bool) → dead v (v.up n) ≡ b → b ≡ false
      not_dead true h =
          absurd (false≢true (sym (alive_not_dead (v.life n) a) ∙ f.below_dead n (deep_namespace v n k e) (not_root v f n k e) h))
      not_dead false h = refl

      not_unborn : (b : Bool) → unborn v (v.up n) ≡ b → b ≡ false
      not_unborn true h = absurd (none_below_unborn (v.up n) n k h e refl)
      not_unborn false h = refl

  pub alive_up_by : (m n : ℕ) → So (alive v n) → m ≤ v.level n → So (alive v (up_by v.up m n))
  unfolding up_by
  alive_up_by zero n a l = a
  alive_up_by (suc m) n a l =
      let e : v.level n ≡ suc (pred (v.level n)) = omega arith in
      alive_up_by m (v.up n) (alive_up n (pred (v.level n)) a e) (omega (arith, up_level v f n (pred (v.level n)) e))

  pub alive_above : (a b : ℕ) → So (alive v a) → So (below v a b) → So (alive v b)
  alive_above a b h k = subst (λ n. So (alive v n)) (below_up_by a b k) (alive_up_by (v.level a - v.level b) a h (omega arith))

  -- the init of a living namespace lives and belongs to it
  pub init_living : (n : ℕ) → So (alive v n) → So (living v (init v n))
  init_living n a = (f.inits n (alive_taken n a) a).0

  pub init_own : (n : ℕ) → So (alive v n) → v.own (init v n) ≡ n
  init_own n a = (f.inits n (alive_taken n a) a).1

  pub init_taken : (n : ℕ) → So (alive v n) → So (taken v (init v n))
  init_taken n a = lives_taken v _ (init_living n a)

  -- a living namespace's init is seen from it and from every one above
  pub init_seen : (n m : ℕ) → So (alive v n) → So (below v n m) → So (seen v m (init v n))
  unfolding seen taken
  init_seen n m a h = both _ _ (init_taken n a) (subst (λ x. So (below v x m)) (sym (init_own n a)) h)

  pub init_pid : (n : ℕ) → So (alive v n) → pid_seen v n (init v n) ≡ 1
  init_pid n a = (f.first n (alive_taken n a) a (init v n) (init_seen n n a (below_refl v n))).1 refl

  -- in the parent namespace of a living one is its init's parent
  pub init_parent : (n k : ℕ) → So (alive v n) → v.level n ≡ suc k → v.own (v.parent (init v n)) ≡ v.up n
  unfolding pid_seen
  init_parent n k a e =
      f.first_parents (init v n) (init_taken n a) not_zero (ap (λ x. v.pid (init v n) (v.level x)) (init_own n a) ∙ init_pid n a)
      ∙ ap v.up (init_own n a)
    where
      not_zero : init v n ≡ 0 → ⊥
      not_zero z = not_root v f n k e (sym (init_own n a) ∙ ap v.own z ∙ f.root_own)

  pub parent_living : (i : ℕ) → So (taken v i) → (i ≡ 0 → ⊥) → So (living v (v.parent i))
  parent_living i h z = (f.parents i h z).0.0

  pub parent_above : (i : ℕ) → So (taken v i) → (i ≡ 0 → ⊥) → So (below v (v.own i) (v.own (v.parent i)))
  parent_above i h z = (f.parents i h z).0.1

  -- ---- a process's own namespace and its numbers

  -- an own namespace is taken, was born, and has living members only if it lives
  pub own_taken : (i : ℕ) → So (taken v i) → So (namespace_taken v (v.own i))
  own_taken i h = (f.members i h).0.0

  pub own_not_unborn : (i : ℕ) → So (taken v i) → unborn v (v.own i) ≡ false
  own_not_unborn i h = isnt_so (f.members i h).1

  pub own_dead_ended : (i : ℕ) → So (taken v i) → So (dead v (v.own i)) → So (v.ended i)
  own_dead_ended i h d = (f.members i h).0.1 d

  pub living_own_alive : (i : ℕ) → So (living v i) → So (alive v (v.own i))
  unfolding living
  living_own_alive i h = alive_otherwise (v.life (v.own i)) (go (dead v (v.own i)) refl) (own_not_unborn i (left _ _ h))
    where
      go : (b : Bool) → dead v (v.own i) ≡ b → b ≡ false
      go true e = absurd (false≢true (sym (isnt _ (right _ _ h)) ∙ own_dead_ended i (left _ _ h) e))
      go false e = refl

  -- a number is from 1 up to the own level, and 0 beyond
  pub pid_pos : (i l : ℕ) → So (taken v i) → l ≤ v.level (v.own i) → 1 ≤ v.pid i l
  pid_pos i l h k = leb-true 1 (v.pid i l) (left _ _ (rw (le-leb l (v.level (v.own i)) k) at (f.pid_range i h l (omega (arith, level_deepest v f _ (own_taken i h))))))

  pub pid_zero : (i l : ℕ) → So (taken v i) → l < levels → v.level (v.own i) < l → v.pid i l ≡ 0
  pid_zero i l h k m = eqb-true _ _ (rw (lt-leb l (v.level (v.own i)) m) at (f.pid_range i h l k))

-- who sees a parent sees the child
pub child_seen : (v : View) (f : Facts v) (n i : ℕ) → So (taken v i) → So (seen v n (v.parent i)) → So (seen v n i)
unfolding seen taken
child_seen v f n i h k = go (ℕ_discrete i 0)
  where
    go : Dec (i ≡ 0) → So (taken v i and below v (v.own i) n)
    go (yes z) = absurd (omega (arith, f.in_range (v.parent i) (left _ _ k), ap v.parent z, f.root_parent))
    go (no z) = both _ _ h (below_trans v f (v.own i) (v.own (v.parent i)) n (parent_above v f i h z) (right _ _ k))
