-- "Below" at every point of a call.
use Prim.Native.Nat.{ℕ, zero, suc, ◌<◌, ◌≤◌, ◌-◌}
use native.Mathlib.Decide.{ℕ_discrete}
use native.Mathlib.Omega.{arith}
use mathlib.Core.Bool.{false, So}
use mathlib.Core.Logic.{◌⊎◌, inl, inr, ⊎_elim}
use mathlib.Core.Path.{◌≡◌, refl, sym, ap, subst, ◌∙◌}
use borrow.Author.Tests.{eq-eqb, ne_eqb, eqb-true, le-leb, leb-true, leb-false}
use lib.Dec.{eqb, leb}
use Rattle.rules.proofs.Laws.Facts.{Facts, Taken, Lives, Stands, Below, Other, hold_cases}
use Rattle.rules.proofs.Laws.Tests.{isnt_so, or_true}
use Rattle.rules.proofs.Laws.Tree as Tree
use Rattle.rules.proofs.Laws.Tree.{Stepwise, climb_step, climb_cases}
use Rattle.table.specs.Limits.{deepest, hold_slots}
use Rattle.rules.specs.Read.{View, above_at, below, climb, namespace_taken, up_by, children}
use Rattle.table.specs.Tests.{◌or◌}

-- one with a level is a namespace, and not the root
pub deep_namespace : (v : View) (n k : ℕ) → v.level n ≡ suc k → Stands v n
unfolding namespace_taken ◌or◌
deep_namespace v n k e = rw (e, ne_eqb (suc k) 0 (λ q. omega arith)) (or_true (eqb n 0))

-- a climb from level 0 goes nowhere
pub shallow_below : (v : View) (a n : ℕ) → v.level a ≡ 0 → Below v a n → a ≡ n
unfolding below climb
shallow_below v a n e h = eqb-true a n (subst (λ k. So (climb v.up k a n)) e h)

-- a level that passes the test of -28 is not the deepest
pub not_deepest : (l : ℕ) → leb deepest l ≡ false → l ≡ deepest → ⊥
not_deepest l h e = omega (arith, leb-false deepest l h)

module _ (v : View) (p : Facts v) where
  pub not_root : (n k : ℕ) → v.level n ≡ suc k → Other n
  not_root n k e z = omega (arith, sym (ap v.level z), p.root_level)

  -- each parent is one level up
  pub up_level : Stepwise v
  up_level a k e = omega (arith, (p.tree a (deep_namespace v a k e) (not_root a k e)).0.1)

  pub below_trans : (a b c : ℕ) → Below v a b → Below v b c → Below v a c
  below_trans = Tree.below_trans v up_level

  -- from a namespace to its parent
  pub below_up : (n : ℕ) → Stands v n → Other n → (m : ℕ) → Below v (v.up n) m → Below v n m
  unfolding below
  below_up n s o m h = subst (λ k. So (climb v.up k n m)) (sym (p.tree n s o).0.1) (climb_step v.up _ n m h)

  -- below: the same, or below by way of a child of the upper
  pub last_step : (a n : ℕ) → Stands v a → Below v a n → (a ≡ n) ⊎ ((m : ℕ) × Stands v m × Other m × (v.up m ≡ n) × Below v a m)
  unfolding below climb
  last_step a n s h = go (v.level a) a refl s h
    where
      go : (k a : ℕ) → v.level a ≡ k → Stands v a → So (climb v.up k a n) → (a ≡ n) ⊎ ((m : ℕ) × Stands v m × Other m × (v.up m ≡ n) × Below v a m)
      go zero a e s h = inl (eqb-true a n h)
      go (suc k) a e s h =
          ⊎_elim (λ q. inl q)
          (λ r. ⊎_elim
          (λ q. inr (a, s, not_root a k e, q, Tree.below_refl v a))
          (λ (m, x, o, u, b). inr (m, x, o, u, below_up a s (not_root a k e) m b))
          (go k (v.up a) (up_level a k e) (p.tree a s (not_root a k e)).0.0 r))
          (climb_cases v.up k a n h)

  -- what is no namespace has no level
  pub no_level : (n : ℕ) → (Stands v n → ⊥) → v.level n ≡ 0
  unfolding namespace_taken ◌or◌
  no_level n o = go (v.level n) refl
    where
      go : (k : ℕ) → v.level n ≡ k → v.level n ≡ 0
      go zero e = e
      go (suc k) e = absurd (o (deep_namespace v n k e))

  -- what lies below, of what a process holds, is a namespace
  pub below_hold : (i n k : ℕ) → Taken v i → Stands v n → k < hold_slots → Below v (v.hold i k) n → Stands v (v.hold i k)
  below_hold i n k t s l h =
      ⊎_elim (λ a. a)
      (λ q. absurd (omega (arith, q, p.in_namespace n s, shallow_below v _ n (no_level (v.hold i k) (λ k. omega (arith, q, p.in_namespace _ k))) h)))
      (hold_cases v p i t k l)

  -- what lies below has the same level or a greater one
  pub below_level : (a n : ℕ) → Below v a n → v.level n ≤ v.level a
  unfolding below climb
  below_level a n h = go (v.level a) a refl h
    where
      go : (k a : ℕ) → v.level a ≡ k → So (climb v.up k a n) → v.level n ≤ v.level a
      go zero a e h = omega (arith, ap v.level (eqb-true a n h))
      go (suc k) a e h = ⊎_elim (λ q. omega (arith, ap v.level q)) (λ r. omega (arith, go k (v.up a) (up_level a k e) r, up_level a k e)) (climb_cases v.up k a n h)

  pub up_not_below : (n : ℕ) → Stands v n → Other n → Below v (v.up n) n → ⊥
  up_not_below n s o h = omega (arith, below_level (v.up n) n h, (p.tree n s o).0.1)

  -- what is above a namespace is one
  pub below_taken : (a n : ℕ) → Stands v a → Below v a n → Stands v n
  unfolding below climb
  below_taken a n s h = go (v.level a) a refl s h
    where
      go : (k a : ℕ) → v.level a ≡ k → Stands v a → So (climb v.up k a n) → Stands v n
      go zero a e s h = subst (Stands v) (eqb-true a n h) s
      go (suc k) a e s h = ⊎_elim (λ q. subst (Stands v) q s) (λ r. go k (v.up a) (up_level a k e) (p.tree a s (not_root a k e)).0.0 r) (climb_cases v.up k a n h)

  -- the namespace above n at a level is one of that level
  pub above_is : (n l : ℕ) → Stands v n → l ≤ v.level n → Stands v (above_at v n l) × Below v n (above_at v n l) × (v.level (above_at v n l) ≡ l)
  unfolding above_at up_by
  above_is n l s h = go (v.level n - l) n s (omega arith)
    where
      go : (d n : ℕ) → Stands v n → v.level n ≡ Prim.Native.Nat.◌+◌ l d → Stands v (up_by v.up d n) × Below v n (up_by v.up d n) × (v.level (up_by v.up d n) ≡ l)
      go zero n s e = (s, Tree.below_refl v n, omega arith)
      go (suc d) n s e =
          let k : v.level n ≡ suc (Prim.Native.Nat.◌+◌ l d) = omega arith in
          let (x, b, q) = go d (v.up n) (p.tree n s (not_root n _ k)).0.0 (up_level n _ k) in
          (x, below_up n s (not_root n _ k) _ b, q)

  -- and the only one
  pub above_same : (n m : ℕ) → Below v n m → above_at v n (v.level m) ≡ m
  unfolding above_at up_by below climb
  above_same n m h = go (v.level n) n refl h
    where
      go : (k n : ℕ) → v.level n ≡ k → So (climb v.up k n m) → up_by v.up (k - v.level m) n ≡ m
      go zero n e h = let z : 0 - v.level m ≡ 0 = omega arith in subst (λ d. up_by v.up d n ≡ m) (sym z) (eqb-true n m h)
      go (suc k) n e h =
          ⊎_elim
          (λ q. let z : suc k - v.level m ≡ 0 = omega (arith, ap v.level q) in subst (λ d. up_by v.up d n ≡ m) (sym z) q)
          (λ r. let z : suc k - v.level m ≡ suc (k - v.level m) = omega (arith, below_level' (v.up n) k (up_level n k e) r) in subst (λ d. up_by v.up d n ≡ m) (sym z) (go k (v.up n) (up_level n k e) r))
          (climb_cases v.up k n m h)
        where
          below_level' : (a k : ℕ) → v.level a ≡ k → So (climb v.up k a m) → v.level m ≤ k
          below_level' a k e r = subst (λ x. v.level m ≤ x) e (below_level a m (subst (λ x. So (climb v.up x a m)) (sym e) r))

  -- the root is above each
  pub root_above : (n : ℕ) → Stands v n → Below v n 0
  unfolding below climb
  root_above n s = go (v.level n) n refl s
    where
      zero_level : (n : ℕ) → Stands v n → v.level n ≡ 0 → Dec (n ≡ 0) → n ≡ 0
      zero_level n s e (yes z) = z
      zero_level n s e (no o) = absurd (omega (arith, (p.tree n s o).0.1))

      go : (k n : ℕ) → v.level n ≡ k → Stands v n → So (climb v.up k n 0)
      go zero n e s = eq-eqb n 0 (zero_level n s e (ℕ_discrete n 0))
      go (suc k) n e s = climb_step v.up k n 0 (go k (v.up n) (up_level n k e) (p.tree n s (not_root n k e)).0.0)

  pub level_deepest : (n : ℕ) → Stands v n → v.level n ≤ deepest
  level_deepest n s = go (ℕ_discrete n 0)
    where
      go : Dec (n ≡ 0) → v.level n ≤ deepest
      go (yes z) = omega (arith, ap v.level z, p.root_level)
      go (no o) = (p.tree n s o).1

  -- so on a level that is not less it is the deepest
  pub deepest_only : (n : ℕ) → Stands v n → leb deepest (v.level n) ≡ eqb (v.level n) deepest
  deepest_only n s = go (ℕ_discrete (v.level n) deepest)
    where
      go : Dec (v.level n ≡ deepest) → leb deepest (v.level n) ≡ eqb (v.level n) deepest
      go (yes e) = le-leb deepest (v.level n) (omega arith) ∙ sym (eq-eqb _ deepest e)
      go (no o) = isnt_so (λ x. omega (arith, leb-true deepest (v.level n) x, level_deepest n s)) ∙ sym (ne_eqb _ deepest o)

  -- nothing lies below the deepest level: the children of a living process there are born into its own namespace
  pub deepest_home : (i : ℕ) → Taken v i → Lives v i → v.level (v.own i) ≡ deepest → children v i ≡ v.own i
  deepest_home i t l e =
      let (s, b) = p.children i t l in
      ⊎_elim (λ q. q)
      (λ (m, x, o, u, z). absurd (omega (arith, (p.tree m x o).0.1, ap v.level u, level_deepest m x)))
      (last_step (children v i) (v.own i) s b)
