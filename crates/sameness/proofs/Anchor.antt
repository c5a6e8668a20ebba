-- On one table: what lies below what, the nearest living namespace, and the name that a sheet gives.
use Prim.Native.Nat.{ℕ, zero, suc, ◌<◌}
use native.Mathlib.Omega.{arith}
use mathlib.Core.Bool.{Bool, true, false, So, false≢true}
use mathlib.Core.Logic.{◌⊎◌, inl, inr}
use mathlib.Core.Path.{◌≡◌, refl, sym, ◌∙◌, ap, subst}
use borrow.Author.Tests.{ne_eqb, eq-eqb}
use Rattle.rules.proofs.Laws.Below.{up_level, below_level, below_trans}
use Rattle.rules.proofs.Laws.Facts.{Facts}
use Rattle.rules.proofs.Laws.Slots.{root_only, up_taken, below_parent, below_same, up_by_below}
use Rattle.rules.proofs.Laws.Tests.{choose, no_so}
use Rattle.rules.proofs.Laws.Tree.{below_refl}
use Rattle.sameness.proofs.Cases.{by_equal}
use Rattle.table.specs.Limits.{no_slot}
use Rattle.table.specs.Slots.{init_of, is_alive, is_unborn}
use Rattle.rules.specs.Read.{View, alive, below, init, namespace_taken, pid_in, unborn, up_by}
use Rattle.sameness.specs.Sheet.{Name, by_init, dead_at, name, name_by, nearest, nearest_alive, no_name, unborn_name}
use Rattle.table.specs.declared.Life.TheVariants.{Unborn, Alive, Dead}
use Rattle.table.specs.declared.Life.{Life}

-- the nearest living namespace, n or above it
abbrev pub anchor : View → ℕ → ℕ
anchor v n = nearest_alive v (v.level n) n

-- what a name says
abbrev pub is_by_init : Name → Bool
is_by_init (by_init k) = true
is_by_init (dead_at l k) = false
is_by_init unborn_name = false
is_by_init no_name = false

abbrev pub is_unborn_name : Name → Bool
is_unborn_name (by_init k) = false
is_unborn_name (dead_at l k) = false
is_unborn_name unborn_name = true
is_unborn_name no_name = false

abbrev pub is_dead_name : Name → Bool
is_dead_name (by_init k) = false
is_dead_name (dead_at l k) = true
is_dead_name unborn_name = false
is_dead_name no_name = false

abbrev pub name_level : Name → ℕ
name_level (by_init k) = 0
name_level (dead_at l k) = l
name_level unborn_name = 0
name_level no_name = 0

abbrev pub name_pid : Name → ℕ
name_pid (by_init k) = k
name_pid (dead_at l k) = k
name_pid unborn_name = 0
name_pid no_name = 0

module _ {v : View} (f : Facts v) where
  pub root_alive : So (alive v 0)
  root_alive = f.root_alive

  near_self : (k n : ℕ) → So (alive v n) → nearest_alive v k n ≡ n
  unfolding nearest
  near_self zero n a = refl
  near_self (suc k) n a = rw (a, nearest)

  near_alive : (k n : ℕ) → v.level n ≡ k → So (namespace_taken v n) → So (alive v (nearest_alive v k n))
  unfolding nearest
  near_alive zero n e h = subst (λ m. So (alive v m)) (sym (root_only v f n h e)) root_alive
  near_alive (suc k) n e h = choose (λ m. So (alive v m)) (alive v n) (λ a. a) (λ a. near_alive k (v.up n) (up_level v f n k e) (up_taken v f n k e))

  -- what lies below another is deeper
  pub deeper : (a b : ℕ) → So (below v a b) → (a ≡ b → ⊥) → v.level b < v.level a
  deeper a b h o = by_equal (v.level a) (v.level b) (λ q. absurd (o (below_same v f a b h q))) (λ q. omega (arith, below_level v f a b h))

  pub below_up : (a b : ℕ) → So (below v a b) → (a ≡ b → ⊥) → So (below v (v.up a) b)
  below_up a b h o = below_parent v f a b h (deeper a b h o)

  pub up_below : (n k : ℕ) → v.level n ≡ suc k → So (below v n (v.up n))
  unfolding up_by
  up_below n k e = up_by_below v f 1 n (v.up n) (omega arith) refl

  near_below : (k n : ℕ) → v.level n ≡ k → So (below v n (nearest_alive v k n))
  unfolding nearest
  near_below zero n e = below_refl v n
  near_below (suc k) n e =
      choose (λ m. So (below v n m)) (alive v n) (λ a. below_refl v n) (λ a. below_trans v f n (v.up n) _ (up_below n k e) (near_below k (v.up n) (up_level v f n k e)))

  near_least : (k n m : ℕ) → v.level n ≡ k → So (alive v m) → So (below v n m) → So (below v (nearest_alive v k n) m)
  unfolding nearest
  near_least zero n m e a h = h
  near_least (suc k) n m e a h =
      choose (λ x. So (below v x m)) (alive v n) (λ x. h)
      (λ x. near_least k (v.up n) m (up_level v f n k e) a (below_up n m h (λ q. no_so x (subst (λ y. So (alive v y)) (sym q) a))))

  pub anchor_self : (n : ℕ) → So (alive v n) → anchor v n ≡ n
  anchor_self n a = near_self (v.level n) n a

  -- it lives, n lies below it, and each living one above n is above it
  pub anchor_alive : (n : ℕ) → So (namespace_taken v n) → So (alive v (anchor v n))
  anchor_alive n h = near_alive (v.level n) n refl h

  pub anchor_below : (n : ℕ) → So (below v n (anchor v n))
  anchor_below n = near_below (v.level n) n refl

  pub anchor_least : (n m : ℕ) → So (alive v m) → So (below v n m) → So (below v (anchor v n) m)
  anchor_least n m a h = near_least (v.level n) n m refl a h

  -- ---- names

  -- the name of a namespace, by its life
  pub name_taken : (s n : ℕ) → So (namespace_taken v n) → name v s n ≡ name_by v s n (v.life n)
  unfolding name
  name_taken s n h = rw (ne_eqb n no_slot (λ e. omega (arith, f.in_namespace n h)))

  by_alive : (s n : ℕ) (l : Life) → is_by_init (name_by v s n l) ≡ is_alive l
  unfolding name_by
  by_alive s n Unborn = refl
  by_alive s n (Alive i) = refl
  by_alive s n Dead = refl

  by_unborn : (s n : ℕ) (l : Life) → is_unborn_name (name_by v s n l) ≡ is_unborn l
  unfolding name_by
  by_unborn s n Unborn = refl
  by_unborn s n (Alive i) = refl
  by_unborn s n Dead = refl

  by_level : (s n : ℕ) (l : Life) → is_alive l ≡ false → is_unborn l ≡ false → name_level (name_by v s n l) ≡ v.level n
  unfolding name_by
  by_level s n Unborn a b = absurd (false≢true (sym b))
  by_level s n (Alive i) a b = absurd (false≢true (sym a))
  by_level s n Dead a b = refl

  by_pid : (s n : ℕ) (l : Life) → v.life n ≡ l → is_unborn l ≡ false → name_pid (name_by v s n l) ≡ pid_in v s (init v (anchor v n))
  unfolding name_by
  by_pid s n Unborn e h = absurd (false≢true (sym h))
  by_pid s n (Alive i) e h = ap (pid_in v s) (sym (ap init_of e) ∙ ap (init v) (sym (anchor_self n (ap is_alive e))))
  by_pid s n Dead e h = refl

  pub name_alive : (s n : ℕ) → So (namespace_taken v n) → is_by_init (name v s n) ≡ alive v n
  name_alive s n h = ap is_by_init (name_taken s n h) ∙ by_alive s n (v.life n)

  pub name_unborn : (s n : ℕ) → So (namespace_taken v n) → is_unborn_name (name v s n) ≡ unborn v n
  name_unborn s n h = ap is_unborn_name (name_taken s n h) ∙ by_unborn s n (v.life n)

  pub name_level_dead : (s n : ℕ) → So (namespace_taken v n) → alive v n ≡ false → unborn v n ≡ false → name_level (name v s n) ≡ v.level n
  name_level_dead s n h a b = ap name_level (name_taken s n h) ∙ by_level s n (v.life n) a b

  pub name_anchor : (s n : ℕ) → So (namespace_taken v n) → unborn v n ≡ false → name_pid (name v s n) ≡ pid_in v s (init v (anchor v n))
  name_anchor s n h k = ap name_pid (name_taken s n h) ∙ by_pid s n (v.life n) refl k

-- what does not live has no init
pub init_or_none : (v : View) (n : ℕ) → So (alive v n) ⊎ (init v n ≡ no_slot)
init_or_none v n = go (v.life n)
  where
    go : (l : Life) → So (is_alive l) ⊎ (init_of l ≡ no_slot)
    go Unborn = inr refl
    go (Alive i) = inl refl
    go Dead = inr refl

-- no slot has no name
pub name_no_slot : (v : View) (s n : ℕ) → n ≡ no_slot → name v s n ≡ no_name
unfolding name
name_no_slot v s n e = rw (eq-eqb n no_slot e)
