-- What is reached at all, among fewer than n, is reached in n steps.
use Prim.Native.Nat.{ℕ, zero, suc, ◌<◌, ◌≤◌, ◌+◌, ◌-◌}
use native.Mathlib.Decide.{ℕ_discrete}
use native.Mathlib.Omega.{arith}
use mathlib.Core.Bool.{Bool, true, false, So, false≢true}
use mathlib.Core.Logic.{◌⊎◌, inl, inr, ⊎_elim}
use mathlib.Core.Path.{◌≡◌, sym, ◌∙◌, refl, ap, subst}
use borrow.Author.Tests.{eq-eqb, eqb-true}
use lib.Dec.{eqb}
use Rattle.rules.specs.Read.{up_by}
use Rattle.rules.specs.Sound.{reaches_root}
use Rattle.table.specs.Tests.{when◌then◌else◌}

-- ---- of n + 1 numbers below n two are equal

look : (f : ℕ → ℕ) (x n : ℕ) → ((i : ℕ) × (i < n) × (f i ≡ x)) ⊎ ((i : ℕ) → i < n → f i ≡ x → ⊥)
look f x zero = inr (λ i l e. omega arith)
look f x (suc n) = go (ℕ_discrete (f n) x) (look f x n)
  where
    last : (f n ≡ x → ⊥) → ((i : ℕ) → i < n → f i ≡ x → ⊥) → (i : ℕ) → i < suc n → f i ≡ x → Dec (i ≡ n) → ⊥
    last o h i l e (yes q) = o (rw (← q) e)
    last o h i l e (no q) = h i (omega arith) e

    go : Dec (f n ≡ x) → ((i : ℕ) × (i < n) × (f i ≡ x)) ⊎ ((i : ℕ) → i < n → f i ≡ x → ⊥) → ((i : ℕ) × (i < suc n) × (f i ≡ x)) ⊎ ((i : ℕ) → i < suc n → f i ≡ x → ⊥)
    go (yes e) r = inl (n, omega arith, e)
    go (no o) (inl r) = inl (r.0, omega (arith, r.1), r.2)
    go (no o) (inr h) = inr (λ i l e. last o h i l e (ℕ_discrete i n))

-- f, with what it gives to the last of its arguments in the place of m
swap : (m x y : ℕ) → Dec (y ≡ m) → ℕ
swap m x y (yes e) = x
swap m x y (no o) = y

swap_low : (m x y : ℕ) (d : Dec (y ≡ m)) → x < suc m → y < suc m → (y ≡ x → ⊥) → swap m x y d < m
unfolding swap
swap_low m x y (yes e) a b o = omega arith
swap_low m x y (no q) a b o = omega arith

swap_same : (m x y z : ℕ) (d : Dec (y ≡ m)) (e : Dec (z ≡ m)) → (y ≡ x → ⊥) → (z ≡ x → ⊥) → swap m x y d ≡ swap m x z e → y ≡ z
unfolding swap
swap_same m x y z (yes a) (yes b) o p e = a ∙ sym b
swap_same m x y z (yes a) (no b) o p e = absurd (p (sym e))
swap_same m x y z (no a) (yes b) o p e = absurd (o e)
swap_same m x y z (no a) (no b) o p e = e

pub pigeon : (n : ℕ) (f : ℕ → ℕ) → ((i : ℕ) → i ≤ n → f i < n) → (i : ℕ) × (j : ℕ) × (i < j) × (j ≤ n) × (f i ≡ f j)
pigeon zero f h = absurd (omega (arith, h 0 (omega arith)))
pigeon (suc m) f h =
    ⊎_elim
    (λ (i, l, e). (i, suc m, l, omega arith, e))
    (λ o. let (i, j, a, b, e) = pigeon m (λ i. swap m (f (suc m)) (f i) (ℕ_discrete (f i) m)) (λ i l. swap_low m _ (f i) (ℕ_discrete (f i) m) (h (suc m) (omega arith)) (h i (omega arith)) (o i (omega arith))) in
    (i, j, a, omega arith, swap_same m _ (f i) (f j) (ℕ_discrete (f i) m) (ℕ_discrete (f j) m) (o i (omega arith)) (o j (omega arith)) e))
    (look f (f (suc m)) (suc m))

-- ---- what is reached at all, among fewer than n, is reached in n steps

up_by_add : (g : ℕ → ℕ) (a b i : ℕ) → up_by g (a + b) i ≡ up_by g b (up_by g a i)
unfolding up_by
up_by_add g zero b i = let e : zero + b ≡ b = omega arith in ap (λ n. up_by g n i) e
up_by_add g (suc a) b i = let e : suc a + b ≡ suc (a + b) = omega arith in ap (λ n. up_by g n i) e ∙ up_by_add g a b (g i)

-- the parents, 0 its own
abbrev stop : (ℕ → ℕ) → ℕ → ℕ
stop par i = when eqb i 0 then 0 else par i

stay : (par : ℕ → ℕ) (k : ℕ) → up_by (stop par) k 0 ≡ 0
unfolding up_by
stay par zero = refl
stay par (suc k) = stay par k

pub reaches_is : (par : ℕ → ℕ) (k i : ℕ) → reaches_root par k i ≡ eqb (up_by (stop par) k i) 0
unfolding reaches_root up_by
reaches_is par zero i = refl
reaches_is par (suc k) i = go (eqb i 0) refl (reaches_is par k (par i))
  where
    go : (b : Bool) → eqb i 0 ≡ b → reaches_root par k (par i) ≡ eqb (up_by (stop par) k (par i)) 0 → (elim b as (λ x. Bool) [ true ↦ true | false ↦ reaches_root par k (par i) ]) ≡ eqb (up_by (stop par) k (when b then 0 else par i)) 0
    go true e r = sym (eq-eqb _ 0 (stay par k))
    go false e r = r

module _ (par : ℕ → ℕ) (n : ℕ) (D : ℕ → Type 0) (low : (i : ℕ) → D i → i < n) (next : (i : ℕ) → D i → (i ≡ 0 → ⊥) → D (par i)) where
  closed : (i : ℕ) → D i → D (stop par i)
  closed i d = go (eqb i 0) refl
    where
      go : (b : Bool) → eqb i 0 ≡ b → D (when b then 0 else par i)
      go true e = subst D (eqb-true i 0 e) d
      go false e = next i d (λ z. false≢true (sym e ∙ eq-eqb i 0 z))

  all_closed : (k i : ℕ) → D i → D (up_by (stop par) k i)
  unfolding up_by
  all_closed zero i d = d
  all_closed (suc k) i d = all_closed k (stop par i) (closed i d)

  module _ (i : ℕ) (d : D i) where
    abbrev at : ℕ → ℕ
    at k = up_by (stop par) k i

    later : (a b : ℕ) → at a ≡ 0 → at (a + b) ≡ 0
    later a b e = up_by_add (stop par) a b i ∙ ap (up_by (stop par) b) e ∙ stay par b

    later_le : (a b : ℕ) → a ≤ b → at a ≡ 0 → at b ≡ 0
    later_le a b l e = let q : a + (b - a) ≡ b = omega arith in subst (λ x. at x ≡ 0) q (later a (b - a) e)

    -- a turn of the circle goes on for ever
    turns : (a c : ℕ) → at a ≡ at (a + suc c) → (m : ℕ) → (x : ℕ) × (m ≤ x) × (at x ≡ at a)
    turns a c e zero = (a, omega arith, refl)
    turns a c e (suc m) =
        let (x, l, q) = turns a c e m in
        (x + suc c, omega arith, up_by_add (stop par) x (suc c) i ∙ ap (up_by (stop par) (suc c)) q ∙ sym (up_by_add (stop par) a (suc c) i) ∙ sym e)

    pub reach_bounded : (k : ℕ) → So (reaches_root par k i) → So (reaches_root par n i)
    reach_bounded k h =
        let (a, b, l, m, e) = pigeon n at (λ j w. low _ (all_closed j i d)) in
        let c : ℕ = b - suc a in
        let q : b ≡ a + suc c = omega arith in
        let (x, y, z) = turns a c (e ∙ ap at q) k in
        reaches_is par n i ∙ eq-eqb (at n) 0 (later_le a n (omega arith) (sym z ∙ later_le k x y (eqb-true (at k) 0 (sym (reaches_is par k i) ∙ h))))

-- ---- one step

pub reach_zero : (par : ℕ → ℕ) (k i : ℕ) → i ≡ 0 → So (reaches_root par k i)
unfolding reaches_root
reach_zero par zero i e = eq-eqb i 0 e
reach_zero par (suc k) i e = rw (eq-eqb i 0 e, reaches_root)

pub reach_step : (par : ℕ → ℕ) (k i : ℕ) → So (reaches_root par k (par i)) → So (reaches_root par (suc k) i)
unfolding reaches_root
reach_step par k i h = go (eqb i 0)
  where
    go : (b : Bool) → So (elim b [ true ↦ true | false ↦ reaches_root par k (par i) ])
    go true = refl
    go false = h

pub reach_cases : (par : ℕ → ℕ) (k i : ℕ) → So (reaches_root par (suc k) i) → (i ≡ 0) ⊎ So (reaches_root par k (par i))
unfolding reaches_root
reach_cases par k i h = go (eqb i 0) refl h
  where
    go : (b : Bool) → eqb i 0 ≡ b → So (elim b [ true ↦ true | false ↦ reaches_root par k (par i) ]) → (i ≡ 0) ⊎ So (reaches_root par k (par i))
    go true e h = inl (eqb-true i 0 e)
    go false e h = inr h

-- only 0 may be its own parent
pub no_self : (par : ℕ → ℕ) (k i : ℕ) → par i ≡ i → So (reaches_root par k i) → i ≡ 0
unfolding reaches_root
no_self par zero i e h = eqb-true i 0 h
no_self par (suc k) i e h = ⊎_elim (λ z. z) (λ r. no_self par k i e (subst (λ x. So (reaches_root par k x)) e r)) (reach_cases par k i h)
