-- The end of two twins in the middle of a call: the tables stay the same to S, and so do the targets to come.
use Prim.Native.Nat.{ℕ, ◌<◌}
use native.Mathlib.Omega.{arith}
use mathlib.Core.Bool.{So, Bool, false, true, not, false≢true}
use mathlib.Core.Logic.{inr, inl, ◌⊎◌}
use mathlib.Core.Path.{sym, ◌≡◌, ap, ◌∙◌, refl, subst₂}
use borrow.Author.Tests.{eq-eqb}
use lib.Dec.{eqb}
use Rattle.rules.proofs.Keeps.End.{ended_view, end_view, end_sane}
use Rattle.rules.proofs.Keeps.InitEnds.{gone}
use Rattle.rules.proofs.Laws.Below.{below_level}
use Rattle.rules.proofs.Laws.Facts.{sane, Facts, seen_below, lives_taken, Sane}
use Rattle.rules.proofs.Laws.Slots.{living_own_alive}
use Rattle.rules.proofs.Laws.Tests.{false_and, no_so, isnt_so, and_not, choose}
use Rattle.sameness.proofs.Anchor.{deeper}
use Rattle.sameness.proofs.Calls.{Ready}
use Rattle.sameness.proofs.Cases.{by_test}
use Rattle.sameness.proofs.Ends.{fallen, fallen_places, init_stays, member_remain, member_same, member_of, both_stay, init_same}
use Rattle.sameness.proofs.Readers.{living_twins, is_init_twins, above_pid}
use Rattle.sameness.proofs.Remain.{Places, everyone, below_stays, pid_remain, seen_remain, twin_remain}
use Rattle.sameness.proofs.Same.{Same}
use Rattle.sameness.proofs.Twins.{own_levels, Pair, Twins, Twin, owns, twins_level}
use Rattle.rules.specs.Ends.{end}
use Rattle.table.specs.Slots.{is_alive, init_of}
use Rattle.rules.specs.Read.{View, living, is_init, taken, alive, view, init, seen, pid_seen, below}
use Rattle.rules.specs.Sound.{kept_end}
use Rattle.table.specs.Tests.{when◌then◌else◌, ◌and◌}
use Rattle.table.specs.declared.End.{End}
use Rattle.table.specs.declared.State.TheVariants.{Ended}
use Rattle.table.specs.declared.Table.{Table}

-- two tables in the middle of a call by twin callers, whose own namespaces are f and g
pub record Midway (t u : Table) (s r f g : ℕ) : Type 0 where
  pub sane_t : Sane t
  pub sane_u : Sane u
  pub alive_s : So (alive (view t) s)
  pub alive_r : So (alive (view u) r)
  pub same : Same (view t) (view u) s r
  pub from : Twins (view t) (view u) s r f g

pub pair_of : {t u : Table} {s r f g : ℕ} → Midway t u s r f g → Pair (view t) (view u) s r
pair_of w = record { facts_v = w.sane_t.facts; facts_u = w.sane_u.facts; alive_v = w.alive_s; alive_u = w.alive_r; same = w.same }

-- at its start
pub midway : {t u : Table} {s r f g i j : ℕ} → Ready t u s r i j → Twins (view t) (view u) s r f g → Midway t u s r f g
midway {t} {u} w l = record { sane_t = sane t w.sound_t; sane_u = sane u w.sound_u; alive_s = w.pair.alive_v; alive_r = w.pair.alive_u; same = w.pair.same; from = l }

-- a target on each: twins that the callers see, or nobody that lives
abbrev pub Target : View → View → ℕ → ℕ → ℕ → ℕ → ℕ → Type 0
Target v u s r f x y = (Twin v u s r x y × So (seen v f x)) ⊎ ((living v x ≡ false) × (living u y ≡ false))

-- what a step makes of the two tables and of the targets to come
abbrev pub Onward : Table → Table → ℕ → ℕ → ℕ → ℕ → Table → Table → Type 0
Onward t u s r f g t' u' = Midway t' u' s r f g × ((a b : ℕ) → Target (view t) (view u) s r f a b → Target (view t') (view u') s r f a b)

-- what two views are after, to S and to callers whose own namespaces are f and g
record After (v u v' u' : View) (s r f g : ℕ) : Type 0 where
  alive_v : So (alive v' s)
  alive_u : So (alive u' r)
  same : Same v' u' s r
  from : Twins v' u' s r f g
  targets : (i j : ℕ) → Target v u s r f i j → Target v' u' s r f i j

-- ---- one table

module _ (v : View) (x : ℕ) (e : End) where
  pub ended_init : So (is_init v x) → ended_view v x e ≡ fallen v x e
  ended_init h = rw h

  ended_member : is_init v x ≡ false → ended_view v x e ≡ member_of v x e
  ended_member h = rw h

  -- who does not live does not live after an end
  pub ended_end : (i : ℕ) → living v i ≡ false → living (ended_view v x e) i ≡ false
  unfolding living taken
  ended_end i h =
      choose (λ w. living w i ≡ false) (is_init v x) (λ a. go (gone v (v.own x) i) (seen v (v.own x) i)) (λ a. at (eqb i x))
    where
      go : (b c : Bool) → not (eqb (when b then 0 else v.pid i 0) 0) and not (when b then false else (when c then true else v.ended i)) ≡ false
      go true c = false_and _ _ (λ k. false≢true k)
      go false true = and_not _ refl
      go false false = h

      at : (b : Bool) → not (eqb (v.pid i 0) 0) and not (when b then true else v.ended i) ≡ false
      at true = and_not _ refl
      at false = h

-- ---- two tables

module _ {v u v' u' : View} {s r f g : ℕ} (p : Pair v u s r) (from : Twins v u s r f g) {Q Q' : ℕ → Bool} (a : Places v v' everyone Q) (b : Places u u' everyone Q') (both_remain : (i j : ℕ) → Twin v u s r i j → Q i ≡ Q' j) where
  not_living : (z : View) (i : ℕ) → taken z i ≡ false → living z i ≡ false
  unfolding living
  not_living z i h = false_and _ _ (no_so h)

  pub from_after : v'.life f ≡ v.life f → u'.life g ≡ u.life g → So (Q (init v f)) → So (Q' (init u g)) → Twins v' u' s r f g
  from_after lt lu qt qu =
      record {
        lives_v = ap is_alive lt ∙ from.lives_v;
        lives_u = ap is_alive lu ∙ from.lives_u;
        below_v = below_stays p.facts_v a.tree f s refl ∙ from.below_v;
        below_u = below_stays p.facts_u b.tree g r refl ∙ from.below_u;
        inits =
            ap (λ l. pid_seen v' s (init_of l)) lt ∙ pid_remain p.facts_v a s (init v f) refl qt ∙ from.inits
            ∙ sym (ap (λ l. pid_seen u' r (init_of l)) lu ∙ pid_remain p.facts_u b r (init u g) refl qu);
      }

  pub targets_after : ((i : ℕ) → living v i ≡ false → living v' i ≡ false) → ((j : ℕ) → living u j ≡ false → living u' j ≡ false) → (i j : ℕ) → Target v u s r f i j → Target v' u' s r f i j
  targets_after dt du i j (inr (h, k)) = inr (dt i h, du j k)
  targets_after dt du i j (inl (m, h)) =
      by_test (Q i) (λ q. inl (twin_remain p a b refl refl both_remain m q, seen_remain p.facts_v a f i q ∙ h))
      (λ q. inr (not_living v' i (a.gone i q), not_living u' j (b.gone j (sym (both_remain i j m) ∙ q))))

module _ {v u : View} {s r f g x y : ℕ} (e : End) (p : Pair v u s r) (from : Twins v u s r f g) (k : Twin v u s r x y) (sx : So (seen v f x)) (lx : So (living v x)) where
  lives : So (alive v (v.own x))
  lives = living_own_alive v p.facts_v x lx

  pub both_init : is_init v x ≡ is_init u y
  both_init = is_init_twins p k lives

  -- no inits
  member_after : is_init v x ≡ false → After v u (member_of v x e) (member_of u y e) s r f g
  member_after h =
      let a = (member_remain x e).places in
      let b = (member_remain y e).places in
      record {
        alive_v = p.alive_v;
        alive_u = p.alive_u;
        same = member_same p e k lives;
        from = from_after p from a b (λ i j m. refl) refl refl refl refl;
        targets = targets_after p from a b (λ i j m. refl) (rw h at (ended_end v x e)) (rw (sym both_init ∙ h) at (ended_end u y e));
      }

  -- inits, of namespaces below the callers'
  module _ (other : v.own x ≡ f → ⊥) where
    pub deep : v.level f < v.level (v.own x)
    deep = deeper p.facts_v (v.own x) f (seen_below v f x sx) other

    -- what lies above does not lie in the subtree, and lives on
    out : {z : View} (h : Facts z) (n c : ℕ) → z.level n < z.level (z.own c) → below z n (z.own c) ≡ false
    out {z} h n c l = isnt_so (λ b. omega (arith, below_level z h n (z.own c) b))

    spared : {z : View} (h : Facts z) (c n : ℕ) → z.level n < z.level (z.own c) → (fallen z c e).life n ≡ z.life n
    spared {z} h c n l = rw (out h n c l)

    init_after : So (is_init v x) → After v u (fallen v x e) (fallen u y e) s r f g
    init_after h =
        let tops = owns p k lives in
        let ls : v.level s < v.level (v.own x) = omega (arith, deep, below_level v p.facts_v f s from.below_v) in
        let positive : 0 < v.level (v.own x) = omega (arith, ls) in
        let up = above_pid p tops ls in
        let a = fallen_places v x e in
        let b = fallen_places u y e in
        let c = both_stay p e k lives positive up in
        let same = twins_level p tops in
        let lg : u.level g < u.level (u.own y) = omega (arith, deep, same, twins_level p from) in
        let lr : u.level r < u.level (u.own y) = omega (arith, ls, same, p.same.levels) in
        record {
          alive_v = ap is_alive (spared p.facts_v x s ls) ∙ p.alive_v;
          alive_u = ap is_alive (spared p.facts_u y r lr) ∙ p.alive_u;
          same = init_same p e k lives positive up;
          from =
              from_after p from a b c (spared p.facts_v x f deep) (spared p.facts_u y g lg)
              (init_stays p.facts_v x e f (out p.facts_v f x deep)) (init_stays p.facts_u y e g (out p.facts_u g y lg));
          targets = targets_after p from a b c (rw h at (ended_end v x e)) (rw (sym both_init ∙ h) at (ended_end u y e));
        }

  -- either
  end_after : (So (is_init v x) → v.own x ≡ f → ⊥) → After v u (ended_view v x e) (ended_view u y e) s r f g
  end_after other =
      by_test (is_init v x)
      (λ h. subst₂ (λ a b. After v u a b s r f g) (sym (ended_init v x e h)) (sym (ended_init u y e (sym both_init ∙ h))) (init_after (other h) h))
      (λ h. subst₂ (λ a b. After v u a b s r f g) (sym (ended_member v x e h)) (sym (ended_member u y e (sym both_init ∙ h))) (member_after h))

-- the root init is an init, of a namespace at level 0
zero_init : {v : View} (f : Facts v) (x : ℕ) → x ≡ 0 → So (is_init v x) × (v.level (v.own x) ≡ 0)
unfolding is_init
zero_init {v} f x z = let e = ap v.own z ∙ f.root_own in (eq-eqb (init v (v.own x)) x (ap (init v) e ∙ f.root_init ∙ sym z), ap v.level e ∙ f.root_level)

-- an end of two twins that live, none of them the init of the callers' own namespace
pub end_same : {t u : Table} {s r f g x y : ℕ} (e : End) → Midway t u s r f g → Twin (view t) (view u) s r x y → So (seen (view t) f x) → So (living (view t) x) → So (kept_end (Ended e)) → (So (is_init (view t) x) → (view t).own x ≡ f → ⊥) → Onward t u s r f g (end t x e) (end u y e)
end_same {t} {u} {s} {r} {f} {g} {x} {y} e w k sx lx ok other =
    let ly : So (living (view u) y) = sym (living_twins p k) ∙ lx in
    let ev = end_view t w.sane_t x e (lives_taken (view t) x lx) in
    let eu = end_view u w.sane_u y e (lives_taken (view u) y ly) in
    let a = subst₂ (λ v' u'. After (view t) (view u) v' u' s r f g) (sym ev) (sym eu) (end_after e p w.from k sx lx other) in
    (record { sane_t = end_sane t w.sane_t x e lx x_other ok; sane_u = end_sane u w.sane_u y e ly y_other ok; alive_s = a.alive_v; alive_r = a.alive_u; same = a.same; from = a.from }, a.targets)
  where
    p : Pair (view t) (view u) s r
    p = pair_of w

    x_other : x ≡ 0 → ⊥
    x_other z = let (i, l) = zero_init p.facts_v x z in omega (arith, l, deep e p w.from k sx lx (other i))

    y_other : y ≡ 0 → ⊥
    y_other z = let (i, l) = zero_init p.facts_u y z in omega (arith, l, deep e p w.from k sx lx (other (both_init e p w.from k sx lx ∙ i)), own_levels p k)
