-- What calls leave of processes and namespaces: a process never changes namespace, and a subtree falls with its init.
use Prim.Native.Nat.{ℕ, ◌<◌, zero, suc}
use mathlib.Core.Bool.{So, false≢true, Bool, true, false}
use mathlib.Core.Logic.{⊎_elim, ◌⊎◌, inl, inr}
use mathlib.Core.Path.{◌≡◌, refl, sym, ◌∙◌, subst, ap}
use borrow.Author.Tests.{eq-eqb, ne_eqb, eqb-true}
use Rattle.rules.proofs.Keeps.Birth.{with_born, birth_view}
use Rattle.rules.proofs.Keeps.Changes.{Change, ends, alters, turns, reaps, makes_namespace, change_sane, Run, start, more, run_sane, MayBear, Made, nothing_done, freed_after, altered, born, born_in_new, call_made, made_sound}
use Rattle.rules.proofs.Keeps.End.{end_view}
use Rattle.rules.proofs.Keeps.Freed.{freed_view, restrict, kept_root}
use Rattle.rules.proofs.Keeps.InitEnds.{gone, subtree_gone}
use Rattle.rules.proofs.Keeps.Premises as K
use Rattle.rules.proofs.Keeps.Puts.{reaped_view, new_namespace_view, lights_view}
use Rattle.rules.proofs.Keeps.Reap.{without}
use Rattle.rules.proofs.Laws.Below.{deep_namespace, not_root, up_level}
use Rattle.rules.proofs.Laws.Facts.{Taken, Lives, Other, lives_taken, not_ended, facts, Sane, sane, Facts, Stands, Below, Seen, seen_taken, seen_below}
use Rattle.rules.proofs.Laws.Slots.{alive_taken}
use Rattle.rules.proofs.Laws.Steps.{made_or_refused}
use Rattle.rules.proofs.Laws.Tests.{yes_or_no, same_or, isnt_so, choose, no_so, alive_unborn, dead_unborn, cases}
use Rattle.rules.proofs.Laws.Tree.{climb_cases}
use Rattle.rules.specs.Births.{birth}
use Rattle.rules.specs.Calls.{new_namespace}
use Rattle.rules.specs.Claims.{NamespaceFixed, NamespacesKept, SubtreeFalls}
use Rattle.rules.specs.Ends.{end}
use Rattle.rules.specs.Freeing.{freed, kept}
use Rattle.table.specs.Limits.{namespace_slots}
use Rattle.rules.specs.Pids.{free_namespace_slot, free_slot}
use Rattle.table.specs.Slots.{is_alive, is_dead, is_unborn, init_of}
use Rattle.rules.specs.Read.{View, is_init, taken, view, namespace_taken, alive, dead, unborn, init, below, climb, children}
use Rattle.rules.specs.Sound.{SoundTable, kept_end}
use Rattle.rules.specs.Step.{make}
use Rattle.table.specs.Tests.{when◌then◌else◌}
use Rattle.table.specs.declared.End.{End}
use Rattle.table.specs.declared.Life.TheVariants.{Unborn, Alive, Dead}
use Rattle.table.specs.declared.Life.{Life}
use Rattle.table.specs.declared.State.TheVariants.{Ended}
use Rattle.table.specs.declared.Table.{Table}

-- ---- a process never changes namespace

-- whoever is there after was there before, in the same namespace
abbrev pub Shrinks : View → View → Type 0
Shrinks v u = (i : ℕ) → Taken u i → Taken v i × (u.own i ≡ v.own i)

-- whoever was there before is there after, in the same namespace
abbrev pub Grows : View → View → Type 0
Grows v u = (i : ℕ) → Taken v i → Taken u i × (u.own i ≡ v.own i)

pub shrinks_trans : (a b c : View) → Shrinks a b → Shrinks b c → Shrinks a c
shrinks_trans a b c x y i t = let (p, q) = y i t in let (r, s) = x i p in (r, q ∙ s)

-- ---- each change

subtree_shrinks : (v : View) (n p : ℕ) (e : End) → Shrinks v (subtree_gone v n p e)
unfolding taken
subtree_shrinks v n p e i t = ⊎_elim (λ g. absurd (false≢true (rw g at t))) (λ g. (rw g at t, rw g)) (yes_or_no (gone v n i))

without_shrinks : (v : View) (d : ℕ) → Shrinks v (without v d)
unfolding taken
without_shrinks v d i t = ⊎_elim (λ x. absurd (false≢true (rw (eq-eqb i d x) at t))) (λ y. (rw y at t, rw y)) (same_or i d)

end_shrinks : (t : Table) (s : Sane t) (p : ℕ) (e : End) → Lives (view t) p → Other p → So (kept_end (Ended e)) → Shrinks (view t) (view (end t p e))
unfolding taken
end_shrinks t s p e l o ok = subst (Shrinks (view t)) (sym (end_view t s p e (lives_taken (view t) p l))) (choose (Shrinks (view t)) (is_init (view t) p) (λ i. subtree_shrinks (view t) ((view t).own p) p e) (λ i j x. (x, refl)))

-- no change but a birth adds a process or moves one
pub change_shrinks : (t u : Table) → Sane t → Change t u → Shrinks (view t) (view u)
unfolding taken
change_shrinks t u s (ends p e l o ok) = end_shrinks t s p e l o ok
change_shrinks t u s (alters c l x o k y fine) = subst (Shrinks (view t)) (sym (lights_view t s c l x o y (children (view t) c))) (λ j y. (y, refl))
change_shrinks t u s (turns c m l k) = subst (Shrinks (view t)) (sym (lights_view t s c l ((view t).state c) (isnt_so (not_ended (view t) c l)) ((view t).traits c) m)) (λ j y. (y, refl))
change_shrinks t u s (reaps d o) = subst (Shrinks (view t)) (sym (reaped_view t s d o)) (without_shrinks (view t) d)
change_shrinks t u s (makes_namespace c l a b) = subst (Shrinks (view t)) (sym (new_namespace_view t s.shape_of c (K.free_namespace_is (view t) b).0)) (λ j y. (y, refl))

pub freed_shrinks : (t : Table) → Sane t → Shrinks (view t) (view (freed t))
unfolding taken
freed_shrinks t s = subst (Shrinks (view t)) (sym (freed_view t s.shape_of)) (λ j y. (y, refl))

pub run_shrinks : (t u : Table) → Sane t → Run t u → Shrinks (view t) (view u)
run_shrinks t u s start = λ j y. (y, refl)
run_shrinks t u s (more {u = x} r c) = shrinks_trans (view t) (view x) (view u) (run_shrinks t x s r) (change_shrinks x u (run_sane t x s r) c)

born_grows : (v : View) (c n k : ℕ) → (Taken v k → ⊥) → Grows v (with_born v c n k)
unfolding taken
born_grows v c n k o i t = let e = ne_eqb i k (λ x. o (subst (Taken v) x t)) in (rw e t, rw e)

birth_grows : (t : Table) → Sane t → (c n : ℕ) → MayBear (view t) c n → Grows (view t) (view (birth t c n))
birth_grows t s c n m =
    let (low, free) = K.free_slot_is (view t) m.room in
    subst (Grows (view t)) (sym (birth_view t s.shape_of s.facts c n m.namespace low)) (born_grows (view t) c n (free_slot (view t)) free)

namespace_grows : (t : Table) → Sane t → (c : ℕ) → free_namespace_slot (view t) < namespace_slots → Grows (view t) (view (new_namespace t c))
unfolding taken
namespace_grows t s c l = subst (Grows (view t)) (sym (new_namespace_view t s.shape_of c l)) (λ i x. (x, refl))

pub made_fixed : (t u : Table) → SoundTable t → Made t u → (i : ℕ) → Taken (view t) i → Taken (view u) i → (view u).own i ≡ (view t).own i
made_fixed t u h nothing_done i x y = refl
made_fixed t u h (freed_after w r) i x y = (shrinks_trans (view t) (view w) (view u) (run_shrinks t w (sane t h) r) (freed_shrinks w (run_sane t w (sane t h) r)) i y).1
made_fixed t u h (altered c l z fine) i x y = (change_shrinks t u (sane t h) (alters c l ((view t).state c) (isnt_so (not_ended (view t) c l)) ((facts t h).ends_kept c (lives_taken (view t) c l)) z fine) i y).1
made_fixed t u h (born c n m) i x y = (birth_grows t (sane t h) c n m i x).1
made_fixed t u h (born_in_new c n k low m) i x y =
    let (z, e) = namespace_grows t (sane t h) c low i x in
    (birth_grows (new_namespace t c) (change_sane t (new_namespace t c) (sane t h) k) c n m i z).1 ∙ e

-- a process never changes namespace
pub namespace_fixed : NamespaceFixed
unfolding NamespaceFixed
namespace_fixed t c i call h x y = made_or_refused (λ u. Taken (view u) i → (view u).own i ≡ (view t).own i) t c call h (λ y. refl) (λ r. made_fixed t _ h (call_made t c h r call) i x) y

-- ---- a namespace's first process takes its whole subtree down

-- A namespace keeps its parent and its level, and one that has had an init keeps its condition or is dead.
abbrev pub Onward : View → View → ℕ → Type 0
Onward v u m = (u.up m ≡ v.up m) × (u.level m ≡ v.level m) × ((So (unborn v m) → ⊥) → (u.life m ≡ v.life m) ⊎ So (dead u m))

-- No namespace goes.
abbrev pub Stay : View → View → Type 0
Stay v u = (m : ℕ) → Stands v m → Stands u m × Onward v u m

onward_trans : (a b c : View) (m : ℕ) → Onward a b m → Onward b c m → Onward a c m
onward_trans a b c m x y = (y.0 ∙ x.0, y.1 ∙ x.1, λ o. ⊎_elim (λ e. kept_on o e) (λ d. ⊎_elim (λ e. inr (ap is_dead e ∙ d)) (λ e. inr e) (y.2 (dead_unborn (b.life m) d))) (x.2 o))
  where
    kept_on : (So (unborn a m) → ⊥) → b.life m ≡ a.life m → (c.life m ≡ a.life m) ⊎ So (dead c m)
    kept_on o e = ⊎_elim (λ d. inl (d ∙ e)) (λ d. inr d) (y.2 (λ q. o (ap is_unborn (sym e) ∙ q)))

pub stay_trans : (a b c : View) → Stay a b → Stay b c → Stay a c
stay_trans a b c x y m h = let (s, o) = x m h in let (r, q) = y m s in (r, onward_trans a b c m o q)

-- ---- each change

pub end_stays : (t : Table) (s : Sane t) (p : ℕ) (e : End) → Lives (view t) p → Stay (view t) (view (end t p e))
unfolding namespace_taken
end_stays t s p e lives =
    subst (Stay (view t)) (sym (end_view t s p e (lives_taken (view t) p lives)))
    (choose (Stay (view t)) (is_init (view t) p) (λ i m h. (h, (refl, refl, λ o. by (below (view t) m ((view t).own p)) ((view t).life m)))) (λ i m h. (h, (refl, refl, λ o. inl refl))))
  where
    by : (b : Bool) (l : Life) → ((when b then Dead else l) ≡ l) ⊎ So (is_dead (when b then Dead else l))
    by true l = inr refl
    by false l = inl refl

new_stays : (t : Table) → Sane t → (c : ℕ) → (free_namespace_slot (view t) ≡ namespace_slots → ⊥) → Stay (view t) (view (new_namespace t c))
unfolding namespace_taken
new_stays t s c room =
    let (low, free) = K.free_namespace_is (view t) room in
    subst (Stay (view t)) (sym (new_namespace_view t s.shape_of c low))
    (λ m h. let e = ne_eqb m (free_namespace_slot (view t)) (λ q. free (subst (Stands (view t)) q h)) in (rw e h, (rw e, rw e, λ o. inl (rw e))))

change_stays : (t u : Table) → Sane t → Change t u → Stay (view t) (view u)
unfolding namespace_taken
change_stays t u s (ends p e l o ok) = end_stays t s p e l
change_stays t u s (alters c l x o k y fine) = λ m h. (h, (refl, refl, λ o. inl refl))
change_stays t u s (turns c m l k) = λ m h. (h, (refl, refl, λ o. inl refl))
change_stays t u s (reaps d o) = λ m h. (h, (refl, refl, λ o. inl refl))
change_stays t u s (makes_namespace c l a b) = new_stays t s c b

run_stays : (t u : Table) → Sane t → Run t u → Stay (view t) (view u)
run_stays t u s start = λ m h. (h, (refl, refl, λ o. inl refl))
run_stays t u s (more {u = x} r c) = stay_trans (view t) (view x) (view u) (run_stays t x s r) (change_stays x u (run_sane t x s r) c)

birth_stays : (t : Table) → Sane t → (c n : ℕ) → MayBear (view t) c n → Stay (view t) (view (birth t c n))
unfolding namespace_taken
birth_stays t s c n m =
    subst (Stay (view t)) (sym (birth_view t s.shape_of s.facts c n m.namespace (K.free_slot_is (view t) m.room).0))
    (λ a h. (h, (refl, refl, λ o. inl (by (below (view t) n a) ((view t).life a) o))))
  where
    by : (b : Bool) (l : Life) → (So (is_unborn l) → ⊥) → (when b then (when is_unborn l then Alive (record { 0 = free_slot (view t) }) else l) else l) ≡ l
    by false l o = refl
    by true Unborn o = absurd (o refl)
    by true (Alive i) o = refl
    by true Dead o = refl

-- what is not freed is as it was
freed_onward : (t : Table) → Sane t → (m : ℕ) → Stands (view (freed t)) m → Onward (view t) (view (freed t)) m
unfolding namespace_taken
freed_onward t s m h = subst (λ u. Onward (view t) u m) (sym e) (go (kept (view t) m) refl)
  where
    e : view (freed t) ≡ restrict (kept (view t)) (view t)
    e = freed_view t s.shape_of

    go : (b : Bool) → kept (view t) m ≡ b → Onward (view t) (restrict (kept (view t)) (view t)) m
    go true k = (rw k, rw k, λ o. inl (rw k))
    go false k =
        let g : Stands (restrict (kept (view t)) (view t)) m = subst (λ u. Stands u m) e h in
        ⊎_elim
        (λ z. absurd (no_so k (subst (λ x. So (kept (view t) x)) (sym (eqb-true m 0 z)) (kept_root (view t) s.facts))))
        (λ z. absurd (false≢true (rw k at z)))
        (cases _ _ g)

-- a namespace that is there before and after a call is the same
made_onward : (t u : Table) → SoundTable t → Made t u → (m : ℕ) → Stands (view t) m → Stands (view u) m → Onward (view t) (view u) m
made_onward t u h nothing_done m a b = (refl, refl, λ o. inl refl)
made_onward t u h (freed_after w r) m a b = onward_trans (view t) (view w) (view u) m (run_stays t w (sane t h) r m a).1 (freed_onward w (run_sane t w (sane t h) r) m b)
made_onward t u h (altered c l x fine) m a b = (refl, refl, λ o. inl refl)
made_onward t u h (born c n k) m a b = (birth_stays t (sane t h) c n k m a).1
made_onward t u h (born_in_new c n k low q) m a b =
    let s = sane t h in
    (stay_trans (view t) (view (new_namespace t c)) (view u) (change_stays t (new_namespace t c) s k) (birth_stays (new_namespace t c) (change_sane t (new_namespace t c) s k) c n q) m a).1

-- so it keeps its parent and level, and its condition but to die
pub namespaces_kept : NamespacesKept
unfolding NamespacesKept
namespaces_kept t c m call h a =
    made_or_refused (λ u. Stands (view u) m → Onward (view t) (view u) m) t c call h (λ b. (refl, refl, λ o. inl refl)) (λ r b. made_onward t _ h (call_made t c h r call) m a b)

-- ---- the subtree

module _ (v u : View) (f : Facts v) (g : Facts u) (n : ℕ) (onward : (m : ℕ) → Stands v m → Stands u m → Onward v u m) (fixed : (i : ℕ) → Taken v i → Taken u i → u.own i ≡ v.own i) (a : So (alive v n)) (fell : Lives u (init v n) → ⊥) where
  -- the namespace itself is dead or freed
  top_dead : Stands u n → So (dead u n)
  top_dead s = ⊎_elim (λ e. absurd (fell (subst (Lives u) (ap init_of e) (g.inits n s (ap is_alive e ∙ a)).0))) (λ d. d) ((onward n (alive_taken v f n a) s).2 (alive_unborn (v.life n) a))

  -- and so is each below it, from parent to child
  all_dead : (k m : ℕ) → v.level m ≡ k → So (climb v.up k m n) → Stands u m → So (dead u m)
  unfolding climb
  all_dead zero m e h s = subst (λ x. So (dead u x)) (sym (eqb-true m n h)) (top_dead (subst (Stands u) (eqb-true m n h) s))
  all_dead (suc k) m e h s =
      ⊎_elim
      (λ q. subst (λ x. So (dead u x)) (sym q) (top_dead (subst (Stands u) q s)))
      (λ r.
      let here = deep_namespace v m k e in
      let other = not_root v f m k e in
      let up = (onward m here s).0 in
      let above = all_dead k (v.up m) (up_level v f m k e) r (subst (Stands u) up (g.tree m s other).0.0) in
      g.below_dead m s other (subst (λ x. So (dead u x)) (sym up) above))
      (climb_cases v.up k m n h)

  -- each namespace of the subtree is dead or freed
  pub namespaces_fall : (m : ℕ) → Below v m n → Stands u m → So (dead u m)
  unfolding below
  namespaces_fall m h s = all_dead (v.level m) m refl h s

  -- each process of it is ended or removed
  pub processes_fall : (i : ℕ) → Seen v n i → Lives u i → ⊥
  processes_fall i h l =
      let t = lives_taken u i l in
      let e = fixed i (seen_taken v n i h) t in
      let s = (g.members i t).0 in
      not_ended u i l (s.1 (namespaces_fall (u.own i) (subst (λ x. Below v x n) (sym e) (seen_below v n i h)) s.0))

-- a namespace's first process takes its subtree down
pub subtree_falls : SubtreeFalls
unfolding SubtreeFalls
subtree_falls t c n call h a =
    made_or_refused
    (λ u. (Lives (view u) (init (view t) n) → ⊥) → ((i : ℕ) → Seen (view t) n i → Lives (view u) i → ⊥) × ((m : ℕ) → Below (view t) m n → Stands (view u) m → So (dead (view u) m)))
    t c call h (λ fell. absurd (fell (f.inits n (alive_taken (view t) f n a) a).0))
    (λ r fell.
    let m = call_made t c h r call in
    let u = view (make t c call).table in
    let g = facts _ (made_sound t _ h m) in
    (processes_fall (view t) u f g n (made_onward t _ h m) (made_fixed t _ h m) a fell, namespaces_fall (view t) u f g n (made_onward t _ h m) (made_fixed t _ h m) a fell))
  where
    f : Facts (view t)
    f = facts t h
