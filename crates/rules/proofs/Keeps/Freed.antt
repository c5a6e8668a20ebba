-- Freeing namespaces restores soundness.
use Prim.Native.Nat.{ℕ, zero, suc, ◌<◌, ◌≤◌}
use native.Mathlib.Omega.{arith}
use mathlib.Core.Bool.{Bool, true, false, not, So, false≢true}
use mathlib.Core.Logic.{◌⊎◌, inl, inr, ⊎_elim}
use mathlib.Core.Path.{◌≡◌, refl, sym, ◌∙◌, ap, subst}
use borrow.Author.Tests.{eq-eqb, eqb-true}
use lib.Dec.{eqb, leb}
use Rattle.rules.proofs.Keeps.Changed.{changed_at, namespace_count, view_changed, shaped_changed}
use Rattle.rules.proofs.Laws.Below.{below_trans, below_up, last_step, below_hold, up_level, not_root, deep_namespace}
use Rattle.rules.proofs.Laws.Facts.{Holder, root, member, holder, child, Facts, Held, Holds, Taken, Stands, Lives, Below, Seen, Other, sound_from}
use Rattle.rules.proofs.Laws.Tests.{alive_unborn, not_iff, or_iff, left, right, both, cases, or_left, or_right, any_elim, any_intro}
use Rattle.rules.proofs.Laws.Tree.{below_refl}
use Rattle.rules.specs.Freeing.{kept, freed}
use Rattle.table.specs.Fresh.{empty_namespace}
use Rattle.table.specs.Limits.{greatest_pid, hold_slots, namespace_slots}
use Rattle.table.specs.Slots.{init_of, is_alive, is_dead, is_unborn, namespace, no_namespace}
use Rattle.rules.specs.Read.{View, alive, below, climb, living, namespace_taken, pid_seen, seen, taken, unborn, view, children}
use Rattle.rules.specs.Sound.{zero_namespace, zero_process, SoundTable, shaped}
use Rattle.table.specs.Tests.{◌and◌, ◌or◌, when◌then◌else◌}
use Rattle.table.specs.declared.Life.TheVariants.{Unborn}
use Rattle.table.specs.declared.Namespace.{Namespace}
use Rattle.table.specs.declared.Table.{Table}

-- ---- who is kept

-- the process at i holds one in the subtree of n
abbrev HoldsBelow : View → ℕ → ℕ → Type 0
HoldsBelow v i n = (k : ℕ) × (k < hold_slots) × Below v (v.hold i k) n

module _ (v : View) (p : Facts v) where
  -- what is kept: the root, and what somebody holds in the subtree
  pub kept_cases : (n : ℕ) → So (kept v n) → (n ≡ 0) ⊎ ((i : ℕ) × Taken v i × (Below v (v.own i) n ⊎ HoldsBelow v i n))
  unfolding kept
  kept_cases n h =
      ⊎_elim (λ z. inl (eqb-true n 0 z)) (λ a. let (i, l, k) = any_elim _ _ a in inr (i, left _ _ k, ⊎_elim inl (λ b. inr (any_elim _ _ b)) (cases _ _ (right _ _ k)))) (cases _ _ h)

  pub kept_by : (n i : ℕ) → Taken v i → Below v (v.own i) n ⊎ HoldsBelow v i n → So (kept v n)
  unfolding kept
  kept_by n i t b = (or_iff _ _).1 (λ z. any_intro _ _ i (p.in_range i t) (both _ _ t (⊎_elim (or_left _ _) (λ (k, l, h). or_right _ _ (any_intro _ _ k l h)) b)))

  pub kept_root : So (kept v 0)
  unfolding kept
  kept_root = or_left _ _ (eq-eqb 0 0 refl)

  pub kept_own : (i : ℕ) → Taken v i → So (kept v (v.own i))
  kept_own i t = kept_by _ i t (inl (below_refl v _))

  pub kept_hold : (i : ℕ) → Taken v i → (k : ℕ) → k < hold_slots → So (kept v (v.hold i k))
  kept_hold i t k l = kept_by _ i t (inr (k, l, below_refl v _))

  pub kept_children : (i : ℕ) → Taken v i → So (kept v (children v i))
  kept_children i t = kept_hold i t 0 (omega arith)

  pub kept_up : (n : ℕ) → Stands v n → Other n → So (kept v n) → So (kept v (v.up n))
  kept_up n s o h =
      ⊎_elim (λ z. absurd (o z))
      (λ (i, t, b). kept_by _ i t (⊎_elim (λ x. inl (below_trans v p _ n _ x step)) (λ (k, l, x). inr (k, l, below_trans v p _ n _ x step)) b))
      (kept_cases n h)
    where
      step : Below v n (v.up n)
      step = below_up v p n s o (v.up n) (below_refl v _)

-- ---- a table with only some of its namespaces

abbrev pub restrict : (ℕ → Bool) → View → View
restrict k v =
    record {
      own = v.own;
      hold = v.hold;
      parent = v.parent;
      state = v.state;
      ended = v.ended;
      traits = v.traits;
      pid = v.pid;
      up = λ n. when k n then v.up n else 0;
      level = λ n. when k n then v.level n else 0;
      last = λ n. when k n then v.last n else 0;
      life = λ n. when k n then v.life n else Unborn;
    }

module _ (v : View) (p : Facts v) where
  abbrev w : View
  w = restrict (kept v) v

  at : {A : Type 0} (n : ℕ) → So (kept v n) → (x y : A) → (when kept v n then x else y) ≡ x
  at n k x y = rw k

  up_at : (n : ℕ) → So (kept v n) → w.up n ≡ v.up n
  up_at n k = at n k _ _

  level_at : (n : ℕ) → So (kept v n) → w.level n ≡ v.level n
  level_at n k = at n k _ _

  last_at : (n : ℕ) → So (kept v n) → w.last n ≡ v.last n
  last_at n k = at n k _ _

  life_at : (n : ℕ) → So (kept v n) → w.life n ≡ v.life n
  life_at n k = at n k _ _

  stays : (n : ℕ) → So (kept v n) → Stands v n → Stands w n
  unfolding namespace_taken
  stays n k h = ap (λ l. eqb n 0 or not (eqb l 0)) (level_at n k) ∙ h

  stayed : (n : ℕ) → Stands w n → So (kept v n) × Stands v n
  unfolding namespace_taken
  stayed n h = go (kept v n) refl
    where
      go : (b : Bool) → kept v n ≡ b → So (kept v n) × Stands v n
      go true e = (e, sym (ap (λ l. eqb n 0 or not (eqb l 0)) (level_at n e)) ∙ h)
      go false e =
          ⊎_elim (λ z. absurd (false≢true (sym e ∙ subst (λ m. So (kept v m)) (sym (eqb-true n 0 z)) (kept_root v p)))) (λ x. absurd ((not_iff (eqb (w.level n) 0)).0 x (eq-eqb (w.level n) 0 (rw e))))
          (cases _ _ h)

  climb_at : (k a b : ℕ) → v.level a ≡ k → So (kept v a) → climb w.up k a b ≡ climb v.up k a b
  unfolding climb
  climb_at zero a b e h = refl
  climb_at (suc k) a b e h =
      let s = deep_namespace v a k e in
      let o = not_root v p a k e in
      ap (λ x. elim (eqb a b) as (λ z. Bool) [ true ↦ true | false ↦ climb w.up k x b ]) (up_at a h)
      ∙ ap (λ x. elim (eqb a b) as (λ z. Bool) [ true ↦ true | false ↦ x ]) (climb_at k (v.up a) b (up_level v p a k e) (kept_up v p a s o h))

  below_at : (a b : ℕ) → So (kept v a) → below w a b ≡ below v a b
  unfolding below
  below_at a b h = ap (λ k. climb w.up k a b) (level_at a h) ∙ climb_at (v.level a) a b refl h

  -- what is seen is seen as before
  was_seen : (n i : ℕ) → Seen w n i → Seen v n i
  unfolding seen taken
  was_seen n i h = both _ _ (left _ _ h) (sym (below_at (v.own i) n (kept_own v p i (left _ _ h))) ∙ right _ _ h)

  same_pid : (n i : ℕ) → So (kept v n) → pid_seen w n i ≡ pid_seen v n i
  unfolding pid_seen
  same_pid n i k = ap (v.pid i) (level_at n k)

  zeroed : (n : ℕ) → (Stands w n → ⊥) → (b : Bool) → kept v n ≡ b → So (zero_namespace w n)
  unfolding zero_namespace
  zeroed n o true e = rw e (p.empty_namespace n (λ s. o (stays n e s)))
  zeroed n o false e = rw e (both _ _ (both _ _ (both _ _ refl refl) refl) refl)

  -- freeing keeps the facts and restores that each namespace is held
  pub freed_facts : Facts w
  unfolding taken living zero_process pid_seen
  freed_facts =
      record {
        ended_is = p.ended_is;
        in_range = p.in_range;
        in_namespace = λ n s. p.in_namespace n (stayed n s).1;
        root_init = ap init_of (life_at 0 top) ∙ p.root_init;
        root_lives = p.root_lives;
        root_own = p.root_own;
        root_pid = p.root_pid;
        root_parent = p.root_parent;
        root_alive = ap is_alive (life_at 0 top) ∙ p.root_alive;
        root_level = level_at 0 top ∙ p.root_level;
        root_up = up_at 0 top ∙ p.root_up;
        inits = λ n s a. let (k, t) = stayed n s in subst (λ x. Lives v (init_of x) × (v.own (init_of x) ≡ n)) (sym (life_at n k)) (p.inits n t (sym (ap is_alive (life_at n k)) ∙ a));
        empty_process = p.empty_process;
        empty_namespace = λ n o. zeroed n o (kept v n) refl;
        tree = λ n s o. let (k, t) = stayed n s in let ((x, e), d) = p.tree n t o in let u = kept_up v p n t o k in ((subst (Stands w) (sym (up_at n k)) (stays _ u x), level_at n k ∙ e ∙ ap suc (sym (ap w.level (up_at n k) ∙ level_at _ u))), omega (arith, level_at n k));
        below_dead = λ n s o d. let (k, t) = stayed n s in ap is_dead (life_at n k) ∙ p.below_dead n t o (sym (ap (λ m. is_dead (w.life m)) (up_at n k) ∙ ap is_dead (life_at _ (kept_up v p n t o k))) ∙ d);
        unborn_last = λ n s u. let (k, t) = stayed n s in last_at n k ∙ p.unborn_last n t (was_unborn n k u);
        unborn_empty = λ n s u. let (k, t) = stayed n s in p.unborn_empty n t (was_unborn n k u);
        unborn_leaf = λ n s u m x o e. let (k, t) = stayed n s in let (j, y) = stayed m x in p.unborn_leaf n t (was_unborn n k u) m y o (sym (up_at m j) ∙ e);
        unborn_own = λ n s u i x e. let (k, t) = stayed n s in p.unborn_own n t (was_unborn n k u) i x e ∙ sym (up_at n k);
        unborn_one = λ n s u. let (k, t) = stayed n s in p.unborn_one n t (was_unborn n k u);
        last_pids = λ n l. low n (kept v n) (p.last_pids n l);
        pid_range = λ i t l b. subst (λ x. So (when leb l x then leb 1 (v.pid i l) and leb (v.pid i l) greatest_pid else eqb (v.pid i l) 0)) (sym (level_at _ (kept_own v p i t))) (p.pid_range i t l b);
        differ = λ n s i j a b e. let (k, t) = stayed n s in p.differ n t i j (was_seen n i a) (was_seen n j b) (sym (same_pid n i k) ∙ e ∙ same_pid n j k);
        first = λ n s a i b. let (k, t) = stayed n s in let (f, g) = p.first n t (sym (ap is_alive (life_at n k)) ∙ a) i (was_seen n i b) in (λ e. f (sym (same_pid n i k) ∙ e) ∙ sym (ap init_of (life_at n k)), λ e. same_pid n i k ∙ g (e ∙ ap init_of (life_at n k)));
        members = λ i t. let k = kept_own v p i t in let ((s, d), u) = p.members i t in ((stays _ k s, λ x. d (sym (ap is_dead (life_at _ k)) ∙ x)), λ x. u (was_unborn _ k x));
        parents = λ i t o. let ((a, b), r) = p.parents i t o in ((a, below_at _ _ (kept_own v p i t) ∙ b), r);
        first_parents = λ i t o e. let k = kept_own v p i t in p.first_parents i t o (sym (same_pid _ i k) ∙ e) ∙ sym (up_at _ k);
        children = λ i t a. let (s, b) = p.children i t a in let k = kept_children v p i t in (stays _ k s, below_at _ _ k ∙ b);
        traits = p.traits;
        ended_holds = p.ended_holds;
        ended_traits = p.ended_traits;
        ends_kept = p.ends_kept;
      }
    where
      low : (n : ℕ) (b : Bool) → v.last n ≤ greatest_pid → (when b then v.last n else 0) ≤ greatest_pid
      low n true h = h
      low n false h = omega arith

      top : So (kept v 0)
      top = kept_root v p

      was_unborn : (n : ℕ) → So (kept v n) → So (unborn w n) → So (unborn v n)
      was_unborn n k u = sym (ap is_unborn (life_at n k)) ∙ u

  -- a child of n at or above a, where a process has a for own or holds it, stays
  child_stays : (n m i a : ℕ) → Taken v i → (v.own i ≡ a) ⊎ Holds v i a → Stands v m → Other m → v.up m ≡ n → Below v a m → Holder w n
  child_stays n m i a t c s o e b =
      let k : So (kept v m) = kept_by v p m i t (⊎_elim (λ q. inl (subst (λ x. Below v x m) (sym q) b)) (λ (j, l, q). inr (j, l, subst (λ x. Below v x m) (sym q) b)) c) in
      child m (stays m k s) o (up_at m k ∙ e)

  pub freed_held : Held w
  unfolding taken
  freed_held =
      record {
        holder = λ n s u.
            let (k, t) = stayed n s in
            let born : So (unborn v n) = sym (ap is_unborn (life_at n k)) ∙ u in
            ⊎_elim (λ z. absurd (alive_unborn (v.life n) (subst (λ m. So (alive v m)) (sym z) p.root_alive) born))
            (λ (i, x, b). ⊎_elim
            (λ c. ⊎_elim (λ q. absurd (p.unborn_empty n t born i x q)) (λ (m, y, o, e, d). absurd (p.unborn_leaf n t born m y o e)) (last_step v p _ n (p.members i x).0.0 c))
            (λ (j, l, c). ⊎_elim (λ q. (i, x, (j, l, q))) (λ (m, y, o, e, d). absurd (p.unborn_leaf n t born m y o e)) (last_step v p _ n (below_hold v p i n j x t l c) c)) b)
            (kept_cases v p n k);
        held_by = λ n s.
            let (k, t) = stayed n s in
            ⊎_elim root
            (λ (i, x, b). ⊎_elim
            (λ c. ⊎_elim (member i x) (λ (m, y, o, e, d). child_stays n m i _ x (inl refl) y o e d) (last_step v p _ n (p.members i x).0.0 c))
            (λ (j, l, c). ⊎_elim (λ q. holder i x (j, l, q)) (λ (m, y, o, e, d). child_stays n m i _ x (inr (j, l, refl)) y o e d) (last_step v p _ n (below_hold v p i n j x t l c) c)) b)
            (kept_cases v p n k);
      }

-- ---- a table with the facts is sound once freed

-- past the last slot there is nothing to free
none_freed : (b : Bool) → (when b then no_namespace else empty_namespace) ≡ no_namespace
none_freed true = refl
none_freed false = refl

-- what stands at a slot then
pub freed_space : (t : Table) → So (shaped t) → (n : ℕ) → namespace (freed t) n ≡ (when kept (view t) n then namespace t n else empty_namespace)
unfolding freed
freed_space t h =
    changed_at (λ n s. when kept (view t) n then s else empty_namespace) no_namespace namespace_slots t.namespaces (namespace_count t h)
    (λ n l. none_freed (kept (view t) n))

-- what is read then
pub freed_view : (t : Table) → So (shaped t) → view (freed t) ≡ restrict (kept (view t)) (view t)
unfolding freed
freed_view t h =
    view_changed t (λ i p. p) (λ n s. when kept (view t) n then s else empty_namespace) h (λ i l. refl) (λ n l. none_freed (kept (view t) n))
    ∙ (λ i. record {
      own = (view t).own;
      hold = (view t).hold;
      parent = (view t).parent;
      state = (view t).state;
      ended = (view t).ended;
      traits = (view t).traits;
      pid = (view t).pid;
      up = λ n. read (λ s. s.parent.0) (kept (view t) n) (namespace t n) i;
      level = λ n. read (λ s. s.level) (kept (view t) n) (namespace t n) i;
      last = λ n. read (λ s. s.last.0) (kept (view t) n) (namespace t n) i;
      life = λ n. read (λ s. s.life) (kept (view t) n) (namespace t n) i;
    })
  where
    read : {B : Type 0} (g : Namespace → B) (b : Bool) (s : Namespace) → g (when b then s else empty_namespace) ≡ (when b then g s else g empty_namespace)
    read g true s = refl
    read g false s = refl

-- so the table is sound
pub freed_keeps : (t : Table) → So (shaped t) → Facts (view t) → SoundTable (freed t)
unfolding freed
freed_keeps t h p =
    sound_from (freed t) (shaped_changed t (λ i p. p) (λ n s. when kept (view t) n then s else empty_namespace) h (λ i q k. k))
    (subst Facts (sym (freed_view t h)) (freed_facts (view t) p)) (subst Held (sym (freed_view t h)) (freed_held (view t) p))
