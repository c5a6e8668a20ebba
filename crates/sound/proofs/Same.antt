-- The quick way says what soundness says.
use Prim.Native.Nat.{ℕ, zero, suc, ◌+◌, ◌*◌, ◌-◌, ◌<◌, ◌≤◌}
use native.Mathlib.Decide.{dec_lt, ℕ_discrete}
use native.Mathlib.Omega.{arith}
use mathlib.Core.Bool.{Bool, true, false, So, false≢true}
use mathlib.Core.Logic.{◌⊎◌, inl, inr, ⊎_elim}
use mathlib.Core.Path.{◌≡◌, refl, sym, ◌∙◌, ap, subst}
use borrow.Author.Tests.{eq-eqb, ne_eqb, eqb-true, leb-true, le-leb, lt-ltb, le-ltb}
use lib.Dec.{eqb, leb}
use Rattle.table.proofs.Chains.{by_bool, pick_yes, pick_no}
use Rattle.rules.proofs.Laws.Below as Below
use Rattle.rules.proofs.Laws.Clauses.{sound_is, is_sound}
use Rattle.rules.proofs.Laws.Facts.{Facts, Held, Holder, root, member, for_children, child, Past, Taken, Stands, Lives, Seen, Other, pid_ok, facts_of, held_of, is_sound_view, lives_taken, not_ended, is_living, seen_taken, seen_below, is_seen, holder_of, is_held, held_namespace, zero_of, holds_children, ended_children, Holds, holder}
use Rattle.rules.proofs.Laws.Tests.{tests, and_iff, not_iff, left, right, both, cases, all_intro, all_elim}
use Rattle.rules.proofs.Laws.Reach.{reach_zero, reach_step}
use Rattle.rules.proofs.Laws.Tree.{Stepwise, below_refl, climb_cases}
use Rattle.table.specs.Limits.{process_slots, namespace_slots, levels, deepest, greatest_pid, pid_values, no_slot}
use Rattle.table.specs.Slots.{is_alive, is_unborn}
use Rattle.rules.specs.Read.{View, taken, namespace_taken, alive, dead, unborn, init, below, climb, above_at, up_by, pid_seen, children}
use Rattle.rules.specs.Sound.{sound_view, zero_process, zero_namespace, reaches_root, kept_end, held}
use Rattle.rules.specs.Sound as S
use Rattle.table.specs.Tests.{◌and◌, when◌then◌else◌, all}
use Rattle.table.specs.declared.Life.{Life}
use Rattle.table.specs.declared.Life.TheVariants.{Unborn, Alive, Dead}
use Rattle.table.specs.Traits.{traits_ok, bare_traits}
use Rattle.sound.specs.Quick as Q
use Rattle.sound.specs.Quick.{quick, process_at, namespace_at, top, pid_keys, unborn_keys}
use Rattle.rules.proofs.Laws.OneHold.{zero_one, only_children}
use Rattle.rules.proofs.Laws.Holds.{each_index}
use Rattle.tree.specs.Tree.{is_blank_namespace}

-- ---- keys

-- a number at a level up to the own one, or none beyond
pid_cases : (v : View) (i l : ℕ) → pid_ok v i l → (v.pid i l ≡ 0) ⊎ ((l ≤ v.level (v.own i)) × (v.pid i l ≤ greatest_pid))
pid_cases v i l h = go (leb l (v.level (v.own i))) refl h
  where
    go : (b : Bool) → leb l (v.level (v.own i)) ≡ b → So (when b then leb 1 (v.pid i l) and leb (v.pid i l) greatest_pid else eqb (v.pid i l) 0) → (v.pid i l ≡ 0) ⊎ ((l ≤ v.level (v.own i)) × (v.pid i l ≤ greatest_pid))
    go true e h = inr (leb-true l _ e, leb-true _ _ (right _ _ h))
    go false e h = inl (eqb-true _ 0 h)

-- a step up from the last of some steps is one step more
one_more : (up : ℕ → ℕ) (m n : ℕ) → up (up_by up m n) ≡ up_by up (suc m) n
unfolding up_by
one_more up zero n = refl
one_more up (suc m) n = one_more up m (up n)

-- what k turns make of a namespace
top_by : (up level : ℕ → ℕ) (n : ℕ) → n < namespace_slots → level n ≤ deepest → (k : ℕ) → k ≤ levels → top up level k n ≡ up_by up (level n - (levels - k)) n
unfolding top Q.itself Q.raised up_by
top_by up level n b l zero h =
    let z : level n - levels ≡ 0 = omega arith in
    pick_yes _ n 0 (lt-ltb n namespace_slots b) ∙ sym (ap (λ d. up_by up d n) z)
top_by up level n b l (suc k) h = go (dec_lt (deepest - k) (level n)) (top_by up level n b l k (omega arith))
  where
    go : Dec (deepest - k < level n) → top up level k n ≡ up_by up (level n - (levels - k)) n → top up level (suc k) n ≡ up_by up (level n - (levels - suc k)) n
    go (yes q) e =
        let z : suc (level n - (levels - k)) ≡ level n - (levels - suc k) = omega arith in
        pick_yes _ (up (top up level k n)) (top up level k n) (lt-ltb _ _ q) ∙ ap up e
        ∙ one_more up (level n - (levels - k)) n ∙ ap (λ d. up_by up d n) z
    go (no o) e =
        let m : level n ≤ deepest - k = omega arith in
        let z : level n - (levels - k) ≡ level n - (levels - suc k) = omega arith in
        pick_no _ (up (top up level k n)) (top up level k n) (le-ltb (deepest - k) (level n) m) ∙ e ∙ ap (λ d. up_by up d n) z

-- the namespace at the level l
top_is : (v : View) (n k l : ℕ) → n < namespace_slots → v.level n ≤ deepest → k < levels → deepest - k ≡ l → top v.up v.level (suc k) n ≡ above_at v n l
unfolding above_at
top_is v n k l b h c e =
    let z : levels - suc k ≡ l = omega arith in
    top_by v.up v.level n b h (suc k) (omega arith) ∙ ap (λ d. up_by v.up (v.level n - d) n) z

-- a key that is not 0 is made of a number that is not
key_is : (v : View) (k l i : ℕ) → deepest - k ≡ l → ((v.pid i l ≡ 0) × (pid_keys v k i ≡ 0)) ⊎ ((v.pid i l ≡ 0 → ⊥) × (pid_keys v k i ≡ top v.up v.level (suc k) (v.own i) * pid_values + v.pid i l))
unfolding Q.pid_key
key_is v k l i q = subst (λ l. ((v.pid i l ≡ 0) × (pid_keys v k i ≡ 0)) ⊎ ((v.pid i l ≡ 0 → ⊥) × (pid_keys v k i ≡ top v.up v.level (suc k) (v.own i) * pid_values + v.pid i l))) q (go (ℕ_discrete (v.pid i (deepest - k)) 0))
  where
    go : Dec (v.pid i (deepest - k) ≡ 0) → ((v.pid i (deepest - k) ≡ 0) × (pid_keys v k i ≡ 0)) ⊎ ((v.pid i (deepest - k) ≡ 0 → ⊥) × (pid_keys v k i ≡ top v.up v.level (suc k) (v.own i) * pid_values + v.pid i (deepest - k)))
    go (yes z) = inl (z, pick_yes _ _ _ (eq-eqb _ 0 z))
    go (no o) = inr (o, pick_no _ _ _ (ne_eqb _ 0 o))

-- the unborn namespace that a process holds, or 0
HoldsUnborn : View → ℕ → Type 0
HoldsUnborn v i = ((Taken v i × Stands v (children v i)) × So (unborn v (children v i))) × (unborn_keys v i ≡ children v i)

unborn_key_is : (v : View) (i : ℕ) → (unborn_keys v i ≡ 0) ⊎ HoldsUnborn v i
unfolding Q.unborn_key HoldsUnborn
unborn_key_is v i =
    by_bool (taken v i and namespace_taken v (children v i) and unborn v (children v i))
    (λ e. inr ((simp and_iff at e), pick_yes _ _ _ e))
    (λ e. inl (pick_no _ _ _ e))

is_unborn_key : (v : View) (i : ℕ) → Taken v i → Stands v (children v i) → So (unborn v (children v i)) → unborn_keys v i ≡ children v i
unfolding Q.unborn_key
is_unborn_key v i t s u = pick_yes _ _ _ (both _ _ (both _ _ t s) u)

-- ---- empty slots

blank_is : (v : View) (i : ℕ) → Q.blank (process_at v i) ≡ zero_process v i
unfolding Q.blank
blank_is v i = sym (zero_one v i)

blank_namespace_is : (v : View) (n : ℕ) → Q.blank_namespace (namespace_at v n) ≡ zero_namespace v n
unfolding Q.blank_namespace is_blank_namespace zero_namespace
blank_namespace_is v n = refl

-- a living namespace is not unborn
alive_unborn : (x : Life) → So (is_alive x) → So (is_unborn x) → ⊥
alive_unborn Unborn a u = false≢true a
alive_unborn (Alive i) a u = false≢true u
alive_unborn Dead a u = false≢true u

-- ---- from soundness

module _ (v : View) (p : Facts v) (h : Held v) where
  -- what a process holds for its children, if it is unborn, lies right below its own namespace
  process_fits : (i : ℕ) → So (Q.process_ok v.up i (process_at v i) (namespace_at v (v.own i)) (namespace_at v (children v i)) (process_at v (v.parent i)))
  unfolding Q.process_ok Q.member_ok Q.parent_ok Q.state_ok Q.ended_ok Q.living_ok Q.pids_ok below pid_seen
  process_fits i =
      simp tests (
        λ t. (
          (
            (((((p.members i t).0.0, (p.members i t).1), p.ends_kept i t), p.traits i t), p.pid_range i t),
            (
              λ e. (ended_children v p i t e, p.ended_traits i t e),
              λ o. let c = p.children i t (is_living v i t o) in (((λ d. o ((p.members i t).0.1 d), c.0), c.1), λ u. p.unborn_own (children v i) c.0 u i t (holds_children v i)),
            ),
          ),
          λ o. let q = p.parents i t o in (((lives_taken v _ q.0.0, not_ended v _ q.0.0), q.0.1), p.first_parents i t o),
        ),
        λ o. blank_is v i ∙ p.empty_process i o,
      )

  init_seen : (n : ℕ) → Stands v n → So (alive v n) → Seen v n (init v n)
  init_seen n s a = is_seen v n _ (lives_taken v _ (p.inits n s a).0) (subst (λ m. So (below v m n)) (sym (p.inits n s a).1) (below_refl v n))

  namespace_fits : (n : ℕ) → n < namespace_slots → So (Q.namespace_ok n (held v n) (namespace_at v n) (namespace_at v (v.up n)) (process_at v (init v n)))
  unfolding Q.namespace_ok Q.filled_ok Q.life_ok Q.init_ok Q.place_ok pid_seen
  namespace_fits n l =
      simp tests (
        (p.last_pids n l, (λ s. is_held v p n (h.held_by n s), λ x. held_namespace v p n l (holder_of v n x))),
        (
          λ s. (
            (
              λ a. let q = p.inits n s a in (((lives_taken v _ q.0, not_ended v _ q.0), q.1), (p.first n s a _ (init_seen n s a)).1 refl),
              λ a. p.unborn_last n s,
            ),
            λ o. let q = p.tree n s o in ((q, λ u. p.unborn_leaf (v.up n) q.0.0 u n s o refl), p.below_dead n s o),
          ),
          λ o. blank_namespace_is v n ∙ p.empty_namespace n o,
        ),
      )

  -- no two processes hold the same unborn namespace
  holders_fit : So (Q.differ (unborn_keys v))
  unfolding Q.differ HoldsUnborn
  holders_fit =
      simp tests (λ i b o j d e.
      ⊎_elim (λ z. o z)
      (λ hi. ⊎_elim (λ z. o (sym e ∙ z))
      (λ hj.
      let same : children v j ≡ children v i = sym hj.1 ∙ e ∙ hi.1 in
      let q : j ≡ i = p.unborn_one (children v i) hi.0.0.1 hi.0.1 j i hj.0.0.0 (for_children v j _ same) hi.0.0.0 (holds_children v i) in
      omega arith)
      (unborn_key_is v j))
      (unborn_key_is v i))

  -- whose number at a level is not 0 is a process, and the level is its own or above
  has_pid : (l i : ℕ) → l < levels → (v.pid i l ≡ 0 → ⊥) → Taken v i × (l ≤ v.level (v.own i)) × (v.pid i l ≤ greatest_pid)
  unfolding zero_process
  has_pid l i b o = go (taken v i) refl
    where
      go : (k : Bool) → taken v i ≡ k → Taken v i × (l ≤ v.level (v.own i)) × (v.pid i l ≤ greatest_pid)
      go true t = ⊎_elim (λ z. absurd (o z)) (λ q. (t, q.0, q.1)) (pid_cases v i l (p.pid_range i t l b))
      go false e = absurd (o (eqb-true _ 0 (all_elim _ _ (right _ _ (p.empty_process i (λ t. false≢true (sym e ∙ t)))) l b)))

  low_level_of : (n : ℕ) → Stands v n → v.level n ≤ deepest
  low_level_of n s = go (ℕ_discrete n 0)
    where
      go : Dec (n ≡ 0) → v.level n ≤ deepest
      go (yes z) = omega (arith, ap v.level z, p.root_level)
      go (no o) = (p.tree n s o).1

  own_top : (i k l : ℕ) → Taken v i → k < levels → deepest - k ≡ l → top v.up v.level (suc k) (v.own i) ≡ above_at v (v.own i) l
  own_top i k l t b q =
      let s = (p.members i t).0.0 in
      top_is v (v.own i) k l (p.in_namespace (v.own i) s) (low_level_of (v.own i) s) b q

  same_key : (k l i j : ℕ) → k < levels → deepest - k ≡ l → (pid_keys v k i ≡ 0 → ⊥) → pid_keys v k j ≡ pid_keys v k i → j ≡ i
  unfolding pid_seen
  same_key k l i j b q o e =
      ⊎_elim (λ a. absurd (o a.1))
      (λ (oi, ki). ⊎_elim (λ a. absurd (o (sym e ∙ a.1)))
      (λ (oj, kj).
      let c : l < levels = omega arith in
      let (ti, li, bi) = has_pid l i c oi in
      let (tj, lj, bj) = has_pid l j c oj in
      let (si, ui, ei) = Below.above_is v p (v.own i) l (p.members i ti).0.0 li in
      let (sj, uj, ej) = Below.above_is v p (v.own j) l (p.members j tj).0.0 lj in
      let mi = own_top i k l ti b q in
      let mj = own_top j k l tj b q in
      let same : above_at v (v.own j) l ≡ above_at v (v.own i) l = omega arith in
      let pids : v.pid j l ≡ v.pid i l = omega arith in
      p.differ (above_at v (v.own i) l) si j i
      (is_seen v _ j tj (subst (λ m. So (below v (v.own j) m)) same uj))
      (is_seen v _ i ti ui)
      (ap (v.pid j) ei ∙ pids ∙ sym (ap (v.pid i) ei)))
      (key_is v k l j q))
      (key_is v k l i q)

  keys_fit : (k : ℕ) → k < levels → So (Q.differ (pid_keys v k))
  unfolding Q.differ
  keys_fit k b = simp tests (λ i c o j d e. omega (arith, same_key k (deepest - k) i j b refl o e))

  -- an empty slot has slot 0 for its parent
  all_reach : So (Q.reach_ok v.parent)
  unfolding Q.reach_ok zero_process
  all_reach = simp tests (λ i b. go i (taken v i) refl (ℕ_discrete i 0))
    where
      go : (i : ℕ) (k : Bool) → taken v i ≡ k → Dec (i ≡ 0) → So (reaches_root v.parent process_slots i)
      go i k e (yes z) = reach_zero v.parent process_slots i z
      go i true t (no o) = (p.parents i t o).1
      go i false e (no o) =
          let z : v.parent i ≡ 0 = (zero_of v i (p.empty_process i (λ t. false≢true (sym e ∙ t)))).parent in
          reach_step v.parent (process_slots - 1) i (reach_zero v.parent (process_slots - 1) (v.parent i) z)

  quick_from : So (quick v)
  unfolding quick Q.processes_ok Q.namespaces_ok
  quick_from =
      let s = is_sound_view v p h in
      simp and_iff (
        (
          (
            (
              ((s.root_process, s.root_namespace), all_intro process_slots _ (λ i b. process_fits i)),
              all_intro namespace_slots _ namespace_fits,
            ),
            all_reach,
          ),
          holders_fit,
        ),
        all_intro levels _ keys_fit,
      )

-- ---- to soundness

-- what it tests of a process, and of a process and its parent
abbrev Member : View → ℕ → Type 0
Member v i =
    (((((Stands v (v.own i) × (So (unborn v (v.own i)) → ⊥)) × So (kept_end (v.state i))) × So (traits_ok (v.traits i)))
    × ((l : ℕ) → l < levels → pid_ok v i l))
    × ((So (v.ended i) → (children v i ≡ no_slot) × So (bare_traits (v.traits i)))
    × ((So (v.ended i) → ⊥)
    → (((So (dead v (v.own i)) → ⊥) × Stands v (children v i)) × So (below v (children v i) (v.own i)))
    × (So (unborn v (children v i)) → v.own i ≡ v.up (children v i)))))

abbrev Child : View → ℕ → Type 0
Child v i =
    ((Taken v (v.parent i) × (So (v.ended (v.parent i)) → ⊥)) × So (below v (v.own i) (v.own (v.parent i))))
    × (pid_seen v (v.own i) i ≡ 1 → v.own (v.parent i) ≡ v.up (v.own i))

-- of a namespace below its parent
abbrev Placed : View → ℕ → Type 0
Placed v n =
    (((Stands v (v.up n) × (v.level n ≡ suc (v.level (v.up n)))) × (v.level n ≤ deepest)) × (So (unborn v (v.up n)) → ⊥))
    × (So (dead v (v.up n)) → So (dead v n))

-- and of its init
abbrev Born : View → ℕ → Type 0
Born v n =
    ((Taken v (init v n) × (So (v.ended (init v n)) → ⊥)) × (v.own (init v n) ≡ n)) × (pid_seen v n (init v n) ≡ 1)

module _ (v : View) (r : Past v) (q : So (quick v)) where
  parts :
      (((((So (S.root_process v) × So (S.root_namespace v)) × So (Q.processes_ok v)) × So (Q.namespaces_ok v)) × So (Q.reach_ok v.parent))
      × So (Q.differ (unborn_keys v)))
      × So (all levels (λ k. Q.differ (pid_keys v k)))
  unfolding quick
  parts = simp and_iff at q

  start : ((((init v 0 ≡ 0) × Lives v 0) × (v.own 0 ≡ 0)) × (v.pid 0 0 ≡ 1)) × (v.parent 0 ≡ no_slot)
  unfolding S.root_process
  start = simp tests at parts.0.0.0.0.0.0

  base : (So (alive v 0) × (v.level 0 ≡ 0)) × (v.up 0 ≡ no_slot)
  unfolding S.root_namespace
  base = simp tests at parts.0.0.0.0.0.1

  process_says : (i : ℕ) → i < process_slots → (Taken v i → Member v i × (Other i → Child v i)) × ((Taken v i → ⊥) → So (Q.blank (process_at v i)))
  unfolding Q.processes_ok Q.process_ok Q.member_ok Q.parent_ok Q.state_ok Q.ended_ok Q.living_ok Q.pids_ok below pid_seen
  process_says i b = simp tests at (all_elim process_slots _ parts.0.0.0.0.1 i b)

  namespace_says :
      (n : ℕ) → n < namespace_slots
      → ((v.last n ≤ greatest_pid) × ((Stands v n → So (held v n)) × (So (held v n) → Stands v n)))
      × ((Stands v n → ((So (alive v n) → Born v n) × ((So (alive v n) → ⊥) → So (unborn v n) → v.last n ≡ 0)) × (Other n → Placed v n))
      × ((Stands v n → ⊥) → So (Q.blank_namespace (namespace_at v n))))
  unfolding Q.namespaces_ok Q.namespace_ok Q.filled_ok Q.life_ok Q.init_ok Q.place_ok pid_seen
  namespace_says n b = simp tests at (all_elim namespace_slots _ parts.0.0.0.1 n b)

  reach : (i : ℕ) → i < process_slots → So (reaches_root v.parent process_slots i)
  unfolding Q.reach_ok
  reach i b = all_elim process_slots _ parts.0.0.1 i b

  hold_keys : (i : ℕ) → i < process_slots → (unborn_keys v i ≡ 0 → ⊥) → (j : ℕ) → j < i → unborn_keys v j ≡ unborn_keys v i → ⊥
  unfolding Q.differ
  hold_keys = simp tests at parts.0.1

  keys : (k : ℕ) → k < levels → (i : ℕ) → i < process_slots → (pid_keys v k i ≡ 0 → ⊥) → (j : ℕ) → j < i → pid_keys v k j ≡ pid_keys v k i → ⊥
  unfolding Q.differ
  keys k b = simp tests at (all_elim levels (λ k. Q.differ (pid_keys v k)) parts.1 k b)

  range : (i : ℕ) → Taken v i → i < process_slots
  unfolding taken zero_process
  range i t = go (dec_lt i process_slots)
    where
      go : Dec (i < process_slots) → i < process_slots
      go (yes l) = l
      go (no o) = absurd ((not_iff _).0 t (all_elim _ _ (right _ _ (r.past i (omega arith))) 0 (omega arith)))

  namespace_range : (n : ℕ) → Stands v n → n < namespace_slots
  unfolding namespace_taken zero_namespace
  namespace_range n h = go (dec_lt n namespace_slots)
    where
      go : Dec (n < namespace_slots) → n < namespace_slots
      go (yes l) = l
      go (no o) = ⊎_elim (λ z. omega (arith, eqb-true n 0 z)) (λ k. absurd ((not_iff _).0 k (right _ _ (left _ _ (left _ _ (r.past_namespaces n (omega arith))))))) (cases _ _ h)

  member_of : (i : ℕ) → Taken v i → Member v i
  member_of i t = ((process_says i (range i t)).0 t).0

  child_of : (i : ℕ) → Taken v i → Other i → Child v i
  child_of i t = ((process_says i (range i t)).0 t).1

  born : (n : ℕ) → Stands v n → So (alive v n) → Born v n
  born n s = ((namespace_says n (namespace_range n s)).1.0 s).0.0

  placed : (n : ℕ) → Stands v n → Other n → Placed v n
  placed n s = ((namespace_says n (namespace_range n s)).1.0 s).1

  -- ---- the numbers

  stepwise : Stepwise v
  stepwise a k e = omega (arith, (placed a (Below.deep_namespace v a k e) (λ z. omega (arith, ap v.level z, base.0.1))).0.0.0.1)

  low_level : (n : ℕ) → Stands v n → v.level n < levels
  low_level n s = go (ℕ_discrete n 0)
    where
      go : Dec (n ≡ 0) → v.level n < levels
      go (yes z) = omega (arith, ap v.level z, base.0.1)
      go (no o) = omega (arith, (placed n s o).0.0.1)

  -- a climb ends where the levels say
  climbs_to : (n k a : ℕ) → v.level a ≡ k → So (climb v.up k a n) → (v.level n ≤ k) × (up_by v.up (k - v.level n) a ≡ n)
  unfolding climb up_by
  climbs_to n zero a e h = let q = eqb-true a n h in (omega (arith, ap v.level q), subst (λ d. up_by v.up d a ≡ n) (sym z) q)
    where
      z : 0 - v.level n ≡ 0
      z = omega arith
  climbs_to n (suc k) a e h =
      ⊎_elim
      (λ q. let l = ap v.level q in let z : suc k - v.level n ≡ 0 = omega arith in (omega arith, subst (λ d. up_by v.up d a ≡ n) (sym z) q))
      (λ c. let (b, u) = climbs_to n k (v.up a) (stepwise a k e) c in
      let z : suc k - v.level n ≡ suc (k - v.level n) = omega arith in
      (omega arith, subst (λ d. up_by v.up d a ≡ n) (sym z) u))
      (climb_cases v.up k a n h)

  -- what a process seen from n has for its key at n's level
  seen_key : (n k i : ℕ) → Stands v n → k < levels → deepest - k ≡ v.level n → Seen v n i → (pid_keys v k i ≡ n * pid_values + pid_seen v n i) × (1 ≤ pid_seen v n i)
  unfolding below above_at pid_seen
  seen_key n k i s c e h =
      let (b, u) = climbs_to n (v.level (v.own i)) (v.own i) refl (seen_below v n i h) in
      let t = seen_taken v n i h in
      let w = (member_of i t).0.0.0.0.0 in
      let m : 1 ≤ v.pid i (v.level n) = has i t (v.level n) (low_level n s) b in
      let high : v.level (v.own i) ≤ deepest = omega (arith, low_level (v.own i) w) in
      let a = top_is v (v.own i) k (v.level n) (namespace_range (v.own i) w) high c e ∙ u in
      ⊎_elim (λ x. omega (arith, x.0)) (λ x. (x.1 ∙ ap (λ x. x * pid_values + v.pid i (v.level n)) a, m)) (key_is v k (v.level n) i e)
    where
      has : (i : ℕ) → Taken v i → (l : ℕ) → l < levels → l ≤ v.level (v.own i) → 1 ≤ v.pid i l
      has i t l b h = left_of ((member_of i t).0.1 l b) (le-leb l _ h)
        where
          left_of : pid_ok v i l → leb l (v.level (v.own i)) ≡ true → 1 ≤ v.pid i l
          left_of k e = leb-true 1 _ (left _ _ (rw e at k))

  apart : (i j : ℕ) → (i < j → ⊥) → (j < i → ⊥) → i ≡ j
  apart i j a b = omega arith

  differ : (n : ℕ) → Stands v n → (i j : ℕ) → Seen v n i → Seen v n j → pid_seen v n i ≡ pid_seen v n j → i ≡ j
  differ n s i j a b e =
      let l = low_level n s in
      let k : deepest - v.level n < levels = omega arith in
      let z : deepest - (deepest - v.level n) ≡ v.level n = omega arith in
      let (ki, oi) = seen_key n (deepest - v.level n) i s k z a in
      let (kj, oj) = seen_key n (deepest - v.level n) j s k z b in
      apart i j
      (λ c. keys (deepest - v.level n) k j (range j (seen_taken v n j b)) (λ z. omega arith) i c (ki ∙ ap (λ x. n * pid_values + x) e ∙ sym kj))
      (λ c. keys (deepest - v.level n) k i (range i (seen_taken v n i a)) (λ z. omega arith) j c (kj ∙ ap (λ x. n * pid_values + x) (sym e) ∙ sym ki))

  -- ---- unborn namespaces

  unborn_other : (n : ℕ) → So (unborn v n) → Other n
  unborn_other n u z = alive_unborn (v.life 0) base.0.0 (subst (λ m. So (unborn v m)) z u)

  -- who holds one for its children has not ended
  holds_unborn : (n i : ℕ) → Stands v n → So (unborn v n) → Taken v i → children v i ≡ n → v.own i ≡ v.up n
  holds_unborn n i s u t e =
      by_bool (v.ended i)
      (λ x. let z = ((member_of i t).1.0 x).0 in omega (arith, namespace_range n s))
      (λ x. ((member_of i t).1.1 (λ y. false≢true (sym x ∙ y))).1 (subst (λ m. So (unborn v m)) (sym e) u) ∙ ap v.up e)

  holder_key : (n i : ℕ) → Stands v n → So (unborn v n) → Taken v i → children v i ≡ n → unborn_keys v i ≡ n
  holder_key n i s u t e = is_unborn_key v i t (subst (Stands v) (sym e) s) (subst (λ m. So (unborn v m)) (sym e) u) ∙ e

  one_holder : (n : ℕ) → Stands v n → So (unborn v n) → (i j : ℕ) → Taken v i → children v i ≡ n → Taken v j → children v j ≡ n → i ≡ j
  one_holder n s u i j a b c d =
      let ki = holder_key n i s u a b in
      let kj = holder_key n j s u c d in
      apart i j
      (λ l. hold_keys j (range j c) (λ z. unborn_other n u (sym kj ∙ z)) i l (ki ∙ sym kj))
      (λ l. hold_keys i (range i a) (λ z. unborn_other n u (sym ki ∙ z)) j l (kj ∙ sym ki))

  no_member : (n : ℕ) → So (unborn v n) → (i : ℕ) → Taken v i → v.own i ≡ n → ⊥
  no_member n u i t e = (member_of i t).0.0.0.0.1 (subst (λ m. So (unborn v m)) (sym e) u)

  no_child : (n : ℕ) → So (unborn v n) → (m : ℕ) → Stands v m → Other m → v.up m ≡ n → ⊥
  no_child n u m s o e = (placed m s o).0.1 (subst (λ m. So (unborn v m)) (sym e) u)

  a_holder : (n : ℕ) → So (unborn v n) → Holder v n → (i : ℕ) × Taken v i × Holds v i n
  a_holder n u (root z) = absurd (unborn_other n u z)
  a_holder n u (member i t e) = absurd (no_member n u i t e)
  a_holder n u (holder i t e) = (i, t, e)
  a_holder n u (child m s o e) = absurd (no_child n u m s o e)

  -- ---- all of it

  facts_from : Facts v
  facts_from =
      record {
        ended_is = r.ended_is;
        in_range = range;
        in_namespace = namespace_range;
        root_init = start.0.0.0.0;
        root_lives = start.0.0.0.1;
        root_own = start.0.0.1;
        root_pid = start.0.1;
        root_parent = start.1;
        root_alive = base.0.0;
        root_level = base.0.1;
        root_up = base.1;
        inits = λ n s a. let b = born n s a in (is_living v (init v n) b.0.0.0 b.0.0.1, b.0.1);
        empty_process = λ i o. by_range i (λ b. sym (blank_is v i) ∙ (process_says i b).1 o) (r.past i);
        empty_namespace = λ n o. by_namespace n (λ b. sym (blank_namespace_is v n) ∙ (namespace_says n b).1.1 o) (r.past_namespaces n);
        tree = λ n s o. (placed n s o).0.0;
        below_dead = λ n s o. (placed n s o).1;
        unborn_last = λ n s u. ((namespace_says n (namespace_range n s)).1.0 s).0.1 (λ a. alive_unborn (v.life n) a u) u;
        unborn_empty = λ n s u. no_member n u;
        unborn_leaf = λ n s u. no_child n u;
        unborn_own = λ n s u i t e. holds_unborn n i s u t (only_children v i n e);
        unborn_one = λ n s u i j a x b y. one_holder n s u i j a (only_children v i n x) b (only_children v j n y);
        last_pids = λ n b. (namespace_says n b).0.0;
        pid_range = λ i t. (member_of i t).0.1;
        differ = differ;
        first = λ n s a i k. (λ e. differ n s i (init v n) k (init_is_seen n s a) (e ∙ sym (born n s a).1), λ e. ap (pid_seen v n) e ∙ (born n s a).1);
        members = λ i t. (((member_of i t).0.0.0.0.0, λ d. ended_there i t d), (member_of i t).0.0.0.0.1);
        parents = λ i t o. let c = child_of i t o in ((is_living v (v.parent i) c.0.0.0 c.0.0.1, c.0.1), reach i (range i t));
        first_parents = λ i t o. (child_of i t o).1;
        children = λ i t a. let c = (member_of i t).1.1 (not_ended v i a) in (c.0.0.1, c.0.1);
        traits = λ i t. (member_of i t).0.0.1;
        ended_holds = λ i t e. each_index (λ k. v.hold i k ≡ no_slot) ((member_of i t).1.0 e).0;
        ended_traits = λ i t e. ((member_of i t).1.0 e).1;
        ends_kept = λ i t. (member_of i t).0.0.0.1;
      }
    where
      by_range : (i : ℕ) → (i < process_slots → So (zero_process v i)) → (process_slots ≤ i → So (zero_process v i)) → So (zero_process v i)
      by_range i f g = go (dec_lt i process_slots)
        where
          go : Dec (i < process_slots) → So (zero_process v i)
          go (yes b) = f b
          go (no o) = g (omega arith)

      by_namespace : (n : ℕ) → (n < namespace_slots → So (zero_namespace v n)) → (namespace_slots ≤ n → So (zero_namespace v n)) → So (zero_namespace v n)
      by_namespace n f g = go (dec_lt n namespace_slots)
        where
          go : Dec (n < namespace_slots) → So (zero_namespace v n)
          go (yes b) = f b
          go (no o) = g (omega arith)

      init_is_seen : (n : ℕ) → Stands v n → So (alive v n) → Seen v n (init v n)
      init_is_seen n s a = is_seen v n _ (born n s a).0.0.0 (subst (λ m. So (below v m n)) (sym (born n s a).0.1) (below_refl v n))

      ended_there : (i : ℕ) → Taken v i → So (dead v (v.own i)) → So (v.ended i)
      ended_there i t d = go (v.ended i) refl
        where
          go : (b : Bool) → v.ended i ≡ b → So (v.ended i)
          go true e = e
          go false e = absurd (((member_of i t).1.1 (λ k. false≢true (sym e ∙ k))).0.0.0 d)

  held_from : Held v
  held_from =
      record {
        holder = λ n s u. a_holder n u (holder_of v n ((namespace_says n (namespace_range n s)).0.1.0 s));
        held_by = λ n s. holder_of v n ((namespace_says n (namespace_range n s)).0.1.0 s);
      }

-- Past the last slot all is zero: then the two ways agree.
pub same : (v : View) → Past v → quick v ≡ sound_view v
same v r = go (quick v) (sound_view v) refl refl
  where
    go : (a b : Bool) → quick v ≡ a → sound_view v ≡ b → a ≡ b
    go true b q s = sym (is_sound v (is_sound_view v (facts_from v r q) (held_from v r q))) ∙ s
    go false true q s = sym q ∙ quick_from v (facts_of v r (sound_is v s)) (held_of v r (sound_is v s))
    go false false q s = refl
