-- The end of a process that is no init keeps the facts: its children go to the init.
use Prim.Native.Nat.{ℕ, zero, suc}
use native.Mathlib.Decide.{ℕ_discrete}
use native.Mathlib.Omega.{arith}
use mathlib.Core.Bool.{true, false, So, false≢true, Bool}
use mathlib.Core.Logic.{◌⊎◌, inl, inr, ⊎_elim}
use mathlib.Core.Path.{◌≡◌, refl, sym, ◌∙◌, ap, subst}
use borrow.Author.Tests.{eq-eqb, ne_eqb}
use lib.Dec.{eqb}
use Rattle.rules.proofs.Keeps.Changed.{pick}
use Rattle.rules.proofs.Laws.Below.{below_trans, up_not_below}
use Rattle.rules.proofs.Laws.Facts.{Facts, Holds, Taken, Stands, Lives, Below, Other, lives_taken, not_ended, root_namespace, is_seen}
use Rattle.rules.proofs.Laws.Reach.{reach_bounded, reach_zero, reach_step, reach_cases, no_self}
use Rattle.rules.proofs.Laws.Tests.{and_not, false_and, zero_or, life_cases, left, right, both}
use Rattle.rules.proofs.Laws.Tree.{below_refl}
use Rattle.table.specs.Limits.{no_slot, process_slots}
use Rattle.table.specs.Slots.{is_ended}
use Rattle.rules.specs.Read.{View, alive, below, child_of, init, is_init, living, namespace_taken, pid_seen, seen, taken}
use Rattle.rules.specs.Sound.{kept_end, reaches_root, zero_namespace, zero_process}
use Rattle.rules.proofs.Laws.Traits.{ended_are_bare, ended_ok}
use Rattle.table.specs.Tests.{when◌then◌else◌}
use Rattle.table.specs.declared.End.{End}
use Rattle.table.specs.declared.State.TheVariants.{Ended}
use Rattle.table.specs.Traits.{ended_traits}

-- the view with p ended, and its children given to the process at q
abbrev pub member_gone : View → ℕ → ℕ → End → View
member_gone v p q e =
    record {
      own = v.own;
      hold = λ i k. when eqb i p then no_slot else v.hold i k;
      parent = λ i. when eqb i p then v.parent i else (when child_of v p i then q else v.parent i);
      state = λ i. when eqb i p then Ended e else v.state i;
      ended = λ i. when eqb i p then true else v.ended i;
      traits = λ i. when eqb i p then ended_traits (v.traits i) else v.traits i;
      pid = v.pid;
      up = v.up;
      level = v.level;
      last = v.last;
      life = v.life;
    }

pub reaches : (v : View) → Facts v → (i : ℕ) → Taken v i → So (reaches_root v.parent process_slots i)
reaches v f i t = zero_or i (λ z. reach_zero v.parent process_slots i z) (λ o. (f.parents i t o).1)

module _ (v : View) (f : Facts v) (p : ℕ) (e : End) (lives : Lives v p) (no_init : is_init v p ≡ false) (ok : So (kept_end (Ended e))) where
  abbrev n : ℕ
  n = v.own p

  abbrev q : ℕ
  q = init v n

  abbrev w : View
  w = member_gone v p q e

  is : (i : ℕ) → (i ≡ p) ⊎ (i ≡ p → ⊥)
  is i = go (ℕ_discrete i p)
    where
      go : Dec (i ≡ p) → (i ≡ p) ⊎ (i ≡ p → ⊥)
      go (yes x) = inl x
      go (no x) = inr x

  -- ---- p and its init

  p_taken : Taken v p
  p_taken = lives_taken v p lives

  here : Stands v n
  here = (f.members p p_taken).0.0

  n_alive : So (alive v n)
  n_alive = life_cases (v.life n) (f.members p p_taken).1 (λ d. not_ended v p lives ((f.members p p_taken).0.1 d))

  q_lives : Lives v q
  q_lives = (f.inits n here n_alive).0

  q_own : v.own q ≡ n
  q_own = (f.inits n here n_alive).1

  not_the_init : (m : ℕ) → Stands v m → So (alive v m) → init v m ≡ p → ⊥
  unfolding is_init
  not_the_init m s a x = false≢true (sym no_init ∙ eq-eqb _ p (ap (init v) (sym (ap v.own x) ∙ (f.inits m s a).1) ∙ x))

  p_other : Other p
  p_other z = not_the_init 0 (root_namespace v 0 refl) f.root_alive (f.root_init ∙ sym z)

  -- ---- what the change does

  w_lives : (i : ℕ) → Lives v i → (i ≡ p → ⊥) → Lives w i
  unfolding living taken
  w_lives i h o = rw (ne_eqb i p o) h

  lives_w : (i : ℕ) → Lives w i → Lives v i × (i ≡ p → ⊥)
  unfolding living taken
  lives_w i h = ⊎_elim (λ x. absurd (false≢true (right _ _ (rw (eq-eqb i p x) at h)))) (λ o. (rw (ne_eqb i p o) at h, o)) (is i)

  parent_cases : (i : ℕ) → Taken v i → ((w.parent i ≡ v.parent i) × (v.parent i ≡ p → ⊥)) ⊎ ((w.parent i ≡ q) × (v.parent i ≡ p))
  unfolding child_of
  parent_cases i t =
      ⊎_elim
      (λ x. inl (rw (eq-eqb i p x), λ y. p_other (no_self v.parent process_slots p (subst (λ j. v.parent j ≡ p) x y) (f.parents p p_taken p_other).1)))
      (λ o. go o (ℕ_discrete (v.parent i) p)) (is i)
    where
      go : (i ≡ p → ⊥) → Dec (v.parent i ≡ p) → ((w.parent i ≡ v.parent i) × (v.parent i ≡ p → ⊥)) ⊎ ((w.parent i ≡ q) × (v.parent i ≡ p))
      go o (yes x) = inr (rw (ne_eqb i p o, both _ _ t (eq-eqb _ p x)), x)
      go o (no x) = inl (rw (ne_eqb i p o, and_not (taken v i) (ne_eqb _ p x)), x)

  -- ---- following parents still reaches slot 0

  abbrev Reaches : ℕ → Type 0
  Reaches i = (k : ℕ) × So (reaches_root w.parent k i)

  go_on : (i j : ℕ) → w.parent i ≡ j → Reaches j → Reaches i
  go_on i j x (k, r) = (suc k, reach_step w.parent k i (subst (λ y. So (reaches_root w.parent k y)) (sym x) r))

  -- outside of n nothing changes
  outside : (k j : ℕ) → Taken v j → (Below v (v.own j) n → ⊥) → So (reaches_root v.parent k j) → Reaches j
  unfolding reaches_root
  outside zero j t o h = (0, h)
  outside (suc k) j t o h =
      ⊎_elim (λ z. (0, reach_zero w.parent 0 j z))
      (λ r. zero_or j (λ z. (0, reach_zero w.parent 0 j z)) (λ y.
      let ((a, b), c) = f.parents j t y in
      ⊎_elim (λ (x, m). go_on j _ x (outside k (v.parent j) (lives_taken v _ a) (λ d. o (below_trans v f _ _ _ b d)) r))
      (λ (x, m). absurd (o (subst (λ y. Below v (v.own j) (v.own y)) m b))) (parent_cases j t)))
      (reach_cases v.parent k j h)

  q_reaches : Reaches q
  q_reaches =
      zero_or q (λ z. (0, reach_zero w.parent 0 q z)) (λ y.
      let t = lives_taken v q q_lives in
      let ((a, b), c) = f.parents q t y in
      let first : pid_seen v n q ≡ 1 = (f.first n here n_alive q (is_seen v n q t (subst (λ m. Below v m n) (sym q_own) (below_refl v n)))).1 refl in
      let up : v.own (v.parent q) ≡ v.up n = f.first_parents q t y (subst (λ m. pid_seen v m q ≡ 1) (sym q_own) first) ∙ ap v.up q_own in
      let o : Other n = (λ z. y (ap (init v) z ∙ f.root_init)) in
      let out : Below v (v.own (v.parent q)) n → ⊥ = (λ d. up_not_below v f n here o (subst (λ m. Below v m n) up d)) in
      ⊎_elim (λ (x, m). go_on q _ x (outside process_slots (v.parent q) (lives_taken v _ a) out (reaches v f (v.parent q) (lives_taken v _ a)))) (λ (x, m). absurd (out (subst (λ j. Below v (v.own j) n) (sym m) (below_refl v n)))) (parent_cases q t))

  all_reach : (k i : ℕ) → Taken v i → So (reaches_root v.parent k i) → Reaches i
  unfolding reaches_root
  all_reach zero i t h = (0, h)
  all_reach (suc k) i t h =
      ⊎_elim (λ z. (0, reach_zero w.parent 0 i z))
      (λ r. zero_or i (λ z. (0, reach_zero w.parent 0 i z)) (λ y.
      ⊎_elim (λ (x, m). go_on i _ x (all_reach k (v.parent i) (lives_taken v _ (f.parents i t y).0.0) r)) (λ (x, m). go_on i q x q_reaches) (parent_cases i t)))
      (reach_cases v.parent k i h)

  parent_lives : (i : ℕ) → Taken v i → Other i → Lives w (w.parent i)
  parent_lives i t o =
      ⊎_elim (λ (x, m). subst (Lives w) (sym x) (w_lives _ (f.parents i t o).0.0 m))
      (λ (x, m). subst (Lives w) (sym x) (w_lives q q_lives (not_the_init n here n_alive))) (parent_cases i t)

  -- a new parent is in the old one's namespace
  parent_own : (i : ℕ) → Taken v i → v.own (w.parent i) ≡ v.own (v.parent i)
  parent_own i t = ⊎_elim (λ (x, m). ap v.own x) (λ (x, m). ap v.own x ∙ q_own ∙ ap v.own (sym m)) (parent_cases i t)

  reached : (i : ℕ) → Taken v i → So (reaches_root w.parent process_slots i)
  unfolding living taken
  reached i t =
      let (k, r) = all_reach process_slots i t (reaches v f i t) in
      reach_bounded w.parent process_slots (Taken v) f.in_range (λ j x o. left _ _ (parent_lives j x o)) i t k r

  empty : (i : ℕ) → (Taken v i → ⊥) → So (zero_process w i)
  unfolding zero_process child_of
  empty i h = rw (ne_eqb i p (λ x. h (subst (Taken v) (sym x) p_taken)), false_and (taken v i) _ h) (f.empty_process i h)

  -- the facts then
  pub member_facts : Facts w
  unfolding taken living namespace_taken below seen pid_seen zero_namespace
  member_facts =
      record {
        ended_is = λ i. ap (λ (b : Bool). when eqb i p then true else b) (f.ended_is i) ∙ sym (pick is_ended (eqb i p) (Ended e) (v.state i));
        in_range = f.in_range;
        in_namespace = f.in_namespace;
        root_init = f.root_init;
        root_lives = w_lives 0 f.root_lives (λ z. p_other (sym z));
        root_own = f.root_own;
        root_pid = f.root_pid;
        root_parent = ⊎_elim (λ (x, m). x ∙ f.root_parent) (λ (x, m). absurd (omega (arith, f.root_parent, f.in_range p p_taken))) (parent_cases 0 (lives_taken v 0 f.root_lives));
        root_alive = f.root_alive;
        root_level = f.root_level;
        root_up = f.root_up;
        inits = λ m s a. (w_lives _ (f.inits m s a).0 (not_the_init m s a), (f.inits m s a).1);
        empty_process = empty;
        empty_namespace = f.empty_namespace;
        tree = f.tree;
        below_dead = f.below_dead;
        unborn_last = f.unborn_last;
        unborn_empty = f.unborn_empty;
        unborn_leaf = f.unborn_leaf;
        unborn_own = λ m s u i t x. f.unborn_own m s u i t (held_before m s i x);
        unborn_one = λ m s u i j a b c d. f.unborn_one m s u i j a (held_before m s i b) c (held_before m s j d);
        last_pids = f.last_pids;
        pid_range = f.pid_range;
        differ = f.differ;
        first = f.first;
        members = λ i t. (((f.members i t).0.0, λ d. ⊎_elim (λ x. rw (eq-eqb i p x)) (λ o. rw (ne_eqb i p o) ((f.members i t).0.1 d)) (is i)), (f.members i t).1);
        parents = λ i t o. ((parent_lives i t o, subst (Below v (v.own i)) (sym (parent_own i t)) (f.parents i t o).0.1), reached i t);
        first_parents = λ i t o x. parent_own i t ∙ f.first_parents i t o x;
        children = λ i t h. let (a, o) = lives_w i h in subst (λ m. Stands v m × Below v m (v.own i)) (sym (same_hold i 0 o)) (f.children i t a);
        traits = λ i t. ⊎_elim (λ x. rw (eq-eqb i p x) (ended_ok _ (f.traits i t))) (λ o. rw (ne_eqb i p o) (f.traits i t)) (is i);
        ended_holds = λ i t. ⊎_elim (λ x. rw (eq-eqb i p x) (λ h k l. refl)) (λ o. rw (ne_eqb i p o) (f.ended_holds i t)) (is i);
        ended_traits = λ i t. ⊎_elim (λ x. rw (eq-eqb i p x) (λ h. ended_are_bare _)) (λ o. rw (ne_eqb i p o) (f.ended_traits i t)) (is i);
        ends_kept = λ i t. ⊎_elim (λ x. rw (eq-eqb i p x) ok) (λ o. rw (ne_eqb i p o) (f.ends_kept i t)) (is i);
      }
    where
      same_hold : (i k : ℕ) → (i ≡ p → ⊥) → w.hold i k ≡ v.hold i k
      same_hold i k o = rw (ne_eqb i p o)

      held_before : (m : ℕ) → Stands v m → (i : ℕ) → Holds w i m → Holds v i m
      held_before m s i (k, l, x) = ⊎_elim (λ y. absurd (omega (arith, f.in_namespace m s, sym (rw (eq-eqb i p y) at x)))) (λ o. (k, l, sym (same_hold i k o) ∙ x)) (is i)
