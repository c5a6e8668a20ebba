-- The end of an init keeps the facts: its subtree goes down.
use Prim.Native.Nat.{ℕ, zero, suc, ◌<◌}
use native.Mathlib.Omega.{arith}
use mathlib.Core.Bool.{Bool, true, false, So, false≢true}
use mathlib.Core.Logic.{◌⊎◌, inl, inr, ⊎_elim}
use mathlib.Core.List.{[]}
use mathlib.Core.Path.{◌≡◌, refl, sym, ◌∙◌, ap, subst}
use borrow.Author.Tests.{eqb-true}
use lib.Dec.{eqb}
use Rattle.rules.proofs.Laws.Below.{below_trans, below_up, shallow_below, no_level}
use Rattle.rules.proofs.Laws.Facts.{Facts, Holds, Taken, Stands, Lives, Below, Seen, Other, lives_taken, is_seen, seen_taken, seen_below, is_zero}
use Rattle.rules.proofs.Laws.Holds.{blank_holds}
use Rattle.rules.proofs.Laws.Reach.{reach_zero, reach_step, reach_cases}
use Rattle.rules.proofs.Laws.Tests.{yes_or_no, no_so, isnt_so, false_and, zero_or, left, right, both}
use Rattle.table.specs.Fresh.{empty_process}
use Rattle.table.specs.Limits.{no_slot, process_slots, hold_slots, sigkill}
use Rattle.table.specs.Slots.{init_of, is_alive, is_ended, hold_at}
use Rattle.rules.specs.Read.{View, alive, below, dead, init, is_init, living, namespace_taken, pid_seen, seen, taken, unborn}
use Rattle.rules.specs.Sound.{kept_end, reaches_root, zero_namespace, zero_process}
use Rattle.rules.proofs.Laws.Traits.{none_are_blank, ended_are_bare, ended_ok}
use Rattle.table.specs.Tests.{◌and◌, when◌then◌else◌}
use Rattle.table.specs.declared.End.TheVariants.{Signaled}
use Rattle.table.specs.declared.End.{End}
use Rattle.table.specs.declared.Life.TheVariants.{Dead}
use Rattle.table.specs.declared.State.TheVariants.{Running, Ended}
use Rattle.table.specs.Traits.{no_traits, ended_traits, bare_traits, traits_ok}

-- removed with the subtree of n: in it, by a parent in it
unfoldable pub gone : View → ℕ → ℕ → Bool
gone v n i = seen v n i and seen v n (v.parent i)

-- the view with the subtree of n down, whose init was p
abbrev pub subtree_gone : View → ℕ → ℕ → End → View
subtree_gone v n p e =
    record {
      own = λ i. when gone v n i then 0 else v.own i;
      hold = λ i k. when gone v n i then hold_at empty_process k else (when seen v n i then no_slot else v.hold i k);
      parent = λ i. when gone v n i then 0 else v.parent i;
      state = λ i. when gone v n i then Running else (when seen v n i then (when eqb i p then Ended e else (when v.ended i then v.state i else Ended (Signaled sigkill))) else v.state i);
      ended = λ i. when gone v n i then false else (when seen v n i then true else v.ended i);
      traits = λ i. when gone v n i then no_traits else (when seen v n i then ended_traits (v.traits i) else v.traits i);
      pid = λ i l. when gone v n i then 0 else v.pid i l;
      up = v.up;
      level = v.level;
      last = v.last;
      life = λ m. when below v m n then Dead else v.life m;
    }

module _ (v : View) (f : Facts v) (p : ℕ) (e : End) (lives : Lives v p) (its_init : So (is_init v p)) (p_other : Other p) (ok : So (kept_end (Ended e))) where
  abbrev n : ℕ
  n = v.own p

  abbrev w : View
  w = subtree_gone v n p e

  p_taken : Taken v p
  p_taken = lives_taken v p lives

  here : Stands v n
  here = (f.members p p_taken).0.0

  init_p : init v n ≡ p
  unfolding is_init
  init_p = eqb-true _ p its_init

  n_other : Other n
  n_other z = p_other (sym init_p ∙ ap (init v) z ∙ f.root_init)

  root_out : Below v 0 n → ⊥
  root_out b = n_other (sym (shallow_below v 0 n f.root_level b))

  -- ---- what stays

  stays : (i : ℕ) → Taken w i → (gone v n i ≡ false) × Taken v i
  unfolding taken
  stays i t = ⊎_elim (λ g. absurd (false≢true (rw g at t))) (λ g. (g, rw g at t)) (yes_or_no (gone v n i))

  is_taken : (i : ℕ) → gone v n i ≡ false → Taken v i → Taken w i
  unfolding taken
  is_taken i g t = rw g t

  own_at : (i : ℕ) → gone v n i ≡ false → w.own i ≡ v.own i
  own_at i g = rw g

  parent_at : (i : ℕ) → gone v n i ≡ false → w.parent i ≡ v.parent i
  parent_at i g = rw g

  pid_at : (i l : ℕ) → gone v n i ≡ false → w.pid i l ≡ v.pid i l
  pid_at i l g = rw g

  -- one outside stays as it is
  outside : (i : ℕ) → seen v n i ≡ false → gone v n i ≡ false
  unfolding gone
  outside i o = false_and _ _ (no_so o)

  lives_w : (i : ℕ) → Lives w i → Lives v i × (seen v n i ≡ false)
  unfolding living
  lives_w i h =
      let (g, t) = stays i (left _ _ h) in
      ⊎_elim (λ (s : So (seen v n i)). absurd (false≢true (rw (g, s) at (right _ _ h)))) (λ (o : seen v n i ≡ false). (both _ _ t (rw (g, o) at (right _ _ h)), o)) (yes_or_no (seen v n i))

  w_lives : (i : ℕ) → Lives v i → seen v n i ≡ false → Lives w i
  unfolding living
  w_lives i h o = both _ _ (is_taken i (outside i o) (left _ _ h)) (rw (outside i o, o) (right _ _ h))

  -- whoever stays has a parent outside
  parent_out : (i : ℕ) → gone v n i ≡ false → Taken v i → Other i → seen v n (v.parent i) ≡ false
  unfolding gone
  parent_out i g t o =
      ⊎_elim (λ s. absurd (no_so g (both _ _ (is_seen v n i t (below_trans v f _ _ _ (f.parents i t o).0.1 (seen_below v n (v.parent i) s))) s))) (λ x. x) (yes_or_no (seen v n (v.parent i)))

  reached : (k i : ℕ) → Taken v i → gone v n i ≡ false → So (reaches_root v.parent k i) → So (reaches_root w.parent k i)
  unfolding reaches_root
  reached zero i t g h = h
  reached (suc k) i t g h =
      zero_or i (reach_zero w.parent (suc k) i)
      (λ o. ⊎_elim (reach_zero w.parent (suc k) i)
      (λ r. reach_step w.parent k i (subst (λ j. So (reaches_root w.parent k j)) (sym (parent_at i g)) (reached k (v.parent i) (lives_taken v _ (f.parents i t o).0.0) (outside _ (parent_out i g t o)) r)))
      (reach_cases v.parent k i h))

  -- ---- namespaces

  alive_w : (m : ℕ) → So (alive w m) → (below v m n ≡ false) × So (alive v m)
  alive_w m a = ⊎_elim (λ b. absurd (false≢true (rw b at a))) (λ b. (b, rw b at a)) (yes_or_no (below v m n))

  unborn_w : (m : ℕ) → So (unborn w m) → (below v m n ≡ false) × So (unborn v m)
  unborn_w m a = ⊎_elim (λ b. absurd (false≢true (rw b at a))) (λ b. (b, rw b at a)) (yes_or_no (below v m n))

  dead_w : (m : ℕ) → So (dead w m) → Below v m n ⊎ So (dead v m)
  dead_w m a = ⊎_elim (λ b. inl b) (λ b. inr (rw b at a)) (yes_or_no (below v m n))

  is_dead_w : (m : ℕ) → Below v m n ⊎ So (dead v m) → So (dead w m)
  is_dead_w m (inl b) = rw b
  is_dead_w m (inr d) = ⊎_elim (λ b. rw b) (λ b. rw b d) (yes_or_no (below v m n))

  was_seen : (m i : ℕ) → Seen w m i → Seen v m i
  unfolding seen taken below
  was_seen m i h = let (g, t) = stays i (left _ _ h) in both _ _ t (rw g at (right _ _ h))

  traits_w : (i : ℕ) → Taken v i → So (traits_ok (when seen v n i then ended_traits (v.traits i) else v.traits i))
  traits_w i t = ⊎_elim (λ s. rw s (ended_ok _ (f.traits i t))) (λ o. rw o (f.traits i t)) (yes_or_no (seen v n i))

  ended_kept : (i : ℕ) → Taken v i → (a b c : Bool) → So (kept_end (when a then (when b then Ended e else (when c then v.state i else Ended (Signaled sigkill))) else v.state i))
  ended_kept i t true true c = ok
  ended_kept i t true false true = f.ends_kept i t
  ended_kept i t true false false = both _ _ refl refl
  ended_kept i t false b c = f.ends_kept i t

  empty_w : (i : ℕ) → (Taken w i → ⊥) → So (zero_process w i)
  unfolding zero_process
  empty_w i o =
      ⊎_elim
      (λ (g : So (gone v n i)). is_zero w i (record { own = rw g; holds = λ k l. rw g (blank_holds [] k l); parent = rw g; running = rw g refl; traits = rw g none_are_blank; pids = λ l k. rw g }))
      (λ (g : gone v n i ≡ false). let x : Taken v i → ⊥ = (λ t. o (is_taken i g t)) in let s : seen v n i ≡ false = isnt_so (λ s. x (seen_taken v n i s)) in rw (g, s) (f.empty_process i x))
      (yes_or_no (gone v n i))

  empty_namespace_w : (m : ℕ) → (Stands v m → ⊥) → So (zero_namespace w m)
  unfolding zero_namespace
  empty_namespace_w m o =
      let b : below v m n ≡ false = isnt_so (λ b. o (subst (Stands v) (sym (shallow_below v m n (no_level v f m o) b)) here)) in
      rw b (f.empty_namespace m o)

  holder_w : (m i : ℕ) → Stands v m → gone v n i ≡ false → Holds w i m → Holds v i m
  holder_w m i s g (k, l, x) =
      ⊎_elim (λ (z : So (seen v n i)). absurd (omega (arith, f.in_namespace m s, sym (rw (g, z) at x)))) (λ (o : seen v n i ≡ false). (k, l, rw (g, o) at x)) (yes_or_no (seen v n i))

  ended_w : (i : ℕ) → Taken v i → Below v (v.own i) n ⊎ So (v.ended i) → So (when seen v n i then true else v.ended i)
  ended_w i t (inl b) = rw (is_seen v n i t b)
  ended_w i t (inr d) = ⊎_elim (λ s. rw s) (λ o. rw o d) (yes_or_no (seen v n i))

  holds_w : (i : ℕ) → Taken v i → So (when seen v n i then true else v.ended i) → (k : ℕ) → k < hold_slots → (when seen v n i then no_slot else v.hold i k) ≡ no_slot
  holds_w i t = ⊎_elim (λ s. rw s (λ h k l. refl)) (λ o. rw o (f.ended_holds i t)) (yes_or_no (seen v n i))

  bare_w : (i : ℕ) → Taken v i → So (when seen v n i then true else v.ended i) → So (bare_traits (when seen v n i then ended_traits (v.traits i) else v.traits i))
  bare_w i t = ⊎_elim (λ s. rw s (λ h. ended_are_bare _)) (λ o. rw o (f.ended_traits i t)) (yes_or_no (seen v n i))

  ended_as : (a b c : Bool) (i : ℕ) (d : Bool) → v.ended i ≡ d → (when a then false else (when b then true else v.ended i)) ≡ is_ended (when a then Running else (when b then (when c then Ended e else (when d then v.state i else Ended (Signaled sigkill))) else v.state i))
  ended_as true b c i d h = refl
  ended_as false false c i d h = f.ended_is i
  ended_as false true true i d h = refl
  ended_as false true false i true h = sym h ∙ f.ended_is i
  ended_as false true false i false h = refl

  -- the facts then
  pub subtree_facts : Facts w
  unfolding namespace_taken below pid_seen
  subtree_facts =
      record {
        ended_is = λ i. ended_as (gone v n i) (seen v n i) (eqb i p) i (v.ended i) refl;
        in_range = λ i t. f.in_range i (stays i t).1;
        in_namespace = f.in_namespace;
        root_init = ap init_of root_life ∙ f.root_init;
        root_lives = w_lives 0 f.root_lives root_unseen;
        root_own = own_at 0 root ∙ f.root_own;
        root_pid = pid_at 0 0 root ∙ f.root_pid;
        root_parent = parent_at 0 root ∙ f.root_parent;
        root_alive = ap is_alive root_life ∙ f.root_alive;
        root_level = f.root_level;
        root_up = f.root_up;
        inits = λ m s a.
            let (b, c) = alive_w m a in
            let (l, o) = f.inits m s c in
            let u : seen v n (init v m) ≡ false = isnt_so (λ k. no_so b (subst (λ x. Below v x n) o (seen_below v n _ k))) in
            subst (λ x. Lives w (init_of x) × (w.own (init_of x) ≡ m)) (sym (same_life m b)) (w_lives _ l u, own_at _ (outside _ u) ∙ o);
        empty_process = empty_w;
        empty_namespace = empty_namespace_w;
        tree = f.tree;
        below_dead = λ m s o d. is_dead_w m (⊎_elim (λ b. inl (below_up v f m s o n b)) (λ d. inr (f.below_dead m s o d)) (dead_w (v.up m) d));
        unborn_last = λ m s u. f.unborn_last m s (unborn_w m u).1;
        unborn_empty = λ m s u i t x. let (g, k) = stays i t in f.unborn_empty m s (unborn_w m u).1 i k (sym (own_at i g) ∙ x);
        unborn_leaf = λ m s u. f.unborn_leaf m s (unborn_w m u).1;
        unborn_own = λ m s u i t x. let (g, k) = stays i t in own_at i g ∙ f.unborn_own m s (unborn_w m u).1 i k (holder_w m i s g x);
        unborn_one = λ m s u i j a b c d. let (g, k) = stays i a in let (h, l) = stays j c in f.unborn_one m s (unborn_w m u).1 i j k (holder_w m i s g b) l (holder_w m j s h d);
        last_pids = f.last_pids;
        pid_range = λ i t l b. let (g, k) = stays i t in rw g (f.pid_range i k l b);
        differ = λ m s i j a b x. let g = (stays i (seen_taken w m i a)).0 in let h = (stays j (seen_taken w m j b)).0 in f.differ m s i j (was_seen m i a) (was_seen m j b) (sym (pid_at i _ g) ∙ x ∙ pid_at j _ h);
        first = λ m s a i b.
            let (z, c) = alive_w m a in
            let g = (stays i (seen_taken w m i b)).0 in
            let (y, k) = f.first m s c i (was_seen m i b) in
            (λ x. y (sym (pid_at i _ g) ∙ x) ∙ sym (ap init_of (same_life m z)), λ x. pid_at i _ g ∙ k (x ∙ ap init_of (same_life m z)));
        members = λ i t. let (g, k) = stays i t in let ((s, d), u) = f.members i k in rw g ((s, λ x. ended_w i k (⊎_elim inl (λ y. inr (d y)) (dead_w (v.own i) x))), λ x. u (unborn_w (v.own i) x).1);
        parents = λ i t o.
            let (g, k) = stays i t in
            let ((a, b), r) = f.parents i k o in
            let u = parent_out i g k o in
            ((subst (Lives w) (sym (parent_at i g)) (w_lives _ a u), rw (g, outside (v.parent i) u) b), reached process_slots i k g r);
        first_parents = λ i t o x. let (g, k) = stays i t in let c = outside (v.parent i) (parent_out i g k o) in rw (g, c) (f.first_parents i k o (rw g at x));
        children = λ i t h. let (a, o) = lives_w i h in let c = outside i o in rw (c, o) (f.children i (stays i t).1 a);
        traits = λ i t. let (g, k) = stays i t in rw g (traits_w i k);
        ended_holds = λ i t. let (g, k) = stays i t in rw g (holds_w i k);
        ended_traits = λ i t. let (g, k) = stays i t in rw g (bare_w i k);
        ends_kept = λ i t. let (g, k) = stays i t in rw g (ended_kept i k (seen v n i) (eqb i p) (v.ended i));
      }
    where
      root_unseen : seen v n 0 ≡ false
      root_unseen = isnt_so (λ s. root_out (subst (λ m. Below v m n) f.root_own (seen_below v n 0 s)))

      root : gone v n 0 ≡ false
      root = outside 0 root_unseen

      same_life : (m : ℕ) → below v m n ≡ false → w.life m ≡ v.life m
      same_life m b = rw b

      root_life : w.life 0 ≡ v.life 0
      root_life = same_life 0 (isnt_so root_out)
