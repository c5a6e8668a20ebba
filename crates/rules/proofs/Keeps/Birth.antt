-- A birth keeps a table sound.
use Prim.Native.Nat.{ℕ, suc, ◌<◌, ◌≤◌, ◌+◌, ◌-◌, zero}
use native.Mathlib.Decide.{dec_lt}
use native.Mathlib.Omega.{arith}
use mathlib.Core.Bool.{Bool, true, false, So, false≢true}
use mathlib.Core.Logic.{◌⊎◌, inl, inr, ⊎_elim}
use mathlib.Core.Path.{◌≡◌, refl, sym, ◌∙◌, ap, subst}
use borrow.Author.Tests.{eqb-true, leb-true, eq-eqb, ne_eqb, le-leb, lt-leb}
use lib.Dec.{leb, eqb}
use lib.ListN.{replicate}
use Rattle.rules.proofs.Keeps.Changed.{pick, get_d_replicate, view_changed, shaped_changed, process_shaped, view_put, shaped_put, changed_at, length_changed, traits_shape}
use Rattle.rules.proofs.Keeps.MemberEnds.{reaches}
use Rattle.rules.proofs.Laws.Below.{last_step, below_taken, above_is, above_same, below_level, root_above, level_deepest}
use Rattle.rules.proofs.Laws.Facts.{Facts, Stands, Seen, seen_taken, seen_below, Holder, root, member, holder, child, Held, Holds, Taken, Lives, Below, Other, lives_taken, is_seen}
use Rattle.rules.proofs.Laws.Find.{Lowest, lowest_is, find_cases}
use Rattle.rules.proofs.Laws.Holds.{with_hold, born_holds}
use Rattle.rules.proofs.Laws.Reach.{pigeon, reach_bounded, reach_zero, reach_step, reach_cases}
use Rattle.rules.proofs.Laws.Tests.{tests, left, right, any_elim, isnt_not, yes_or_no, no_so, isnt_so, zero_or, same_or, life_cases, alive_unborn, dead_unborn, not_iff, both}
use Rattle.rules.proofs.Laws.Tree.{below_refl}
use Rattle.rules.specs.Births.{birth, joined, new_pids, newborn}
use Rattle.table.specs.Limits.{greatest_pid, process_slots, restart_pid, namespace_slots, levels, no_slot}
use Rattle.rules.specs.Pids.{free_pid, next_pid, free_slot}
use Rattle.table.specs.Slots.{init_of, is_alive, is_dead, is_ended, is_unborn, namespace, no_pid, pid_at, process, put, hold_at}
use Rattle.rules.specs.Read.{View, find, pid_seen, unborn, above_at, alive, below, dead, init, living, namespace_taken, seen, taken, view}
use Rattle.rules.specs.Sound.{reaches_root, zero_namespace, zero_process, shaped}
use Rattle.rules.proofs.Laws.Traits.{born_ok, born_shaped}
use Rattle.table.specs.Tests.{when◌then◌else◌, lowest, ◌and◌}
use Rattle.table.specs.declared.Life.TheVariants.{Alive}
use Rattle.table.specs.declared.Namespace.{Namespace}
use Rattle.table.specs.declared.Process.{Process}
use Rattle.table.specs.declared.State.TheVariants.{Running}
use Rattle.table.specs.declared.Table.{Table}
use Rattle.table.specs.Records.{to_pid, with_last, with_life}
use Rattle.table.specs.Traits.{born_traits}

-- ---- the number that a new process gets is free

less : (a b : ℕ) → (a < b) ⊎ (b ≤ a)
less a b = go (dec_lt a b)
  where
    go : Dec (a < b) → (a < b) ⊎ (b ≤ a)
    go (yes l) = inl l
    go (no l) = inr (omega arith)

-- nobody has the number
pub free_is : (v : View) → Facts v → (n k : ℕ) → So (free_pid v n k) → (i : ℕ) → Seen v n i → pid_seen v n i ≡ k → ⊥
unfolding free_pid
free_is v p n k h i s e = (simp tests at h) (i, p.in_range i (seen_taken v n i s), (s, e))

pub is_free : (v : View) (n k : ℕ) → ((i : ℕ) → Seen v n i → pid_seen v n i ≡ k → ⊥) → So (free_pid v n k)
unfolding free_pid
is_free v n k h = simp tests (λ (i, l, x). h i x.0 x.1)

-- where somebody has it, it is found
found : (v : View) (n k : ℕ) → free_pid v n k ≡ false → (find v n k < process_slots) × Seen v n (find v n k) × (pid_seen v n (find v n k) ≡ k)
unfolding free_pid
found v n k h = ⊎_elim (λ x. (x.2, x.0, x.1)) (λ x. let (i, l, y) = any_elim process_slots _ (isnt_not _ h) in absurd (x.1 i l (left _ _ y) (eqb-true _ k (right _ _ y)))) (find_cases v n k)

pub record Fresh (v : View) (n k : ℕ) : Type 0 where
  pub above : 1 ≤ k
  pub within : k ≤ greatest_pid
  pub free : So (free_pid v n k)

-- The number that the search gives, in any table: 64 processes cannot hold all that it tries.
module _ (v : View) (n : ℕ) where
  abbrev pub low : ℕ
  low = lowest (free_pid v n) (greatest_pid - v.last n) (suc (v.last n))

  abbrev pub again : ℕ
  again = lowest (free_pid v n) (suc greatest_pid - restart_pid) restart_pid

  -- 65 numbers are not all held by 64 processes
  crowded : ((j : ℕ) → restart_pid ≤ j → j < suc greatest_pid → free_pid v n j ≡ false) → ⊥
  crowded h =
      let (i, j, a, b, e) = pigeon process_slots (λ j. find v n (restart_pid + j)) (λ j l. (held j l).0) in
      omega (arith, (held i (omega arith)).2, (held j b).2, ap (pid_seen v n) e)
    where
      held : (j : ℕ) → j ≤ process_slots → (find v n (restart_pid + j) < process_slots) × Seen v n (find v n (restart_pid + j)) × (pid_seen v n (find v n (restart_pid + j)) ≡ restart_pid + j)
      held j l = found v n (restart_pid + j) (h (restart_pid + j) (omega arith) (omega arith))

  -- the next number is from 1 to 32,767, and nobody has it
  pub next_fresh : Fresh v n (next_pid v n)
  unfolding next_pid
  next_fresh = go (leb low greatest_pid) refl
    where
      r : Lowest (free_pid v n) (greatest_pid - v.last n) (suc (v.last n)) low
      r = lowest_is _ _ _

      q : Lowest (free_pid v n) (suc greatest_pid - restart_pid) restart_pid again
      q = lowest_is _ _ _

      below_end : again < suc greatest_pid
      below_end = ⊎_elim (λ l. l) (λ o. absurd (crowded (λ j a b. q.none_before j a (omega arith)))) (less again (suc greatest_pid))

      go : (b : Bool) → leb low greatest_pid ≡ b → Fresh v n (when b then low else again)
      go true e = let l : low ≤ greatest_pid = leb-true low greatest_pid e in record { above = omega (arith, r.from); within = l; free = r.holds (omega (arith, r.from)) }
      go false e = record { above = omega (arith, q.from); within = omega (arith, below_end); free = q.holds (omega (arith, below_end)) }

module _ (v : View) (p : Facts v) (n : ℕ) (s : Stands v n) where
  -- nobody is seen from an unborn one
  pub nobody : So (unborn v n) → (i : ℕ) → Seen v n i → ⊥
  nobody u i h =
      let t = seen_taken v n i h in
      ⊎_elim (λ e. p.unborn_empty n s u i t e) (λ (m, x, o, e, b). p.unborn_leaf n s u m x o e) (last_step v p (v.own i) n (p.members i t).0.0 (seen_below v n i h))

  -- the first number in an unborn namespace is 1
  pub next_first : So (unborn v n) → next_pid v n ≡ 1
  unfolding next_pid
  next_first u =
      let z : v.last n ≡ 0 = p.unborn_last n s u in
      let r : Lowest (free_pid v n) (greatest_pid - v.last n) (suc (v.last n)) (low v n) = lowest_is _ _ _ in
      let one : low v n ≡ 1 = ⊎_elim (λ l. absurd (false≢true (sym (r.none_before 1 (omega arith) l) ∙ is_free v n 1 (λ i h e. nobody u i h)))) (λ o. omega (arith, r.from)) (less 1 (low v n)) in
      rw one

-- ---- a birth keeps a table sound

-- the view with a child of c, at slot k, in n
abbrev pub with_born : View → ℕ → ℕ → ℕ → View
with_born v c n k =
    record {
      own = λ i. when eqb i k then n else v.own i;
      hold = λ i j. when eqb i k then with_hold (λ j. no_slot) 0 n j else v.hold i j;
      parent = λ i. when eqb i k then c else v.parent i;
      state = λ i. when eqb i k then Running else v.state i;
      ended = λ i. when eqb i k then false else v.ended i;
      traits = λ i. when eqb i k then born_traits (v.traits c) else v.traits i;
      pid = λ i l. when eqb i k then (when leb l (v.level n) then next_pid v (above_at v n l) else 0) else v.pid i l;
      up = v.up;
      level = v.level;
      last = λ m. when below v n m then next_pid v m else v.last m;
      life = λ m. when below v n m then (when unborn v m then Alive (record { 0 = k }) else v.life m) else v.life m;
    }

module _ (v : View) (f : Facts v) (c n k : ℕ) (c_lives : Lives v c) (here : Stands v n) (n_below : Below v n (v.own c)) (not_dead : So (dead v n) → ⊥) (k_low : k < process_slots) (k_free : Taken v k → ⊥) (up_own : So (unborn v n) → v.own c ≡ v.up n) where
  abbrev w : View
  w = with_born v c n k

  self : eqb k k ≡ true
  self = eq-eqb k k refl

  -- one that was there is another
  old : (i : ℕ) → Taken v i → eqb i k ≡ false
  old i t = ne_eqb i k (λ x. k_free (subst (Taken v) x t))

  -- ---- numbers

  born_pid : (m : ℕ) → Below v n m → w.pid k (v.level m) ≡ next_pid v m
  born_pid m b = let l : v.level m ≤ v.level n = below_level v f n m b in let e = le-leb (v.level m) (v.level n) l in rw (self, e) (ap (next_pid v) (above_same v f n m b))

  fresh : (m : ℕ) → Below v n m → Fresh v m (next_pid v m)
  fresh m b = next_fresh v m

  pub k_taken : Taken w k
  unfolding taken
  k_taken = let b = root_above v f n here in let x : w.pid k 0 ≡ next_pid v 0 = subst (λ l. w.pid k l ≡ next_pid v 0) f.root_level (born_pid 0 b) in (not_iff (eqb (w.pid k 0) 0)).1 (λ z. omega (arith, (fresh 0 b).above, sym x, eqb-true (w.pid k 0) 0 z))

  taken_w : (i : ℕ) → Taken w i → (i ≡ k) ⊎ ((eqb i k ≡ false) × Taken v i)
  unfolding taken
  taken_w i t = ⊎_elim (λ x. inl x) (λ o. inr (o, rw o at t)) (same_or i k)

  -- ---- namespaces

  -- above n, only n may be unborn
  unborn_above : (m : ℕ) → Below v n m → So (unborn v m) → n ≡ m
  unborn_above m b u = ⊎_elim (λ x. x) (λ (a, s, o, e, d). absurd (f.unborn_leaf m (below_taken v f n m here b) u a s o e)) (last_step v f n m here b)

  life_w : (m : ℕ) → (Below v n m × So (unborn v m) × (w.life m ≡ Alive (record { 0 = k }))) ⊎ (w.life m ≡ v.life m)
  life_w m =
      ⊎_elim
      (λ (b : Below v n m). ⊎_elim (λ (u : So (unborn v m)). inl (b, u, rw (b, u))) (λ (u : unborn v m ≡ false). inr (rw (b, u))) (yes_or_no (unborn v m)))
      (λ b. inr (rw b)) (yes_or_no (below v n m))

  dead_w : (m : ℕ) → So (dead w m) → So (dead v m)
  dead_w m d = ⊎_elim (λ (b, u, e). absurd (false≢true (sym (ap is_dead e) ∙ d))) (λ e. sym (ap is_dead e) ∙ d) (life_w m)

  is_dead_w : (m : ℕ) → So (dead v m) → So (dead w m)
  is_dead_w m d = ⊎_elim (λ (b, u, e). absurd (dead_unborn (v.life m) d u)) (λ e. ap is_dead e ∙ d) (life_w m)

  unborn_w : (m : ℕ) → So (unborn w m) → (Below v n m → ⊥) × So (unborn v m)
  unborn_w m h =
      ⊎_elim
      (λ (b : Below v n m). ⊎_elim (λ (u : So (unborn v m)). absurd (false≢true (rw (b, u) at h))) (λ (u : unborn v m ≡ false). absurd (no_so u (rw (b, u) at h))) (yes_or_no (unborn v m)))
      (λ b. (no_so b, rw b at h)) (yes_or_no (below v n m))

  -- ---- processes

  lives_old : (i : ℕ) → Lives v i → Lives w i
  unfolding living taken
  lives_old i h = rw (old i (left _ _ h)) h

  k_lives : Lives w k
  unfolding living
  k_lives = both _ _ k_taken (rw self)

  lives_w : (i : ℕ) → eqb i k ≡ false → Lives w i → Lives v i
  unfolding living taken
  lives_w i o h = rw o at h

  is_taken : (i : ℕ) → Taken v i → Taken w i
  unfolding taken
  is_taken i t = rw (old i t) t

  seen_w : (m i : ℕ) → Seen w m i → ((i ≡ k) × Below v n m) ⊎ ((eqb i k ≡ false) × Seen v m i)
  unfolding seen taken below
  seen_w m i h =
      ⊎_elim (λ x. inl (x, rw (eq-eqb i k x) at (right _ _ h)))
      (λ (o, t). inr (o, both _ _ t (rw o at (right _ _ h)))) (taken_w i (left _ _ h))

  pid_w : (m i : ℕ) → eqb i k ≡ false → pid_seen w m i ≡ pid_seen v m i
  unfolding pid_seen
  pid_w m i o = rw o

  pid_k : (m i : ℕ) → i ≡ k → Below v n m → pid_seen w m i ≡ next_pid v m
  unfolding pid_seen
  pid_k m i x b = ap (λ j. w.pid j (v.level m)) x ∙ born_pid m b

  -- nobody has the new number
  clash : (m i : ℕ) → Below v n m → Seen v m i → pid_seen v m i ≡ next_pid v m → ⊥
  clash m i b h e = free_is v f m _ (fresh m b).free i h e

  -- the init of a living namespace above n has 1 there
  not_first : (m : ℕ) → Below v n m → So (alive v m) → next_pid v m ≡ 1 → ⊥
  not_first m b a e =
      let s = below_taken v f n m here b in
      let (l, o) = f.inits m s a in
      let h : Seen v m (init v m) = is_seen v m _ (lives_taken v _ l) (subst (λ x. Below v x m) (sym o) (below_refl v m)) in
      clash m (init v m) b h ((f.first m s a (init v m) h).1 refl ∙ sym e)

  reach_old : (l j : ℕ) → Taken v j → So (reaches_root v.parent l j) → So (reaches_root w.parent l j)
  unfolding reaches_root
  reach_old zero j t h = h
  reach_old (suc l) j t h =
      zero_or j (reach_zero w.parent (suc l) j)
      (λ o. ⊎_elim (reach_zero w.parent (suc l) j)
      (λ r. reach_step w.parent l j (rw (old j t) (reach_old l (v.parent j) (lives_taken v _ (f.parents j t o).0.0) r)))
      (reach_cases v.parent l j h))

  parent_lives : (i : ℕ) → Taken w i → Other i → Lives w (w.parent i)
  parent_lives i t o = ⊎_elim (λ x. rw (eq-eqb i k x) (lives_old c c_lives)) (λ (y, x). rw y (lives_old _ (f.parents i x o).0.0)) (taken_w i t)

  range_w : (i : ℕ) → Taken w i → i < process_slots
  range_w i t = ⊎_elim (λ x. omega arith) (λ (y, x). f.in_range i x) (taken_w i t)

  reached : (i : ℕ) → Taken w i → So (reaches_root w.parent process_slots i)
  reached i t =
      ⊎_elim
      (λ x. reach_bounded w.parent process_slots (Taken w) range_w (λ j y o. lives_taken w _ (parent_lives j y o)) i t (suc process_slots)
      (reach_step w.parent process_slots i (rw (eq-eqb i k x) (reach_old process_slots c (lives_taken v c c_lives) (reaches v f c (lives_taken v c c_lives))))))
      (λ (y, x). reach_old process_slots i x (reaches v f i x)) (taken_w i t)

  empty_w : (i : ℕ) → (Taken w i → ⊥) → So (zero_process w i)
  unfolding zero_process
  empty_w i o = ⊎_elim (λ x. absurd (o (subst (Taken w) (sym x) k_taken))) (λ y. rw y (f.empty_process i (λ t. o (is_taken i t)))) (same_or i k)

  empty_namespace_w : (m : ℕ) → (Stands v m → ⊥) → So (zero_namespace w m)
  unfolding zero_namespace
  empty_namespace_w m o = rw (isnt_so (λ b. o (below_taken v f n m here b))) (f.empty_namespace m o)

  last_w : (m : ℕ) → m < namespace_slots → w.last m ≤ greatest_pid
  last_w m l = ⊎_elim (λ (b : Below v n m). rw b (fresh m b).within) (λ (b : below v n m ≡ false). rw b (f.last_pids m l)) (yes_or_no (below v n m))

  pids_k : (l : ℕ) → So (when leb l (v.level n) then leb 1 (when leb l (v.level n) then next_pid v (above_at v n l) else 0) and leb (when leb l (v.level n) then next_pid v (above_at v n l) else 0) greatest_pid else eqb (when leb l (v.level n) then next_pid v (above_at v n l) else 0) 0)
  pids_k l =
      ⊎_elim
      (λ (b : So (leb l (v.level n))). let g = fresh _ (above_is v f n l here (leb-true _ _ b)).1 in rw b (both _ _ (le-leb 1 _ g.above) (le-leb _ greatest_pid g.within)))
      (λ (b : leb l (v.level n) ≡ false). rw b (eq-eqb 0 0 refl)) (yes_or_no (leb l (v.level n)))

  -- who holds an unborn one held it before
  not_new : (m j : ℕ) → Stands v m → (Below v n m → ⊥) → with_hold (λ j. no_slot) 0 n j ≡ m → ⊥
  not_new m j s b x = ⊎_elim (λ z. b (subst (Below v n) (rw (eq-eqb j 0 z) at x) (below_refl v n))) (λ z. omega (arith, f.in_namespace m s, rw z at x)) (same_or j 0)

  holder_w : (m i : ℕ) → Stands v m → (Below v n m → ⊥) → Taken w i → Holds w i m → (eqb i k ≡ false) × Taken v i × Holds v i m
  holder_w m i s b t (j, l, x) = ⊎_elim (λ z. absurd (not_new m j s b (rw (eq-eqb i k z) at x))) (λ (o, z). (o, z, (j, l, rw o at x))) (taken_w i t)

  old_c : eqb c k ≡ false
  old_c = old c (lives_taken v c c_lives)

  old_parent : (i : ℕ) → Taken v i → Other i → eqb (v.parent i) k ≡ false
  old_parent i t o = old _ (lives_taken v _ (f.parents i t o).0.0)

  parent_above : (i : ℕ) → Taken w i → Other i → Below w (w.own i) (w.own (w.parent i))
  unfolding below
  parent_above i t o = ⊎_elim (λ x. rw (eq-eqb i k x, old_c) n_below) (λ (y, x). rw (y, old_parent i x o) (f.parents i x o).0.1) (taken_w i t)

  first_w : (i : ℕ) → Taken w i → Other i → pid_seen w (w.own i) i ≡ 1 → w.own (w.parent i) ≡ w.up (w.own i)
  first_w i t o x =
      ⊎_elim
      (λ y. let e = eq-eqb i k y in
      let one : next_pid v n ≡ 1 = sym (pid_k n i y (below_refl v n)) ∙ (rw e at x) in
      rw (e, old_c) (⊎_elim up_own (λ u. absurd (not_first n (below_refl v n) (life_cases (v.life n) (no_so u) not_dead) one)) (yes_or_no (unborn v n))))
      (λ (y, z). rw (y, old_parent i z o) (f.first_parents i z o (sym (pid_w _ i y) ∙ (rw y at x)))) (taken_w i t)

  -- the facts after a birth, and that each namespace is held
  pub born_facts : Facts w
  unfolding namespace_taken below
  born_facts =
      record {
        ended_is = λ i. ap (λ (b : Bool). when eqb i k then false else b) (f.ended_is i) ∙ sym (pick is_ended (eqb i k) Running (v.state i));
        in_range = range_w;
        in_namespace = f.in_namespace;
        root_init = ap init_of root_life ∙ f.root_init;
        root_lives = lives_old 0 f.root_lives;
        root_own = rw root f.root_own;
        root_pid = rw root f.root_pid;
        root_parent = rw root f.root_parent;
        root_alive = ap is_alive root_life ∙ f.root_alive;
        root_level = f.root_level;
        root_up = f.root_up;
        inits = λ m s a.
            ⊎_elim
            (λ (b, u, e). subst (λ x. Lives w (init_of x) × (w.own (init_of x) ≡ m)) (sym e) (k_lives, rw self (unborn_above m b u)))
            (λ e. let (l, o) = f.inits m s (sym (ap is_alive e) ∙ a) in
            subst (λ x. Lives w (init_of x) × (w.own (init_of x) ≡ m)) (sym e) (lives_old _ l, rw (old _ (lives_taken v _ l)) o))
            (life_w m);
        empty_process = empty_w;
        empty_namespace = empty_namespace_w;
        tree = f.tree;
        below_dead = λ m s o d. is_dead_w m (f.below_dead m s o (dead_w (v.up m) d));
        unborn_last = λ m s u. let (b, x) = unborn_w m u in rw (isnt_so b) (f.unborn_last m s x);
        unborn_empty = λ m s u i t x.
            let (b, y) = unborn_w m u in
            ⊎_elim (λ z. b (subst (Below v n) (rw (eq-eqb i k z) at x) (below_refl v n))) (λ (o, z). f.unborn_empty m s y i z (rw o at x)) (taken_w i t);
        unborn_leaf = λ m s u. f.unborn_leaf m s (unborn_w m u).1;
        unborn_own = λ m s u i t x. let (b, y) = unborn_w m u in let (o, z, e) = holder_w m i s b t x in rw o (f.unborn_own m s y i z e);
        unborn_one = λ m s u i j a b c d. let (e, y) = unborn_w m u in let (o, z, g) = holder_w m i s e a b in let (p, x, h) = holder_w m j s e c d in f.unborn_one m s y i j z g x h;
        last_pids = last_w;
        pid_range = λ i t l b. ⊎_elim (λ x. rw (eq-eqb i k x) (pids_k l)) (λ (o, x). rw o (f.pid_range i x l b)) (taken_w i t);
        differ = λ m s i j a b x.
            ⊎_elim
            (λ (p, y). ⊎_elim (λ (q, z). p ∙ sym q) (λ (q, z). absurd (clash m j y z (sym (pid_w m j q) ∙ sym x ∙ pid_k m i p y))) (seen_w m j b))
            (λ (p, y). ⊎_elim (λ (q, z). absurd (clash m i z y (sym (pid_w m i p) ∙ x ∙ pid_k m j q z))) (λ (q, z). f.differ m s i j y z (sym (pid_w m i p) ∙ x ∙ pid_w m j q)) (seen_w m j b))
            (seen_w m i a);
        first = λ m s a i h.
            ⊎_elim
            (λ (b, u, e). ⊎_elim
            (λ (p, y). (λ x. p ∙ sym (ap init_of e), λ x. pid_k m i p y ∙ next_first v f m s u))
            (λ (p, y). absurd (nobody v f m s u i y)) (seen_w m i h))
            (λ e. let c : So (alive v m) = sym (ap is_alive e) ∙ a in
            ⊎_elim
            (λ (p, y). (λ x. absurd (not_first m y c (sym (pid_k m i p y) ∙ x)), λ x. absurd (k_free (subst (Taken v) (sym (ap init_of e) ∙ sym x ∙ p) (lives_taken v _ (f.inits m s c).0)))))
            (λ (p, y). let (q, z) = f.first m s c i y in (λ x. q (sym (pid_w m i p) ∙ x) ∙ sym (ap init_of e), λ x. pid_w m i p ∙ z (x ∙ ap init_of e))) (seen_w m i h))
            (life_w m);
        members = λ i t.
            ⊎_elim
            (λ x. rw (eq-eqb i k x) ((here, λ d. absurd (not_dead (dead_w n d))), λ u. (unborn_w n u).0 (below_refl v n)))
            (λ (o, x). let ((a, b), c) = f.members i x in rw o ((a, λ d. b (dead_w _ d)), λ u. c (unborn_w _ u).1)) (taken_w i t);
        parents = λ i t o. ((parent_lives i t o, parent_above i t o), reached i t);
        first_parents = first_w;
        children = λ i t h. ⊎_elim (λ x. rw (eq-eqb i k x) (here, below_refl v n)) (λ (o, x). rw o (f.children i x (lives_w i o h))) (taken_w i t);
        traits = λ i t. ⊎_elim (λ x. rw (eq-eqb i k x) (born_ok _ (f.traits c (lives_taken v c c_lives)))) (λ (o, x). rw o (f.traits i x)) (taken_w i t);
        ended_holds = λ i t. ⊎_elim (λ x. rw (eq-eqb i k x) (λ h. absurd (false≢true h))) (λ (o, x). rw o (f.ended_holds i x)) (taken_w i t);
        ended_traits = λ i t. ⊎_elim (λ x. rw (eq-eqb i k x) (λ h. absurd (false≢true h))) (λ (o, x). rw o (f.ended_traits i x)) (taken_w i t);
        ends_kept = λ i t. ⊎_elim (λ x. rw (eq-eqb i k x)) (λ (o, x). rw o (f.ends_kept i x)) (taken_w i t);
      }
    where
      root : eqb 0 k ≡ false
      root = old 0 (lives_taken v 0 f.root_lives)

      root_life : w.life 0 ≡ v.life 0
      root_life = ⊎_elim (λ (b, u, e). absurd (alive_unborn (v.life 0) f.root_alive u)) (λ e. e) (life_w 0)

  pub born_held : ((m : ℕ) → Stands v m → So (unborn v m) → (m ≡ n → ⊥) → (i : ℕ) × Taken v i × Holds v i m) → ((m : ℕ) → Stands v m → (m ≡ n) ⊎ Holder v m) → Held w
  unfolding namespace_taken
  born_held x y =
      record {
        holder = λ m s u. let (b, z) = unborn_w m u in let (i, t, e) = x m s z (λ q. b (subst (Below v n) (sym q) (below_refl v n))) in (i, is_taken i t, rw (old i t) e);
        held_by = λ m s. (⊎_elim (λ q. member k k_taken (rw self (sym q))) (same m) (y m s));
      }
    where
      same : (m : ℕ) → Holder v m → Holder w m
      same m (root z) = root z
      same m (member i t e) = member i (is_taken i t) (rw (old i t) e)
      same m (holder i t h) = holder i (is_taken i t) (rw (old i t) h)
      same m (child a s o e) = child a s o e

-- ---- a birth, as a table

module _ (t : Table) (g : So (shaped t)) (f : Facts (view t)) (c n : ℕ) (here : Stands (view t) n) (low : free_slot (view t) < process_slots) where
  abbrev v : View
  v = view t

  abbrev k : ℕ
  k = free_slot v

  abbrev x : Process
  x = newborn v c n

  abbrev mid : Table
  mid = put t k x

  no_pids : (l : ℕ) → levels ≤ l → leb l (v.level n) ≡ false
  no_pids l h = lt-leb l (v.level n) (omega (arith, level_deepest v f n here))

  -- the number at a level
  pids_are : (l : ℕ) → pid_at x l ≡ (when leb l (v.level n) then next_pid v (above_at v n l) else 0)
  unfolding newborn new_pids
  pids_are l =
      ap (λ p. p.0) (changed_at (λ l p. when leb l (v.level n) then to_pid (next_pid v (above_at v n l)) else p) no_pid levels (replicate levels no_pid) refl (λ l h. rw (no_pids l h)) l)
      ∙ ap (λ p. (when leb l (v.level n) then to_pid (next_pid v (above_at v n l)) else p).0) (get_d_replicate no_pid levels l)
      ∙ pick (λ p. p.0) (leb l (v.level n)) (to_pid (next_pid v (above_at v n l))) no_pid

  x_shaped : So (process_shaped x)
  unfolding newborn new_pids
  x_shaped = both _ _ (eq-eqb _ _ (length_changed (λ l p. when leb l (v.level n) then to_pid (next_pid v (above_at v n l)) else p) no_pid levels (replicate levels no_pid))) (born_shaped _ (traits_shape t g c))

  mid_shaped : So (shaped mid)
  mid_shaped = shaped_put t g k x low x_shaped

  out : (m : ℕ) → namespace_slots ≤ m → below v n m ≡ false
  out m l = isnt_so (λ b. omega (arith, f.in_namespace m (below_taken v f n m here b)))

  kept_of : {B : Type 0} (r : Namespace → B) (b : Bool) (y s : Namespace) → r y ≡ r s → r (when b then y else s) ≡ r s
  kept_of r true y s h = h
  kept_of r false y s h = refl

  abbrev new : (m : ℕ) → Namespace → Namespace
  new m s = with_life (with_last s (next_pid v m)) (when is_unborn s.life then Alive (record { 0 = k }) else s.life)

  -- what is read of the table of a birth
  pub birth_view : view (birth t c n) ≡ with_born v c n k
  unfolding birth joined newborn
  birth_view =
      view_changed mid (λ i p. p) (joined v k n) mid_shaped (λ i l. refl) (λ m l. rw (out m l))
      ∙ ap (λ (u : View). record { own = u.own; hold = u.hold; parent = u.parent; state = u.state; ended = u.ended; traits = u.traits; pid = u.pid; up = λ m. (joined v k n m (namespace t m)).parent.0; level = λ m. (joined v k n m (namespace t m)).level; last = λ m. (joined v k n m (namespace t m)).last.0; life = λ m. (joined v k n m (namespace t m)).life }) (view_put t g k x low)
      ∙ (λ j. record {
        own = λ i. pick (λ p. p.own.0) (eqb i k) x (process t i) j;
        hold = λ i a. (pick (λ p. hold_at p a) (eqb i k) x (process t i) ∙ ap (λ z. when eqb i k then z else v.hold i a) (born_holds v c n a)) j;
        parent = λ i. pick (λ p. p.parent.0) (eqb i k) x (process t i) j;
        state = λ i. pick (λ p. p.state) (eqb i k) x (process t i) j;
        ended = λ i. pick (λ p. is_ended p.state) (eqb i k) x (process t i) j;
        traits = λ i. pick (λ p. p.traits) (eqb i k) x (process t i) j;
        pid = λ i l. (pick (λ p. pid_at p l) (eqb i k) x (process t i) ∙ ap (λ z. when eqb i k then z else v.pid i l) (pids_are l)) j;
        up = λ m. kept_of (λ s. s.parent.0) (below v n m) (new m (namespace t m)) (namespace t m) refl j;
        level = λ m. kept_of (λ s. s.level) (below v n m) (new m (namespace t m)) (namespace t m) refl j;
        last = λ m. pick (λ s. s.last.0) (below v n m) (new m (namespace t m)) (namespace t m) j;
        life = λ m. pick (λ s. s.life) (below v n m) (new m (namespace t m)) (namespace t m) j;
      })

  pub birth_shape : So (shaped (birth t c n))
  unfolding birth
  birth_shape = shaped_changed mid (λ i p. p) (joined v k n) mid_shaped (λ i p h. h)
