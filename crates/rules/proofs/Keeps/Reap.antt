-- The removal of an ended process keeps the facts.
use Prim.Native.Nat.{ℕ, zero, suc}
use mathlib.Core.Bool.{false, So, false≢true, Bool}
use mathlib.Core.Logic.{⊎_elim}
use mathlib.Core.List.{[]}
use mathlib.Core.Path.{◌≡◌, refl, sym, ◌∙◌, subst, ap}
use borrow.Author.Tests.{eq-eqb, ne_eqb}
use lib.Dec.{eqb}
use Rattle.rules.proofs.Keeps.Changed.{pick}
use Rattle.rules.proofs.Laws.Facts.{Facts, Taken, Lives, Below, Seen, Other, lives_taken, not_ended, is_zero}
use Rattle.rules.proofs.Laws.Holds.{blank_holds}
use Rattle.rules.proofs.Laws.Reach.{reach_zero, reach_step, reach_cases}
use Rattle.rules.proofs.Laws.Tests.{zero_or, same_or, left, right, both}
use Rattle.table.specs.Fresh.{empty_process}
use Rattle.table.specs.Limits.{process_slots}
use Rattle.table.specs.Slots.{is_ended, hold_at}
use Rattle.rules.specs.Read.{View, below, living, namespace_taken, pid_seen, seen, taken}
use Rattle.rules.specs.Sound.{reaches_root, zero_namespace, zero_process}
use Rattle.rules.proofs.Laws.Traits.{none_are_blank}
use Rattle.table.specs.Tests.{when◌then◌else◌}
use Rattle.table.specs.declared.State.TheVariants.{Running}
use Rattle.table.specs.Traits.{no_traits}

-- the view with the slot d emptied
abbrev pub without : View → ℕ → View
without v d =
    record {
      own = λ i. when eqb i d then 0 else v.own i;
      hold = λ i k. when eqb i d then hold_at empty_process k else v.hold i k;
      parent = λ i. when eqb i d then 0 else v.parent i;
      state = λ i. when eqb i d then Running else v.state i;
      ended = λ i. when eqb i d then false else v.ended i;
      traits = λ i. when eqb i d then no_traits else v.traits i;
      pid = λ i l. when eqb i d then 0 else v.pid i l;
      up = v.up;
      level = v.level;
      last = v.last;
      life = v.life;
    }

module _ (v : View) (f : Facts v) (d : ℕ) (over : So (v.ended d)) where
  abbrev w : View
  w = without v d

  stays : (i : ℕ) → Taken w i → (eqb i d ≡ false) × Taken v i
  unfolding taken
  stays i t = ⊎_elim (λ x. absurd (false≢true (rw (eq-eqb i d x) at t))) (λ y. (y, rw y at t)) (same_or i d)

  living_stays : (i : ℕ) → Lives v i → eqb i d ≡ false
  living_stays i h = ne_eqb i d (λ x. not_ended v i h (subst (λ j. So (v.ended j)) (sym x) over))

  w_lives : (i : ℕ) → Lives v i → Lives w i
  unfolding living taken
  w_lives i h = rw (living_stays i h) h

  lives_w : (i : ℕ) → Lives w i → Lives v i
  unfolding living taken
  lives_w i h = let (y, t) = stays i (left _ _ h) in rw y at h

  parent_stays : (i : ℕ) → Taken v i → Other i → eqb (v.parent i) d ≡ false
  parent_stays i t o = living_stays _ (f.parents i t o).0.0

  reached : (k i : ℕ) → Taken v i → eqb i d ≡ false → So (reaches_root v.parent k i) → So (reaches_root w.parent k i)
  unfolding reaches_root
  reached zero i t y h = h
  reached (suc k) i t y h =
      zero_or i (reach_zero w.parent (suc k) i)
      (λ o. ⊎_elim (reach_zero w.parent (suc k) i)
      (λ r. reach_step w.parent k i (rw y (reached k (v.parent i) (lives_taken v _ (f.parents i t o).0.0) (parent_stays i t o) r)))
      (reach_cases v.parent k i h))

  was_seen : (m i : ℕ) → Seen w m i → (eqb i d ≡ false) × Seen v m i
  unfolding seen taken below
  was_seen m i h = let (y, t) = stays i (left _ _ h) in (y, both _ _ t (rw y at (right _ _ h)))

  same_pid : (m i : ℕ) → eqb i d ≡ false → pid_seen w m i ≡ pid_seen v m i
  unfolding pid_seen
  same_pid m i y = rw y

  empty_w : (i : ℕ) → (Taken w i → ⊥) → So (zero_process w i)
  unfolding zero_process taken
  empty_w i o =
      ⊎_elim
      (λ x. is_zero w i (record { own = rw (eq-eqb i d x); holds = λ k l. rw (eq-eqb i d x) (blank_holds [] k l); parent = rw (eq-eqb i d x); running = rw (eq-eqb i d x) refl; traits = rw (eq-eqb i d x) none_are_blank; pids = λ l k. rw (eq-eqb i d x) }))
      (λ y. rw y (f.empty_process i (λ t. o (rw y t)))) (same_or i d)

  above_w : (i : ℕ) → Taken w i → Other i → Below w (w.own i) (w.own (w.parent i))
  unfolding below
  above_w i t o = let (y, k) = stays i t in rw (y, parent_stays i k o) (f.parents i k o).0.1

  -- the facts then
  pub reaped_facts : Facts w
  unfolding namespace_taken below zero_namespace
  reaped_facts =
      record {
        ended_is = λ i. ap (λ (b : Bool). when eqb i d then false else b) (f.ended_is i) ∙ sym (pick is_ended (eqb i d) Running (v.state i));
        in_range = λ i t. f.in_range i (stays i t).1;
        in_namespace = f.in_namespace;
        root_init = f.root_init;
        root_lives = w_lives 0 f.root_lives;
        root_own = rw root f.root_own;
        root_pid = rw root f.root_pid;
        root_parent = rw root f.root_parent;
        root_alive = f.root_alive;
        root_level = f.root_level;
        root_up = f.root_up;
        inits = λ m s a. let (l, o) = f.inits m s a in (w_lives _ l, rw (living_stays _ l) o);
        empty_process = empty_w;
        empty_namespace = f.empty_namespace;
        tree = f.tree;
        below_dead = f.below_dead;
        unborn_last = f.unborn_last;
        unborn_empty = λ m s u i t e. let (y, k) = stays i t in f.unborn_empty m s u i k (rw y at e);
        unborn_leaf = f.unborn_leaf;
        unborn_own = λ m s u i t e. let (y, k) = stays i t in rw y (f.unborn_own m s u i k (rw y at e));
        unborn_one = λ m s u i j t e t' e'. let (y, k) = stays i t in let (z, l) = stays j t' in f.unborn_one m s u i j k (rw y at e) l (rw z at e');
        last_pids = f.last_pids;
        pid_range = λ i t l b. let (y, k) = stays i t in rw y (f.pid_range i k l b);
        differ = λ m s i j a b e. let (y, p) = was_seen m i a in let (z, q) = was_seen m j b in f.differ m s i j p q (sym (same_pid m i y) ∙ e ∙ same_pid m j z);
        first = λ m s a i b. let (y, p) = was_seen m i b in let (q, r) = f.first m s a i p in (λ e. q (sym (same_pid m i y) ∙ e), λ e. same_pid m i y ∙ r e);
        members = λ i t. let (y, k) = stays i t in rw y (f.members i k);
        parents = λ i t o. let (y, k) = stays i t in let ((a, b), r) = f.parents i k o in ((rw y (w_lives _ a), above_w i t o), reached process_slots i k y r);
        first_parents = λ i t o e. let (y, k) = stays i t in rw (y, parent_stays i k o) (f.first_parents i k o (sym (same_pid _ i y) ∙ (rw y at e)));
        children = λ i t h. let (y, k) = stays i t in rw y (f.children i k (lives_w i h));
        traits = λ i t. let (y, k) = stays i t in rw y (f.traits i k);
        ended_holds = λ i t. let (y, k) = stays i t in rw y (f.ended_holds i k);
        ended_traits = λ i t. let (y, k) = stays i t in rw y (f.ended_traits i k);
        ends_kept = λ i t. let (y, k) = stays i t in rw y (f.ends_kept i k);
      }
    where
      root : eqb 0 d ≡ false
      root = living_stays 0 f.root_lives
