-- A change that leaves all that the sheet of S rests on: the sheet stays. For calls by an outsider.
use Prim.Native.Nat.{ℕ, suc, ◌-◌, ◌≤◌, ◌<◌}
use native.Mathlib.Decide.{ℕ_discrete}
use native.Mathlib.Omega.{arith}
use mathlib.Core.Bool.{Bool, false, not, So, false≢true}
use mathlib.Core.Logic.{◌⊎◌, inl, inr, ⊎_elim}
use mathlib.Core.Path.{◌≡◌, refl, sym, ◌∙◌, ap, ap₂, fun_ext, subst}
use lib.Dec.{eqb}
use Rattle.rules.proofs.Laws.Below.{below_level, below_trans}
use Rattle.rules.proofs.Laws.Facts.{Facts, seen_taken, seen_below, ended_children}
use Rattle.rules.proofs.Laws.Slots.{below_parent, below_same}
use Rattle.rules.proofs.Laws.Tests.{both, cases, or_left, or_right}
use Rattle.rules.proofs.Laws.Tree.{below_refl}
use Rattle.sameness.proofs.Cases.{by_test}
use Rattle.sameness.proofs.Anchor.{up_below, name_no_slot}
use Rattle.sameness.proofs.Light.{Placed, put_other, put_remain}
use Rattle.sameness.proofs.Readers.{children_below}
use Rattle.sameness.proofs.Remain.{Tree, below_stays, name_stays, seen_remain, stands}
use Rattle.sameness.proofs.Same.{Same}
use Rattle.table.specs.Limits.{levels, no_slot, hold_slots}
use Rattle.table.specs.Slots.{init_of, process, hold_at, pid_at, put}
use Rattle.rules.specs.Read.{View, below, init, is_init, living, namespace_taken, pid_in, pid_seen, seen, view, children}
use Rattle.rules.proofs.Laws.Holds.{each_index}
use Rattle.sameness.specs.Sheet.{name, row}
use Rattle.sameness.proofs.Names.{values_same}
use Rattle.table.specs.Tests.{◌or◌, when◌then◌else◌, values}
use Rattle.table.specs.declared.Life.{Life}
use Rattle.table.specs.declared.Process.{Process}
use Rattle.table.specs.declared.State.{State}
use Rattle.table.specs.declared.Table.{Table}
use Rattle.table.specs.declared.Traits.{Traits}

-- ---- all that lies below S or above it

abbrev pub near : View → ℕ → ℕ → Bool
near v s n = below v n s or below v s n

module _ {v : View} (f : Facts v) (s : ℕ) where
  pub near_here : So (near v s s)
  near_here = or_left _ _ (below_refl v s)

  -- with each its parent, with each process of S its namespaces
  near_up : (n k : ℕ) → So (near v s n) → v.level n ≡ suc k → So (near v s (v.up n))
  near_up n k h e =
      ⊎_elim (λ b. go b (ℕ_discrete (v.level s) (v.level n)) (below_level v f n s b)) (λ b. or_right _ _ (below_trans v f s n (v.up n) b (up_below f n k e))) (cases _ _ h)
    where
      go : So (below v n s) → Dec (v.level s ≡ v.level n) → v.level s ≤ v.level n → So (near v s (v.up n))
      go b (yes q) l = or_right _ _ (subst (λ x. So (below v x (v.up n))) (below_same v f n s b (sym q)) (up_below f n k e))
      go b (no q) l = or_left _ _ (below_parent v f n s b (omega arith))

  near_children : (i : ℕ) → So (seen v s i) → So (near v s (children v i)) ⊎ (children v i ≡ no_slot)
  unfolding living
  near_children i h =
      let ti = seen_taken v s i h in
      by_test (v.ended i) (λ e. inr (ended_children v f i ti e))
      (λ e. inl (or_left _ _ (below_trans v f _ _ s (children_below f i (both _ _ ti (ap not e))) (seen_below v s i h))))

-- ---- all of it stays

-- what is read of a process besides its parent and its numbers
pub record Look : Type 0 where
  pub own : ℕ
  pub holds : ℕ → ℕ
  pub state : State
  pub traits : Traits

abbrev pub look : View → ℕ → Look
look v i = record { own = v.own i; holds = λ k. v.hold i k; state = v.state i; traits = v.traits i }

-- the namespaces near S, and the processes of S, stand as they stood
pub record Still (v v' : View) (s : ℕ) : Type 0 where
  pub ups : (n : ℕ) → So (near v s n) → v'.up n ≡ v.up n
  pub levels : (n : ℕ) → So (near v s n) → v'.level n ≡ v.level n
  pub lives : (n : ℕ) → So (near v s n) → v'.life n ≡ v.life n
  pub seens : (i : ℕ) → seen v' s i ≡ seen v s i
  pub looks : (i : ℕ) → So (seen v s i) → look v' i ≡ look v i
  pub pids : (i l : ℕ) → So (seen v s i) → v'.pid i l ≡ v.pid i l
  pub parents : (i : ℕ) → So (seen v s i) → pid_in v s (v'.parent i) ≡ pid_in v s (v.parent i)
  pub lasts : (i : ℕ) → So (seen v s i) → v'.last (v.own i) ≡ v.last (v.own i)

module _ {v v' : View} {s : ℕ} (f : Facts v) (w : Still v v' s) where
  tree : Tree v v' (near v s)
  tree = record { ups = w.ups; levels = w.levels; up_kept = near_up f s }

  level : v'.level s ≡ v.level s
  level = w.levels s (near_here f s)

  pub pid_in_still : (i : ℕ) → pid_in v' s i ≡ pid_in v s i
  unfolding pid_in pid_seen
  pid_in_still i =
      by_test (seen v s i) (λ k. λ z. when w.seens i z then (ap (v'.pid i) level ∙ w.pids i (v.level s) k) z else 0)
      (λ k. rw (w.seens i ∙ k, k))

  name_still : (n : ℕ) → So (near v s n) → name v' s n ≡ name v s n
  name_still = name_stays f tree w.lives s (λ m k. pid_in_still (init v m))

  row_still : (i : ℕ) → So (seen v s i) → row v' s i ≡ row v s i
  unfolding row is_init
  row_still i q =
      let e = w.looks i q in
      let near_own = or_left _ _ (seen_below v s i q) in
      let child : (j : ℕ) → j < hold_slots → name v' s (v.hold i j) ≡ name v s (v.hold i j) = each_index _ (⊎_elim (name_still (children v i)) (λ n. name_no_slot v' s _ n ∙ sym (name_no_slot v s _ n)) (near_children f s i q)) in
      λ k. record {
        pids = values (fun_ext (λ l. w.pids i l q) k) (levels - level k) (level k);
        state = (e k).state;
        traits = (e k).traits;
        parent = (pid_in_still (v'.parent i) ∙ w.parents i q) k;
        own = (ap (λ (l : Look). name v' s l.own) e ∙ name_still (v.own i) near_own) k;
        holds = (values_same _ _ hold_slots 0 (λ j a b. ap (λ (l : Look). name v' s (l.holds j)) e ∙ child j (omega arith))) k;
        last = (ap (λ (l : Look). when eqb (init v' l.own) i then v'.last l.own else 0) e ∙ ap₂ (λ (x : Life) (z : ℕ). when eqb (init_of x) i then z else 0) (w.lives (v.own i) near_own) (w.lasts i q)) k;
      }

  -- so the sheet stays
  pub same_still : Same v' v s s
  same_still =
      record {
        levels = level;
        there = λ i k. let q = sym (w.seens i) ∙ k in (i, q, row_still i q);
        back = λ i k. (i, w.seens i ∙ k, row_still i k);
      }

  pub above_still : (n : ℕ) → below v' s n ≡ below v s n
  above_still n = below_stays f tree s n (near_here f s)

  pub stands_still : So (namespace_taken v s) → So (namespace_taken v' s)
  stands_still = stands f tree s (near_here f s)

-- one outside S that keeps its place
pub put_still : (t : Table) (f : Facts (view t)) (c : ℕ) (p : Process) → Placed p (process t c) → (s : ℕ) → seen (view t) s c ≡ false → Still (view t) (view (put t c p)) s
put_still t f c p k s o =
    record {
      ups = λ n h. refl;
      levels = λ n h. refl;
      lives = λ n h. refl;
      seens = λ i. seen_remain f (put_remain t c p k).places s i refl;
      looks = λ i h. ap (λ q. record { own = q.own.0; holds = λ k. hold_at q k; state = q.state; traits = q.traits }) (same i h);
      pids = λ i l h. ap (λ q. pid_at q l) (same i h);
      parents = λ i h. ap (λ q. pid_in (view t) s q.parent.0) (same i h);
      lasts = λ i h. refl;
    }
  where
    same : (i : ℕ) → So (seen (view t) s i) → process (put t c p) i ≡ process t i
    same i h = put_other t c p i (λ e. false≢true (sym o ∙ ap (seen (view t) s) (sym e) ∙ h))
