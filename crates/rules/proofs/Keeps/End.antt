-- "An end", as a table: what is read of it, and that all facts but those that freeing restores stay.
use Prim.Native.Nat.{ℕ, ◌≤◌}
use native.Mathlib.Omega.{arith}
use mathlib.Core.Bool.{Bool, true, false, not, So}
use mathlib.Core.Path.{◌≡◌, refl, ◌∙◌, ap, sym, subst, ap₂}
use borrow.Author.Tests.{ne_eqb}
use lib.Dec.{eqb}
use Rattle.rules.proofs.Keeps.Changed.{get_d_replicate, changed_at, process_count, view_changed, shaped_changed, process_shaped, pick}
use Rattle.rules.proofs.Keeps.InitEnds.{gone, subtree_gone, subtree_facts}
use Rattle.rules.proofs.Keeps.MemberEnds.{member_gone, member_facts}
use Rattle.rules.proofs.Laws.Below.{shallow_below, no_level}
use Rattle.rules.proofs.Laws.Facts.{Facts, Lives, Other, lives_taken, seen_taken, Sane, Taken}
use Rattle.rules.proofs.Laws.Holds.{ended_none, none_past, parent_holds}
use Rattle.rules.proofs.Laws.Tests.{false_and, isnt_so, choose, left, both, right}
use Rattle.rules.specs.Ends.{end, init_ends, namespace_dies, member_ends}
use Rattle.table.specs.Fresh.{empty_process}
use Rattle.table.specs.Limits.{levels, namespace_slots, no_slot, process_slots, sigkill}
use Rattle.table.specs.Slots.{is_ended, namespace, no_pid, pid_at, process, no_process, changed, hold_at}
use Rattle.rules.specs.Read.{View, below, is_init, seen, view, child_of, init, taken}
use Rattle.rules.specs.Sound.{kept_end, shaped}
use Rattle.rules.proofs.Laws.Traits.{none_shaped, bare_stay, ended_shaped}
use Rattle.table.specs.Tests.{◌and◌, when◌then◌else◌}
use Rattle.table.specs.declared.End.TheVariants.{Signaled}
use Rattle.table.specs.declared.End.{End}
use Rattle.table.specs.declared.Life.TheVariants.{Dead}
use Rattle.table.specs.declared.Namespace.{Namespace}
use Rattle.table.specs.declared.Process.{Process}
use Rattle.table.specs.declared.State.TheVariants.{Ended}
use Rattle.table.specs.declared.Table.{Table}
use Rattle.table.specs.Records.{with_parent, as_ended, with_life}
use Rattle.table.specs.Traits.{ended_traits}

module _ (e : End) (q : Process) where
  -- what no end changes
  plain : {B : Type 0} (r : Process → B) (a b c d : Bool) → ((x : End) → r (as_ended q x) ≡ r q)
      → r (when not a then q else (when b then empty_process else (when c then as_ended q e else (when d then q else as_ended q (Signaled sigkill))))) ≡ (when a and b then r empty_process else r q)
  unfolding ◌and◌
  plain r false b c d h = refl
  plain r true true c d h = refl
  plain r true false true d h = h e
  plain r true false false true h = refl
  plain r true false false false h = h (Signaled sigkill)

  -- what an end clears
  cleared : {B : Type 0} (r : Process → B) (x : B) (a b c d : Bool) → ((y : End) → r (as_ended q y) ≡ x) → (So a → So d → r q ≡ x)
      → r (when not a then q else (when b then empty_process else (when c then as_ended q e else (when d then q else as_ended q (Signaled sigkill))))) ≡ (when a and b then r empty_process else (when a then x else r q))
  unfolding ◌and◌
  cleared r x false b c d h k = refl
  cleared r x true true c d h k = refl
  cleared r x true false true d h k = h e
  cleared r x true false false true h k = k refl refl
  cleared r x true false false false h k = h (Signaled sigkill)

  stated : (a b c d : Bool)
      → (when not a then q else (when b then empty_process else (when c then as_ended q e else (when d then q else as_ended q (Signaled sigkill))))).state
      ≡ (when a and b then empty_process.state else (when a then (when c then Ended e else (when d then q.state else Ended (Signaled sigkill))) else q.state))
  unfolding ◌and◌
  stated false b c d = refl
  stated true true c d = refl
  stated true false true d = refl
  stated true false false true = refl
  stated true false false false = refl

  shaped_cased : (a b c d : Bool) → So (process_shaped q) → So (process_shaped (when not a then q else (when b then empty_process else (when c then as_ended q e else (when d then q else as_ended q (Signaled sigkill))))))
  shaped_cased false b c d h = h
  shaped_cased true true c d h = both _ _ refl none_shaped
  shaped_cased true false true d h = both _ _ (left _ _ h) (ended_shaped _ (right _ _ h))
  shaped_cased true false false true h = h
  shaped_cased true false false false h = both _ _ (left _ _ h) (ended_shaped _ (right _ _ h))

-- the view once the process at p has ended
abbrev pub ended_view : View → ℕ → End → View
ended_view v p e = when is_init v p then subtree_gone v (v.own p) p e else member_gone v p (init v (v.own p)) e

module _ (t : Table) (s : Sane t) (p : ℕ) (e : End) (here : Taken (view t) p) where
  abbrev v : View
  v = view t

  g : So (shaped t)
  g = s.shape_of

  f : Facts v
  f = s.facts

  -- ---- not an init

  abbrev q : ℕ
  q = init v (v.own p)

  abbrev after_member : Table
  after_member = changed t (member_ends v p e) (λ n s. s)

  -- what is read of the three cases
  three : {B : Type 0} (r : Process → B) (a b : Bool) (x : Process) → r (when a then as_ended x e else (when b then with_parent x q else x)) ≡ (when a then r (as_ended x e) else (when b then r (with_parent x q) else r x))
  three r true b x = refl
  three r false true x = refl
  three r false false x = refl

  -- the same where the second case is as the third
  two : {B : Type 0} (r : Process → B) (a b : Bool) (x : Process) → r (with_parent x q) ≡ r x → r (when a then as_ended x e else (when b then with_parent x q else x)) ≡ (when a then r (as_ended x e) else r x)
  two r true b x h = refl
  two r false true x h = h
  two r false false x h = refl

  none_of : {B : Type 0} (r : Process → B) (a b : Bool) (x : Process) → r (as_ended x e) ≡ r x → r (with_parent x q) ≡ r x → r (when a then as_ended x e else (when b then with_parent x q else x)) ≡ r x
  none_of r true b x h k = h
  none_of r false true x h k = k
  none_of r false false x h k = refl

  no_child : (i : ℕ) → process_slots ≤ i → child_of v p i ≡ false
  unfolding child_of
  no_child i l = false_and (taken v i) _ (λ k. omega (arith, f.in_range i k))

  member_out : (i : ℕ) → process_slots ≤ i → member_ends v p e i no_process ≡ no_process
  unfolding member_ends
  member_out i l = rw (ne_eqb i p (λ x. omega (arith, f.in_range p here)), no_child i l)

  -- each record then
  pub member_at : (i : ℕ) → process after_member i ≡ member_ends v p e i (process t i)
  member_at = changed_at (member_ends v p e) no_process process_slots t.processes (process_count t g) member_out

  -- what is read then
  pub member_view : view after_member ≡ member_gone v p q e
  unfolding member_ends
  member_view =
      view_changed t (member_ends v p e) (λ n s. s) g member_out (λ n l. refl)
      ∙ (λ j. record {
        own = λ i. none_of (λ x. x.own.0) (eqb i p) (child_of v p i) (process t i) refl refl j;
        hold = λ i k. (two (λ x. hold_at x k) (eqb i p) (child_of v p i) (process t i) (parent_holds (process t i) q k) ∙ ap (λ z. when eqb i p then z else v.hold i k) (ended_none (process t i) e k)) j;
        parent = λ i. three (λ x. x.parent.0) (eqb i p) (child_of v p i) (process t i) j;
        state = λ i. two (λ x. x.state) (eqb i p) (child_of v p i) (process t i) refl j;
        ended = λ i. two (λ x. is_ended x.state) (eqb i p) (child_of v p i) (process t i) refl j;
        traits = λ i. two (λ x. x.traits) (eqb i p) (child_of v p i) (process t i) refl j;
        pid = λ i l. none_of (λ x. pid_at x l) (eqb i p) (child_of v p i) (process t i) refl refl j;
        up = v.up;
        level = v.level;
        last = v.last;
        life = v.life;
      })

  pub member_shape : So (shaped after_member)
  unfolding member_ends
  member_shape = shaped_changed t (member_ends v p e) (λ n s. s) g (λ i x h. still (eqb i p) (child_of v p i) x h)
    where
      still : (a b : Bool) (x : Process) → So (process_shaped x) → So (process_shaped (when a then as_ended x e else (when b then with_parent x q else x)))
      still true b x h = both _ _ (left _ _ h) (ended_shaped _ (right _ _ h))
      still false true x h = h
      still false false x h = h

  -- ---- an init

  abbrev n : ℕ
  n = v.own p

  abbrev after_init : Table
  after_init = changed t (init_ends v p e) (namespace_dies v n)

  dying : {B : Type 0} (r : Namespace → B) (b : Bool) (s : Namespace) → r (with_life s Dead) ≡ r s → r (when b then with_life s Dead else s) ≡ r s
  dying r true s h = h
  dying r false s h = refl

  dies : (b : Bool) (s : Namespace) → (when b then with_life s Dead else s).life ≡ (when b then Dead else s.life)
  dies true s = refl
  dies false s = refl

  is_out : (i : ℕ) → process_slots ≤ i → seen v n i ≡ false
  is_out i l = isnt_so (λ s. omega (arith, f.in_range i (seen_taken v n i s)))

  subtree_out : (i : ℕ) → process_slots ≤ i → init_ends v p e i no_process ≡ no_process
  unfolding init_ends
  subtree_out i l = rw (is_out i l)

  -- each record then
  pub subtree_at : (i : ℕ) → process after_init i ≡ init_ends v p e i (process t i)
  subtree_at = changed_at (init_ends v p e) no_process process_slots t.processes (process_count t g) subtree_out

  namespace_out : (m : ℕ) → namespace_slots ≤ m → below v m n ≡ false
  namespace_out m l =
      let low = f.in_namespace n (f.members p here).0.0 in
      isnt_so (λ b. omega (arith, low, shallow_below v m n (no_level v f m (λ s. omega (arith, f.in_namespace m s))) b))

  -- what is read then
  pub subtree_view : view after_init ≡ subtree_gone v n p e
  unfolding init_ends namespace_dies gone
  subtree_view =
      view_changed t (init_ends v p e) (namespace_dies v n) g subtree_out (λ m l. rw (namespace_out m l))
      ∙ (λ j. record {
        own = λ i. plain e (process t i) (λ x. x.own.0) (seen v n i) (seen v n (v.parent i)) (eqb i p) (v.ended i) (λ x. refl) j;
        hold = λ i k. cleared e (process t i) (λ x. hold_at x k) no_slot (seen v n i) (seen v n (v.parent i)) (eqb i p) (v.ended i) (λ x. ended_none (process t i) x k) (λ s d. none_past (process t i) k (f.ended_holds i (seen_taken v n i s) d k)) j;
        parent = λ i. plain e (process t i) (λ x. x.parent.0) (seen v n i) (seen v n (v.parent i)) (eqb i p) (v.ended i) (λ x. refl) j;
        state = λ i. stated e (process t i) (seen v n i) (seen v n (v.parent i)) (eqb i p) (v.ended i) j;
        ended = λ i. cleared e (process t i) (λ x. is_ended x.state) true (seen v n i) (seen v n (v.parent i)) (eqb i p) (v.ended i) (λ x. refl) (λ s d. d) j;
        traits = λ i. cleared e (process t i) (λ x. x.traits) (ended_traits (v.traits i)) (seen v n i) (seen v n (v.parent i)) (eqb i p) (v.ended i) (λ x. refl) (λ s d. sym (bare_stay _ (f.ended_traits i (seen_taken v n i s) d))) j;
        pid = λ i l. (plain e (process t i) (λ x. pid_at x l) (seen v n i) (seen v n (v.parent i)) (eqb i p) (v.ended i) (λ x. refl) ∙ ap (λ z. when seen v n i and seen v n (v.parent i) then z else v.pid i l) (ap (λ x. x.0) (get_d_replicate no_pid levels l))) j;
        up = λ m. dying (λ s. s.parent.0) (below v m n) (namespace t m) refl j;
        level = λ m. dying (λ s. s.level) (below v m n) (namespace t m) refl j;
        last = λ m. dying (λ s. s.last.0) (below v m n) (namespace t m) refl j;
        life = λ m. dies (below v m n) (namespace t m) j;
      })

  pub subtree_shape : So (shaped after_init)
  unfolding init_ends
  subtree_shape = shaped_changed t (init_ends v p e) (namespace_dies v n) g (λ i x h. shaped_cased e x (seen v n i) (seen v n (v.parent i)) (eqb i p) (is_ended x.state) h)

  -- ---- either

  -- what is read of the table of an end
  pub end_view : view (end t p e) ≡ ended_view v p e
  unfolding end
  end_view = pick view (is_init v p) after_init after_member ∙ ap₂ (λ (x y : View). when is_init v p then x else y) subtree_view member_view

  end_shape : So (shaped (end t p e))
  unfolding end
  end_shape = choose (λ u. So (shaped u)) (is_init v p) (λ i. subtree_shape) (λ i. member_shape)

-- each record once the process at p has ended, an init or another
pub init_ended_at : (t : Table) (s : Sane t) (p : ℕ) (e : End) → Taken (view t) p → So (is_init (view t) p) → (i : ℕ) → process (end t p e) i ≡ init_ends (view t) p e i (process t i)
unfolding end
init_ended_at t s p e here z i = rw (z, end) (subtree_at t s p e here i)

pub member_ended_at : (t : Table) (s : Sane t) (p : ℕ) (e : End) → Taken (view t) p → is_init (view t) p ≡ false → (i : ℕ) → process (end t p e) i ≡ member_ends (view t) p e i (process t i)
unfolding end
member_ended_at t s p e here z i = rw (z, end) (member_at t s p e here i)

-- an end leaves the tree of namespaces
pub end_tree : (t : Table) (s : Sane t) (p : ℕ) (e : End) → Taken (view t) p → ((view (end t p e)).up ≡ (view t).up) × ((view (end t p e)).level ≡ (view t).level)
end_tree t s p e here =
    subst (λ (u : View). (u.up ≡ (view t).up) × (u.level ≡ (view t).level)) (sym (end_view t s p e here))
    (choose (λ (u : View). (u.up ≡ (view t).up) × (u.level ≡ (view t).level)) (is_init (view t) p) (λ i. (refl, refl)) (λ i. (refl, refl)))

-- an end keeps the facts
pub end_sane : (t : Table) → Sane t → (p : ℕ) (e : End) → Lives (view t) p → Other p → So (kept_end (Ended e)) → Sane (end t p e)
end_sane t s p e lives other ok =
    let here = lives_taken (view t) p lives in
    record {
      shape_of = end_shape t s p e here;
      facts = subst Facts (sym (end_view t s p e here)) (choose Facts (is_init (view t) p) (λ i. subtree_facts (view t) s.facts p e lives i other ok) (λ i. member_facts (view t) s.facts p e lives i ok));
    }
