-- The end of a namespace by its members takes its whole subtree down, and touches nothing else. What is told of a table
-- on the way is only that each process is as it was or ended, and each namespace as it was or dead: so an end that has
-- been brought about stays, whatever else ends later.
use Prim.Native.Nat.{ℕ, zero, suc, ◌<◌, ◌≤◌, ◌+◌}
use mathlib.Core.Bool.{Bool, false, not, So, false≢true}
use mathlib.Core.List.{List}
use mathlib.Core.Logic.{◌⊎◌, inl, inr, ⊎_elim}
use mathlib.Core.Path.{◌≡◌, refl, sym, ap, subst, ◌∙◌}
use native.Mathlib.Decide.{ℕ_discrete}
use native.Mathlib.Omega.{arith}
use borrow.Author.Tests.{eq-eqb, ne_eqb, eqb-true}
use lib.Dec.{eqb}
use lib.ListN.{length, get_or, length-set}
use lib.Seq.{get_or-set_same, get_or-set_other}
use Rattle.table.proofs.Chains.{by_bool, pick_yes, pick_no}
use Rattle.table.proofs.FoldLoops.{turns}
use Rattle.rules.proofs.Laws.Below.{below_up, last_step, below_level, below_trans, no_level, shallow_below}
use Rattle.rules.proofs.Laws.Tests.{yes_or_no, no_so, life_cases, dead_otherwise, alive_unborn, dead_unborn, left, right, both, cases, or_left, or_right}
use Rattle.rules.proofs.Laws.Facts.{Facts, Taken, Stands, Lives, Below, Seen, Other, is_seen, seen_taken, seen_below, lives_or_ended}
use Rattle.rules.proofs.Laws.Slots.{alive_above, below_parent, below_same, init_own, init_taken, living_own_alive}
use Rattle.rules.proofs.Laws.Tree.{below_refl}
use Rattle.table.proofs.MapLoops.{changed_length, changed_at}
use Rattle.table.specs.Limits.{deepest, namespace_slots, process_slots}
use Rattle.table.specs.Slots.{process, namespace, pid_at, no_process, no_namespace, is_ended, is_unborn, is_alive, is_dead, init_of, put}
use Rattle.rules.specs.Read.{View, view, alive, unborn, init, taken, namespace_taken}
use Rattle.table.specs.Tests.{◌and◌, when◌then◌else◌}
use Rattle.table.specs.declared.Life.{Life}
use Rattle.table.specs.declared.Life.TheVariants.{Unborn, Alive, Dead}
use Rattle.table.specs.declared.Namespace.{Namespace}
use Rattle.table.specs.declared.Process.{Process}
use Rattle.table.specs.declared.Table.{Table}
use Rattle.table.specs.Records.{as_ended, with_life}
use Rattle.ending.proofs.Members.{turn, lower, member_is, namespace_is}
use Rattle.ending.specs.Ending.{killed, dies_with, once_dead, marked_dead, falls_with, end_member_by, end_member, end_namespace}

-- ---- an ended process

pub killed_ended : (p : Process) → So (is_ended (killed p).state)
unfolding killed
killed_ended p = by_bool (is_ended p.state) (λ e. rw e e) (λ e. rw e)

pub ended_stays : (p : Process) → So (is_ended p.state) → killed p ≡ p
unfolding killed
ended_stays p e = pick_yes (is_ended p.state) p _ e

-- what an end leaves of a process
pub killed_keeps : {B : Type 0} (r : Process → B) (p : Process) → ((e : _) → r (as_ended p e) ≡ r p) → r (killed p) ≡ r p
unfolding killed
killed_keeps r p h = by_bool (is_ended p.state) (λ e. rw e) (λ e. rw e (h _))

killed_twice : (p : Process) → killed (killed p) ≡ killed p
killed_twice p = ended_stays (killed p) (killed_ended p)

pub dead_stays : (s : Namespace) → So (is_dead s.life) → with_life s Dead ≡ s
dead_stays s e = ap (with_life s) (sym (is_it s.life e))
  where
    is_it : (l : Life) → So (is_dead l) → l ≡ Dead
    is_it Unborn h = absurd (false≢true h)
    is_it (Alive i) h = absurd (false≢true h)
    is_it Dead h = refl

-- a living namespace has an init, and no other one has
init_alive : (l : Life) (i : ℕ) → init_of l ≡ i → i < process_slots → So (is_alive l)
init_alive Unborn i e h = absurd (omega arith)
init_alive (Alive k) i e h = refl
init_alive Dead i e h = absurd (omega arith)

-- ---- what the test of the turn tells

module _ (ss : List Namespace) (n i : ℕ) (q : Process) where
  abbrev home : Namespace
  home = get_or ss q.own.0 no_namespace

  abbrev below_test : Bool
  below_test = eqb home.parent.0 n and eqb (init_of home.life) i

  falls_taken : So (falls_with ss n i q) → So (not (eqb (pid_at q 0) 0))
  unfolding falls_with
  falls_taken h = left _ _ h

  falls_out : So (falls_with ss n i q) → (q.own.0 ≡ n → ⊥) → (home.parent.0 ≡ n) × (init_of home.life ≡ i)
  unfolding falls_with
  falls_out h o =
      let k : So below_test = sym (pick_no (eqb q.own.0 n) (not (is_ended q.state)) below_test (ne_eqb _ _ o)) ∙ right _ _ h in
      (eqb-true _ _ (left _ _ k), eqb-true _ _ (right _ _ k))

  passes_member : falls_with ss n i q ≡ false → So (not (eqb (pid_at q 0) 0)) → q.own.0 ≡ n → So (is_ended q.state)
  unfolding falls_with
  passes_member h t o =
      by_bool (is_ended q.state) (λ e. e)
      (λ e. absurd (no_so h (both _ _ t (pick_yes (eqb q.own.0 n) (not (is_ended q.state)) below_test (eq-eqb _ _ o) ∙ ap not e))))

  passes_init : falls_with ss n i q ≡ false → So (not (eqb (pid_at q 0) 0)) → (q.own.0 ≡ n → ⊥) → home.parent.0 ≡ n → init_of home.life ≡ i → ⊥
  unfolding falls_with
  passes_init h t o u k =
      no_so h (both _ _ t (pick_no (eqb q.own.0 n) (not (is_ended q.state)) below_test (ne_eqb _ _ o) ∙ both _ _ (eq-eqb _ _ u) (eq-eqb _ _ k)))

-- ---- from one table to the next, in the subtree of n of the view v

pub record Step (v : View) (n : ℕ) (u w : Table) : Type 0 where
  pub count : length w.processes ≡ length u.processes
  pub namespace_count : length w.namespaces ≡ length u.namespaces
  pub processes : (i : ℕ) → i < process_slots → (process w i ≡ process u i) ⊎ (Seen v n i × (process w i ≡ killed (process u i)))
  pub namespaces : (m : ℕ) → m < namespace_slots → (namespace w m ≡ namespace u m) ⊎ (Below v m n × (namespace w m ≡ with_life (namespace u m) Dead))

-- the subtree of n is down
pub record Down (v : View) (n : ℕ) (u : Table) : Type 0 where
  pub ended : (i : ℕ) → i < process_slots → Seen v n i → So (is_ended (process u i).state)
  pub dead : (m : ℕ) → m < namespace_slots → Below v m n → So (is_dead (namespace u m).life)

pub step_none : (v : View) (n : ℕ) (u : Table) → Step v n u u
step_none v n u = record { count = refl; namespace_count = refl; processes = λ i h. inl refl; namespaces = λ m h. inl refl }

-- an end, and a death, stay
module _ (v : View) (n : ℕ) (u w : Table) (s : Step v n u w) where
  ended_on : (i : ℕ) → i < process_slots → So (is_ended (process u i).state) → So (is_ended (process w i).state)
  ended_on i h e =
      ⊎_elim (λ (q : process w i ≡ process u i). ap (λ p. is_ended p.state) q ∙ e)
      (λ (q : Seen v n i × (process w i ≡ killed (process u i))). ap (λ p. is_ended p.state) q.1 ∙ killed_ended (process u i)) (s.processes i h)

  dead_on : (m : ℕ) → m < namespace_slots → So (is_dead (namespace u m).life) → So (is_dead (namespace w m).life)
  dead_on m h e =
      ⊎_elim (λ (q : namespace w m ≡ namespace u m). ap (λ x. is_dead x.life) q ∙ e)
      (λ (q : Below v m n × (namespace w m ≡ with_life (namespace u m) Dead)). ap (λ x. is_dead x.life) q.1) (s.namespaces m h)

  down_on : (a : ℕ) → Down v a u → Down v a w
  down_on a d = record { ended = λ i h k. ended_on i h (d.ended i h k); dead = λ m h b. dead_on m h (d.dead m h b) }

-- the table t at the start; top is the namespace that ends first
module _ (t : Table) (count : length t.processes ≡ process_slots) (namespace_count : length t.namespaces ≡ namespace_slots) (f : Facts (view t)) where
  abbrev v : View
  v = view t

  seen_up : (a n i : ℕ) → Below v a n → Seen v a i → Seen v n i
  seen_up a n i b s = is_seen v n i (seen_taken v a i s) (below_trans v f _ a n (seen_below v a i s) b)

  down_below : (a n : ℕ) (u : Table) → Below v a n → Down v n u → Down v a u
  down_below a n u b d = record { ended = λ i h s. d.ended i h (seen_up a n i b s); dead = λ m h k. d.dead m h (below_trans v f m a n k b) }

  -- steps one after the other, the second in the same subtree or a smaller one
  step_more : (a n : ℕ) (u w x : Table) → Below v a n → Step v n u w → Step v a w x → Step v n u x
  step_more a n u w x b s r =
      record {
        count = r.count ∙ s.count;
        namespace_count = r.namespace_count ∙ s.namespace_count;
        processes = λ i h.
            ⊎_elim (λ (q : process x i ≡ process w i). ⊎_elim (λ p. inl (q ∙ p)) (λ (k, p). inr (k, q ∙ p)) (s.processes i h))
            (λ (q : Seen v a i × (process x i ≡ killed (process w i))).
            inr (seen_up a n i b q.0, q.1 ∙ ⊎_elim (λ (p : process w i ≡ process u i). ap killed p) (λ (p : Seen v n i × (process w i ≡ killed (process u i))). ap killed p.1 ∙ killed_twice (process u i)) (s.processes i h)))
            (r.processes i h);
        namespaces = λ m h.
            ⊎_elim (λ (q : namespace x m ≡ namespace w m). ⊎_elim (λ p. inl (q ∙ p)) (λ (k, p). inr (k, q ∙ p)) (s.namespaces m h))
            (λ (q : Below v m a × (namespace x m ≡ with_life (namespace w m) Dead)).
            inr (below_trans v f m a n q.0 b, q.1 ∙ ⊎_elim (λ (p : namespace w m ≡ namespace u m). ap (λ z. with_life z Dead) p) (λ (p : Below v m n × (namespace w m ≡ with_life (namespace u m) Dead)). ap (λ z. with_life z Dead) p.1) (s.namespaces m h)))
            (r.namespaces m h);
      }

  -- ---- what is read of a table on the way

  module _ (top : ℕ) (u : Table) (s : Step v top t u) where
    reads : {B : Type 0} (r : Process → B) (i : ℕ) → i < process_slots → ((p : Process) (e : _) → r (as_ended p e) ≡ r p) → r (process u i) ≡ r (process t i)
    reads r i h k =
        ⊎_elim (λ (q : process u i ≡ process t i). ap r q)
        (λ (q : Seen v top i × (process u i ≡ killed (process t i))). ap r q.1 ∙ killed_keeps r (process t i) (k (process t i))) (s.processes i h)

    reads_namespace : {B : Type 0} (r : Namespace → B) (m : ℕ) → m < namespace_slots → ((x : Namespace) → r (with_life x Dead) ≡ r x) → r (namespace u m) ≡ r (namespace t m)
    reads_namespace r m h k =
        ⊎_elim (λ (q : namespace u m ≡ namespace t m). ap r q)
        (λ (q : Below v m top × (namespace u m ≡ with_life (namespace t m) Dead)). ap r q.1 ∙ k (namespace t m)) (s.namespaces m h)

    own_at : (i : ℕ) → i < process_slots → (process u i).own.0 ≡ v.own i
    own_at i h = reads (λ p. p.own.0) i h (λ p e. refl)

    taken_at : (i : ℕ) → i < process_slots → not (eqb (pid_at (process u i) 0) 0) ≡ taken v i
    unfolding taken
    taken_at i h = reads (λ p. not (eqb (pid_at p 0) 0)) i h (λ p e. refl)

    up_at : (m : ℕ) → m < namespace_slots → (namespace u m).parent.0 ≡ v.up m
    up_at m h = reads_namespace (λ x. x.parent.0) m h (λ x. refl)

    level_at : (m : ℕ) → m < namespace_slots → (namespace u m).level ≡ v.level m
    level_at m h = reads_namespace (λ x. x.level) m h (λ x. refl)

    life_at : (m : ℕ) → m < namespace_slots → ((namespace u m).life ≡ v.life m) ⊎ ((namespace u m).life ≡ Dead)
    life_at m h =
        ⊎_elim (λ (q : namespace u m ≡ namespace t m). inl (ap (λ x. x.life) q))
        (λ (q : Below v m top × (namespace u m ≡ with_life (namespace t m) Dead)). inr (ap (λ x. x.life) q.1)) (s.namespaces m h)

  -- ---- the tree

  deeper : (m n : ℕ) → Stands v m → Other m → v.up m ≡ n → v.level m ≡ suc (v.level n)
  deeper m n s o e = (f.tree m s o).0.1 ∙ ap (λ a. suc (v.level a)) e

  right_below : (m n : ℕ) → Stands v m → Other m → v.up m ≡ n → Below v m n
  right_below m n s o e = subst (λ a. Below v m a) e (below_up v f m s o (v.up m) (below_refl v (v.up m)))

  not_itself : (m n : ℕ) → Stands v m → Other m → v.up m ≡ n → m ≡ n → ⊥
  not_itself m n s o e q = omega (arith, deeper m n s o e, ap v.level q)

  -- ---- the loop over the slots

  -- each living namespace below n is as it was, or down already
  abbrev Open : ℕ → Table → Type 0
  Open n u = (m : ℕ) → Stands v m → Below v m n → (m ≡ n → ⊥) → So (alive v m) → ((namespace u m).life ≡ v.life m) ⊎ Down v m u

  open_on : (a n : ℕ) (u w : Table) → Step v a u w → Down v a w → Open n u → Open n w
  open_on a n u w s d o m k b e l =
      ⊎_elim
      (λ (q : (namespace u m).life ≡ v.life m).
      ⊎_elim (λ (p : namespace w m ≡ namespace u m). inl (ap (λ x. x.life) p ∙ q))
      (λ (p : Below v m a × (namespace w m ≡ with_life (namespace u m) Dead)). inr (down_below m a w p.0 d)) (s.namespaces m (f.in_namespace m k)))
      (λ (q : Down v m u). inr (down_on v a u w s m q)) (o m k b e l)

  -- w is what the turns before i make of u, once n is dead
  record Turning (n i : ℕ) (u w : Table) : Type 0 where
    so_far : Step v n u w
    open_still : Open n w
    top_dead : So (is_dead (namespace w n).life)
    unborn_dead : (m : ℕ) → Stands v m → Other m → v.up m ≡ n → So (unborn v m) → So (is_dead (namespace w m).life)
    members : (k : ℕ) → k < i → Taken v k → v.own k ≡ n → So (is_ended (process w k).state)
    inner : (m : ℕ) → Stands v m → Other m → v.up m ≡ n → So (alive v m) → init v m < i → Down v m w

  -- what one turn adds
  record TurnedAt (n i : ℕ) (w x : Table) : Type 0 where
    one_step : Step v n w x
    open_then : Open n x
    member : Taken v i → v.own i ≡ n → So (is_ended (process x i).state)
    inner_here : (m : ℕ) → Stands v m → Other m → v.up m ≡ n → So (alive v m) → init v m ≡ i → Down v m x

  turning_on : (n i : ℕ) (u w x : Table) → Stands v n → Turning n i u w → TurnedAt n i w x → Turning n (suc i) u x
  turning_on n i u w x s k a =
      record {
        so_far = step_more n n u w x (below_refl v n) k.so_far a.one_step;
        open_still = a.open_then;
        top_dead = dead_on v n w x a.one_step n (f.in_namespace n s) k.top_dead;
        unborn_dead = λ m h o e l. dead_on v n w x a.one_step m (f.in_namespace m h) (k.unborn_dead m h o e l);
        members = λ j h c o. member_by j c o (ℕ_discrete j i) h;
        inner = λ m h o e l b. inner_by m h o e l (ℕ_discrete (init v m) i) b;
      }
    where
      member_by : (j : ℕ) → Taken v j → v.own j ≡ n → Dec (j ≡ i) → j < suc i → So (is_ended (process x j).state)
      member_by j c o (yes e) h = subst (λ z. So (is_ended (process x z).state)) (sym e) (a.member (subst (Taken v) e c) (ap v.own (sym e) ∙ o))
      member_by j c o (no e) h = ended_on v n w x a.one_step j (f.in_range j c) (k.members j (omega arith) c o)

      inner_by : (m : ℕ) → Stands v m → Other m → v.up m ≡ n → So (alive v m) → Dec (init v m ≡ i) → init v m < suc i → Down v m x
      inner_by m h o e l (yes q) b = a.inner_here m h o e l q
      inner_by m h o e l (no q) b = down_on v n w x a.one_step m (k.inner m h o e l (omega arith))

  module _ (top : ℕ) where
    -- how a namespace right below n ends
    abbrev Ends : (Table → ℕ → Table) → ℕ → Type 0
    Ends end_Below n =
        (m : ℕ) (u : Table) → Stands v m → Other m → v.up m ≡ n → Below v m top → Step v top t u → Open m u
        → Step v m u (end_Below u m) × Down v m (end_Below u m)

    module _ (n : ℕ) (stands : Stands v n) (inside : Below v n top) (end_Below : Table → ℕ → Table) (ends : Ends end_Below n) where
      -- the turn at i, where the process there is a member of n and ends
      module _ (i : ℕ) (h : i < process_slots) (w : Table) (s : Step v top t w) (o : Open n w) where
        own_is : (process w i).own.0 ≡ v.own i
        own_is = own_at top w s i h

        taken_is : not (eqb (pid_at (process w i) 0) 0) ≡ taken v i
        taken_is = taken_at top w s i h

        -- the init of a namespace right below is no member of n
        init_elsewhere : (m : ℕ) → Stands v m → Other m → v.up m ≡ n → So (alive v m) → init v m ≡ i → v.own i ≡ n → ⊥
        init_elsewhere m k z e l q c = not_itself m n k z e (sym (init_own v f m l) ∙ ap v.own q ∙ c)

        member_turn : Taken v i → v.own i ≡ n → TurnedAt n i w (put w i (killed (process w i)))
        member_turn c e =
            record {
              one_step = step;
              open_then = λ m k b z l. ⊎_elim (λ q. inl q) (λ d. inr (down_on v n w _ step m d)) (o m k b z l);
              member = λ c' e'. ap (λ p. is_ended p.state) here ∙ killed_ended (process w i);
              inner_here = λ m k z q l j. absurd (init_elsewhere m k z q l j e);
            }
          where
            long : i < length w.processes
            long = omega (arith, s.count, count)

            here : process (put w i (killed (process w i))) i ≡ killed (process w i)
            here = get_or-set_same w.processes i (killed (process w i)) no_process long

            at : (j : ℕ) → Dec (j ≡ i) → (process (put w i (killed (process w i))) j ≡ process w j) ⊎ (Seen v n j × (process (put w i (killed (process w i))) j ≡ killed (process w j)))
            at j (yes q) =
                inr (
                  is_seen v n j (subst (Taken v) (sym q) c) (subst (λ a. Below v a n) (sym (ap v.own q ∙ e)) (below_refl v n)),
                  subst (λ z. process (put w i (killed (process w i))) z ≡ killed (process w z)) (sym q) here,
                )
            at j (no q) = inl (get_or-set_other w.processes i j (killed (process w i)) no_process q)

            step : Step v n w (put w i (killed (process w i)))
            step = record { count = length-set w.processes i (killed (process w i)); namespace_count = refl; processes = λ j k. at j (ℕ_discrete j i); namespaces = λ m k. inl refl }

        -- where it does not fall
        passed_turn : falls_with w.namespaces n i (process w i) ≡ false → TurnedAt n i w w
        passed_turn g =
            record {
              one_step = step_none v n w;
              open_then = o;
              member = λ c e. passes_member w.namespaces n i (process w i) g (taken_is ∙ c) (own_is ∙ e);
              inner_here = down;
            }
          where
            down : (m : ℕ) → Stands v m → Other m → v.up m ≡ n → So (alive v m) → init v m ≡ i → Down v m w
            down m k z e l q =
                let own : (process w i).own.0 ≡ m = own_is ∙ ap v.own (sym q) ∙ init_own v f m l in
                let c : Taken v i = subst (Taken v) q (init_taken v f m l) in
                ⊎_elim
                (λ (x : (namespace w m).life ≡ v.life m).
                absurd (passes_init w.namespaces n i (process w i) g (taken_is ∙ c) (λ y. not_itself m n k z e (sym own ∙ y))
                (ap (λ a. (namespace w a).parent.0) own ∙ up_at top w s m (f.in_namespace m k) ∙ e)
                (ap (λ a. init_of (namespace w a).life) own ∙ ap init_of x ∙ q)))
                (λ (x : Down v m w). x) (o m k (right_below m n k z e) (not_itself m n k z e) l)

        -- the init of a namespace right below
        init_turn : So (falls_with w.namespaces n i (process w i)) → (v.own i ≡ n → ⊥) → TurnedAt n i w (end_Below w (process w i).own.0)
        init_turn g e =
            let c : Taken v i = sym taken_is ∙ falls_taken w.namespaces n i (process w i) g in
            let k : Stands v (v.own i) = (f.members i c).0.0 in
            let low : v.own i < namespace_slots = f.in_namespace (v.own i) k in
            let (p, q) = falls_out w.namespaces n i (process w i) g (λ y. e (sym own_is ∙ y)) in
            let up : v.up (v.own i) ≡ n = sym (ap (λ a. (namespace w a).parent.0) own_is ∙ up_at top w s (v.own i) low) ∙ p in
            let z : Other (v.own i) = (λ y. omega (arith, f.in_namespace n stands, sym up ∙ ap v.up y ∙ f.root_up)) in
            let b = right_below (v.own i) n k z up in
            let (r, d) = ends (v.own i) w k z up (below_trans v f _ n top b inside) s (λ m x y j l. o m x (below_trans v f m _ n y b) (λ a. omega (arith, below_level v f m (v.own i) y, ap v.level a, deeper (v.own i) n k z up)) l) in
            subst (λ a. TurnedAt n i w (end_Below w a)) (sym own_is)
            (record {
              one_step = step_more (v.own i) n w w _ b (step_none v n w) r;
              open_then = open_on (v.own i) n w _ r d o;
              member = λ c' e'. absurd (e e');
              inner_here = λ m x y j l a. subst (λ y. Down v y (end_Below w (v.own i))) (ap v.own (sym a) ∙ init_own v f m l) d;
            })

      -- ---- before the first turn

      module _ (u : Table) (s : Step v top t u) (o : Open n u) where
        abbrev begun : Table
        begun = marked_dead u n

        begun_at : (m : ℕ) → m < namespace_slots → namespace begun m ≡ once_dead n m (namespace u m)
        unfolding marked_dead
        begun_at m h = changed_at (once_dead n) no_namespace namespace_slots m u.namespaces h (omega (arith, s.namespace_count, namespace_count))

        -- who dies at once lies in the subtree
        dying : (m : ℕ) → m < namespace_slots → So (dies_with n m (namespace u m)) → Below v m n
        unfolding dies_with namespace_taken
        dying m h d =
            ⊎_elim (λ (q : So (eqb m n)). subst (λ a. Below v a n) (sym (eqb-true m n q)) (below_refl v n))
            (λ (q : So (not (eqb (namespace u m).level 0) and eqb (namespace u m).parent.0 n and is_unborn (namespace u m).life)).
            let a : So (not (eqb (v.level m) 0)) = ap (λ l. not (eqb l 0)) (sym (level_at top u s m h)) ∙ left _ _ (left _ _ q) in
            let k : Stands v m = or_right (eqb m 0) _ a in
            let up : v.up m ≡ n = sym (up_at top u s m h) ∙ eqb-true _ _ (right _ _ (left _ _ q)) in
            right_below m n k (λ z. omega (arith, f.in_namespace n stands, sym up ∙ ap v.up z ∙ f.root_up)) up)
            (cases (eqb m n) _ d)

        start_at : (m : ℕ) → m < namespace_slots → (namespace begun m ≡ namespace u m) ⊎ (Below v m n × (namespace begun m ≡ with_life (namespace u m) Dead))
        unfolding once_dead
        start_at m h =
            by_bool (dies_with n m (namespace u m))
            (λ d. inr (dying m h d, begun_at m h ∙ pick_yes (dies_with n m (namespace u m)) (with_life (namespace u m) Dead) (namespace u m) d))
            (λ d. inl (begun_at m h ∙ pick_no (dies_with n m (namespace u m)) (with_life (namespace u m) Dead) (namespace u m) d))

        start_step : Step v n u begun
        unfolding marked_dead
        start_step =
            record {
              count = refl;
              namespace_count = changed_length (once_dead n) no_namespace namespace_slots u.namespaces;
              processes = λ i h. inl refl;
              namespaces = start_at;
            }

        -- one that dies with n is dead
        dies : (m : ℕ) → m < namespace_slots → So (dies_with n m (namespace u m)) → So (is_dead (namespace begun m).life)
        unfolding once_dead
        dies m h d = ap (λ x. is_dead x.life) (begun_at m h ∙ pick_yes (dies_with n m (namespace u m)) (with_life (namespace u m) Dead) (namespace u m) d)

        -- a living one below n does not die at once
        waits : (m : ℕ) → (m ≡ n → ⊥) → So (is_alive (namespace u m).life) → dies_with n m (namespace u m) ≡ false
        unfolding dies_with
        waits m e l =
            by_bool (dies_with n m (namespace u m))
            (λ d. absurd (⊎_elim (λ (q : So (eqb m n)). e (eqb-true m n q)) (λ (q : So (not (eqb (namespace u m).level 0) and eqb (namespace u m).parent.0 n and is_unborn (namespace u m).life)). alive_unborn (namespace u m).life l (right _ _ q)) (cases (eqb m n) _ d)))
            (λ d. d)

        started : Turning n 0 u begun
        unfolding dies_with once_dead
        started =
            record {
              so_far = start_step;
              open_still = λ m k b e l.
                  ⊎_elim
                  (λ (q : (namespace u m).life ≡ v.life m).
                  inl (ap (λ x. x.life) (begun_at m (f.in_namespace m k) ∙ pick_no (dies_with n m (namespace u m)) (with_life (namespace u m) Dead) (namespace u m) (waits m e (ap is_alive q ∙ l))) ∙ q))
                  (λ (q : Down v m u). inr (down_on v n u begun start_step m q)) (o m k b e l);
              top_dead = dies n (f.in_namespace n stands) (or_left _ _ (eq-eqb n n refl));
              unborn_dead = unborns;
              members = λ k h c e. absurd (omega arith);
              inner = λ m k z e l h. absurd (omega arith);
            }
          where
            unborns : (m : ℕ) → Stands v m → Other m → v.up m ≡ n → So (unborn v m) → So (is_dead (namespace begun m).life)
            unborns m k z e l =
                let h = f.in_namespace m k in
                ⊎_elim
                (λ (q : (namespace u m).life ≡ v.life m).
                dies m h (or_right (eqb m n) _ (both _ _ (both _ _ (ap not (ne_eqb (namespace u m).level 0 (λ (y : (namespace u m).level ≡ 0). omega (arith, level_at top u s m h, deeper m n k z e)))) (eq-eqb _ _ (up_at top u s m h ∙ e))) (ap is_unborn q ∙ l))))
                (λ (q : (namespace u m).life ≡ Dead). dead_on v n u begun start_step m h (ap is_dead q))
                (life_at top u s m h)

      -- ---- after the last

      -- the namespace right below n by way of which a living one lies below it has an init
      module _ (u w : Table) (s : Step v top t u) (k : Turning n process_slots u w) where
        whole : Step v top t w
        whole = step_more n top t u w inside s k.so_far

        was_ended : (i : ℕ) → i < process_slots → So (v.ended i) → So (is_ended (process w i).state)
        was_ended i h e = ended_on v top t w whole i h e

        inner_down : (m : ℕ) → Stands v m → Other m → v.up m ≡ n → So (alive v m) → Down v m w
        inner_down m h z e l = k.inner m h z e l (f.in_range (init v m) (init_taken v f m l))

        all_ended : (i : ℕ) → i < process_slots → Seen v n i → So (is_ended (process w i).state)
        all_ended i h b =
            ⊎_elim
            (λ (l : Lives v i).
            let c = seen_taken v n i b in
            let a = living_own_alive v f i l in
            ⊎_elim (λ (e : v.own i ≡ n). k.members i h c e)
            (λ (m, x, z, e, y). (inner_down m x z e (alive_above v f (v.own i) m a y)).ended i h (is_seen v m i c y))
            (last_step v f (v.own i) n (f.members i c).0.0 (seen_below v n i b)))
            (λ (e : So (v.ended i)). was_ended i h e)
            (lives_or_ended v i (seen_taken v n i b))

        -- a living one below n
        alive_down : (m : ℕ) → Stands v m → Below v m n → So (alive v m) → (m ≡ n) ⊎ ((a : ℕ) × Below v m a × Down v a w)
        alive_down m c b l =
            ⊎_elim (λ (e : m ≡ n). inl e) (λ (a, x, z, e, y). inr (a, y, inner_down a x z e (alive_above v f m a l y))) (last_step v f m n c b)

        -- an unborn one: its parent lives
        unborn_down : (m : ℕ) → Stands v m → m < namespace_slots → Below v m n → (m ≡ n → ⊥) → So (unborn v m) → So (is_dead (namespace w m).life)
        unborn_down m c h b o l =
            let z : Other m = (λ (y : m ≡ 0). alive_unborn (v.life 0) f.root_alive (ap (λ a. is_unborn (v.life a)) (sym y) ∙ l)) in
            let up = (f.tree m c z).0 in
            let lives : So (alive v (v.up m)) =
            life_cases (v.life (v.up m)) (λ y. f.unborn_leaf (v.up m) up.0 y m c z refl) (λ y. dead_unborn (v.life m) (f.below_dead m c z y) l) in
            let lower : Below v (v.up m) n = below_parent v f m n b (deep (ℕ_discrete (v.level m) (v.level n))) in
            ⊎_elim (λ (e : v.up m ≡ n). k.unborn_dead m c z e l)
            (λ (a, y, d). d.dead m h (below_up v f m c z a y))
            (alive_down (v.up m) up.0 lower lives)
          where
            deep : Dec (v.level m ≡ v.level n) → v.level n < v.level m
            deep (yes e) = absurd (o (below_same v f m n b e))
            deep (no e) = omega (arith, below_level v f m n b)

        all_dead : (m : ℕ) → m < namespace_slots → Below v m n → So (is_dead (namespace w m).life)
        all_dead m h b = go (ℕ_discrete m n) (yes_or_no (namespace_taken v m)) (yes_or_no (alive v m)) (yes_or_no (unborn v m))
          where
            go : Dec (m ≡ n) → Stands v m ⊎ (namespace_taken v m ≡ false) → So (alive v m) ⊎ (alive v m ≡ false) → So (unborn v m) ⊎ (unborn v m ≡ false) → So (is_dead (namespace w m).life)
            go (yes e) c l q = subst (λ a. So (is_dead (namespace w a).life)) (sym e) k.top_dead
            go (no e) (inr c) l q = absurd (e (shallow_below v m n (no_level v f m (no_so c)) b))
            go (no e) (inl c) (inl l) q = ⊎_elim (λ (x : m ≡ n). absurd (e x)) (λ (a, y, d). d.dead m h y) (alive_down m c b l)
            go (no e) (inl c) (inr l) (inl q) = unborn_down m c h b e q
            go (no e) (inl c) (inr l) (inr q) = dead_on v top t w whole m h (dead_otherwise (v.life m) (no_so q) (no_so l))

        finished : Step v n u w × Down v n w
        finished = (k.so_far, record { ended = all_ended; dead = all_dead })

  -- ---- all levels

  module _ (top : ℕ) where
    module _ (left n : ℕ) (stands : Stands v n) (inside : Below v n top) (ends : Ends top (lower left) n) where
      turned : (i : ℕ) → i < process_slots → (w : Table) → Step v top t w → Open n w → TurnedAt n i w (turn left n i w)
      unfolding end_member_by
      turned i h w s o =
          by_bool (falls_with w.namespaces n i (process w i))
          (λ g. subst (TurnedAt n i w) (sym (pick_yes (falls_with w.namespaces n i (process w i)) (end_member left w n i) w g ∙ member_is left w n i)) (falling g (ℕ_discrete (v.own i) n)))
          (λ g. subst (TurnedAt n i w) (sym (pick_no (falls_with w.namespaces n i (process w i)) (end_member left w n i) w g)) (passed_turn top n stands inside (lower left) ends i h w s o g))
        where
          own : (process w i).own.0 ≡ v.own i
          own = own_at top w s i h

          falling : So (falls_with w.namespaces n i (process w i)) → Dec (v.own i ≡ n) → TurnedAt n i w (when eqb (process w i).own.0 n then put w i (killed (process w i)) else lower left w (process w i).own.0)
          falling g (yes e) =
              subst (TurnedAt n i w) (sym (pick_yes (eqb (process w i).own.0 n) (put w i (killed (process w i))) _ (eq-eqb _ _ (own ∙ e))))
              (member_turn top n stands inside (lower left) ends i h w s o (sym (taken_at top w s i h) ∙ falls_taken w.namespaces n i (process w i) g) e)
          falling g (no e) =
              subst (TurnedAt n i w) (sym (pick_no (eqb (process w i).own.0 n) (put w i (killed (process w i))) _ (ne_eqb _ _ (λ y. e (sym own ∙ y)))))
              (init_turn top n stands inside (lower left) ends i h w s o g e)

      module _ (u : Table) (s : Step v top t u) (o : Open n u) where
        turning : (i : ℕ) → i ≤ process_slots → Turning n i u (turns i (turn left n) (marked_dead u n))
        unfolding turns
        turning zero h = started top n stands inside (lower left) ends u s o
        turning (suc i) h =
            let k = turning i (omega arith) in
            turning_on n i u _ _ stands k (turned i (omega arith) _ (step_more n top t u _ inside s k.so_far) k.open_still)

        falls : Step v n u (end_namespace left u n) × Down v n (end_namespace left u n)
        falls =
            subst (λ w. Step v n u w × Down v n w) (sym (namespace_is left u n))
            (finished top n stands inside (lower left) ends u _ s (turning process_slots (omega arith)))

    all_levels : (left n : ℕ) (u : Table) → Stands v n → deepest ≤ left + v.level n → Below v n top → Step v top t u → Open n u → Step v n u (end_namespace left u n) × Down v n (end_namespace left u n)
    unfolding lower
    all_levels zero n u k e b s o =
        falls zero n k b (λ m w c z y q r p. absurd (omega (arith, deeper m n c z y, (f.tree m c z).1))) u s o
    all_levels (suc left) n u k e b s o =
        falls (suc left) n k b (λ m w c z y q r p. all_levels left m w c (omega (arith, deeper m n c z y)) q r p) u s o

  -- with as many levels left as there can be, the whole subtree of a namespace goes down, and nothing else changes
  pub namespace_falls : (n : ℕ) → Stands v n → Step v n t (end_namespace deepest t n) × Down v n (end_namespace deepest t n)
  namespace_falls n k =
      all_levels n deepest n t k (omega arith) (below_refl v n) (step_none v n t) (λ m c b e l. inl refl)
