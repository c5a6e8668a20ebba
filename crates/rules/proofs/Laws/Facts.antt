-- A sound table as statements: `Facts` is what holds at every point of a call, `Held` what freeing restores.
use Prim.Native.Nat.{ℕ, suc, ◌<◌, ◌≤◌}
use native.Mathlib.Decide.{dec_lt}
use native.Mathlib.Omega.{arith}
use mathlib.Core.Bool.{Bool, true, false, not, So}
use mathlib.Core.Logic.{◌⊎◌, inl, inr, ⊎_elim, ◌↔◌}
use mathlib.Core.List.{[]}
use mathlib.Core.Path.{◌≡◌, refl, sym, ◌∙◌, ap, subst}
use borrow.Author.Tests.{eq-eqb, eqb-true}
use lib.Dec.{eqb, leb}
use lib.ListN.{length, get_or-eq_default}
use Rattle.rules.proofs.Laws.Clauses.{Sound, sound_is, is_sound}
use Rattle.rules.proofs.Laws.Holds.{blank_holds, each_index}
use Rattle.rules.proofs.Laws.Tests.{tests, not_iff, or_iff, left, right, both, cases, or_left, all_elim, any_elim, any_intro, assume, given, all_intro}
use Rattle.table.specs.Limits.{deepest, greatest_pid, hold_slots, levels, namespace_slots, no_slot, process_slots}
use Rattle.table.specs.Slots.{no_process, no_namespace, is_running, is_unborn, hold_at, pid_at, is_ended, process}
use Rattle.rules.specs.Read.{View, view, taken, namespace_taken, living, children, alive, dead, unborn, init, below, seen, pid_seen, unlike, numbers}
use Rattle.rules.specs.Sound as S
use Rattle.rules.specs.Sound.{SoundTable, held, holds, kept_end, reaches_root, shaped, zero_namespace, zero_process}
use Rattle.rules.proofs.Laws.Traits.{none_are_blank}
use Rattle.table.specs.Tests.{◌and◌, when◌then◌else◌, one}
use Rattle.table.specs.declared.Namespace.{Namespace}
use Rattle.table.specs.declared.Process.{Process}
use Rattle.table.specs.declared.Table.{Table}
use Rattle.table.specs.Traits.{blank_traits, bare_traits, traits_ok}

-- short words for what tests say
abbrev pub Taken : View → ℕ → Type 0
Taken v i = So (taken v i)

abbrev pub Stands : View → ℕ → Type 0
Stands v n = So (namespace_taken v n)

abbrev pub Lives : View → ℕ → Type 0
Lives v i = So (living v i)

abbrev pub Below : View → ℕ → ℕ → Type 0
Below v a b = So (below v a b)

abbrev pub Seen : View → ℕ → ℕ → Type 0
Seen v n i = So (seen v n i)

abbrev pub Other : ℕ → Type 0
Other i = i ≡ 0 → ⊥

-- the process at i holds n, at some index
abbrev pub Holds : View → ℕ → ℕ → Type 0
Holds v i n = (k : ℕ) × (k < hold_slots) × (v.hold i k ≡ n)

-- what it has for its children it holds, at 0
pub for_children : (v : View) (i n : ℕ) → children v i ≡ n → Holds v i n
for_children v i n e = (0, omega arith, e)

pub holds_children : (v : View) (i : ℕ) → Holds v i (children v i)
holds_children v i = for_children v i _ refl

-- the number of the process at i at level l is a number, up to its own level, and 0 beyond
abbrev pub pid_ok : View → ℕ → ℕ → Type 0
pid_ok v i l = So (when leb l (v.level (v.own i)) then leb 1 (v.pid i l) and leb (v.pid i l) greatest_pid else eqb (v.pid i l) 0)

-- an empty process slot, by its parts
pub record Zero (v : View) (i : ℕ) : Type 0 where
  pub own : v.own i ≡ 0
  pub holds : (k : ℕ) → k < hold_slots → v.hold i k ≡ 0
  pub parent : v.parent i ≡ 0
  pub running : So (is_running (v.state i))
  pub traits : So (blank_traits (v.traits i))
  pub pids : (l : ℕ) → l < levels → v.pid i l ≡ 0

pub zero_of : (v : View) (i : ℕ) → So (zero_process v i) → Zero v i
unfolding zero_process
zero_of v i h =
    let (((((own, holds), parent), running), traits), pids) = simp tests at h in
    record { own = own; holds = holds; parent = parent; running = running; traits = traits; pids = pids }

pub is_zero : (v : View) (i : ℕ) → Zero v i → So (zero_process v i)
unfolding zero_process
is_zero v i z = simp tests (((((z.own, z.holds), z.parent), z.running), z.traits), z.pids)

-- what holds of a table, by its slots, at every point of a call
pub record Facts (v : View) : Type 0 where
  pub ended_is : (i : ℕ) → v.ended i ≡ is_ended (v.state i)
  pub in_range : (i : ℕ) → Taken v i → i < process_slots
  pub in_namespace : (n : ℕ) → Stands v n → n < namespace_slots
  pub root_init : init v 0 ≡ 0
  pub root_lives : Lives v 0
  pub root_own : v.own 0 ≡ 0
  pub root_pid : v.pid 0 0 ≡ 1
  pub root_parent : v.parent 0 ≡ no_slot
  pub root_alive : So (alive v 0)
  pub root_level : v.level 0 ≡ 0
  pub root_up : v.up 0 ≡ no_slot
  pub inits : (n : ℕ) → Stands v n → So (alive v n) → Lives v (init v n) × (v.own (init v n) ≡ n)
  pub empty_process : (i : ℕ) → (Taken v i → ⊥) → So (zero_process v i)
  pub empty_namespace : (n : ℕ) → (Stands v n → ⊥) → So (zero_namespace v n)
  pub tree : (n : ℕ) → Stands v n → Other n → (Stands v (v.up n) × (v.level n ≡ suc (v.level (v.up n)))) × (v.level n ≤ deepest)
  pub below_dead : (n : ℕ) → Stands v n → Other n → So (dead v (v.up n)) → So (dead v n)
  pub unborn_last : (n : ℕ) → Stands v n → So (unborn v n) → v.last n ≡ 0
  pub unborn_empty : (n : ℕ) → Stands v n → So (unborn v n) → (i : ℕ) → Taken v i → v.own i ≡ n → ⊥
  pub unborn_leaf : (n : ℕ) → Stands v n → So (unborn v n) → (m : ℕ) → Stands v m → Other m → v.up m ≡ n → ⊥
  pub unborn_own : (n : ℕ) → Stands v n → So (unborn v n) → (i : ℕ) → Taken v i → Holds v i n → v.own i ≡ v.up n
  pub unborn_one : (n : ℕ) → Stands v n → So (unborn v n) → (i j : ℕ) → Taken v i → Holds v i n → Taken v j → Holds v j n → i ≡ j
  pub last_pids : (n : ℕ) → n < namespace_slots → v.last n ≤ greatest_pid
  pub pid_range : (i : ℕ) → Taken v i → (l : ℕ) → l < levels → pid_ok v i l
  pub differ : (n : ℕ) → Stands v n → (i j : ℕ) → Seen v n i → Seen v n j → pid_seen v n i ≡ pid_seen v n j → i ≡ j
  pub first : (n : ℕ) → Stands v n → So (alive v n) → (i : ℕ) → Seen v n i → (pid_seen v n i ≡ 1 → i ≡ init v n) × (i ≡ init v n → pid_seen v n i ≡ 1)
  pub members : (i : ℕ) → Taken v i → (Stands v (v.own i) × (So (dead v (v.own i)) → So (v.ended i))) × (So (unborn v (v.own i)) → ⊥)
  pub parents : (i : ℕ) → Taken v i → Other i → (Lives v (v.parent i) × Below v (v.own i) (v.own (v.parent i))) × So (reaches_root v.parent process_slots i)
  pub first_parents : (i : ℕ) → Taken v i → Other i → pid_seen v (v.own i) i ≡ 1 → v.own (v.parent i) ≡ v.up (v.own i)
  pub children : (i : ℕ) → Taken v i → Lives v i → Stands v (children v i) × Below v (children v i) (v.own i)
  pub traits : (i : ℕ) → Taken v i → So (traits_ok (v.traits i))
  pub ended_holds : (i : ℕ) → Taken v i → So (v.ended i) → (k : ℕ) → k < hold_slots → v.hold i k ≡ no_slot
  pub ended_traits : (i : ℕ) → Taken v i → So (v.ended i) → So (bare_traits (v.traits i))
  pub ends_kept : (i : ℕ) → Taken v i → So (kept_end (v.state i))

-- an ended process has no namespace for its children
pub ended_children : (v : View) → Facts v → (i : ℕ) → Taken v i → So (v.ended i) → children v i ≡ no_slot
ended_children v f i t e = f.ended_holds i t e 0 (omega arith)

-- who holds a namespace
pub data Holder (v : View) (n : ℕ) : Type 0 where
  root : n ≡ 0 → Holder v n
  member : (i : ℕ) → Taken v i → v.own i ≡ n → Holder v n
  holder : (i : ℕ) → Taken v i → Holds v i n → Holder v n
  child : (m : ℕ) → Stands v m → Other m → v.up m ≡ n → Holder v n

-- what freeing restores: each unborn namespace has a holder, and each taken one is held
pub record Held (v : View) : Type 0 where
  pub holder : (n : ℕ) → Stands v n → So (unborn v n) → (i : ℕ) × Taken v i × Holds v i n
  pub held_by : (n : ℕ) → Stands v n → Holder v n

-- living, ended, seen
pub lives_taken : (v : View) (i : ℕ) → Lives v i → Taken v i
unfolding living
lives_taken v i h = left _ _ h

pub not_ended : (v : View) (i : ℕ) → Lives v i → So (v.ended i) → ⊥
unfolding living
not_ended v i h = (not_iff _).0 (right _ _ h)

pub is_living : (v : View) (i : ℕ) → Taken v i → (So (v.ended i) → ⊥) → Lives v i
unfolding living
is_living v i t o = both _ _ t ((not_iff _).1 o)

pub lives_or_ended : (v : View) (i : ℕ) → Taken v i → Lives v i ⊎ So (v.ended i)
unfolding living
lives_or_ended v i t = go (v.ended i) refl
  where
    go : (b : Bool) → v.ended i ≡ b → So (taken v i and not (v.ended i)) ⊎ So (v.ended i)
    go true e = inr e
    go false e = inl (both _ _ t (ap not e))

pub seen_taken : (v : View) (n i : ℕ) → Seen v n i → Taken v i
unfolding seen taken
seen_taken v n i h = left _ _ h

pub seen_below : (v : View) (n i : ℕ) → Seen v n i → Below v (v.own i) n
unfolding seen taken
seen_below v n i h = right _ _ h

-- seen: in the table, and its own namespace lies below
pub is_seen : (v : View) (n i : ℕ) → Taken v i → Below v (v.own i) n → Seen v n i
unfolding seen taken
is_seen v n i t b = both _ _ t b

-- the second of two processes has another number, if it is seen: the test as a statement, and back
pub unlike_iff : (v : View) (n i j : ℕ) → So (unlike v n (numbers v i) (numbers v j)) ↔ (Seen v n j → pid_seen v n i ≡ pid_seen v n j → ⊥)
unfolding seen taken pid_seen
unlike_iff v n i j = (
  λ h b e. (not_iff _).0 (given _ _ h b) (eq-eqb _ _ e),
  λ h. assume _ _ (λ b. (not_iff _).1 (λ e. h b (eqb-true _ _ e))),
)

pub root_namespace : (v : View) (n : ℕ) → n ≡ 0 → Stands v n
unfolding namespace_taken
root_namespace v n e = or_left _ _ (eq-eqb n 0 e)

-- the test "held" as a statement, and back
pub holder_of : (v : View) (n : ℕ) → So (held v n) → Holder v n
unfolding held holds
holder_of v n h =
    ⊎_elim
    (λ a. ⊎_elim
    (λ b. ⊎_elim (λ z. root (eqb-true n 0 z)) (λ c. let (i, m, k) = any_elim _ _ c in member i (left _ _ k) (eqb-true _ n (right _ _ k))) (cases _ _ b))
    (λ c. let (i, m, k) = any_elim _ _ c in let (j, l, e) = any_elim _ _ (right _ _ k) in holder i (left _ _ k) (j, l, eqb-true _ n e)) (cases _ _ a))
    (λ c. let (m, b, k) = any_elim _ _ c in child m (right _ _ (left _ _ k)) (λ z. (not_iff _).0 (left _ _ (left _ _ k)) (eq-eqb m 0 z)) (eqb-true _ n (right _ _ k)))
    (cases _ _ h)

pub is_held : (v : View) → Facts v → (n : ℕ) → Holder v n → So (held v n)
unfolding held holds
is_held v p n (root z) = or_left _ _ (or_left _ _ (or_left _ _ (eq-eqb n 0 z)))
is_held v p n (member i t e) = or_left _ _ (or_left _ _ ((or_iff _ _).1 (λ z. any_intro _ _ i (p.in_range i t) (both _ _ t (eq-eqb _ n e)))))
is_held v p n (holder i t (k, l, e)) = or_left _ _ ((or_iff _ _).1 (λ z. any_intro _ _ i (p.in_range i t) (both _ _ t (any_intro _ _ k l (eq-eqb _ n e)))))
is_held v p n (child m s o e) = (or_iff _ _).1 (λ z. any_intro _ _ m (p.in_namespace m s) (both _ _ (both _ _ ((not_iff _).1 (λ q. o (eqb-true m 0 q))) s) (eq-eqb _ n e)))

module _ (v : View) (p : Facts v) where
  -- what a process holds is a namespace, or none
  pub hold_cases : (i : ℕ) → Taken v i → (k : ℕ) → k < hold_slots → Stands v (v.hold i k) ⊎ (v.hold i k ≡ no_slot)
  hold_cases i t k l =
      ⊎_elim (λ a. inl (each_index (λ j. Stands v (v.hold i j)) (p.children i t a).0 k l)) (λ e. inr (p.ended_holds i t e k l)) (lives_or_ended v i t)

  pub hold_namespace : (i n : ℕ) → Taken v i → Holds v i n → n < namespace_slots → Stands v n
  hold_namespace i n t (k, l, e) low = ⊎_elim (subst (Stands v) e) (λ q. absurd (omega (arith, sym e ∙ q))) (hold_cases i t k l)

  -- what is held is taken
  pub held_namespace : (n : ℕ) → n < namespace_slots → Holder v n → Stands v n
  held_namespace n l (root z) = root_namespace v n z
  held_namespace n l (member i t e) = subst (Stands v) e (p.members i t).0.0
  held_namespace n l (holder i t h) = hold_namespace i n t h l
  held_namespace n l (child m s o e) = subst (Stands v) e (p.tree m s o).0.0

  -- the facts make a sound table
  pub is_sound_view : Held v → Sound v
  unfolding S.root_process S.have_parents S.root_namespace S.inits S.empty_slots S.namespace_tree S.below_dead S.holds S.unborn_namespace S.unborn_namespaces S.last_pids S.pid_range S.pids_differ S.first_pids S.dead_members S.unborn_members S.parents S.first_parents S.children_namespaces S.process_traits S.ended_bare S.ends_kept S.namespaces_held one
  is_sound_view h =
      record {
        root_process = simp tests ((((p.root_init, p.root_lives), p.root_own), p.root_pid), p.root_parent);
        have_parents = simp tests (λ i l t o. lives_taken v (v.parent i) (p.parents i t o).0.0);
        root_namespace = simp tests ((p.root_alive, p.root_level), p.root_up);
        inits = simp tests (λ n l. p.inits n);
        empty_slots = simp tests (λ i l. p.empty_process i, λ n l. p.empty_namespace n);
        namespace_tree = simp tests (λ n l. p.tree n);
        below_dead = simp tests (λ n l. p.below_dead n);
        unborn_namespaces =
            simp tests
            (λ n l s u. let (j, t, e) = h.holder n s u in (
              (
                ((p.unborn_last n s u, λ i l. p.unborn_empty n s u i), λ m l. p.unborn_leaf n s u m),
                (j, p.in_range j t, ((t, e), λ i l k. p.unborn_one n s u j i t e k.0 k.1)),
              ),
              λ i l k. p.unborn_own n s u i k.0 k.1,
            ));
        last_pids = simp tests p.last_pids;
        pid_range = simp tests (λ i l. p.pid_range i);
        pids_differ =
            all_intro namespace_slots _ (λ n l. assume _ _ (λ s. all_intro process_slots _ (λ i li. assume _ _ (λ a. all_intro i _ (λ j lj.
            (unlike_iff v n i j).1 (λ b e. omega (arith, p.differ n s i j a b e)))))));
        first_pids = simp tests (λ n l s a i li. p.first n s a i);
        dead_members = simp tests (λ i l t. (p.members i t).0);
        unborn_members = simp tests (λ i l t. (p.members i t).1);
        parents = simp tests (λ i l t o. ((not_ended v (v.parent i) (p.parents i t o).0.0, (p.parents i t o).0.1), (p.parents i t o).1));
        first_parents = simp tests (λ i l. p.first_parents i);
        children_namespaces = simp tests (λ i l. p.children i);
        process_traits = simp tests (λ i l. p.traits i);
        ended_bare = simp tests (λ i l t e. (p.ended_holds i t e, p.ended_traits i t e));
        ends_kept = simp tests (λ i l. p.ends_kept i);
        namespaces_held = simp tests (λ n l. (λ s. is_held v p n (h.held_by n s), λ x. held_namespace n l (holder_of v n x)));
      }

-- What a table's view has of itself: who has ended is read of the state, and past the last slot all is zero.
pub record Past (v : View) : Type 0 where
  pub ended_is : (i : ℕ) → v.ended i ≡ is_ended (v.state i)
  pub past : (i : ℕ) → process_slots ≤ i → So (zero_process v i)
  pub past_namespaces : (n : ℕ) → namespace_slots ≤ n → So (zero_namespace v n)

-- the arrays have the lengths of their types
pub past_from : (t : Table) → length t.processes ≡ process_slots → length t.namespaces ≡ namespace_slots → Past (view t)
unfolding zero_namespace
past_from t a b =
    record {
      ended_is = λ i. refl;
      past = λ i o.
          let none : process t i ≡ no_process = get_or-eq_default t.processes no_process (omega arith) in
          is_zero (view t) i
          (record {
            own = ap (λ (p : Process). p.own.0) none;
            holds = λ k l. ap (λ (p : Process). hold_at p k) none ∙ blank_holds [] k l;
            parent = ap (λ (p : Process). p.parent.0) none;
            running = subst (λ (p : Process). So (is_running p.state)) (sym none) refl;
            traits = subst (λ (p : Process). So (blank_traits p.traits)) (sym none) none_are_blank;
            pids = λ l k. ap (λ (p : Process). pid_at p l) none;
          });
      past_namespaces = λ n o.
          subst (λ (s : Namespace). So (eqb s.parent.0 0 and eqb s.level 0 and eqb s.last.0 0 and is_unborn s.life))
          (sym (get_or-eq_default t.namespaces no_namespace (omega arith)))
          (both _ _ (both _ _ (both _ _ refl refl) refl) refl);
    }

pub past_of : (t : Table) → So (shaped t) → Past (view t)
unfolding shaped
past_of t h = past_from t (eqb-true _ process_slots (left _ _ (left _ _ h))) (eqb-true _ namespace_slots (right _ _ (left _ _ h)))

module _ (v : View) (r : Past v) where
  pub in_range : (i : ℕ) → Taken v i → i < process_slots
  unfolding taken zero_process
  in_range i t = go (dec_lt i process_slots)
    where
      go : Dec (i < process_slots) → i < process_slots
      go (yes l) = l
      go (no o) = absurd ((not_iff _).0 t (all_elim _ _ (right _ _ (r.past i (omega arith))) 0 (omega arith)))

  pub in_namespace : (n : ℕ) → Stands v n → n < namespace_slots
  unfolding namespace_taken zero_namespace
  in_namespace n h = go (dec_lt n namespace_slots)
    where
      go : Dec (n < namespace_slots) → n < namespace_slots
      go (yes l) = l
      go (no o) = ⊎_elim (λ z. omega (arith, eqb-true n 0 z)) (λ k. absurd ((not_iff _).0 k (right _ _ (left _ _ (left _ _ (r.past_namespaces n (omega arith))))))) (cases _ _ h)

module _ (v : View) (r : Past v) (s : Sound v) where
  range : (i : ℕ) → Taken v i → i < process_slots
  range = in_range v r

  namespace_range : (n : ℕ) → Stands v n → n < namespace_slots
  namespace_range = in_namespace v r

  -- and a sound table has them
  pub facts_of : Facts v
  unfolding S.root_process S.have_parents S.root_namespace S.inits S.empty_slots S.namespace_tree S.below_dead S.holds S.unborn_namespace S.unborn_namespaces S.last_pids S.pid_range S.pids_differ S.first_pids S.dead_members S.unborn_members S.parents S.first_parents S.children_namespaces S.process_traits S.ended_bare S.ends_kept S.namespaces_held one
  facts_of =
      record {
        ended_is = r.ended_is;
        in_range = range;
        in_namespace = namespace_range;
        root_init = root.0.0.0.0;
        root_lives = root.0.0.0.1;
        root_own = root.0.0.1;
        root_pid = root.0.1;
        root_parent = root.1;
        root_alive = base.0.0;
        root_level = base.0.1;
        root_up = base.1;
        inits = λ n t. (simp tests at s.inits) n (namespace_range n t) t;
        empty_process = empty;
        empty_namespace = empty_n;
        tree = λ n t. (simp tests at s.namespace_tree) n (namespace_range n t) t;
        below_dead = λ n t. (simp tests at s.below_dead) n (namespace_range n t) t;
        unborn_last = λ n t u. ((simp tests at s.unborn_namespaces) n (namespace_range n t) t u).0.0.0.0;
        unborn_empty = λ n t u i k. ((simp tests at s.unborn_namespaces) n (namespace_range n t) t u).0.0.0.1 i (range i k) k;
        unborn_leaf = λ n t u m k. ((simp tests at s.unborn_namespaces) n (namespace_range n t) t u).0.0.1 m (namespace_range m k) k;
        unborn_own = λ n t u i k e. ((simp tests at s.unborn_namespaces) n (namespace_range n t) t u).1 i (range i k) (k, e);
        unborn_one = λ n t u i j a b c d. let f = ((simp tests at s.unborn_namespaces) n (namespace_range n t) t u).0.1.2.1 in sym (f i (range i a) (a, b)) ∙ f j (range j c) (c, d);
        last_pids = simp tests at s.last_pids;
        pid_range = λ i t. (simp tests at s.pid_range) i (range i t) t;
        differ = λ n t i j a b e. apart i j (λ l. alone n t j i l b a (sym e)) (λ l. alone n t i j l a b e);
        first = λ n t a i k. (simp tests at s.first_pids) n (namespace_range n t) t a i (range i (seen_taken v n i k)) k;
        members = λ i t. ((simp tests at s.dead_members) i (range i t) t, (simp tests at s.unborn_members) i (range i t) t);
        parents = λ i t o. let q = (simp tests at s.parents) i (range i t) t o in ((is_living v (v.parent i) ((simp tests at s.have_parents) i (range i t) t o) q.0.0, q.0.1), q.1);
        first_parents = λ i t. (simp tests at s.first_parents) i (range i t) t;
        children = λ i t. (simp tests at s.children_namespaces) i (range i t) t;
        traits = λ i t. (simp tests at s.process_traits) i (range i t) t;
        ended_holds = λ i t e. ((simp tests at s.ended_bare) i (range i t) t e).0;
        ended_traits = λ i t e. ((simp tests at s.ended_bare) i (range i t) t e).1;
        ends_kept = λ i t. (simp tests at s.ends_kept) i (range i t) t;
      }
    where
      root : ((((init v 0 ≡ 0) × Lives v 0) × (v.own 0 ≡ 0)) × (v.pid 0 0 ≡ 1)) × (v.parent 0 ≡ no_slot)
      root = simp tests at s.root_process

      alone : (n : ℕ) → Stands v n → (i j : ℕ) → j < i → Seen v n i → Seen v n j → pid_seen v n i ≡ pid_seen v n j → ⊥
      alone n t i j l a b e =
          let rows = given _ _ (all_elim namespace_slots _ s.pids_differ n (namespace_range n t)) t in
          (unlike_iff v n i j).0 (all_elim i _ (given _ _ (all_elim process_slots _ rows i (range i (seen_taken v n i a))) a) j l) b e

      base : (So (alive v 0) × (v.level 0 ≡ 0)) × (v.up 0 ≡ no_slot)
      base = simp tests at s.root_namespace

      empty : (i : ℕ) → (Taken v i → ⊥) → So (zero_process v i)
      empty i o = go (dec_lt i process_slots)
        where
          go : Dec (i < process_slots) → So (zero_process v i)
          go (yes l) = (simp tests at s.empty_slots).0 i l o
          go (no b) = r.past i (omega arith)

      empty_n : (n : ℕ) → (Stands v n → ⊥) → So (zero_namespace v n)
      empty_n n o = go (dec_lt n namespace_slots)
        where
          go : Dec (n < namespace_slots) → So (zero_namespace v n)
          go (yes l) = (simp tests at s.empty_slots).1 n l o
          go (no b) = r.past_namespaces n (omega arith)

      apart : (i j : ℕ) → (i < j → ⊥) → (j < i → ⊥) → i ≡ j
      apart i j a b = omega arith

  pub held_of : Held v
  unfolding S.holds S.unborn_namespace S.unborn_namespaces S.namespaces_held one
  held_of =
      record {
        holder = λ n t u. let (j, l, k) = ((simp tests at s.unborn_namespaces) n (namespace_range n t) t u).0.1 in (j, k.0.0, k.0.1);
        held_by = λ n t. holder_of v n (((simp tests at s.namespaces_held) n (namespace_range n t)).0 t);
      }

-- of a sound table
pub facts : (t : Table) → SoundTable t → Facts (view t)
facts t h = facts_of (view t) (past_of t h.shape) (sound_is (view t) h.rules)

pub held_in : (t : Table) → SoundTable t → Held (view t)
held_in t h = held_of (view t) (past_of t h.shape) (sound_is (view t) h.rules)

-- a table of the declared type with the facts is sound
pub sound_from : (t : Table) → So (shaped t) → Facts (view t) → Held (view t) → SoundTable t
sound_from t g p h = record { shape = g; rules = is_sound (view t) (is_sound_view (view t) p h) }

-- A table in the middle of a call: of the declared type, with all facts but those that freeing restores.
pub record Sane (t : Table) : Type 0 where
  pub shape_of : So (shaped t)
  pub facts : Facts (view t)

pub sane : (t : Table) → SoundTable t → Sane t
sane t h = record { shape_of = h.shape; facts = facts t h }
