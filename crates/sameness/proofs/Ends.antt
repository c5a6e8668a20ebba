-- The end of a process: of a member of its namespace, and of an init, with which its namespace and all below it die.
-- Of twins on two tables: the tables stay the same to S.
use Prim.Native.Nat.{ℕ, zero, suc, pred, ◌<◌}
use native.Mathlib.Omega.{arith}
use mathlib.Core.Bool.{Bool, true, false, not, So, false≢true}
use mathlib.Core.Logic.{⊎_elim}
use mathlib.Core.Path.{◌≡◌, refl, ◌∙◌, ap, subst, sym, ap₂}
use borrow.Author.Tests.{ne_eqb}
use lib.Dec.{eqb}
use Rattle.rules.proofs.Keeps.InitEnds.{subtree_gone, gone}
use Rattle.rules.proofs.Laws.Below.{up_level, below_level, below_trans}
use Rattle.rules.proofs.Laws.Facts.{Facts, seen_taken, ended_children}
use Rattle.rules.proofs.Laws.Slots.{alive_up, child_seen, init_own, init_seen}
use Rattle.rules.proofs.Laws.Tests.{isnt, isnt_not, isnt_so, no_so, false_and, right, both}
use Rattle.rules.proofs.Keeps.Changed.{pick}
use Rattle.rules.proofs.Keeps.MemberEnds.{member_gone}
use Rattle.sameness.proofs.Anchor.{below_up, init_or_none, up_below, name_no_slot}
use Rattle.sameness.proofs.Remain.{Places, Tree, everyone, name_stays, pid_in_remain, Remain, Lit, same_remain, name_remain, same_rows, pids_remain}
use Rattle.sameness.proofs.Readers.{twin_eqb, child_twins, living_twins, children_names, children_unborn, ended_twins, children_taken, unborn_outside, parent_in_twins}
use Rattle.sameness.proofs.Same.{Same, row_by}
use Rattle.sameness.proofs.Twins.{Pair, Twin, owns, pid_in_seen, twin_rows, Namesakes, own_names, below_named, level_named, taken_v, taken_u, Twins, seen_twins, twins_level}
use Rattle.sameness.proofs.Cases.{by_test, by_equal}
use Rattle.table.specs.Limits.{no_slot, sigkill}
use Rattle.table.specs.Slots.{init_of, is_alive}
use Rattle.rules.specs.Read.{View, alive, below, init, namespace_taken, pid_in, seen, taken, child_of, is_init, living, unborn, children}
use Rattle.sameness.specs.Sheet.{dead_at, name, name_by, nearest, row, Row}
use Rattle.sameness.proofs.Names.{named_rows, children_named}
use Rattle.table.specs.Tests.{when◌then◌else◌, ◌and◌}
use Rattle.table.specs.declared.End.{End}
use Rattle.table.specs.declared.Life.TheVariants.{Dead}
use Rattle.table.specs.declared.State.TheVariants.{Ended, Running}
use Rattle.table.specs.declared.End.TheVariants.{Signaled}
use Rattle.table.specs.Traits.{no_traits, ended_traits}

-- ---- an init, on one table: who stays keeps his place; a namespace outside keeps its name, and one that died is named
-- by the init above

-- the view then
abbrev pub fallen : View → ℕ → End → View
fallen v x e = subtree_gone v (v.own x) x e

-- who stays: not in the subtree, or for a parent outside
abbrev pub stays : View → ℕ → ℕ → Bool
stays v x i = not (gone v (v.own x) i)

pub not_seen_stays : (v : View) (x i : ℕ) → seen v (v.own x) i ≡ false → So (stays v x i)
unfolding gone
not_seen_stays v x i e = ap not (false_and _ _ (no_so e))

-- who stays is not gone
pub here : (v : View) (x i : ℕ) → So (stays v x i) → gone v (v.own x) i ≡ false
here v x i s = isnt (gone v (v.own x) i) s

-- the tree of namespaces stays, and who stays keeps his place
pub fallen_places : (v : View) (x : ℕ) (e : End) → Places v (fallen v x e) everyone (stays v x)
unfolding taken
fallen_places v x e =
    record {
      tree = record { ups = λ n h. refl; levels = λ n h. refl; up_kept = λ n k h q. refl };
      owns = λ i s. rw (here v x i s);
      pids = λ i l s. rw (here v x i s);
      gone = λ i s. rw (isnt_not (gone v (v.own x) i) s);
      own_kept = λ i q h. refl;
    }

module _ {v : View} (f : Facts v) (x : ℕ) (e : End) where
  -- the init of a namespace outside stays
  pub init_stays : (n : ℕ) → below v n (v.own x) ≡ false → So (stays v x (init v n))
  unfolding seen taken
  init_stays n h =
      not_seen_stays v x (init v n)
      (isnt_so
      (λ k. ⊎_elim (λ a. no_so h (subst (λ y. So (below v y (v.own x))) (init_own v f n a) (right _ _ k))) (λ q. omega (arith, q, f.in_range _ (seen_taken v _ _ k))) (init_or_none v n)))

  -- the parent of one that stays has the number that it had
  pub parent_left : (s i : ℕ) → So (taken v i) → So (stays v x i) → pid_in (fallen v x e) s ((fallen v x e).parent i) ≡ pid_in v s (v.parent i)
  unfolding gone
  parent_left s i h q =
      rw (here v x i q)
      (pid_in_remain f (fallen_places v x e) s (v.parent i) refl (not_seen_stays v x (v.parent i) (isnt_so (λ k. no_so (here v x i q) (both _ _ (child_seen v f _ i h k) k)))))

  -- the last number that a row shows
  pub last_left : (i : ℕ) → So (taken v i) → So (stays v x i) → (when eqb (init (fallen v x e) ((fallen v x e).own i)) i then v.last ((fallen v x e).own i) else 0) ≡ (when below v (v.own i) (v.own x) then 0 else (when eqb (init v (v.own i)) i then v.last (v.own i) else 0))
  last_left i h q = rw (here v x i q) (go (below v (v.own i) (v.own x)))
    where
      go : (b : Bool) → (when eqb (init_of (when b then Dead else v.life (v.own i))) i then v.last (v.own i) else 0) ≡ (when b then 0 else (when eqb (init v (v.own i)) i then v.last (v.own i) else 0))
      go true = ap (λ (c : Bool). when c then v.last (v.own i) else 0) (ne_eqb no_slot i (λ z. omega (arith, f.in_range i h)))
      go false = refl

  -- ---- names

  -- outside the subtree they stay
  pub name_out : (s n : ℕ) → below v n (v.own x) ≡ false → name (fallen v x e) s n ≡ name v s n
  name_out s n h =
      name_stays f out_tree (λ m k. rw (isnt (below v m (v.own x)) k)) s
      (λ m k. pid_in_remain f (fallen_places v x e) s (init v m) refl (init_stays m (isnt (below v m (v.own x)) k))) n (ap not h)
    where
      -- above what lies outside all does
      out_tree : Tree v (fallen v x e) (λ m. not (below v m (v.own x)))
      out_tree = record { ups = λ m k. refl; levels = λ m k. refl; up_kept = λ m j k q. ap not (isnt_so (λ b. no_so (isnt (below v m (v.own x)) k) (below_trans v f m (v.up m) (v.own x) (up_below f m j q) b))) }

  module _ (deep : 0 < v.level (v.own x)) (a : So (alive v (v.own x))) where
    one : v.level (v.own x) ≡ suc (pred (v.level (v.own x)))
    one = omega arith

    up_out : below v (v.up (v.own x)) (v.own x) ≡ false
    up_out = isnt_so (λ b. omega (arith, below_level v f (v.up (v.own x)) (v.own x) b, up_level v f (v.own x) _ one))

    near_self : (k n : ℕ) → So (is_alive ((fallen v x e).life n)) → nearest (fallen v x e).life v.up k n ≡ n
    unfolding nearest
    near_self zero n h = refl
    near_self (suc k) n h = rw (h, nearest)

    near_in : (k n : ℕ) → v.level n ≡ k → So (below v n (v.own x)) → nearest (fallen v x e).life v.up k n ≡ v.up (v.own x)
    unfolding nearest
    near_in zero n q h = absurd (omega (arith, below_level v f n (v.own x) h))
    near_in (suc k) n q h =
        rw (h, nearest)
        (by_equal n (v.own x)
        (λ z. ap (λ y. nearest (fallen v x e).life v.up k (v.up y)) z ∙ near_self k (v.up (v.own x)) (rw up_out (alive_up v f (v.own x) _ a one)))
        (λ z. near_in k (v.up n) (up_level v f n k q) (below_up f n (v.own x) h z)))

    -- in it they name the init above
    pub name_in : (s n : ℕ) → So (below v n (v.own x)) → So (namespace_taken v n) → name (fallen v x e) s n ≡ dead_at (v.level n) (pid_in v s (init v (v.up (v.own x))))
    unfolding name name_by
    name_in s n h ht =
        rw (ne_eqb n no_slot (λ e. omega (arith, f.in_namespace n ht)), h)
        (ap (dead_at (v.level n))
        (ap (λ m. pid_in (fallen v x e) s (init (fallen v x e) m)) (near_in (v.level n) n refl h)
        ∙ rw up_out (pid_in_remain f (fallen_places v x e) s (init v (v.up (v.own x))) refl (init_stays (v.up (v.own x)) up_out))))

-- ---- two twins that are no inits

-- the view then
abbrev pub member_of : View → ℕ → End → View
member_of v x e = member_gone v x (init v (v.own x)) e

-- all processes and namespaces stand
pub member_remain : {v : View} (x : ℕ) (e : End) → Remain v (member_of v x e) everyone everyone
unfolding taken
member_remain x e =
    record {
      places =
          record { tree = record { ups = λ n h. refl; levels = λ n h. refl; up_kept = λ n k h q. refl }; owns = λ i q. refl; pids = λ i l q. refl; gone = λ i q. absurd (false≢true (sym q)); own_kept = λ i q h. refl };
      lives = λ n h. refl;
      inits = λ n h. refl;
    }

module _ {v : View} (f : Facts v) (x : ℕ) (e : End) (s i : ℕ) where
  abbrev after : View
  after = member_of v x e

  parent_after : pid_in after s (after.parent i) ≡ (when eqb i x then pid_in v s (v.parent i) else (when child_of v x i then pid_in v s (init v (v.own x)) else pid_in v s (v.parent i)))
  parent_after =
      pid_in_remain f (member_remain x e).places s (after.parent i) refl refl
      ∙ pick (pid_in v s) (eqb i x) _ _ ∙ ap (λ (n : ℕ). when eqb i x then pid_in v s (v.parent i) else n) (pick (pid_in v s) (child_of v x i) _ _)

  children_after : name after s (children after i) ≡ (when eqb i x then name v s no_slot else name v s (children v i))
  children_after = name_remain f (member_remain x e) s (children after i) refl refl ∙ pick (name v s) (eqb i x) no_slot (children v i)

module _ {v u : View} {s r : ℕ} (p : Pair v u s r) {x y : ℕ} (e : End) (k : Twin v u s r x y) (lives : So (alive v (v.own x))) where
  -- the inits that take the children
  reapers : pid_in v s (init v (v.own x)) ≡ pid_in u r (init u (u.own y))
  reapers =
      let l = owns p k lives in
      pid_in_seen v s _ (init_seen v p.facts_v _ s l.lives_v l.below_v) ∙ l.inits ∙ sym (pid_in_seen u r _ (init_seen u p.facts_u _ r l.lives_u l.below_u))

  member_lit : {i j : ℕ} → Twin v u s r i j → Lit v u (member_of v x e) (member_of u y e) s r i j
  unfolding row
  member_lit {i} {j} m =
      let rows = twin_rows p m in
      let slot = twin_eqb p m k in
      let child = child_twins p m k in
      let none = name_no_slot v s no_slot refl ∙ sym (name_no_slot u r no_slot refl) in
      record {
        states = λ z. when slot z then Ended e else (rows z).state;
        traitss = λ z. when slot z then ended_traits (rows z).traits else (rows z).traits;
        parents = parent_after p.facts_v x e s i ∙ (λ z. when slot z then (rows z).parent else (when child z then reapers z else (rows z).parent)) ∙ sym (parent_after p.facts_u y e r j);
        holds = children_named _ _ s r i j (children_after p.facts_v x e s i ∙ (λ z. when slot z then none z else named_rows v u s r i j rows 0 (omega arith) z) ∙ sym (children_after p.facts_u y e r j));
        lasts = λ z. (rows z).last;
      }

  -- each row is the same on both
  pub member_same : Same (member_of v x e) (member_of u y e) s r
  member_same = same_remain p (member_remain x e) (member_remain y e) refl refl (λ i j m. refl) (λ i j m q. member_lit m)

-- ---- two twin inits

module _ {v u : View} {s r : ℕ} (p : Pair v u s r) {x y : ℕ} (e : End) (k : Twin v u s r x y) (lives : So (alive v (v.own x))) (deep : 0 < v.level (v.own x)) (above : pid_in v s (init v (v.up (v.own x))) ≡ pid_in u r (init u (u.up (u.own y)))) where
  tops : Twins v u s r (v.own x) (u.own y)
  tops = owns p k lives

  abbrev v' : View
  v' = fallen v x e

  abbrev u' : View
  u' = fallen u y e

  sees : {i j : ℕ} → Twin v u s r i j → seen v (v.own x) i ≡ seen u (u.own y) j
  sees m = seen_twins p m tops

  -- of two twins both stay or none
  pub both_stay : (i j : ℕ) → Twin v u s r i j → stays v x i ≡ stays u y j
  unfolding gone
  both_stay i j m = ap₂ (λ (a b : Bool). not (a and b)) (sees m) (parent_in_twins p m tops)

  -- a namespace of the dead subtree is named by the init above, another as before
  either_name : (n m : ℕ) → name v s n ≡ name u r m → So (namespace_taken v n) → So (namespace_taken u m) → below v n (v.own x) ≡ below u m (u.own y) → (So (below v n (v.own x)) → v.level n ≡ u.level m) → name v' s n ≡ name u' r m
  either_name n m q hn hm b l =
      by_test (below v n (v.own x))
      (λ h. name_in p.facts_v x e deep tops.lives_v s n h hn ∙ ap₂ dead_at (l h) above
      ∙ sym (name_in p.facts_u y e (omega (arith, twins_level p tops)) tops.lives_u r m (sym b ∙ h) hm))
      (λ h. name_out p.facts_v x e s n h ∙ q ∙ sym (name_out p.facts_u y e r m (sym b ∙ h)))

  namesakes : {n m : ℕ} → Namesakes v u s r n m → name v' s n ≡ name u' r m
  namesakes a = either_name _ _ a.names a.stands_v a.stands_u (below_named p a tops) (λ h. level_named p a)

  -- of two that live on, the namespaces for their children
  living_names : {i j : ℕ} → Twin v u s r i j → So (living v i) → seen v (v.own x) i ≡ false → name v' s (children v i) ≡ name u' r (children u j)
  unfolding row
  living_names {i} {j} m li o =
      by_test (unborn v (children v i))
      (λ z.
      let lj = sym (living_twins p m) ∙ li in
      let a = unborn_outside p.facts_v _ i li z tops.lives_v o in
      let b = unborn_outside p.facts_u _ j lj (sym (children_unborn p m li) ∙ z) tops.lives_u (sym (sees m) ∙ o) in
      either_name _ _ (named_rows v u s r i j (twin_rows p m) 0 (omega arith)) (children_taken p.facts_v i li) (children_taken p.facts_u j lj) (a ∙ sym b) (λ h. absurd (no_so a h)))
      (λ z. namesakes (children_names p m li z))

  child_names : {i j : ℕ} → Twin v u s r i j → name v' s (when seen v (v.own x) i then no_slot else children v i) ≡ name u' r (when seen u (u.own y) j then no_slot else children u j)
  unfolding living
  child_names {i} {j} m =
      by_test (seen v (v.own x) i) (λ o. rw (o, sym (sees m) ∙ o) (none no_slot no_slot refl refl))
      (λ o. by_test (v.ended i)
      (λ d. rw (o, sym (sees m) ∙ o) (none _ _ (ended_children v p.facts_v i (taken_v m) d) (ended_children u p.facts_u j (taken_u m) (sym (ended_twins p m) ∙ d))))
      (λ d. rw (o, sym (sees m) ∙ o) (living_names m (both _ _ (taken_v m) (ap not d)) o)))
    where
      none : (a b : ℕ) → a ≡ no_slot → b ≡ no_slot → name v' s a ≡ name u' r b
      none a b c d = name_no_slot v' s a c ∙ sym (name_no_slot u' r b d)

  fallen_rows : (i j : ℕ) → Twin v u s r i j → So (stays v x i) → row v' s i ≡ row u' r j
  unfolding row is_init gone
  fallen_rows i j m q =
      let q' = sym (both_stay i j m) ∙ q in
      let rows = twin_rows p m in
      let slot = twin_eqb p m k in
      let going : gone v (v.own x) i ≡ gone u (u.own y) j = ap₂ ◌and◌ (sees m) (parent_in_twins p m tops) in
      row_by v' u' s r i j
      (pids_remain p.facts_v (fallen_places v x e) s i refl q ∙ ap (λ (o : Row). o.pids) rows ∙ sym (pids_remain p.facts_u (fallen_places u y e) r j refl q'))
      (λ z. when going z then Running else (when sees m z then (when slot z then Ended e else (when ended_twins p m z then (rows z).state else Ended (Signaled sigkill))) else (rows z).state))
      (λ z. when going z then no_traits else (when sees m z then ended_traits (rows z).traits else (rows z).traits))
      (parent_left p.facts_v x e s i (taken_v m) q ∙ ap (λ (o : Row). o.parent) rows ∙ sym (parent_left p.facts_u y e r j (taken_u m) q'))
      (rw (here v x i q, here u y j q') (namesakes (own_names p m)))
      (children_named v' u' s r i j (rw (here v x i q, here u y j q') (child_names m)))
      (last_left p.facts_v x e i (taken_v m) q ∙ (λ z. when below_named p (own_names p m) tops z then 0 else (rows z).last) ∙ sym (last_left p.facts_u y e j (taken_u m) q'))

  -- each row that stays is the same on both
  pub init_same : Same v' u' s r
  init_same = same_rows p (fallen_places v x e) (fallen_places u y e) refl refl both_stay fallen_rows
