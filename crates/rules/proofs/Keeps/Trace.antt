-- What a run of signals leaves of a table, slot by slot. One run after another is a run.
use Prim.Native.Nat.{ℕ}
use native.Mathlib.Omega.{arith}
use mathlib.Core.Bool.{Bool, true, false, not, So}
use mathlib.Core.List.{List}
use mathlib.Core.Logic.{◌⊎◌, inl, inr, ⊎_elim}
use mathlib.Core.Path.{◌≡◌, refl, sym, ◌∙◌, ap, ap₂, subst}
use lib.Dec.{eqb}
use lib.ListN.{get_or}
use Rattle.rules.proofs.Keeps.Fixed.{Shrinks, Stay, stay_trans}
use Rattle.rules.proofs.Laws.Facts.{Facts, Taken, Lives, Stands, Below, Seen, Other, lives_taken, lives_or_ended, not_ended, seen_taken, seen_below, is_seen, Sane}
use Rattle.rules.proofs.Laws.Slots.{alive_taken, alive_not_dead, living_own_alive, init_own, init_living}
use Rattle.rules.proofs.Laws.Tests.{yes_or_no, no_so, isnt_so, left, right, both, not_iff}
use Rattle.rules.specs.Claims.{parent_after}
use Rattle.rules.specs.Read.{View, alive, below, climb, init, is_init, living, taken, view}
use Rattle.table.specs.Slots.{init_of, is_alive, is_ended, is_unborn, no_pid, process}
use Rattle.table.specs.Tests.{◌and◌, when◌then◌else◌}
use Rattle.table.specs.declared.End.TheVariants.{Signaled}
use Rattle.table.specs.declared.NsSlot.{NsSlot}
use Rattle.table.specs.declared.Pid.{Pid}
use Rattle.table.specs.declared.Process.{Process}
use Rattle.table.specs.declared.Table.{Table}
use Rattle.table.specs.declared.State.TheVariants.{Ended}
use Rattle.table.specs.Records.{with_parent, as_ended}
use Rattle.table.specs.Traits.{ended_traits}
use Rattle.table.specs.Limits.{no_slot, sigkill}

-- the record of one that has ended, by signal k if not before
abbrev pub over : ℕ → Process → Process
over k q = when is_ended q.state then q else as_ended q (Signaled k)

-- n fell on the way from t to u: it was alive, and its init has ended
abbrev pub Fell : Table → Table → ℕ → Type 0
Fell t u n = So (alive (view t) n) × (Lives (view u) (init (view t) n) → ⊥)

-- n lies in the subtree of an init in P that 9 ends, sent from a namespace above
abbrev pub Head : ℕ → ℕ → (ℕ → Type 0) → View → ℕ → Type 0
Head k from P v n = (j : ℕ) × P j × (k ≡ sigkill) × Lives v j × So (is_init v j) × (v.own j ≡ from → ⊥) × Below v n (v.own j)

-- what signal k, sent from a namespace to processes in P, leaves
pub record Trace (k from : ℕ) (P : ℕ → Type 0) (t u : Table) : Type 0 where
  pub kin : (i : ℕ) → Taken (view u) i → ((process u i).own ≡ (process t i).own) × ((process u i).pids ≡ (process t i).pids) × (ended_traits (process u i).traits ≡ ended_traits (process t i).traits)
  pub lives : (i : ℕ) → Lives (view u) i → Lives (view t) i
  pub ups : (view u).up ≡ (view t).up
  pub levels : (view u).level ≡ (view t).level
  pub stay : Stay (view t) (view u)
  pub parents : (i : ℕ) → Taken (view u) i → (view u).parent i ≡ parent_after t u i
  pub removed : (i : ℕ) → Taken (view t) i → (Taken (view u) i → ⊥) → (m : ℕ) × Fell t u m × Seen (view t) m i × Seen (view t) m ((view t).parent i)
  pub ended : (i : ℕ) → Taken (view u) i → (Lives (view u) i → ⊥) → process u i ≡ with_parent (over k (process t i)) ((view u).parent i)
  pub heads : (m : ℕ) → Fell t u m → Head k from P (view t) m

-- ---- the parent after

module _ (t u : Table) (i : ℕ) where
  abbrev p : ℕ
  p = (view t).parent i

  pub parent_after_new : Lives (view t) p → (Lives (view u) p → ⊥) → parent_after t u i ≡ init (view t) ((view t).own p)
  unfolding parent_after
  parent_after_new l o = let e : living (view t) p and not (living (view u) p) ≡ true = both _ _ l ((not_iff _).1 o) in rw e

  pub parent_after_old : (Lives (view t) p → Lives (view u) p) → parent_after t u i ≡ p
  unfolding parent_after
  parent_after_old h = let e : living (view t) p and not (living (view u) p) ≡ false = isnt_so (λ x. (not_iff _).0 (right _ _ x) (h (left _ _ x))) in rw e

  -- as before, or handed over
  pub parent_after_cases : (Lives (view t) p × (Lives (view u) p → ⊥)) ⊎ (Lives (view t) p → Lives (view u) p)
  parent_after_cases = go (living (view t) p) (living (view u) p) refl refl
    where
      go : (a b : Bool) → living (view t) p ≡ a → living (view u) p ≡ b → (Lives (view t) p × (Lives (view u) p → ⊥)) ⊎ (Lives (view t) p → Lives (view u) p)
      go true true x y = inr (λ z. y)
      go true false x y = inl (x, no_so y)
      go false b x y = inr (λ z. absurd (no_so x z))

-- ---- from before to after

module _ {k from : ℕ} {P : ℕ → Type 0} (t u : Table) (s : Sane t) (r : Sane u) (x : Trace k from P t u) where
  abbrev v : View
  v = view t

  f : Facts v
  f = s.facts

  g : Facts (view u)
  g = r.facts

  pub shrinks : Shrinks v (view u)
  unfolding taken
  shrinks i h = let (a, b, z) = x.kin i h in (subst (λ (ps : List Pid). So (not (eqb (get_or ps 0 no_pid).0 0))) b h, ap (λ (n : NsSlot). n.0) a)

  pub below_before : (a b : ℕ) → below (view u) a b ≡ below v a b
  unfolding below
  below_before a b = ap₂ (λ (up level : ℕ → ℕ). climb up (level a) a b) x.ups x.levels

  pub seen_before : (m i : ℕ) → Seen (view u) m i → Seen v m i
  seen_before m i h =
      let (a, e) = shrinks i (seen_taken (view u) m i h) in
      is_seen v m i a (subst (λ n. Below v n m) e (sym (below_before ((view u).own i) m) ∙ seen_below (view u) m i h))

  -- what lives then lived before, with the same init
  pub was_alive : (m : ℕ) → So (alive (view u) m) → (view u).life m ≡ v.life m
  was_alive m a =
      let (l, o) = g.inits m (alive_taken (view u) g m a) a in
      let (h, e) = shrinks (init (view u) m) (lives_taken (view u) _ l) in
      let ((q, d), n) = f.members (init (view u) m) h in
      let z = sym e ∙ o in
      ⊎_elim (λ y. y) (λ y. absurd (no_so (alive_not_dead ((view u).life m) a) y)) ((x.stay m (subst (Stands v) z q)).1.2 (λ b. n (subst (λ y. So (is_unborn (v.life y))) (sym z) b)))

  -- whoever lives then has the init that it had
  pub init_still : (i : ℕ) → Lives (view u) i → init (view u) ((view u).own i) ≡ init v (v.own i)
  init_still i l = ap init_of (was_alive ((view u).own i) (living_own_alive (view u) g i l)) ∙ ap (init v) (shrinks i (lives_taken (view u) i l)).1

  pub was_init : (i : ℕ) → Lives (view u) i → is_init (view u) i ≡ is_init v i
  unfolding is_init
  was_init i l = ap (λ j. eqb j i) (init_still i l)

  -- the subtrees that fell
  pub fell_too : (w : Table) → ((i : ℕ) → Lives (view w) i → Lives (view u) i) → (m : ℕ) → Fell t u m → Fell t w m
  fell_too w h m (a, o) = (a, λ l. o (h _ l))

  pub fell_before : (w : Table) (m : ℕ) → Fell u w m → Fell t w m
  fell_before w m (a, o) = let e = was_alive m a in (sym (ap is_alive e) ∙ a, λ l. o (subst (Lives (view w)) (sym (ap init_of e)) l))

  -- an init that lives then is that of a living namespace
  pub fell_after : (w : Table) (m : ℕ) → Fell t w m → Lives (view u) (init v m) → Fell u w m
  fell_after w m (a, o) l =
      let q = (shrinks (init v m) (lives_taken (view u) _ l)).1 ∙ init_own v f m a in
      let b = subst (λ n. So (alive (view u) n)) q (living_own_alive (view u) g (init v m) l) in
      (b, λ y. o (subst (Lives (view w)) (ap init_of (was_alive m b)) y))

  -- a parent in a subtree then is one of a parent in it before
  pub parent_before : (m i : ℕ) → Taken (view u) i → Seen (view u) m ((view u).parent i) → Seen v m (v.parent i)
  parent_before m i h y =
      ⊎_elim
      (λ (l, o).
      let q : (view u).parent i ≡ init v (v.own (v.parent i)) = x.parents i h ∙ parent_after_new t u i l o in
      let z = seen_below v m _ (seen_before m _ (subst (Seen (view u) m) q y)) in
      is_seen v m (v.parent i) (lives_taken v _ l) (subst (λ n. Below v n m) (init_own v f _ (living_own_alive v f _ l)) z))
      (λ h'. seen_before m _ (subst (Seen (view u) m) (x.parents i h ∙ parent_after_old t u i h') y))
      (parent_after_cases t u i)

-- ---- one run after another

-- one that had ended stays as it was
over_twice : (k : ℕ) (q : Process) (p p' : ℕ) → with_parent (over k (with_parent (over k q) p)) p' ≡ with_parent (over k q) p'
over_twice k q p p' = go (is_ended q.state) refl
  where
    go : (b : Bool) → is_ended q.state ≡ b
        → (let y = when b then q else as_ended q (Signaled k) in with_parent (when is_ended y.state then with_parent y p else as_ended (with_parent y p) (Signaled k)) p')
        ≡ with_parent (when b then q else as_ended q (Signaled k)) p'
    go true e = rw e
    go false e = refl

module _ {k from : ℕ} {P : ℕ → Type 0} (t u w : Table) (s : Sane t) (r : Sane u) (n : Sane w) (x : Trace k from P t u) (y : Trace k from P u w) where
  taken_mid : (i : ℕ) → Taken (view w) i → Taken (view u) i
  taken_mid i h = (shrinks u w r n y i h).0

  both_parents : (i : ℕ) → Taken (view w) i → (view w).parent i ≡ parent_after t w i
  both_parents i h = ⊎_elim (λ (l, o). handed_over l o) (λ l. kept l) (parent_after_cases t u i)
    where
      p : ℕ
      p = (view t).parent i

      q : ℕ
      q = (view u).parent i

      -- its parent ended in the first run: the init that it went to lives on
      handed_over : Lives (view t) p → (Lives (view u) p → ⊥) → (view w).parent i ≡ parent_after t w i
      handed_over l o = ⊎_elim (λ (a, b). absurd (b (alive_then a b))) (λ b. y.parents i h ∙ parent_after_old u w i b ∙ e ∙ sym (parent_after_new t w i l (λ z. o (y.lives _ z)))) (parent_after_cases u w i)
        where
          e : q ≡ init (view t) ((view t).own p)
          e = x.parents i (taken_mid i h) ∙ parent_after_new t u i l o

          init_is : init (view t) ((view t).own q) ≡ q
          init_is = ap (λ j. init (view t) ((view t).own j)) e ∙ ap (init (view t)) (init_own (view t) s.facts ((view t).own p) (living_own_alive (view t) s.facts p l)) ∙ sym e

          other : Other i
          other z = omega (arith, s.facts.in_range p (lives_taken (view t) p l), ap (view t).parent z, s.facts.root_parent)

          alive_then : Lives (view u) q → (Lives (view w) q → ⊥) → Lives (view w) q
          alive_then a b = subst (Lives (view w)) (y.parents i h ∙ parent_after_new u w i a b ∙ init_still t u s r x q a ∙ init_is) (n.facts.parents i h other).0.0

      kept : (Lives (view t) p → Lives (view u) p) → (view w).parent i ≡ parent_after t w i
      kept l =
          ⊎_elim
          (λ (a, b). y.parents i h ∙ parent_after_new u w i a b ∙ init_still t u s r x q a ∙ ap (λ j. init (view t) ((view t).own j)) e ∙ sym (parent_after_new t w i (x.lives p (subst (Lives (view u)) e a)) (λ z. b (subst (Lives (view w)) (sym e) z))))
          (λ b. y.parents i h ∙ parent_after_old u w i b ∙ e ∙ sym (parent_after_old t w i (λ a. subst (Lives (view w)) e (b (subst (Lives (view u)) (sym e) (l a))))))
          (parent_after_cases u w i)
        where
          e : q ≡ p
          e = x.parents i (taken_mid i h) ∙ parent_after_old t u i l

  both_ended : (i : ℕ) → Taken (view w) i → (Lives (view w) i → ⊥) → process w i ≡ with_parent (over k (process t i)) ((view w).parent i)
  both_ended i h o = ⊎_elim alive_mid (λ e. y.ended i h o ∙ ap (λ z. with_parent (over k z) ((view w).parent i)) (x.ended i (taken_mid i h) (no_so e)) ∙ over_twice k (process t i) _ _) (yes_or_no (living (view u) i))
    where
      alive_mid : Lives (view u) i → process w i ≡ with_parent (over k (process t i)) ((view w).parent i)
      alive_mid l =
          let (a, b, z) = x.kin i (taken_mid i h) in
          let c : is_ended (process u i).state ≡ false = isnt_so (not_ended (view u) i l) in
          let d : is_ended (process t i).state ≡ false = isnt_so (not_ended (view t) i (x.lives i l)) in
          y.ended i h o ∙ rw (c, d) (λ j. record { own = a j; children = record { 0 = no_slot }; parent = record { 0 = (view w).parent i }; state = Ended (Signaled k); traits = z j; pids = b j })

  both_removed : (i : ℕ) → Taken (view t) i → (Taken (view w) i → ⊥) → (m : ℕ) × Fell t w m × Seen (view t) m i × Seen (view t) m ((view t).parent i)
  both_removed i h o =
      ⊎_elim
      (λ a. let (m, z, c, d) = y.removed i a o in (m, fell_before t u s r x w m z, seen_before t u s r x m i c, parent_before t u s r x m i a d))
      (λ a. let (m, z, c, d) = x.removed i h (no_so a) in (m, fell_too t u s r x w y.lives m z, c, d))
      (yes_or_no (taken (view u) i))

  both_heads : (m : ℕ) → Fell t w m → Head k from P (view t) m
  both_heads m z =
      ⊎_elim
      (λ l.
      let (j, a, b, c, d, e, g) = y.heads m (fell_after t u s r x w m z l) in
      let q = (shrinks t u s r x j (lives_taken (view u) j c)).1 in
      (j, a, b, x.lives j c, sym (was_init t u s r x j c) ∙ d, λ o. e (q ∙ o), subst (λ o. Below (view t) m o) q (sym (below_before t u s r x m ((view u).own j)) ∙ g)))
      (λ l. x.heads m (z.0, no_so l))
      (yes_or_no (living (view u) (init (view t) m)))

  pub trace_trans : Trace k from P t w
  trace_trans =
      record {
        kin = λ i h. let (a, b, e) = y.kin i h in let (c, d, g) = x.kin i (taken_mid i h) in (a ∙ c, b ∙ d, e ∙ g);
        lives = λ i l. x.lives i (y.lives i l);
        ups = y.ups ∙ x.ups;
        levels = y.levels ∙ x.levels;
        stay = stay_trans (view t) (view u) (view w) x.stay y.stay;
        parents = both_parents;
        removed = both_removed;
        ended = both_ended;
        heads = both_heads;
      }

-- ---- a record in no subtree that fell

-- the process at i lies in the subtree of a namespace that fell
abbrev pub InFell : Table → Table → ℕ → Type 0
InFell t u i = (m : ℕ) × Fell t u m × Seen (view t) m i

-- if not, its record is q then, but for its parent
abbrev pub Rest : Table → Table → ℕ → Process → Type 0
Rest t u i q = InFell t u i ⊎ (process u i ≡ with_parent q ((view u).parent i))

pub rest_same : (u : Table) (i : ℕ) (q : Process) → process u i ≡ q → process u i ≡ with_parent q ((view u).parent i)
rest_same u i q e = e ∙ ap (with_parent q) (sym (ap (λ p. p.parent.0) e))

pub rest_trans : {k from : ℕ} {P : ℕ → Type 0} (t u w : Table) (s : Sane t) (r : Sane u) → Trace k from P t u → Trace k from P u w → (i : ℕ) (q : Process) → Rest t u i q → Rest u w i (process u i) → Rest t w i q
rest_trans t u w s r x y i q a b =
    ⊎_elim (λ (m, z, h). inl (m, fell_too t u s r x w y.lives m z, h))
    (λ e. ⊎_elim (λ (m, z, h). inl (m, fell_before t u s r x w m z, seen_before t u s r x m i h)) (λ d. inr (d ∙ ap (λ (o : Process). with_parent o ((view w).parent i)) e)) b)
    a

-- ---- nothing done

-- the record of one that has ended is as it was
pub over_same : (k : ℕ) (t : Table) (i : ℕ) → Taken (view t) i → (Lives (view t) i → ⊥) → over k (process t i) ≡ process t i
over_same k t i h o = ⊎_elim (λ l. absurd (o l)) (λ (e : So (is_ended (process t i).state)). rw e) (lives_or_ended (view t) i h)

pub trace_refl : (k from : ℕ) (P : ℕ → Type 0) (t : Table) → Sane t → Trace k from P t t
trace_refl k from P t s =
    record {
      kin = λ i h. (refl, refl, refl);
      lives = λ i l. l;
      ups = refl;
      levels = refl;
      stay = λ m h. (h, (refl, refl, λ o. inl refl));
      parents = λ i h. sym (parent_after_old t t i (λ l. l));
      removed = λ i h o. absurd (o h);
      ended = λ i h o. rest_same t i _ (sym (over_same k t i h o));
      heads = λ m (a, o). absurd (o (init_living (view t) s.facts m a));
    }
