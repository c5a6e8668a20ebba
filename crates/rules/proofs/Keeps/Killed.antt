-- What a granted kill does, slot by slot.
use Prim.Native.Nat.{ℕ, ◌<◌}
use native.Mathlib.Omega.{arith}
use mathlib.Core.Bool.{Bool, true, false, not, So}
use mathlib.Core.List.{◌∷◌, []}
use mathlib.Core.Logic.{inr, ⊎_elim}
use mathlib.Core.Path.{◌≡◌, refl, sym, ◌∙◌, ap, subst}
use borrow.Author.Tests.{eq-eqb, eqb-true}
use lib.Dec.{eqb}
use lib.IntN.{ℤ, pos, negsuc}
use Rattle.rules.proofs.Keeps.Changes.{deliver_all_sane}
use Rattle.rules.proofs.Keeps.Deliver.{Each, Safe, each_of}
use Rattle.rules.proofs.Keeps.Exact.{kill_acts}
use Rattle.rules.proofs.Keeps.Finds.{targets_meant, meant_seen, freed_leaves}
use Rattle.rules.proofs.Keeps.Fixed.{processes_fall}
use Rattle.rules.proofs.Keeps.Freed.{freed_keeps}
use Rattle.rules.proofs.Keeps.Premises as K
use Rattle.rules.proofs.Keeps.Deliveries.{all_trace, all_rest, all_hit}
use Rattle.rules.proofs.Keeps.Trace.{Fell, InFell, Rest, Trace, trace_refl, shrinks, parent_after_cases, parent_after_new, parent_after_old}
use Rattle.rules.proofs.Laws.Below.{below_trans}
use Rattle.rules.proofs.Laws.Facts.{Facts, Taken, Lives, Below, Seen, Other, lives_taken, not_ended, seen_taken, seen_below, is_seen, facts, Sane, sane, zero_of}
use Rattle.rules.proofs.Laws.Lists.{In, Distinct, some_of_in, in_some_of, sorted_distinct, only_distinct, ascending_sorted}
use Rattle.rules.proofs.Laws.Slots.{child_seen, living_own_alive, init_living, init_own, own_taken}
use Rattle.rules.proofs.Laws.Judged.{made_is, none_refused, place}
use Rattle.rules.proofs.Laws.Steps.{runs_lives, outcome_of}
use Rattle.rules.proofs.Laws.Tests.{isnt_not, yes_or_no, no_so, left, right, both, not_iff}
use Rattle.rules.specs.Answers.{answers, granted, number_of, refused}
use Rattle.rules.specs.Calls.{natural, others, pid_to, targets, named}
use Rattle.rules.specs.Claims.{Falls, SignalDone, SignalExact, SignalFinds, ends_init, parent_after, after_action}
use Rattle.rules.specs.Delivery.{action_on, deliver_all}
use Rattle.rules.specs.Freeing.{freed}
use Rattle.rules.specs.Read.{View, all_seen, init, is_init, living, seen, taken, view}
use Rattle.rules.specs.Refusals.{meant}
use Rattle.rules.specs.Sound.{SoundTable}
use Rattle.rules.specs.Step.{runs, step}
use Rattle.table.specs.Limits.{process_slots, signals, sigkill}
use Rattle.table.specs.Slots.{is_ended, pid_at, process}
use Rattle.table.specs.Tests.{◌and◌, when◌then◌else◌}
use Rattle.table.specs.declared.Action.TheVariants.{Finish}
use Rattle.table.specs.declared.Call.TheVariants.{Kill}
use Rattle.table.specs.declared.End.TheVariants.{Signaled}
use Rattle.table.specs.declared.Outcome.{Outcome}
use Rattle.table.specs.declared.Process.{Process}
use Rattle.table.specs.declared.Refusal.TheVariants.{NotRunning, Einval}
use Rattle.table.specs.declared.Refusal.{Refusal}
use Rattle.table.specs.declared.Table.{Table}
use Rattle.table.specs.Records.{with_parent, as_ended}

-- a kill finds each once
targets_distinct : (v : View) → Facts v → (c : ℕ) → Taken v c → (n : ℤ) → Distinct (targets v c n)
unfolding targets others all_seen
targets_distinct v f c here (pos n) = go (eqb (named v c (pos n)) process_slots)
  where
    go : (b : Bool) → Distinct {A = ℕ} (when b then [] else named v c (pos n) ∷ [])
    go true = tt
    go false = (λ h. h, tt)
targets_distinct v f c here (negsuc n) =
    only_distinct _ _ (sorted_distinct (pid_to v c) (all_seen v (v.own c)) (ascending_sorted (seen v (v.own c)) (pid_to v c) process_slots (λ i j l m a b e. omega (arith, f.differ (v.own c) (own_taken v f c here) i j a b e))))

-- an empty slot names the root init
empty_parent : (u : Table) → Facts (view u) → (i : ℕ) → (Taken (view u) i → ⊥) → (view u).parent i ≡ 0
empty_parent u f i o = (zero_of (view u) i (f.empty_process i o)).parent

module _ (t : Table) (c : ℕ) (h : SoundTable t) (r : So (runs (view t) c)) (n s : ℤ) (low : natural s < signals) where
  abbrev v : View
  v = view t

  abbrev k : ℕ
  k = natural s

  abbrev from : ℕ
  from = v.own c

  abbrev P : ℕ → Type 0
  P j = So (meant v c n j)

  -- before namespaces are freed
  abbrev w : Table
  w = deliver_all t from (targets v c n) k

  f : Facts v
  f = facts t h

  here : Taken v c
  here = lives_taken v c (runs_lives t c r)

  safe : Safe from (targets v c n)
  safe = K.targets_safe v f c n

  meant_in : (j : ℕ) → P j → In j (targets v c n)
  meant_in j m = some_of_in j _ ((targets_meant v f c here n j).1 m)

  each : Each P (targets v c n)
  each = each_of P (targets v c n) (λ i m. (targets_meant v f c here n i).0 (in_some_of i _ m))

  g : Sane w
  g = deliver_all_sane t (sane t h) from k low (targets v c n) safe

  x : Trace k from P t w
  x = all_trace k from low P t (sane t h) (targets v c n) safe each

  -- ---- the subtrees that fell

  ends_init_of : (m : ℕ) → Fell t w m → (j : ℕ) × So (ends_init v c n s j) × Below v m (v.own j)
  unfolding ends_init
  ends_init_of m z = let (j, a, b, l, i, o, d) = x.heads m z in (j, both _ _ (both _ _ (both _ _ (both _ _ a l) i) ((not_iff _).1 (λ e. o (eqb-true _ from e)))) (eq-eqb k sigkill b), d)

  seen_up : (m j i : ℕ) → Below v m (v.own j) → Seen v m i → Seen v (v.own j) i
  seen_up m j i b a = is_seen v (v.own j) i (seen_taken v m i a) (below_trans v f _ m _ (seen_below v m i a) b)

  ends_init_subtree : (i : ℕ) → InFell t w i → Falls v c n s i
  ends_init_subtree i (m, z, a) = let (j, d, b) = ends_init_of m z in (j, d, seen_up m j i b a)

  -- nobody in them lives
  fallen : (i : ℕ) → InFell t w i → Lives (view w) i → ⊥
  fallen i (m, (a, o), b) = processes_fall v (view w) f g.facts m (λ m e d. (x.stay m e).1) (λ i e d. (shrinks t w (sane t h) g x i d).1) a o i b

  hit : (i : ℕ) → P i → Rest t w i (after_action (process t i) k (action_on v from i k))
  hit i m = all_hit k from low P t (sane t h) t (sane t h) (trace_refl k from P t (sane t h)) (targets v c n) safe each (targets_distinct v f c here n) i (meant_in i m) (inr refl)

  ends_init_ended : (j : ℕ) → So (ends_init v c n s j) → Lives (view w) j → ⊥
  unfolding ends_init after_action
  ends_init_ended j d a =
      let m = left _ _ (left _ _ (left _ _ (left _ _ d))) in
      let l = right _ _ (left _ _ (left _ _ (left _ _ d))) in
      let o = (not_iff _).0 (right _ _ (left _ _ d)) in
      let e : k ≡ sigkill = eqb-true k sigkill (right _ _ d) in
      let q : action_on v from j k ≡ Finish = ap (action_on v from j) e ∙ kill_acts v j from l (λ z. o (eq-eqb _ from z)) in
      ⊎_elim (λ z. fallen j z a) (λ z. not_ended (view w) j a (ap (λ (p : Process). is_ended p.state) (z ∙ ap (λ y. with_parent (after_action (process t j) k y) ((view w).parent j)) q))) (hit j m)

  ends_init_fell : (j : ℕ) → So (ends_init v c n s j) → Fell t w (v.own j)
  unfolding ends_init is_init
  ends_init_fell j d =
      let l = right _ _ (left _ _ (left _ _ (left _ _ d))) in
      let i = right _ _ (left _ _ (left _ _ d)) in
      (living_own_alive v f j l, λ a. ends_init_ended j d (subst (Lives (view w)) (eqb-true _ j i) a))

  -- ---- who is removed

  no_more : (i j : ℕ) → So (ends_init v c n s j) → Seen v (v.own j) (v.parent i) → Taken (view w) i → ⊥
  no_more i j d b y = ⊎_elim (λ (l, o). handed_over l o) kept (parent_after_cases t w i)
    where
      z : Fell t w (v.own j)
      z = ends_init_fell j d

      other : Other i
      other e = omega (arith, f.in_range _ (seen_taken v _ _ b), ap v.parent e, f.root_parent)

      lives : Lives (view w) ((view w).parent i)
      lives = (g.facts.parents i y other).0.0

      handed_over : Lives v (v.parent i) → (Lives (view w) (v.parent i) → ⊥) → ⊥
      handed_over l o =
          let a = living_own_alive v f (v.parent i) l in
          fallen (init v (v.own (v.parent i)))
          (v.own j, z, is_seen v (v.own j) _ (lives_taken v _ (init_living v f _ a)) (subst (λ m. Below v m (v.own j)) (sym (init_own v f _ a)) (seen_below v _ _ b)))
          (subst (Lives (view w)) (x.parents i y ∙ parent_after_new t w i l o) lives)

      kept : (Lives v (v.parent i) → Lives (view w) (v.parent i)) → ⊥
      kept l = fallen (v.parent i) (v.own j, z, b) (subst (Lives (view w)) (x.parents i y ∙ parent_after_old t w i l) lives)

  -- ---- who is not in them

  stays : (i : ℕ) → (InFell t w i → ⊥) → Taken v i → Taken (view w) i
  stays i o y = ⊎_elim (λ a. a) (λ a. let (m, z, b, d) = x.removed i y (no_so a) in absurd (o (m, z, b))) (yes_or_no (taken (view w) i))

  parent_then : (i : ℕ) → (InFell t w i → ⊥) → (view w).parent i ≡ parent_after t w i
  parent_then i o =
      ⊎_elim (λ y. x.parents i (stays i o y))
      (λ y.
      let e = empty_parent t f i (no_so y) in
      empty_parent w g.facts i (λ a. no_so y (shrinks t w (sane t h) g x i a).0) ∙ sym e ∙ sym (parent_after_old t w i (λ a. subst (Lives (view w)) (sym e) g.facts.root_lives)))
      (yes_or_no (taken v i))

  -- its record then
  kept_as : (i : ℕ) (q : Process) → Rest t w i q → (Falls v c n s i → ⊥) → process w i ≡ with_parent q (parent_after t w i)
  kept_as i q a o =
      let no : InFell t w i → ⊥ = λ z. o (ends_init_subtree i z) in
      ⊎_elim (λ z. absurd (no z)) (λ e. e ∙ ap (with_parent q) (parent_then i no)) a

  -- ---- once namespaces are freed

  abbrev u : Table
  u = freed w

  at : (i : ℕ) → process u i ≡ process w i
  at = freed_leaves w g.shape_of

  taken_then : (i : ℕ) → taken (view u) i ≡ taken (view w) i
  unfolding taken
  taken_then i = ap (λ (p : Process). not (eqb (pid_at p 0) 0)) (at i)

  parent_after_then : (i : ℕ) → parent_after t u i ≡ parent_after t w i
  unfolding parent_after living taken
  parent_after_then i = ap (λ (q : Process). let p = v.parent i in when living v p and not (not (eqb (pid_at q 0) 0) and not (is_ended q.state)) then init v (v.own p) else p) (at (v.parent i))

  as_then : (i : ℕ) (q : Process) → process w i ≡ with_parent q (parent_after t w i) → process u i ≡ with_parent q (parent_after t u i)
  as_then i q e = at i ∙ e ∙ ap (with_parent q) (sym (parent_after_then i))

  abbrev swept_by : ℕ → Process
  swept_by i = when v.ended i then process t i else as_ended (process t i) (Signaled sigkill)

  swept_as : (i j : ℕ) → So (ends_init v c n s j) → Seen v (v.own j) i → Taken (view w) i → process w i ≡ with_parent (swept_by i) (parent_after t w i)
  unfolding ends_init
  swept_as i j d b y =
      let e : k ≡ sigkill = eqb-true k sigkill (right _ _ d) in
      x.ended i y (fallen i (v.own j, ends_init_fell j d, b)) ∙ ap (λ (z : ℕ). with_parent (when v.ended i then process t i else as_ended (process t i) (Signaled z)) ((view w).parent i)) e
      ∙ ap (with_parent (swept_by i)) (x.parents i y)

  pub signal_done : SignalDone t (freed w) c n s
  signal_done =
      record {
        removed = λ i y. (
          λ o. let (m, z, a, b) = x.removed i y (λ q. o (taken_then i ∙ q)) in let (j, d, e) = ends_init_of m z in (j, d, seen_up m j i e a, seen_up m j _ e b),
          λ (j, d, a, b) q. no_more i j d b (sym (taken_then i) ∙ q),
        );
        swept = λ i (j, d, b) y. as_then i (swept_by i) (swept_as i j d b (sym (taken_then i) ∙ y));
        reached = λ i o m. let q = after_action (process t i) k (action_on v from i k) in as_then i q (kept_as i q (hit i m) o);
        spared = λ i o m. as_then i (process t i) (kept_as i (process t i) (all_rest k from low P t (sane t h) (targets v c n) safe each i (λ z. m ((targets_meant v f c here n i).0 (in_some_of i _ z)))) o);
      }

-- each kill that is granted
pub signal_exact : SignalExact
unfolding SignalExact place answers granted refused number_of
signal_exact t c k n s h =
    outcome_of Done t c (Kill n s) h (refuse NotRunning) (λ r.
    made_is Done t c (Kill n s) refuse (λ a w q. (cc, signal_done t c h r n s (K.natural_low s (isnt_not _ (a Einval))))))
  where
    Done : Outcome → Type 0
    Done o = number_of o.reply.answer ≡ pos k → (k ≡ 0) × SignalDone t o.table c n s

    refuse : (e : Refusal) → Done (refused t e)
    refuse e q = absurd (none_refused t e k q)

-- ---- who is not seen

module _ (t u : Table) (c : ℕ) (n s : ℤ) (f : Facts (view t)) (g : Facts (view u)) (done : SignalDone t u c n s) where
  falls_seen : (i : ℕ) → Falls (view t) c n s i → Seen (view t) ((view t).own c) i
  unfolding ends_init
  falls_seen i (j, d, b) =
      let a = meant_seen (view t) c n j (left _ _ (left _ _ (left _ _ (left _ _ d)))) in
      is_seen (view t) _ i (seen_taken (view t) _ i b) (below_trans (view t) f _ _ _ (seen_below (view t) _ i b) (seen_below (view t) _ j a))

  -- its record is as it was but for the parent, and so is its parent's, which lives on
  unseen : (i : ℕ) → (Seen (view t) ((view t).own c) i → ⊥) → process u i ≡ with_parent (process t i) (parent_after t u i)
  unseen i o = done.spared i (λ a. o (falls_seen i a)) (λ m. o (meant_seen (view t) c n i m))

  parent_on : (i : ℕ) → (Seen (view t) ((view t).own c) i → ⊥) → Lives (view t) ((view t).parent i) → Lives (view u) ((view t).parent i)
  unfolding living taken
  parent_on i o l =
      ⊎_elim
      (λ h. ap (λ (p : Process). not (eqb (pid_at p 0) 0) and not (is_ended p.state)) (unseen ((view t).parent i) (λ a. o (child_seen (view t) f _ i h a))) ∙ l)
      (λ h. subst (Lives (view u)) (sym (empty_parent t f i (no_so h))) g.root_lives)
      (yes_or_no (taken (view t) i))

  unseen_same : (i : ℕ) → (Seen (view t) ((view t).own c) i → ⊥) → process u i ≡ process t i
  unseen_same i o = unseen i o ∙ ap (with_parent (process t i)) (parent_after_old t u i (parent_on i o))

-- a kill changes no record of a process that the caller does not see
spares : (t : Table) (c i : ℕ) (n s : ℤ) → SoundTable t → (Seen (view t) ((view t).own c) i → ⊥) → process (step t c (Kill n s)).table i ≡ process t i
unfolding place answers granted refused
spares t c i n s h o =
    outcome_of Kept t c (Kill n s) h refl (λ r.
    made_is Kept t c (Kill n s) (λ e. refl) (λ a w.
    let low = K.natural_low s (isnt_not _ (a Einval)) in
    let x = deliver_all_sane t (sane t h) ((view t).own c) (natural s) low (targets (view t) c n) (K.targets_safe (view t) (facts t h) c n) in
    unseen_same t _ c n s (facts t h) (facts _ (freed_keeps _ x.shape_of x.facts)) (signal_done t c h r n s low) i o))
  where
    Kept : Outcome → Type 0
    Kept u = process u.table i ≡ process t i

pub signal_finds : SignalFinds
unfolding runs
signal_finds = record { finds = λ t c i n h r. targets_meant (view t) (facts t h) c (left _ _ r) n i; spares = spares }
