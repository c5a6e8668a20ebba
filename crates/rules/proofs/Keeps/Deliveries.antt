-- What signals leave of a table: one delivery, and one after another.
use Prim.Native.Nat.{ℕ, ◌<◌}
use mathlib.Core.Bool.{true, false, not, So}
use mathlib.Core.List.{List, ◌∷◌, []}
use mathlib.Core.Logic.{◌⊎◌, inl, inr, ⊎_elim}
use mathlib.Core.Path.{◌≡◌, refl, sym, ◌∙◌, ap, subst}
use borrow.Author.Tests.{eq-eqb, eqb-true}
use lib.Dec.{eqb}
use Rattle.rules.proofs.Keeps.Changed.{pick}
use Rattle.rules.proofs.Keeps.Changes.{deliver_sane, deliver_all_sane}
use Rattle.rules.proofs.Keeps.Deliver.{Each, Safe, Good, action_good}
use Rattle.rules.proofs.Keeps.InitTrace.{init_trace, init_others, fell}
use Rattle.rules.proofs.Keeps.MemberTrace.{member_trace, member_others, member_ended}
use Rattle.rules.proofs.Keeps.PutTrace.{Kin, put_trace, put_rest, put_self}
use Rattle.rules.proofs.Keeps.Trace.{Rest, Trace, trace_refl, trace_trans, rest_trans, fell_before, fell_too, seen_before, was_init}
use Rattle.rules.proofs.Laws.Facts.{Lives, lives_taken, not_ended, is_seen, Sane}
use Rattle.rules.proofs.Laws.Lists.{In, Distinct}
use Rattle.rules.proofs.Laws.Tests.{choose, yes_or_no, no_so, isnt_so, cases, both, or_true}
use Rattle.rules.proofs.Laws.Tree.{below_refl}
use Rattle.rules.specs.Claims.{after_action}
use Rattle.rules.specs.Delivery.{act, action_on, default_action, deliver, deliver_all, resumed, with_pending}
use Rattle.rules.specs.Read.{View, is_init, living, taken, view}
use Rattle.rules.proofs.Laws.Traits.{ended_signals}
use Rattle.table.specs.Limits.{sigcont, sigkill, signals, sigstop}
use Rattle.table.specs.SignalSets.{has}
use Rattle.table.specs.Slots.{is_ended, pid_at, process}
use Rattle.table.specs.Tests.{◌and◌, ◌or◌}
use Rattle.table.specs.declared.Action.TheVariants.{Finish, Nothing, Pend, Resume, Stop}
use Rattle.table.specs.declared.Action.{Action}
use Rattle.table.specs.declared.End.TheVariants.{Signaled}
use Rattle.table.specs.declared.Process.{Process}
use Rattle.table.specs.declared.State.TheVariants.{Running, Stopped}
use Rattle.table.specs.declared.Table.{Table}
use Rattle.table.specs.Records.{with_state, with_parent, as_ended}

-- ---- an init is ended by 9 from above alone

module _ (v : View) (i from s : ℕ) where
  -- what an action that ends an init needs
  abbrev pub ByNine : Action → Type 0
  ByNine Nothing = Unit {0}
  ByNine Resume = Unit {0}
  ByNine Stop = Unit {0}
  ByNine Finish = So (is_init v i) → (s ≡ sigkill) × (v.own i ≡ from → ⊥)
  ByNine Pend = Unit {0}

  default_nine : (s ≡ sigkill) ⊎ (s ≡ sigstop) → (is_init v i and eqb (v.own i) from ≡ false) → ByNine (default_action s)
  unfolding default_action ◌or◌
  default_nine (inl e) o = rw e (λ z. (refl, λ q. no_so o (both _ _ z (eq-eqb _ from q))))
  default_nine (inr e) o = rw e tt

  default_never : is_init v i ≡ false → ByNine (default_action s)
  unfolding default_action
  default_never o =
      choose ByNine (eqb s 17 or eqb s 23 or eqb s 28) (λ a. tt) (λ a.
      choose ByNine (eqb s sigcont) (λ b. tt) (λ b.
      choose ByNine (eqb s sigstop or eqb s 20 or eqb s 21 or eqb s 22) (λ c. tt) (λ c z. absurd (no_so o z))))

  pub by_nine : ByNine (action_on v from i s)
  unfolding action_on
  by_nine =
      choose ByNine (eqb s 0 or not (living v i)) (λ a. tt) (λ a.
      choose ByNine (eqb s sigcont) (λ b. tt) (λ b.
      choose ByNine (eqb s sigkill or eqb s sigstop)
      (λ c. choose ByNine (is_init v i and eqb (v.own i) from) (λ d. tt) (λ d. default_nine (⊎_elim (λ e. inl (eqb-true s sigkill e)) (λ e. inr (eqb-true s sigstop e)) (cases _ _ c)) d))
      (λ c. choose ByNine (has (v.traits i).handled s) (λ d. tt) (λ d. choose ByNine (is_init v i) (λ e. tt) default_never))))

-- ---- one delivery

resumed_kin : (q : Process) → Kin (resumed q) q
unfolding resumed with_pending
resumed_kin q = choose (λ x. Kin x q) (has q.traits.handled sigcont) (λ h. (refl, refl, refl, refl, ended_signals _ _ _)) (λ h. (refl, refl, refl, refl, refl))

pend_kin : (u : Table) (j k : ℕ) → Lives (view u) j → Kin (with_pending (process u j) k) (process u j)
unfolding with_pending
pend_kin u j k l = (refl, refl, refl, isnt_so (not_ended (view u) j l), ended_signals _ _ _)

module _ (k from : ℕ) (P : ℕ → Type 0) (u : Table) (s : Sane u) (j : ℕ) (mean : P j) where
  -- what an action leaves
  act_trace : (a : Action) → Good (view u) j k a → ByNine (view u) j from k a → Trace k from P u (act u j k a)
  unfolding act with_pending
  act_trace Nothing g n = trace_refl k from P u s
  act_trace Resume g n = put_trace k from P u s j (resumed (process u j)) g (resumed_kin (process u j))
  act_trace Stop g n = put_trace k from P u s j (with_state (process u j) Stopped) g (refl, refl, refl, refl, refl)
  act_trace Pend g n = put_trace k from P u s j (with_pending (process u j) k) g.0 (pend_kin u j k g.0)
  act_trace Finish g n =
      ⊎_elim
      (λ z. let (e, o) = n z in init_trace k from P u s j g.0 z e mean o)
      (λ z. member_trace k from P u s j g.0 g.1 z)
      (yes_or_no (is_init (view u) j))

  -- and of the others
  act_rest : (a : Action) → Good (view u) j k a → ByNine (view u) j from k a → (i : ℕ) → (i ≡ j → ⊥) → Rest u (act u j k a) i (process u i)
  unfolding act with_pending
  act_rest Nothing g n i o = inr refl
  act_rest Resume g n i o = inr (put_rest k from P u s j (resumed (process u j)) g (resumed_kin (process u j)) i o)
  act_rest Stop g n i o = inr (put_rest k from P u s j (with_state (process u j) Stopped) g (refl, refl, refl, refl, refl) i o)
  act_rest Pend g n i o = inr (put_rest k from P u s j (with_pending (process u j) k) g.0 (pend_kin u j k g.0) i o)
  act_rest Finish g n i o =
      ⊎_elim
      (λ z. init_others k from P u s j g.0 z (n z).0 i)
      (λ z. inr (member_others k from P u s j g.0 g.1 z i o))
      (yes_or_no (is_init (view u) j))

  module _ (safe : j ≡ 0 → from ≡ 0) where
    pub deliver_trace : Trace k from P u (deliver u from j k)
    unfolding deliver
    deliver_trace = act_trace (action_on (view u) from j k) (action_good (view u) j k from s.facts safe) (by_nine (view u) j from k)

    pub deliver_rest : (i : ℕ) → (i ≡ j → ⊥) → Rest u (deliver u from j k) i (process u i)
    unfolding deliver
    deliver_rest = act_rest (action_on (view u) from j k) (action_good (view u) j k from s.facts safe) (by_nine (view u) j from k)

-- ---- whom the signal is sent to

-- an action rests on four things that are read of the target
action_of : (v u : View) (from i k : ℕ) → living u i ≡ living v i → (Lives u i → is_init u i ≡ is_init v i) → u.own i ≡ v.own i → (u.traits i).handled ≡ (v.traits i).handled → action_on u from i k ≡ action_on v from i k
unfolding action_on
action_of v u from i k l z o h =
    ⊎_elim (λ (a : Lives u i). let e : is_init u i ≡ is_init v i = z a in rw (l, e, o, h))
    (λ (a : living u i ≡ false). let b : living v i ≡ false = sym l ∙ a in let e : (eqb k 0 or true) ≡ true = or_true (eqb k 0) in rw (a, b, e))
    (yes_or_no (living u i))

with_kept : (w : Table) (i p : ℕ) (q : Process) → process w i ≡ with_parent q p → process w i ≡ with_parent q ((view w).parent i)
with_kept w i p q e = e ∙ ap (with_parent q) (sym (ap (λ o. o.parent.0) e))

resumed_parent : (q : Process) (p : ℕ) → resumed (with_parent q p) ≡ with_parent (resumed q) p
unfolding resumed with_pending
resumed_parent q p = sym (pick (λ x. with_parent x p) (has q.traits.handled sigcont) (with_pending (with_state q Running) sigcont) (with_state q Running))

module _ (k from : ℕ) (P : ℕ → Type 0) (t u : Table) (s : Sane t) (r : Sane u) (x : Trace k from P t u) (i : ℕ) (mean : P i) where
  abbrev q : Process
  q = process t i

  abbrev p : ℕ
  p = (view u).parent i

  act_hit : (a : Action) → Good (view u) i k a → ByNine (view u) i from k a → process u i ≡ with_parent q p → Rest t (act u i k a) i (after_action q k a)
  unfolding act after_action with_pending
  act_hit Nothing g n e = inr e
  act_hit Resume g n e = inr (with_kept (act u i k Resume) i p (resumed q) (put_self k from P u r i (resumed (process u i)) g (resumed_kin (process u i)) ∙ ap resumed e ∙ resumed_parent q p))
  act_hit Stop g n e = inr (with_kept (act u i k Stop) i p (with_state q Stopped) (put_self k from P u r i (with_state (process u i) Stopped) g (refl, refl, refl, refl, refl) ∙ ap (λ (o : Process). with_state o Stopped) e))
  act_hit Pend g n e = inr (with_kept (act u i k Pend) i p (with_pending q k) (put_self k from P u r i (with_pending (process u i) k) g.0 (pend_kin u i k g.0) ∙ ap (λ (o : Process). with_pending o k) e))
  act_hit Finish g n e =
      ⊎_elim
      (λ z.
      let l = g.0 in
      let h = is_seen (view u) ((view u).own i) i (lives_taken (view u) i l) (below_refl (view u) ((view u).own i)) in
      inl ((view u).own i, fell_before t u s r x (act u i k Finish) ((view u).own i) (fell k from P u r i l z (n z).0), seen_before t u s r x ((view u).own i) i h))
      (λ z. let o : is_ended (process u i).state ≡ false = isnt_so (not_ended (view u) i g.0) in
      inr (member_ended k from P u r i g.0 g.1 z ∙ rw o (ap (λ (o : Process). with_parent (as_ended o (Signaled k)) ((view (act u i k Finish)).parent i)) e)))
      (yes_or_no (is_init (view u) i))

  pub deliver_hit : (i ≡ 0 → from ≡ 0) → Rest t u i q → Rest t (deliver u from i k) i (after_action q k (action_on (view t) from i k))
  unfolding deliver living taken
  deliver_hit safe (inl (m, z, h)) = inl (m, fell_too t u s r x (deliver u from i k) (deliver_trace k from P u r i mean safe).lives m z, h)
  deliver_hit safe (inr e) =
      let d = action_of (view t) (view u) from i k (ap (λ (o : Process). not (eqb (pid_at o 0) 0) and not (is_ended o.state)) e) (was_init t u s r x i) (ap (λ (o : Process). o.own.0) e) (ap (λ (o : Process). o.traits.handled) e) in
      subst (λ a. Rest t (act u i k (action_on (view u) from i k)) i (after_action q k a)) d
      (act_hit (action_on (view u) from i k) (action_good (view u) i k from r.facts safe) (by_nine (view u) i from k) e)

-- ---- one after another

module _ (k from : ℕ) (low : k < signals) (P : ℕ → Type 0) where
  pub all_trace : (u : Table) → Sane u → (is : List ℕ) → Safe from is → Each P is → Trace k from P u (deliver_all u from is k)
  unfolding deliver_all
  all_trace u s [] h m = trace_refl k from P u s
  all_trace u s (j ∷ js) h m =
      let y = deliver u from j k in
      let r = deliver_sane u s j k low from h.0 in
      trace_trans u y (deliver_all y from js k) s r (deliver_all_sane y r from k low js h.1) (deliver_trace k from P u s j m.0 h.0) (all_trace y r js h.1 m.1)

  -- who is not among them
  pub all_rest : (u : Table) (s : Sane u) (is : List ℕ) (h : Safe from is) (m : Each P is) (i : ℕ) → (In i is → ⊥) → Rest u (deliver_all u from is k) i (process u i)
  unfolding deliver_all
  all_rest u s [] h m i o = inr refl
  all_rest u s (j ∷ js) h m i o =
      let y = deliver u from j k in
      let r = deliver_sane u s j k low from h.0 in
      rest_trans u y (deliver_all y from js k) s r (deliver_trace k from P u s j m.0 h.0) (all_trace y r js h.1 m.1) i (process u i)
      (deliver_rest k from P u s j m.0 h.0 i (λ e. o (inl e))) (all_rest y r js h.1 m.1 i (λ z. o (inr z)))

  -- who is among them, once
  pub all_hit : (t : Table) → Sane t → (u : Table) → Sane u → Trace k from P t u → (is : List ℕ) → Safe from is → Each P is → Distinct is → (i : ℕ) → In i is → Rest t u i (process t i)
      → Rest t (deliver_all u from is k) i (after_action (process t i) k (action_on (view t) from i k))
  unfolding deliver_all
  all_hit t g u s x [] h m d i n a = absurd n
  all_hit t g u s x (j ∷ js) h m d i n a =
      let y = deliver u from j k in
      let r = deliver_sane u s j k low from h.0 in
      let f = deliver_trace k from P u s j m.0 h.0 in
      let z = trace_trans t u y g s r x f in
      ⊎_elim
      (λ (e : i ≡ j).
      rest_trans t y (deliver_all y from js k) g r z (all_trace y r js h.1 m.1) i (after_action (process t i) k (action_on (view t) from i k))
      (subst (λ l. Rest t (deliver u from l k) i (after_action (process t i) k (action_on (view t) from i k))) e (deliver_hit k from P t u g s x i (subst P (sym e) m.0) (λ q. h.0 (sym e ∙ q)) a))
      (all_rest y r js h.1 m.1 i (λ b. d.0 (subst (λ l. In l js) e b))))
      (λ (b : In i js).
      all_hit t g y r z js h.1 m.1 d.1 i b
      (rest_trans t u y g s x f i (process t i) a (deliver_rest k from P u s j m.0 h.0 i (λ e. d.0 (subst (λ l. In l js) e b)))))
      n
