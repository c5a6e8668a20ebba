-- What unshare, setns, handle and poll change: the caller's record, and namespaces.
use Prim.Native.Nat.{ℕ, suc}
use native.Mathlib.Omega.{arith}
use mathlib.Core.Bool.{Bool, true, false, not, So}
use mathlib.Core.Logic.{◌⊎◌, inl, inr}
use mathlib.Core.Path.{◌≡◌, refl, sym, ◌∙◌, ap, subst}
use borrow.Author.Tests.{eq-eqb, eqb-false, ne_eqb}
use lib.Dec.{eqb}
use lib.IntN.{ℤ, pos}
use Rattle.rules.proofs.Keeps.Changed.{namespace_count, process_count, stored}
use Rattle.rules.proofs.Keeps.Changes.{setns_sane, unshare_sane}
use Rattle.rules.proofs.Keeps.Finds.{freed_leaves, named_is}
use Rattle.rules.proofs.Keeps.Freed.{freed_space, kept_children}
use Rattle.rules.proofs.Keeps.Premises as K
use Rattle.rules.proofs.Laws.Below.{not_deepest}
use Rattle.rules.proofs.Laws.Facts.{Facts, Lives, Taken, facts, lives_taken}
use Rattle.rules.proofs.Laws.Find.{named_seen}
use Rattle.rules.proofs.Laws.Judged.{None, made_is, none_refused, place, refusals}
use Rattle.rules.proofs.Laws.Steps.{made_or_refused, outcome_of, runs_lives}
use Rattle.rules.proofs.Laws.Tests.{both, choose, or_false_left, or_false_right}
use Rattle.rules.specs.Answers.{answers, granted, number_of, refused}
use Rattle.rules.specs.Calls.{handle_off, handle_on, named, natural, new_namespace, own_level, poll, set_children, taken_up}
use Rattle.rules.specs.Claims.{ChildrenTurn, MadeNamespace, OwnSignals, SignalsOnly, Turned}
use Rattle.rules.specs.Freeing.{freed, kept}
use Rattle.rules.specs.Pids.{free_namespace_slot}
use Rattle.rules.specs.Read.{children, taken, unborn, view}
use Rattle.rules.specs.Refusals.{numbered}
use Rattle.rules.specs.Sound.{SoundTable, shaped}
use Rattle.rules.specs.Step.{make, runs}
use Rattle.table.specs.Fresh.{empty_namespace}
use Rattle.table.specs.Limits.{namespace_slots, process_slots, signals}
use Rattle.table.specs.SignalSets.{lowest_signal}
use Rattle.table.specs.Slots.{is_unborn, namespace, no_namespace, no_process, pid_at, process, put}
use Rattle.table.specs.Tests.{◌and◌, when◌then◌else◌}
use Rattle.table.specs.declared.Call.TheVariants.{Unshare, Setns, Handle, Poll}
use Rattle.table.specs.declared.Namespace.{Namespace}
use Rattle.table.specs.declared.Outcome.{Outcome}
use Rattle.table.specs.declared.Process.{Process}
use Rattle.table.specs.declared.Refusal.TheVariants.{NotRunning, Esrch, Enospc, Eagain}
use Rattle.table.specs.declared.Table.{Table}
use Rattle.table.specs.Records.{blank_namespace, placed, with_children, with_traits}

-- ---- the caller's record put in its place

module _ (t : Table) (h : SoundTable t) (c : ℕ) (lives : Lives (view t) c) where
  here : Taken (view t) c
  here = lives_taken (view t) c lives

  at : (x : Process) (i : ℕ) → process (put t c x) i ≡ (when eqb i c then x else process t i)
  at x = stored t.processes c x no_process (omega (arith, process_count t h.shape, (facts t h).in_range c here))

  self : (x : Process) → process (put t c x) c ≡ x
  self x = at x c ∙ rw (eq-eqb c c refl)

  rest : (x : Process) (i : ℕ) → (i ≡ c → ⊥) → process (put t c x) i ≡ process t i
  rest x i o = at x i ∙ rw (ne_eqb i c o)

  -- other traits, and nothing else
  own_signals : (x : Process) → x ≡ with_traits (process t c) x.traits → OwnSignals t (put t c x) c
  own_signals x e =
      record {
        caller = self x ∙ e ∙ ap (λ (p : Process). with_traits (process t c) p.traits) (sym (self x));
        others = rest x;
        namespaces = λ n. refl;
      }

-- ---- handle and poll

as_it_was : (t : Table) (c : ℕ) → OwnSignals t t c
as_it_was t c = record { caller = refl; others = λ i o. refl; namespaces = λ n. refl }

abbrev Signals : Table → ℕ → Outcome → Type 0
Signals t c o = OwnSignals t o.table c

handled : (t : Table) (c : ℕ) (s : ℤ) (on : Bool) → SoundTable t → So (runs (view t) c) → Signals t c (make t c (Handle s on))
unfolding answers granted refused handle_on handle_off
handled t c s on h r = made_is (Signals t c) t c (Handle s on) (λ e. as_it_was t c) (λ n q. by_switch on)
  where
    by_switch : (b : Bool) → OwnSignals t (put t c (when b then handle_on (process t c) (natural s) else handle_off (process t c) (natural s))) c
    by_switch true = own_signals t h c (runs_lives t c r) _ refl
    by_switch false = own_signals t h c (runs_lives t c r) _ refl

polled : (t : Table) (c : ℕ) → SoundTable t → So (runs (view t) c) → Signals t c (make t c Poll)
unfolding answers granted refused poll taken_up
polled t c h r =
    made_is (Signals t c) t c Poll (λ e. as_it_was t c) (λ n q.
    choose (Signals t c) (eqb (lowest_signal (process t c).traits.pending) signals) (λ a. as_it_was t c) (λ a. own_signals t h c (runs_lives t c r) _ refl))

pub signals_only : SignalsOnly
signals_only =
    record {
      by_handle = λ t c s on h. made_or_refused (λ u. OwnSignals t u c) t c (Handle s on) h (as_it_was t c) (handled t c s on h);
      by_poll = λ t c h. made_or_refused (λ u. OwnSignals t u c) t c Poll h (as_it_was t c) (polled t c h);
    }

-- ---- unshare and setns: w is t with the caller's children turned to n, before namespaces are freed

module _ (t w : Table) (g : So (shaped w)) (f : Facts (view w)) (c n : ℕ) (here : Taken (view t) c) (self : process w c ≡ with_children (process t c) n) (rest : (i : ℕ) → (i ≡ c → ⊥) → process w i ≡ process t i) (spaces : (m : ℕ) → (m ≡ n → ⊥) → namespace w m ≡ namespace t m) where
  -- n has a holder
  stays : namespace (freed w) n ≡ namespace w n
  unfolding taken
  stays =
      let k : So (kept (view w) (children (view w) c)) = kept_children (view w) f c (ap (λ (p : Process). not (eqb (pid_at p 0) 0)) self ∙ here) in
      freed_space w g n ∙ rw (subst (λ m. So (kept (view w) m)) (ap (λ (p : Process). p.children.0) self) k)

  turned : Turned t (freed w) c n
  turned =
      record {
        caller = freed_leaves w g c ∙ self;
        others = λ i o. freed_leaves w g i ∙ rest i o;
        namespaces = λ m o. by_kept (kept (view w) m) m o (freed_space w g m);
      }
    where
      by_kept : (b : Bool) (m : ℕ) → (m ≡ n → ⊥) → namespace (freed w) m ≡ (when b then namespace w m else empty_namespace)
          → (namespace (freed w) m ≡ namespace t m) ⊎ (namespace (freed w) m ≡ empty_namespace)
      by_kept true m o e = inl (e ∙ spaces m o)
      by_kept false m o e = inr e

-- ---- setns

abbrev Set : Table → ℕ → ℤ → ℕ → Outcome → Type 0
Set t c n k o =
    number_of o.reply.answer ≡ pos k
    → (k ≡ 0)
    × (i : ℕ)
    × So (numbered (view t) c n i and not ((view t).ended i))
    × Turned t o.table c ((view t).own i)
    × (namespace o.table ((view t).own i) ≡ namespace t ((view t).own i))

setns_done : (t : Table) (c k : ℕ) (n : ℤ) (h : SoundTable t) (r : So (runs (view t) c)) → None (refusals (view t) c (Setns n)) → Set t c n k (answers (set_children t c ((view t).own (named (view t) c n))) 0)
unfolding place set_children answers granted number_of
setns_done t c k n h r none q =
    let i = named (view t) c n in
    let m = (view t).own i in
    let lives = runs_lives t c r in
    let found = eqb-false i process_slots (or_false_left _ _ (none Esrch)) in
    let s = setns_sane t h c i lives (named_seen (view t) c n found) in
    let w = put t c (with_children (process t c) m) in
    let all = turned t w s.shape_of s.facts c m (lives_taken (view t) c lives) (self t h c lives _) (rest t h c lives _) (λ j o. refl) in
    let own = stays t w s.shape_of s.facts c m (lives_taken (view t) c lives) (self t h c lives _) (rest t h c lives _) (λ j o. refl) in
    (cc, i, both _ _ (named_is (view t) c n found) (ap not (or_false_right _ _ (none Esrch))), all, own)

-- ---- unshare

abbrev Unshared : Table → ℕ → ℕ → Outcome → Type 0
Unshared t c k o =
    number_of o.reply.answer ≡ pos k
    → (k ≡ 0) × (n : ℕ) × Turned t o.table c n × MadeNamespace t o.table c n × So (unborn (view o.table) n)

unshare_done : (t : Table) (c k : ℕ) (h : SoundTable t) (r : So (runs (view t) c)) → None (refusals (view t) c Unshare) → Unshared t c k (answers (set_children (new_namespace t c) c (free_namespace_slot (view t))) 0)
unfolding place set_children new_namespace answers granted number_of
unshare_done t c k h r none q =
    let n = free_namespace_slot (view t) in
    let lives = runs_lives t c r in
    let room = eqb-false n namespace_slots (none Eagain) in
    let s = unshare_sane t h c r (not_deepest _ (none Enospc)) room in
    let w = put (new_namespace t c) c (with_children (process t c) n) in
    let z = placed blank_namespace ((view t).own c) (suc (own_level (view t) c)) in
    let at = stored t.namespaces n z no_namespace (omega (arith, namespace_count t h.shape, (K.free_namespace_is (view t) room).0)) in
    let spaces : (m : ℕ) → (m ≡ n → ⊥) → namespace w m ≡ namespace t m = λ m o. at m ∙ rw (ne_eqb m n o) in
    let there : namespace w n ≡ z = at n ∙ rw (eq-eqb n n refl) in
    let new = stays t w s.shape_of s.facts c n (lives_taken (view t) c lives) (self t h c lives _) (rest t h c lives _) spaces ∙ there in (
      cc,
      n,
      turned t w s.shape_of s.facts c n (lives_taken (view t) c lives) (self t h c lives _) (rest t h c lives _) spaces,
      record { new = (K.free_namespace_is (view t) room).1; lowest = K.free_namespace_lowest (view t); parent = ap (λ (x : Namespace). x.parent.0) new },
      ap (λ (x : Namespace). is_unborn x.life) new,
    )

pub children_turn : ChildrenTurn
children_turn =
    record {
      by_unshare = λ t c k h.
          outcome_of (Unshared t c k) t c Unshare h (λ q. absurd (none_refused t NotRunning k q))
          (λ r. made_is (Unshared t c k) t c Unshare (λ e q. absurd (none_refused t e k q)) (λ n w. unshare_done t c k h r n));
      by_setns = λ t c k n h.
          outcome_of (Set t c n k) t c (Setns n) h (λ q. absurd (none_refused t NotRunning k q))
          (λ r. made_is (Set t c n k) t c (Setns n) (λ e q. absurd (none_refused t e k q)) (λ m w. setns_done t c k n h r m));
    }
