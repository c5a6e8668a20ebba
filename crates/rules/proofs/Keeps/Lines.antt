-- Each negative number is given exactly when its row of the table says so and no earlier row does.
use Prim.Native.Nat.{ℕ, ◌<◌, suc}
use native.Mathlib.Decide.{dec_lt}
use native.Mathlib.Omega.{arith}
use mathlib.Core.Bool.{Bool, true, false, not, So, false≢true}
use mathlib.Core.List.{List, [], ◌∷◌}
use mathlib.Core.Logic.{◌↔◌, ⊎_elim}
use mathlib.Core.Path.{◌≡◌, refl, sym, ◌∙◌, ap, subst}
use borrow.Author.Tests.{eqb-true, eq-eqb, ne_eqb, lt-ltb}
use lib.Dec.{eqb, leb, ltb}
use lib.IntN.{ℤ, pos, negsuc}
use lib.ListN.{length}
use Rattle.rules.proofs.Keeps.Finds.{targets_meant, meant_named, named_is}
use Rattle.rules.proofs.Laws.Below.{deepest_only}
use Rattle.rules.proofs.Laws.Facts.{Facts, Taken, seen_taken, lives_taken, facts}
use Rattle.rules.proofs.Laws.Find.{Lowest, lowest_is, named_seen}
use Rattle.rules.proofs.Laws.Judged.{by_number, gives, gives_granted, judged_told, made, refusals, told, told_refused}
use Rattle.rules.proofs.Laws.Steps.{runs_lives}
use Rattle.rules.proofs.Laws.Tests.{isnt_so, no_so, left, right, both, isnt_not, not_iff, or_iff, cases, or_left, or_right, any_elim, any_intro, all_elim, all_intro}
use Rattle.rules.specs.Answers.{minus, refusal_number, refused}
use Rattle.rules.specs.Calls.{named, own_level, targets, processes_full, namespaces_full}
use Rattle.rules.specs.Claims.{AnswersListed}
use Rattle.table.specs.Limits.{deepest, namespace_slots, process_slots}
use Rattle.rules.specs.Pids.{free_namespace_slot, free_slot}
use Rattle.table.specs.Slots.{is_running}
use Rattle.rules.specs.Read.{View, namespace_taken, taken, view}
use Rattle.rules.specs.Refusals.{numbered, meant, not_running, einval, enosys, esrch, ebusy, echild, enospc, enomem, eagain, rows, first}
use Rattle.rules.specs.Sound.{SoundTable, sound}
use Rattle.rules.specs.Step.{make, runs, step}
use Rattle.table.specs.Tests.{◌and◌, ◌or◌, all, any, when◌then◌else◌, lowest, some_of}
use Rattle.table.specs.declared.Call.TheVariants.{Clone, CloneNew, Unshare, Setns, Kill, Exit, Wait, Getpid, Getppid, Handle, Poll}
use Rattle.table.specs.declared.Call.{Call}
use Rattle.table.specs.declared.Refusal.TheVariants.{Unsound, NotRunning}
use Rattle.table.specs.declared.Table.{Table}

-- ---- the tests of a call are those of the rows

full : (n : ℕ) (f : ℕ → Bool) → eqb (lowest (λ i. not (f i)) n 0) n ≡ all n f
full n f = go (all n f) refl
  where
    r : Lowest (λ i. not (f i)) n 0 (lowest (λ i. not (f i)) n 0)
    r = lowest_is (λ i. not (f i)) n 0

    go : (b : Bool) → all n f ≡ b → eqb (lowest (λ i. not (f i)) n 0) n ≡ b
    go true e = eq-eqb _ n (at_end (dec_lt (lowest (λ i. not (f i)) n 0) n))
      where
        at_end : Dec (lowest (λ i. not (f i)) n 0 < n) → lowest (λ i. not (f i)) n 0 ≡ n
        at_end (yes l) = absurd ((not_iff _).0 (r.holds (omega arith)) (all_elim n f e _ l))
        at_end (no o) = omega (arith, r.upto)
    go false e = ne_eqb _ n (λ q. no_so e (all_intro n f (λ i l. isnt_not _ (r.none_before i (omega arith) (omega arith)))))

module _ (v : View) (f : Facts v) (c : ℕ) (here : Taken v c) where
  -- whom a number names is one of that number
  named_numbered : (n : ℤ) → (eqb (named v c n) process_slots or v.ended (named v c n)) ≡ not (any process_slots (λ i. numbered v c n i and not (v.ended i)))
  unfolding numbered named
  named_numbered n = go (any process_slots (λ i. numbered v c n i and not (v.ended i))) refl
    where
      yes_one : (n : ℤ) (i : ℕ) → So (numbered v c n i) → named v c n ≡ i
      yes_one (pos k) i h = meant_named v f c here k i (left _ _ h) (eqb-true _ k (right _ _ h))
      yes_one (negsuc k) i h = absurd (false≢true h)

      go : (b : Bool) → any process_slots (λ i. numbered v c n i and not (v.ended i)) ≡ b → (eqb (named v c n) process_slots or v.ended (named v c n)) ≡ not b
      go true e =
          let (i, l, h) = any_elim process_slots _ e in
          let q = yes_one n i (left _ _ h) in
          isnt_so (λ x. ⊎_elim (λ (y : So (eqb (named v c n) process_slots)). omega (arith, eqb-true (named v c n) process_slots y, q, l)) (λ (y : So (v.ended (named v c n))). (not_iff _).0 (right _ _ h) (subst (λ j. So (v.ended j)) q y)) (cases _ _ x))
      go false e =
          (or_iff _ _).1 (λ o.
          let p : named v c n ≡ process_slots → ⊥ = λ q. o (eq-eqb _ process_slots q) in
          ended_too (v.ended (named v c n)) refl p)
        where
          ended_too : (b : Bool) → v.ended (named v c n) ≡ b → (named v c n ≡ process_slots → ⊥) → So b
          ended_too true x p = refl
          ended_too false x p = absurd (no_so e (any_intro process_slots _ (named v c n) (f.in_range _ (seen_taken v _ _ (named_seen v c n p))) (both _ _ (named_is v c n p) (ap not x))))

  -- nobody is found exactly if nobody is meant
  found_meant : (n : ℤ) → eqb (length (targets v c n)) 0 ≡ not (any process_slots (meant v c n))
  unfolding meant numbered some_of
  found_meant n = go (targets v c n) (targets_meant v f c here n)
    where
      in_range : (i : ℕ) (n : ℤ) → So (meant v c n i) → i < process_slots
      in_range i (pos k) h = f.in_range i (seen_taken v _ i (left _ _ h))
      in_range i (negsuc k) h = f.in_range i (seen_taken v _ i (left _ _ h))

      go : (is : List ℕ) → ((i : ℕ) → So (some_of (eqb i) is) ↔ So (meant v c n i)) → eqb (length is) 0 ≡ not (any process_slots (meant v c n))
      go [] h = let e : any process_slots (meant v c n) ≡ false = isnt_so (λ x. let (i, l, m) = any_elim process_slots (meant v c n) x in false≢true ((h i).1 m)) in sym (ap not e)
      go (i ∷ is) h =
          let m : So (meant v c n i) = (h i).0 (rw (eq-eqb i i refl, some_of) refl) in
          ne_eqb (suc (length is)) 0 (λ q. omega arith) ∙ sym (ap not (any_intro process_slots (meant v c n) i (in_range i n m) m))

caller : (t : Table) → SoundTable t → (c : ℕ) → not_running (view t) c ≡ not (runs (view t) c)
unfolding not_running runs ◌or◌ ◌and◌
caller t h c = go (taken (view t) c) (is_running ((view t).state c)) refl
  where
    go : (a b : Bool) → taken (view t) c ≡ a → (not (ltb c process_slots) or not a or not b) ≡ not (a and b)
    go true true e = rw (lt-ltb c process_slots ((facts t h).in_range c e))
    go true false e = isnt_not _ (ap not (or_right (not (ltb c process_slots) or false) true refl))
    go false b e = or_left _ _ (or_right (not (ltb c process_slots)) true refl)

-- ---- each call

-- the rows after the first two
abbrev later : View → ℕ → Call → List (ℤ × Bool)
later v c call =
    (minus 22, einval v c call)
    ∷ (minus 38, enosys call)
    ∷ (minus 3, esrch v c call)
    ∷ (minus 16, ebusy c call)
    ∷ (minus 10, echild v c call)
    ∷ (minus 28, enospc v c call)
    ∷ (minus 12, enomem v c call)
    ∷ (minus 11, eagain v call)
    ∷ []

module _ (t : Table) (c : ℕ) (h : SoundTable t) (r : So (runs (view t) c)) where
  abbrev v : View
  v = view t

  f : Facts v
  f = facts t h

  here : Taken v c
  here = lives_taken v c (runs_lives t c r)

  processes : processes_full v ≡ all process_slots (taken v)
  unfolding free_slot
  processes = full process_slots (taken v)

  namespaces : namespaces_full v ≡ all namespace_slots (namespace_taken v)
  unfolding free_namespace_slot
  namespaces = full namespace_slots (namespace_taken v)

  deep : leb deepest (own_level v c) ≡ eqb (own_level v c) deepest
  deep = deepest_only v f (v.own c) (f.members c here).0.0

  -- the numbers of its list are those of its rows
  says : (call : Call) → first (by_number (refusals v c call)) ≡ first (later v c call)
  unfolding first einval enosys esrch ebusy echild enospc enomem eagain refusal_number
  says Clone = rw processes
  says CloneNew = rw (processes, namespaces, deep)
  says Unshare = rw (namespaces, deep)
  says (Setns n) = rw (named_numbered v f c here n)
  says (Kill n s) = rw (found_meant v f c here n)
  says (Exit s) = refl
  says Wait = refl
  says Getpid = refl
  says Getppid = refl
  says (Handle s on) = refl
  says Poll = refl

  make_told : (call : Call) → told (make t c call) ≡ first (later v c call)
  make_told call =
      ap told (made t c call) ∙ judged_told t (refusals v c call) (gives t c call) (gives_granted t c call) ∙ says call

pub answers_listed : AnswersListed
unfolding AnswersListed step rows first refusal_number
answers_listed t c call g = by_check (sound t) refl
  where
    by_caller : (h : SoundTable t) (b : Bool) → runs (view t) c ≡ b → told (when b then make t c call else refused t NotRunning) ≡ first ((minus 1001, not b) ∷ later (view t) c call)
    by_caller h true r = make_told t c h r call
    by_caller h false r = told_refused t NotRunning

    by_check : (b : Bool) → sound t ≡ b → told (when b then (when runs (view t) c then make t c call else refused t NotRunning) else refused t Unsound) ≡ first ((minus 1000, not b) ∷ (minus 1001, not_running (view t) c) ∷ later (view t) c call)
    by_check true e =
        let h : SoundTable t = record { shape = g; rules = e } in
        by_caller h (runs (view t) c) refl ∙ ap (λ b. first ((minus 1001, b) ∷ later (view t) c call)) (sym (caller t h c))
    by_check false e = told_refused t Unsound
