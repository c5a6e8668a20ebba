-- kill: a signal to one or to many.
use Prim.Native.Nat.{ℕ, ◌<◌, ◌%◌}
use mathlib.Core.Bool.{Bool, true, false}
use mathlib.Core.List.{List, [], ◌∷◌}
use mathlib.Core.Path.{◌≡◌, refl, sym, ap, ap₂, subst, subst₂, ◌∙◌}
use native.Mathlib.Omega.{arith}
use borrow.Author.Tests.{eq-eqb, ne_eqb}
use denote.Laws.{Is}
use lib.Dec.{eqb}
use lib.IntN.{ℤ, negsuc}
use lib.ListN.{get_or, length, length-map}
use lib.Seq.{take-length}
use mir.Syntax.{w32}
use mir.Val.{Val, SFits, to_z, of_z}
use mir.ValLaws.{to_z-of_z}
use Rattle.arguments.proofs.Named.{targets_everyone, targets_one, signal_is}
use Rattle.arguments.specs.Arguments.{names_everyone}
use Rattle.callers.proofs.Fits.{sound_table}
use Rattle.delivery.proofs.Kills.{kills_one, kills_others}
use Rattle.delivery.specs.Delivery.{deliver_by, deliver_all_by, Delivers, DeliversAll}
use Rattle.delivery.specs.Targets.{Lists, listed, numbers}
use Rattle.delivery.specs.declared.Targets.{Targets}
use Rattle.kills.specs.Kills.{first_refusals, sends, sends_by, Sends, kill_with, kill_by, Kills}
use Rattle.outcomes.proofs.Verdicts.{Verdict, err_ok, judged_grants, judged_refuses, none_holds, passed, refused_or, tested}
use Rattle.outcomes.specs.Verdicts.{settled, verdict}
use Rattle.std.specs.Prelude.{Result, Ok, Err, Option, Some, None, IfSome, ok_or}
use Rattle.std.specs.Result.{IsErrAnd}
use Rattle.tree.specs.Tree.{process_found}
use Rattle.table.specs.declared.ProcSlot.{ProcSlot}
use Rattle.table.proofs.Chains.{if_yes, if_no, pick_yes, pick_no}
use Rattle.rules.proofs.Laws.Judged.{place}
use Rattle.rules.proofs.Laws.ReadAt.{read_at}
use Rattle.table.specs.contracts.Table as T
use Rattle.rules.specs.Answers.{answers}
use Rattle.rules.specs.Calls.{natural, named, others, targets, names_group, kill_refusals, kill}
use Rattle.rules.specs.Delivery.{deliver_all}
use Rattle.rules.specs.Freeing.{freed}
use Rattle.table.specs.Fresh.{empty_process}
use Rattle.table.specs.Limits.{process_slots, signals}
use Rattle.rules.specs.Read.{view}
use Rattle.table.specs.Tests.{when◌then◌else◌}
use Rattle.table.specs.declared.Outcome.{Outcome}
use Rattle.table.specs.declared.Process.{Process}
use Rattle.table.specs.declared.Refusal.TheVariants.{Einval, Enosys, Esrch}
use Rattle.table.specs.declared.Refusal.{Refusal}
use Rattle.table.specs.declared.Table.{Table}

-- ---- what is sent: p is the process read at the caller's slot, u the table after the deliveries, and w without what nobody
-- holds

module _ (t : Table) (c k : ℕ) (p : Process) (u w : Table) (r : Outcome) (vs : List Val) (is : Is T.the_row t vs) (d : p ≡ get_or t.processes c empty_process) (f : w ≡ freed u) (a : r ≡ answers w 0) where
  own : p.own.0 ≡ (view t).own c
  own = (read_at t c p d).own

  -- by what the deliveries make of the table, sent from a namespace
  by : (sent : ℕ → Table) → u ≡ sent p.own.0 → r ≡ answers (freed (sent ((view t).own c))) 0
  by sent e = a ∙ ap (λ x. answers x 0) (f ∙ ap freed (e ∙ ap sent own))

  pub sent_one : (i : ℕ) → Delivers t p.own.0 i k u → Sends t c (i ∷ []) k r
  unfolding sends sends_by deliver_all_by
  sent_one i y =
      record {
        always = by (λ x. deliver_by t x i k) y.always;
        as_defined = λ low h. by (λ x. deliver_all t x (i ∷ []) k) (kills_one t p.own.0 i k u (sound_table t vs is h) y);
      }

  -- l lists the others
  pub sent_all : (l : List ProcSlot) → DeliversAll t p.own.0 (numbers l) k u → numbers l ≡ others (view t) c → Sends t c (others (view t) c) k r
  unfolding sends sends_by
  sent_all l y x =
      let r : Targets = record { slots = l; len = length l } in
      let same : listed r ≡ numbers l = ap numbers (take-length l) in
      let lists : Lists r (others (view t) c) =
      record { count = sym (length-map l (λ (j : ProcSlot). j.0)) ∙ ap length x; list = same ∙ x } in
      record {
        always = by (λ b. deliver_all_by t b (others (view t) c) k) (y.always ∙ ap (λ js. deliver_all_by t p.own.0 js k) x);
        as_defined = λ low h.
            by (λ b. deliver_all t b (others (view t) c) k)
            (kills_others t c p.own.0 k 0 r u low (sound_table t vs is h) own lists (subst (λ js. DeliversAll t p.own.0 js k u) (sym same) y)
            ∙ ap (λ js. deliver_all t p.own.0 js k) (targets_everyone (view t) c (negsuc 0) refl));
      }

-- ---- the tests by their values: a that it is no signal, g that it is a group, and b that it is nobody

before_last : (a g b : Bool) (x : Refusal) → Err x ≡ verdict ((Einval, a) ∷ (Enosys, g) ∷ []) → Err x ≡ verdict ((Einval, a) ∷ (Enosys, g) ∷ (Esrch, b) ∷ [])
before_last true g b x h = h
before_last false true b x h = h
before_last false false b x h = absurd (err_ok h)

-- v is the verdict on whether it is nobody
by_last : (a g b : Bool) (u : Unit {0}) (v : Verdict) → Ok u ≡ verdict ((Einval, a) ∷ (Enosys, g) ∷ []) → (g ≡ false → v ≡ tested b Esrch) → v ≡ verdict ((Einval, a) ∷ (Enosys, g) ∷ (Esrch, b) ∷ [])
by_last true g b u v h e = absurd (err_ok (sym h))
by_last false true b u v h e = absurd (err_ok (sym h))
by_last false false b u v h e = e refl

-- ---- what is given by it: v is what `may_kill` gives, of the arguments as they came

-- what `signal_of` gives of the argument z
abbrev signal_of : ℤ → ℕ
signal_of z = natural (to_z w32 (of_z w32 z)) % 256

module _ (t : Table) (c : ℕ) (n z : ℤ) (fits_n : SFits w32 n) (fits : SFits w32 z) (v : Verdict) (m : v ≡ verdict (first_refusals (to_z w32 (of_z w32 n)) (to_z w32 (of_z w32 z)))) where
  ruled : v ≡ verdict (first_refusals n z)
  ruled = m ∙ ap₂ (λ i j. verdict (first_refusals i j)) (to_z-of_z w32 n fits_n) (to_z-of_z w32 z fits)

  -- in both ways: by what is sent to a list
  refused_by : (x : Refusal) (r : Result Outcome Refusal) → Err x ≡ verdict (kill_refusals (view t) c n z) → IsErrAnd r (λ y. y ≡ x) → Kills t c n z (settled t r)
  unfolding kill kill_by sends
  refused_by x r h a = record { always = refuses (sends_by t c); as_defined = λ s. refuses (sends t c) }
    where
      refuses : (send : List ℕ → ℕ → Outcome) → settled t r ≡ kill_with send t c n z
      refuses send =
          judged_refuses t (kill_refusals (view t) c n z) (λ y. send (targets (view t) c n) (natural z)) x r a h

  pub kill_refused : (x : Refusal) (r : Result Outcome Refusal) → v ≡ Err x → IsErrAnd r (λ y. y ≡ x) → Kills t c n z (settled t r)
  kill_refused x r h = refused_by x r (before_last _ _ _ x (sym h ∙ ruled))

  -- once the first two are passed
  module _ (u : Unit {0}) (g : v ≡ Ok u) where
    whole : (w : Verdict) → (names_group n ≡ false → w ≡ tested (eqb (length (targets (view t) c n)) 0) Esrch) → w ≡ verdict (kill_refusals (view t) c n z)
    whole w = by_last _ _ _ u w (sym g ∙ ruled)

    no_group : names_group n ≡ false
    unfolding place
    no_group = none_holds (first_refusals n z) (sym g ∙ ruled) Enosys

    missed : (x : Refusal) (r : Result Outcome Refusal) → eqb (length (targets (view t) c n)) 0 ≡ true → ◌≡◌ {A = Verdict} (Err x) (Err Esrch) → IsErrAnd r (λ y. y ≡ x) → Kills t c n z (settled t r)
    missed x r b h = refused_by x r (whole (Err x) (λ o. if_yes _ _ _ _ b h))

    -- k is what `signal_of` gives
    sent_so : (k : ℕ) (r : Outcome) → eqb (length (targets (view t) c n)) 0 ≡ false → natural (to_z w32 (of_z w32 z)) < signals → k ≡ signal_of z → Sends t c (targets (view t) c n) k r → Kills t c n z r
    unfolding kill kill_by sends
    sent_so k r somebody b q a =
        record { always = comes (sends_by t c) a.always; as_defined = λ s. comes (sends t c) (a.as_defined low s) }
      where
        signal_sent : k ≡ natural (to_z w32 (of_z w32 z))
        signal_sent = signal_is k (to_z w32 (of_z w32 z)) q b

        low : k < signals
        low = subst (λ j. j < signals) (sym signal_sent) b

        comes : (send : List ℕ → ℕ → Outcome) → r ≡ send (targets (view t) c n) k → r ≡ kill_with send t c n z
        comes send e =
            judged_grants t (kill_refusals (view t) c n z) (λ y. send (targets (view t) c n) (natural z)) tt r
            (whole (Ok tt) (λ o. if_no _ _ _ _ somebody refl))
            (e ∙ ap (send (targets (view t) c n)) (signal_sent ∙ ap natural (to_z-of_z w32 z fits)))

    -- ---- to one: s is what `named` gives

    module _ (s : Option ProcSlot) (e : process_found s ≡ named (view t) c (to_z w32 (of_z w32 n))) (o : names_everyone n ≡ false) where
      slot : process_found s ≡ named (view t) c n
      slot = e ∙ ap (named (view t) c) (to_z-of_z w32 n fits_n)

      -- the list of the one, if there is one
      the_one : targets (view t) c n ≡ (when eqb (process_found s) process_slots then [] else process_found s ∷ [])
      the_one =
          targets_one (view t) c n no_group o
          ∙ ap (λ j. when eqb j process_slots then [] else j ∷ []) (sym slot)

      pub one_missed : s ≡ None → (x : Refusal) (r : Result Outcome Refusal) → ◌≡◌ {A = Result ProcSlot Refusal} (Err x) (ok_or s Esrch) → IsErrAnd r (λ y. y ≡ x) → Kills t c n z (settled t r)
      one_missed f x r h =
          missed x r
          (ap (λ l. eqb (length l) 0) (the_one ∙ pick_yes _ _ _ (eq-eqb (process_found s) process_slots (ap process_found f))))
          (refused_or Esrch x (h ∙ ap (λ y. ok_or y Esrch) f))

      pub one_comes : (k : ℕ) (i : ProcSlot) (r : Outcome) → s ≡ Some i → IfSome s (λ j. j.0 < process_slots) → natural (to_z w32 (of_z w32 z)) < signals → k ≡ signal_of z → Sends t c (i.0 ∷ []) k r → Kills t c n z r
      one_comes k i r f w l q a =
          let h : i.0 < process_slots = subst (λ y. IfSome y (λ j. j.0 < process_slots)) f w in
          let is : process_found s ≡ i.0 = ap process_found f in
          let only : targets (view t) c n ≡ i.0 ∷ [] =
          the_one
          ∙ pick_no _ _ _ (ne_eqb (process_found s) process_slots (λ (y : process_found s ≡ process_slots). omega (arith, h, is, y)))
          ∙ ap (λ j. j ∷ []) is
          in
          sent_so k r (ap (λ l. eqb (length l) 0) only) l q (subst (λ l. Sends t c l k r) (sym only) a)

    -- ---- to many: f lists the others, and b is whether it is empty

    module _ (f : Targets) (l : Lists f (others (view t) c)) (b : Bool) (e : b ≡ eqb f.len 0) (o : names_everyone n ≡ true) where
      all_others : targets (view t) c n ≡ others (view t) c
      all_others = targets_everyone (view t) c n o

      counted : b ≡ eqb (length (targets (view t) c n)) 0
      counted = e ∙ ap (λ k. eqb k 0) (l.count ∙ ap length (sym all_others))

      pub others_missed : (x : Refusal) (r : Result Outcome Refusal) → Err x ≡ tested b Esrch → IsErrAnd r (λ y. y ≡ x) → Kills t c n z (settled t r)
      others_missed x r h =
          refused_by x r (whole (Err x) (λ y. h ∙ ap (λ k. tested k Esrch) counted))

      pub others_come : (k : ℕ) (y : Unit {0}) (r : Outcome) → Ok y ≡ tested b Esrch → natural (to_z w32 (of_z w32 z)) < signals → k ≡ signal_of z → (listed f ≡ others (view t) c → Sends t c (others (view t) c) k r) → Kills t c n z r
      others_come k y r h d q a =
          sent_so k r (sym counted ∙ (passed Esrch b y (Ok tt) h).0) d q (subst (λ is. Sends t c is k r) (sym all_others) (a l.list))

-- ---- kill itself: b is what `names_everyone` gives of the first argument

pub kill_goes : (t : Table) (c : ℕ) (n z : ℤ) (fits_n : SFits w32 n) (fits : SFits w32 z) (b : Bool) (r : Outcome) → b ≡ names_everyone (to_z w32 (of_z w32 n))
    → (x : Bool) → b ≡ x → (names_everyone (to_z w32 (of_z w32 n)) ≡ x → Kills t c (to_z w32 (of_z w32 n)) (to_z w32 (of_z w32 z)) r) → Kills t c n z r
kill_goes t c n z fits_n fits b r e x h a =
    subst₂ (λ i j. Kills t c i j r) (to_z-of_z w32 n fits_n) (to_z-of_z w32 z fits) (a (sym e ∙ h))
