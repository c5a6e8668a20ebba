-- One call on any table: the first two refusals, and then the call itself.
use Prim.Native.Nat.{ℕ}
use mathlib.Core.Bool.{Bool, true, false, not, So}
use mathlib.Core.Path.{◌≡◌, refl, sym, ap, ap₂, ◌∙◌}
use lib.Dec.{eqb}
use lib.IntN.{ℤ}
use lib.ListN.{get_or}
use mir.Syntax.{w32}
use mir.Val.{SFits, to_z, of_z}
use mir.ValLaws.{to_z-of_z}
use Rattle.outcomes.proofs.Verdicts.{Verdict, err_ok, passed, tested}
use Rattle.outcomes.specs.Verdicts.{settled}
use Rattle.std.specs.Prelude.{Result, Ok, Err}
use Rattle.std.specs.Result.{IsErrAnd}
use borrow.Author.Tests.{not-false}
use Rattle.table.specs.declared.Refusal.{Refusal}
use Rattle.table.proofs.Chains.{if_yes, if_no, and_true, and_false, and_false_later, told_not, told_yes}
use Rattle.rules.proofs.Laws.ReadAt.{read_at}
use Rattle.rules.specs.Answers.{refused}
use Rattle.rules.specs.Calls.{setns, kill, exit, handle}
use Rattle.table.specs.Fresh.{empty_process}
use Rattle.table.specs.Slots.{pid_at, is_running}
use Rattle.rules.specs.Read.{view, taken}
use Rattle.rules.specs.Sound.{sound}
use Rattle.rules.specs.Step.{make, runs, step}
use Rattle.table.specs.declared.Call.{Call}
use Rattle.table.specs.declared.Call.TheVariants.{Setns, Kill, Exit, Handle}
use Rattle.table.specs.declared.Outcome.{Outcome}
use Rattle.table.specs.declared.Process.{Process}
use Rattle.table.specs.declared.Refusal.TheVariants.{Unsound, NotRunning}
use Rattle.table.specs.declared.Table.{Table}

-- what a `?` passes on, as r
given : (t : Table) (e : Refusal) (r : Result Outcome Refusal) → IsErrAnd r (λ d. d ≡ e) → settled t r ≡ refused t e
given t e (Ok o) h = absurd h
given t e (Err d) h = ap (refused t) h

-- what a refusal tells of the test, and which it is
refusal : (b : Bool) (e d : Refusal) → Err d ≡ tested b e → (b ≡ true) × (d ≡ e)
refusal true e d h = (refl, ap why h)
  where
    why : Verdict → Refusal
    why (Ok u) = d
    why (Err x) = x
refusal false e d h = absurd (err_ok h)

-- b tells whether the table is sound
module _ (t : Table) (c : ℕ) (call : Call) (b : Bool) (e : b ≡ sound t) where
  -- q is the refusal
  pub step_unsound : (q : Refusal) (r : Result Outcome Refusal) → Err q ≡ tested (not b) Unsound → IsErrAnd r (λ d. d ≡ q) → settled t r ≡ step t c call
  unfolding step
  step_unsound q r h a =
      let (l, g) = refusal (not b) Unsound q h in
      given t q r a ∙ ap (refused t) g ∙ if_no _ _ _ _ (told_not b _ e l) refl

  -- p is the process read at the caller's slot, and k whether there is one
  module _ (u : Unit {0}) (h : Ok u ≡ tested (not b) Unsound) (p : Process) (k : Bool) (d : p ≡ get_or t.processes c empty_process) (q : k ≡ not (eqb (pid_at p 0) 0)) where
    is_sound : sound t ≡ true
    is_sound = sym e ∙ not-false b (passed Unsound (not b) u (Ok tt) h).0

    taken_is : k ≡ taken (view t) c
    taken_is = q ∙ (read_at t c p d).taken

    -- y is the refusal
    idles : runs (view t) c ≡ false → (r : Outcome) → r ≡ refused t NotRunning → r ≡ step t c call
    unfolding step
    idles o r a = if_yes _ _ _ _ is_sound (if_no _ _ _ _ o a)

    pub step_empty : (y : Refusal) (r : Result Outcome Refusal) → Err y ≡ tested (not k) NotRunning → IsErrAnd r (λ d. d ≡ y) → settled t r ≡ step t c call
    unfolding runs
    step_empty y r o a =
        let (l, g) = refusal (not k) NotRunning y o in
        idles (and_false _ _ (told_not k _ taken_is l)) _ (given t y r a ∙ ap (refused t) g)

    -- m is whether it runs
    module _ (v : Unit {0}) (z : Ok v ≡ tested (not k) NotRunning) (m : Bool) (w : m ≡ is_running p.state) where
      running : m ≡ is_running ((view t).state c)
      running = w ∙ ap is_running (read_at t c p d).state

      pub step_idle : (y : Refusal) (r : Result Outcome Refusal) → Err y ≡ tested (not m) NotRunning → IsErrAnd r (λ d. d ≡ y) → settled t r ≡ step t c call
      unfolding runs
      step_idle y r o a =
          let (l, g) = refusal (not m) NotRunning y o in
          idles (and_false_later _ _ (told_not m _ running l)) _ (given t y r a ∙ ap (refused t) g)

      pub step_makes : (x : Unit {0}) (r : Outcome) → Ok x ≡ tested (not m) NotRunning → (So (sound t) → So (runs (view t) c) → r ≡ make t c call) → r ≡ step t c call
      unfolding step runs
      step_makes x r y a =
          let n : So (runs (view t) c) = and_true _ _ (told_yes k _ taken_is (passed NotRunning (not k) v (Ok tt) z).0) (told_yes m _ running (passed NotRunning (not m) x (Ok tt) y).0) in
          if_yes _ _ _ _ is_sound (if_yes _ _ _ _ n (a is_sound n))

-- ---- which call it is

module _ (t : Table) (c : ℕ) (call : Call) (r : Outcome) where
  pub made : (k : Call) → call ≡ k → r ≡ make t c k → r ≡ make t c call
  made k e a = a ∙ ap (make t c) (sym e)

  -- z is the argument, as the callee got it
  module _ (z : ℤ) (fits : SFits w32 z) where
    pub made_setns : call ≡ Setns z → r ≡ setns t c (to_z w32 (of_z w32 z)) → r ≡ make t c call
    unfolding make
    made_setns e a = made (Setns z) e (a ∙ ap (setns t c) (to_z-of_z w32 z fits))

    pub made_exit : call ≡ Exit z → r ≡ exit t c (to_z w32 (of_z w32 z)) → r ≡ make t c call
    unfolding make
    made_exit e a = made (Exit z) e (a ∙ ap (exit t c) (to_z-of_z w32 z fits))

    pub made_handle : (on : Bool) → call ≡ Handle z on → r ≡ handle t c (to_z w32 (of_z w32 z)) on → r ≡ make t c call
    unfolding make
    made_handle on e a = made (Handle z on) e (a ∙ ap (λ x. handle t c x on) (to_z-of_z w32 z fits))

    -- and n the first one
    pub made_kill : (n : ℤ) → SFits w32 n → call ≡ Kill n z → r ≡ kill t c (to_z w32 (of_z w32 n)) (to_z w32 (of_z w32 z)) → r ≡ make t c call
    unfolding make
    made_kill n fits_n e a =
        made (Kill n z) e (a ∙ ap₂ (kill t c) (to_z-of_z w32 n fits_n) (to_z-of_z w32 z fits))
