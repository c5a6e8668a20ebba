-- exit; and wait: the search for the ended child with the lowest number, slot by slot, and what becomes of it.
use Prim.Native.Nat.{ℕ, ◌<◌, ◌≤◌, ◌+◌}
use mathlib.Core.Bool.{Bool, true, false, not}
use mathlib.Core.List.{List}
use mathlib.Core.Logic.{◌⊎◌, inl, inr}
use mathlib.Core.Path.{◌≡◌, refl, sym, ap, ap₂, subst, ◌∙◌}
use borrow.Author.Tests.{ne_eqb}
use denote.Laws.{Is}
use lib.Dec.{eqb, ltb}
use Rattle.std.proofs.Common.{is_lt, nat_cmp, cond, Less, Equal, Greater}
use lib.IntN.{ℤ}
use lib.ListN.{get_or, length}
use native.Mathlib.Omega.{arith}
use Rattle.table.proofs.Slots.{array_past}
use Rattle.table.specs.Slots.{no_process}
use mir.Syntax.{w32}
use mir.Val.{Val, SFits, to_z, of_z}
use mir.ValLaws.{to_z-of_z}
use Rattle.callers.proofs.Fits.{facts_of}
use Rattle.ending.specs.Ending.{end_process, Ends}
use Rattle.outcomes.proofs.Verdicts.{judged_grants, judged_refuses, passed_first, refused_first, tested}
use Rattle.outcomes.specs.Verdicts.{settled}
use Rattle.std.specs.Prelude.{Result, Ok, Err, Option, Some, None, IfSome}
use Rattle.std.specs.Result.{IsErrAnd}
use Rattle.tree.specs.Tree.{process_found}
use Rattle.table.proofs.Chains.{if_yes, if_no, and_true, and_goes, or_goes}
use Rattle.table.proofs.FoldLoops.{Turned, better, fold_goes_on, fold_done, least_by_turns}
use Rattle.table.specs.contracts.Table as T
use Rattle.rules.proofs.Laws.ReadAt.{read_at}
use Rattle.rules.proofs.Laws.Steps.{runs_lives}
use Rattle.rules.specs.Answers.{judged, granted, answers}
use Rattle.rules.specs.Calls.{own_level, status, exit_refusals, exit_gives, exit, first_ended, reap, wait_refusals, wait_gives, wait}
use Rattle.rules.specs.Ends.{end}
use Rattle.rules.specs.Freeing.{freed}
use Rattle.table.specs.Fresh.{empty_process}
use Rattle.table.specs.Limits.{process_slots}
use Rattle.table.specs.Slots.{process, pid_at, is_ended, put}
use Rattle.rules.specs.Read.{view, pid_seen, taken, child_of}
use Rattle.table.specs.Tests.{◌and◌, ◌or◌, any, least}
use Rattle.table.specs.declared.Answer.TheVariants.{Reaped}
use Rattle.table.specs.declared.End.{End}
use Rattle.table.specs.declared.End.TheVariants.{Exited}
use Rattle.table.specs.declared.Outcome.{Outcome}
use Rattle.table.specs.declared.Pid.{Pid}
use Rattle.table.specs.declared.ProcSlot.{ProcSlot}
use Rattle.table.specs.declared.Process.{Process}
use Rattle.table.specs.declared.Refusal.TheVariants.{Ebusy, Echild}
use Rattle.table.specs.declared.Refusal.{Refusal}
use Rattle.table.specs.declared.State.{State}
use Rattle.table.specs.declared.State.TheVariants.{Running, Stopped, Ended}
use Rattle.table.specs.declared.Table.{Table}
use Rattle.table.specs.Records.{to_pid}
use Rattle.waits.specs.Exits.{exit_by_gives, exit_by, Exits}

-- ---- exit, whose argument is z

module _ (t : Table) (c : ℕ) (z : ℤ) (fits : SFits w32 z) where
  -- e is the refusal
  pub exit_refused : (e : Refusal) (r : Result Outcome Refusal) → Err e ≡ tested (eqb c 0) Ebusy → IsErrAnd r (λ d. d ≡ e) → Exits t c z (settled t r)
  unfolding exit exit_by
  exit_refused e r h q = record { always = by (exit_by_gives t c z); as_defined = λ s q. by (exit_gives t c z) }
    where
      by : (o : Unit {0} → Outcome) → settled t r ≡ judged t (exit_refusals c) o
      by o = judged_refuses t (exit_refusals c) o e r q h

  -- k is the status that is kept, u the table after the end, and w without what nobody holds
  pub exit_ends : (x : Unit {0}) (k : ℕ) (u w : Table) (r : Outcome) (vs : List Val) → Is T.the_row t vs → Ok x ≡ tested (eqb c 0) Ebusy → k ≡ status (to_z w32 (of_z w32 z)) → Ends t c (Exited k) u → w ≡ freed u → r ≡ answers w 0 → Exits t c z r
  unfolding exit exit_by
  exit_ends x k u w r vs is o q d f a =
      record {
        always = by (end_process t c) d.always;
        as_defined = λ s h. by (end t c) (d.as_defined (facts_of t vs is s) (runs_lives t c h));
      }
    where
      -- by what the end of the caller is
      by : (ends : End → Table) → u ≡ ends (Exited k) → r ≡ judged t (exit_refusals c) (λ (x : Unit {0}). answers (freed (ends (Exited (status z)))) 0)
      by ends e =
          judged_grants t (exit_refusals c) (λ (x : Unit {0}). answers (freed (ends (Exited (status z)))) 0) x r o
          (a ∙ ap (λ x. answers x 0) (f ∙ ap freed (e ∙ ap (λ j. ends (Exited j)) (q ∙ ap status (to_z-of_z w32 z fits)))))

-- ---- the search of wait

-- the search among the children of c, by their number at the level l
abbrev ended_child : Table → ℕ → ℕ → Bool
ended_child t c i = child_of (view t) c i and (view t).ended i

abbrev pub turn : Table → ℕ → ℕ → ℕ → ℕ → ℕ
turn t c l = better (ended_child t c) (λ i. (view t).pid i l) process_slots

lt_is : (a b : ℕ) → is_lt (nat_cmp a b) ≡ ltb a b
lt_is a b = go (ltb a b) (eqb a b)
  where
    go : (l e : Bool) → is_lt (cond l Less (cond e Equal Greater)) ≡ l
    go true e = refl
    go false true = refl
    go false false = refl

-- The last test of `comes_first`: k and m are the numbers that it compares, of the process p and of q, which stands at
-- the best slot b.
pub comes_by_number : (t : Table) (p : Process) (c l : ℕ) (best : Option ProcSlot) (b : ProcSlot) (q : Process) (x y r : Bool) (k m : ℕ) → IfSome best (λ s. s.0 < process_slots) → best ≡ Some b
    → x ≡ (not (eqb (pid_at p 0) 0) and eqb p.parent.0 c) → x ≡ true → y ≡ is_ended p.state → y ≡ true → k ≡ pid_at p l → q ≡ get_or t.processes b.0 empty_process → m ≡ pid_at q l → r ≡ is_lt (nat_cmp k m)
    → r ≡ (not (eqb (pid_at p 0) 0) and eqb p.parent.0 c and is_ended p.state and (eqb (process_found best) process_slots or ltb (pid_at p l) ((view t).pid (process_found best) l)))
comes_by_number t p c l best b q x y r k m w e f g h j u d v z =
    let i : b.0 < process_slots = subst (λ o. IfSome o (λ s. s.0 < process_slots)) e w in
    and_goes _ _ _ (and_true _ _ (sym f ∙ g) (sym h ∙ j))
    (or_goes _ _ _ (ap (λ o. eqb (process_found o) process_slots) e ∙ ne_eqb b.0 process_slots (λ n. omega (arith, n)))
    (z ∙ lt_is k m ∙ ap₂ ltb u (v ∙ (read_at t b.0 q d).pid l ∙ ap (λ o. (view t).pid (process_found o) l) (sym e))))

-- one turn: r is what `comes_first` gives of the process at i
module _ (t : Table) (c l : ℕ) (best : Option ProcSlot) (i : ℕ) (r : Bool) (s : Turned process_slots (turn t c l) process_slots (process_found best) i) (h : i < process_slots) (e : r ≡ (not (eqb (pid_at (process t i) 0) 0) and eqb (process t i).parent.0 c and is_ended (process t i).state and (eqb (process_found best) process_slots or ltb (pid_at (process t i) l) ((view t).pid (process_found best) l)))) where
  tells : r ≡ (ended_child t c i and (eqb (process_found best) process_slots or ltb ((view t).pid i l) ((view t).pid (process_found best) l)))
  unfolding child_of taken
  tells = e

  pub search_takes : r ≡ true → Turned process_slots (turn t c l) process_slots i (i + 1)
  search_takes y = fold_goes_on process_slots (turn t c l) process_slots (process_found best) i i s h (if_yes _ _ _ _ (sym tells ∙ y) refl)

  pub search_passes : r ≡ false → Turned process_slots (turn t c l) process_slots (process_found best) (i + 1)
  search_passes n = fold_goes_on process_slots (turn t c l) process_slots (process_found best) (process_found best) i s h (if_no _ _ _ _ (sym tells ∙ n) refl)

pub search_ends : (t : Table) (c l : ℕ) (best i : ℕ) → Turned process_slots (turn t c l) process_slots best i → process_slots ≤ i → best ≡ least (λ j. child_of (view t) c j and (view t).ended j) (λ j. (view t).pid j l) process_slots process_slots
search_ends t c l best i s h =
    fold_done process_slots (turn t c l) process_slots best i s h
    ∙ least_by_turns (ended_child t c) (λ j. (view t).pid j l) process_slots process_slots

-- ---- wait itself

-- b is what `has_child` gives
module _ (t : Table) (c : ℕ) (b : Bool) (e : b ≡ any process_slots (child_of (view t) c)) where
  -- d is the refusal
  pub wait_refused : (d : Refusal) (r : Result Outcome Refusal) → Err d ≡ tested (not b) Echild → IsErrAnd r (λ x. x ≡ d) → settled t r ≡ wait t c
  unfolding wait
  wait_refused d r h q =
      judged_refuses t (wait_refusals (view t) c) (wait_gives t c) d r q (refused_first Echild d (not b) (not (any process_slots (child_of (view t) c))) (Ok tt) h (ap not e))

  -- o is what `first_ended` gives at the caller's own level l
  module _ (x : Unit {0}) (h : Ok x ≡ tested (not b) Echild) (o : Option ProcSlot) (l : ℕ) (k : l ≡ own_level (view t) c) (q : process_found o ≡ least (λ j. child_of (view t) c j and (view t).ended j) (λ j. (view t).pid j l) process_slots process_slots) (r : Outcome) where
    first : process_found o ≡ first_ended (view t) c
    unfolding first_ended pid_seen
    first =
        q ∙ ap (λ m. least (λ j. child_of (view t) c j and (view t).ended j) (λ j. (view t).pid j m) process_slots process_slots) k

    -- what `reap` makes of the slot and of the state of its process
    found : (i : ℕ) (s : State) → process_found o ≡ i → (view t).state i ≡ s → wait t c ≡ reap t c i s
    unfolding wait
    found i s f m =
        sym (judged_grants t (wait_refusals (view t) c) (wait_gives t c) x _ (passed_first Echild (not b) (not (any process_slots (child_of (view t) c))) x (Ok tt) (Ok tt) h (ap not e) refl) refl)
        ∙ ap (λ j. reap t c j ((view t).state j)) (sym first ∙ f)
        ∙ ap (reap t c i) m

    pub wait_finds_none : o ≡ None → length t.processes ≡ process_slots → r ≡ answers t 0 → r ≡ wait t c
    unfolding reap
    wait_finds_none f n a =
        a
        ∙ sym (found process_slots Running (ap process_found f) (sym (ap (λ (p : Process). p.state) (array_past t.processes no_process process_slots process_slots n (omega arith)))))

    -- p is the process read at the slot that is found
    module _ (i : ProcSlot) (f : o ≡ Some i) (p : Process) (d : p ≡ get_or t.processes i.0 empty_process) where
      here : (s : State) → p.state ≡ s → wait t c ≡ reap t c i.0 s
      here s m = found i.0 s (ap process_found f) (sym (read_at t i.0 p d).state ∙ m)

      pub wait_idle : (p.state ≡ Running) ⊎ (p.state ≡ Stopped) → r ≡ answers t 0 → r ≡ wait t c
      unfolding reap
      wait_idle (inl m) a = a ∙ sym (here Running m)
      wait_idle (inr m) a = a ∙ sym (here Stopped m)

      pub wait_reaps : (how : End) (n : Pid) → p.state ≡ Ended how → n.0 ≡ pid_at p l → r ≡ granted (freed (put t i.0 empty_process)) (Reaped n how) → r ≡ wait t c
      unfolding reap pid_seen
      wait_reaps how n m g a =
          a
          ∙ ap (λ j. granted (freed (put t i.0 empty_process)) (Reaped (to_pid j) how)) (g ∙ (read_at t i.0 p d).pid l ∙ ap ((view t).pid i.0) k)
          ∙ sym (here (Ended how) m)
