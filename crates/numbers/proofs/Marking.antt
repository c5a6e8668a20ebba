-- For the loop over the holders that marks which of the m numbers above `last` are taken: the invariant is
-- `Marking m x s last ms i`. x is the number of a holder, and s says whether it is seen. `marking_starts` to
-- `marking_passes` are the loop's needs; `marks_all` to `marks_give` are for what is given after it.
use Prim.Native.Nat.{ℕ, zero, suc, ◌<◌, ◌≤◌, ◌+◌}
use mathlib.Core.Bool.{Bool, true, false, not}
use mathlib.Core.List.{List}
use mathlib.Core.Path.{◌≡◌, refl, sym, ap, fun_ext, ◌∙◌}
use native.Mathlib.Omega.{arith}
use lib.Dec.{eqb}
use lib.ListN.{length, get_or, set, replicate, length-set, length-replicate}
use lib.Seq.{set_out}
use Rattle.numbers.proofs.Places.{place_tells}
use Rattle.numbers.proofs.Window as window
use Rattle.numbers.specs.Marks.{first_of, place_from}
use Rattle.table.proofs.FoldLoops.{Turned, turns, fold_starts, fold_goes_on, fold_done}
use Rattle.table.proofs.MarkLoops.{Marks, one_mark, marked_alone}
use Rattle.table.specs.Limits.{process_slots, greatest_pid}
use Rattle.table.specs.Tests.{◌and◌, any, lowest}

not_not : (b : Bool) → b ≡ not (not b)
not_not true = refl
not_not false = refl

-- the turn of the loop at i
abbrev mark_at : ℕ → (ℕ → ℕ) → (ℕ → Bool) → ℕ → ℕ → List Bool → List Bool
mark_at m x s last i ms = set ms (place_from m last (x i) (s i)) true

pub record Marking (m : ℕ) (x : ℕ → ℕ) (s : ℕ → Bool) (last : ℕ) (ms : List Bool) (i : ℕ) : Type 0 where
  pub turned : Turned process_slots (mark_at m x s last) (replicate m false) ms i

module _ (m : ℕ) (x : ℕ → ℕ) (s : ℕ → Bool) (last : ℕ) where
  abbrev step : ℕ → List Bool → List Bool
  step = mark_at m x s last

  -- nobody who is seen has the number
  abbrev free : ℕ → Bool
  free y = not (any process_slots (λ i. s i and eqb (x i) y))

  pub marking_starts : Marking m x s last (replicate m false) 0
  marking_starts = record { turned = fold_starts process_slots step (replicate m false) }

  marking_length : (i : ℕ) → length (turns i step (replicate m false)) ≡ m
  unfolding turns
  marking_length zero = length-replicate m false
  marking_length (suc i) = length-set (turns i step (replicate m false)) (place_from m last (x i) (s i)) true ∙ marking_length i

  -- k is what `place_above` gives; there is no mark past the last one
  module _ (ms : List Bool) (i k : ℕ) (w : Marking m x s last ms i) (h : i < process_slots) (e : k ≡ place_from m last (x i) (s i)) where
    pub marking_marks : (new : List Bool) → k < m → new ≡ set ms k true → Marking m x s last new (i + 1)
    marking_marks new b q =
        record { turned = fold_goes_on process_slots step (replicate m false) ms new i w.turned h (q ∙ ap (λ p. set ms p true) e) }

    pub marking_passes : (new : List Bool) → m ≤ k → new ≡ ms → Marking m x s last new (i + 1)
    marking_passes new b q =
        let long : length ms ≡ m = ap length w.turned.done ∙ marking_length i in
        record { turned = fold_goes_on process_slots step (replicate m false) ms new i w.turned h (q ∙ sym (set_out ms (place_from m last (x i) (s i)) true (omega arith))) }

  -- k is what `first_unmarked` gives
  module _ (ms : List Bool) (i k : ℕ) (w : Marking m x s last ms i) (h : process_slots ≤ i) (e : k ≡ lowest (λ j. not (get_or ms j false)) m 0) where
    marked : window.Window m free last ms
    marked =
        let all : Marks m (turns process_slots step (replicate m false)) (λ j. any process_slots (λ i. eqb (place_from m last (x i) (s i)) j)) =
        marked_alone m step (λ i j. eqb (place_from m last (x i) (s i)) j) (λ i. one_mark m (place_from m last (x i) (s i))) process_slots in
        let done : ms ≡ turns process_slots step (replicate m false) = fold_done process_slots step (replicate m false) ms i w.turned h in
        record {
          long = ap length done ∙ marking_length process_slots;
          says = λ j b.
              ap (λ l. get_or l j false) done ∙ all.says j b ∙ ap (any process_slots) (fun_ext (λ i. place_tells m last (x i) (s i) j b)) ∙ not_not _;
        }

    pub marks_all : m ≤ k → 0 ≡ first_of m free last
    marks_all = window.all_marked m free last ms marked k e

    pub marks_past_greatest : greatest_pid < last + 1 + k → 0 ≡ first_of m free last
    marks_past_greatest = window.past_greatest m free last ms marked k e

    pub marks_give : k < m → last + 1 + k ≤ greatest_pid → last + 1 + k ≡ first_of m free last
    marks_give = window.is_unmarked m free last ms marked k e
