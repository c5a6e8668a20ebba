-- Whom a number names: nobody, if it is 0 or below or past what a Pid holds, and else the one that `find` gives.
use Prim.Native.Nat.{ℕ, ◌<◌, ◌≤◌}
use native.Mathlib.Decide.{dec_lt}
use native.Mathlib.Omega.{arith}
use mathlib.Core.Bool.{Bool, true, false, false≢true}
use mathlib.Core.List.{List}
use mathlib.Core.Path.{◌≡◌, refl, sym, ap, subst, ◌∙◌}
use borrow.Author.Tests.{eqb-true}
use denote.Laws.{Is}
use lib.Dec.{eqb, ltb}
use lib.IntN.{ℤ, pos, negsuc, nat_abs}
use Rattle.std.specs.Int.{FitsUnsignedBits}
use lib.ListN.{get_or}
use mir.Syntax.{w32}
use mir.Val.{Val, SFits, to_z, of_z}
use mir.ValLaws.{to_z-of_z}
use Rattle.arguments.proofs.Named.{named_one, named_none}
use Rattle.callers.proofs.Fits.{pid_fits}
use Rattle.rules.proofs.Laws.Find.{lowest_is}
use Rattle.rules.proofs.Laws.Tests.{right}
use Rattle.rules.proofs.Laws.ReadAt.{read_at}
use Rattle.table.specs.contracts.Table as T
use Rattle.rules.specs.Calls.{natural, named}
use Rattle.table.specs.Fresh.{empty_process}
use Rattle.table.specs.Limits.{process_slots, pid_values}
use Rattle.rules.specs.Read.{view, seen, pid_seen, find}
use Rattle.table.specs.Tests.{◌and◌}
use Rattle.table.specs.declared.Process.{Process}
use Rattle.table.specs.declared.Table.{Table}

-- nobody has a number past what a Pid holds
find_none : (t : Table) (vs : List Val) → Is T.the_row t vs → (n k : ℕ) → pid_values ≤ k → find (view t) n k ≡ process_slots
unfolding find pid_seen
find_none t vs is n k h = go (dec_lt (find (view t) n k) process_slots)
  where
    go : Dec (find (view t) n k < process_slots) → find (view t) n k ≡ process_slots
    go (yes l) =
        absurd
        (omega
        (arith, pid_fits t vs is (find (view t) n k) ((view t).level n), eqb-true _ k (right _ _ ((lowest_is (λ i. seen (view t) n i and eqb (pid_seen (view t) n i) k) process_slots 0).holds (omega arith)))))
    go (no l) =
        omega (arith, (lowest_is (λ i. seen (view t) n i and eqb (pid_seen (view t) n i) k) process_slots 0).upto)

-- ---- a number above 0

not_lt : (n m : ℕ) → (n < m → ⊥) → m ≤ n
not_lt n m f = go (dec_lt n m)
  where
    go : Dec (n < m) → m ≤ n
    go (yes l) = absurd (f l)
    go (no l) = omega arith

too_far : (z : ℤ) → ltb 0 (natural z) ≡ true → (FitsUnsignedBits 16 z → ⊥) → pid_values ≤ natural z
too_far (pos n) h f = not_lt n pid_values f
too_far (negsuc n) h f = absurd (false≢true h)

same_number : (z : ℤ) → ltb 0 (natural z) ≡ true → nat_abs z ≡ natural z
same_number (pos n) h = refl
same_number (negsuc n) h = absurd (false≢true h)

-- b is what `names_one` gives of the argument z
module _ (t : Table) (c : ℕ) (z : ℤ) (fits : SFits w32 z) (b : Bool) (e : b ≡ ltb 0 (natural (to_z w32 (of_z w32 z)))) where
  crossed : b ≡ ltb 0 (natural z)
  crossed = e ∙ ap (λ x. ltb 0 (natural x)) (to_z-of_z w32 z fits)

  pub names_nobody : b ≡ false → process_slots ≡ named (view t) c z
  names_nobody h = sym (named_none (view t) c z (sym crossed ∙ h))

  module _ (h : b ≡ true) where
    finds : named (view t) c z ≡ find (view t) ((view t).own c) (natural z)
    finds = named_one (view t) c z (sym crossed ∙ h)

    pub names_too_far : (vs : List Val) → Is T.the_row t vs → (FitsUnsignedBits 16 (to_z w32 (of_z w32 z)) → ⊥) → process_slots ≡ named (view t) c z
    names_too_far vs is f =
        sym
        (finds
        ∙ find_none t vs is ((view t).own c) (natural z)
        (too_far z (sym crossed ∙ h) (λ k. f (subst (FitsUnsignedBits 16) (sym (to_z-of_z w32 z fits)) k))))

    -- k is the number as a Pid has it, and p the process read at the caller's slot
    pub names_somebody : (k : ℕ) (p : Process) (r : ℕ) → k ≡ nat_abs (to_z w32 (of_z w32 z)) → p ≡ get_or t.processes c empty_process → r ≡ find (view t) p.own.0 k → r ≡ named (view t) c z
    names_somebody k p r q d f =
        f
        ∙ ap (λ n. find (view t) n k) (read_at t c p d).own
        ∙ ap (find (view t) ((view t).own c)) (q ∙ ap nat_abs (to_z-of_z w32 z fits) ∙ same_number z (sym crossed ∙ h))
        ∙ sym finds
