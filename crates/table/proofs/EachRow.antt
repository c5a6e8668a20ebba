-- A column of the table, read at any slot: k says what its items read as, for each process and for none.
use Prim.Native.Nat.{ℕ, ◌<◌}
use native.Mathlib.Decide.{dec_lt}
use native.Mathlib.Omega.{arith}
use mathlib.Core.List.{List}
use mathlib.Core.Path.{◌≡◌, sym, ap, fun_ext, ◌∙◌}
use lib.ListN.{length, get_or, get_or-eq_default}
use denote.Param.Members.{Shared}
use denote.Ref.{Bor}
use Rattle.std.specs.Fn.{FnReturnsAt}
use Rattle.table.specs.Slots.{no_process}
use Rattle.table.specs.declared.Process.{Process}

pub column_reads :
    {F T C : Type 0} (g : Shared F (Bor Process × Unit {0}) T) (of : F) (h : T → C) (k : Process → C) (processes : List Process) (past : T) (l : List T)
    → length l ≡ length processes → h past ≡ k no_process
    → ((i : ℕ) → i < length processes → FnReturnsAt g of (get_or processes i no_process) (get_or l i past))
    → ((p : Bor Process) (r : T) → g.post of (p, tt) r → h r ≡ k p.now)
    → ◌≡◌ {A = ℕ → C} (λ i. h (get_or l i past)) (λ i. k (get_or processes i no_process))
column_reads g of h k processes past l n z e q = fun_ext (λ i. at i (dec_lt i (length processes)))
  where
    at : (i : ℕ) → Dec (i < length processes) → h (get_or l i past) ≡ k (get_or processes i no_process)
    at i (yes b) = let w = e i b in q w.shown (get_or l i past) w.says.met ∙ ap k w.shows
    at i (no o) =
        ap h (get_or-eq_default l past {n = i} (omega arith)) ∙ z ∙ ap k (sym (get_or-eq_default processes no_process {n = i} (omega arith)))
