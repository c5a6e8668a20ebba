-- Arrays of marks: who is seen.
use Prim.Native.Nat.{ℕ, ◌≤◌, ◌<◌}
use mathlib.Core.Bool.{Bool, true, false}
use mathlib.Core.List.{List}
use mathlib.Core.Path.{◌≡◌, refl, ap, fun_ext, ◌∙◌}
use native.Mathlib.Omega.{arith}
use lib.ListN.{length, get_or}
use Rattle.std.proofs.lemmas.List.FromFn.{length-range_with_len, get_or-range_with_len}
use Rattle.std.specs.Bool.{MatchBool}
use Rattle.std.specs.List.{range_with_len, AllWithin, HoldsAt}
use Rattle.table.proofs.IterLaws.{any_of_chain}
use Rattle.table.proofs.MapLoops.{Mapped, map_done}
use Rattle.table.specs.Limits.{process_slots}
use Rattle.table.specs.Slots.{process, no_process}
use Rattle.rules.specs.Read.{view}
use Rattle.table.specs.Tests.{any, changed_to}
use Rattle.table.specs.declared.Table.{Table}
use Rattle.table.specs.declared.NsSlot.{NsSlot}
use Rattle.tree.proofs.Sights.{seen_test}
use Rattle.tree.specs.Tree.{slot_in, level_in, seen_from}
use Rattle.ending.proofs.Members.{processes_changed}
use Rattle.ending.specs.Ending.{once_swept, swept}

-- ---- the table that a pass leaves

-- the arrays of parents and levels are the table's
pub swept_all : (t u : Table) (n : ℕ) (up : List NsSlot) (levels : List ℕ) (inside : ℕ → Bool) (i : ℕ)
    → slot_in up ≡ (view t).up → level_in levels ≡ (view t).level → inside ≡ (λ k. seen_from (slot_in up) (level_in levels) n (process t k))
    → Mapped process_slots (once_swept inside) no_process t.processes u.processes i → u.namespaces ≡ t.namespaces → process_slots ≤ i → u ≡ swept t n
unfolding swept
swept_all t u n up levels inside i a b e m s h =
    processes_changed t u _ s (map_done process_slots (once_swept inside) no_process t.processes u.processes i m h
    ∙ ap (λ f. changed_to (once_swept f) no_process process_slots t.processes) (e ∙ fun_ext (λ k. seen_test t up levels n k _ a b refl)))

-- ---- a chain over the numbers below n that ends in `any`

pub any_of_range : (n : ℕ) (f : ℕ → Bool) (r : Bool)
    → MatchBool r ((k : ℕ) × (k < length (range_with_len 0 n)) × HoldsAt (λ i. f i ≡ true) (range_with_len 0 n) k) (AllWithin (λ i. f i ≡ false) (range_with_len 0 n) 0 (length (range_with_len 0 n)))
    → r ≡ any n f
any_of_range n f r h = any_of_chain (range_with_len 0 n) 0 n f f (length-range_with_len 0 n) (λ i k. ap f (there i k)) r h
  where
    there : (i : ℕ) → i < n → get_or (range_with_len 0 n) i 0 ≡ i
    there i k = let e = get_or-range_with_len 0 n i 0 k in omega arith
