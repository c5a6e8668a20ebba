-- What is read of one process and of the arrays of parents and levels, against the view of the table.
use Prim.Native.Nat.{ℕ}
use mathlib.Core.Bool.{Bool}
use mathlib.Core.List.{List}
use mathlib.Core.Path.{◌≡◌, refl, ap, ap₂, ◌∙◌}
use lib.Dec.{eqb}
use Rattle.rules.proofs.Laws.ReadAt.{ReadAt}
use Rattle.table.specs.Slots.{process, pid_at}
use Rattle.rules.specs.Read.{View, view, taken, climb, below, seen, pid_seen, pid_in}
use Rattle.table.specs.Tests.{◌and◌, when◌then◌else◌}
use Rattle.table.specs.declared.NsSlot.{NsSlot}
use Rattle.table.specs.declared.Process.{Process}
use Rattle.table.specs.declared.Table.{Table}
use Rattle.tree.specs.Tree.{slot_in, level_in, seen_from, pid_from, named_from}

-- l is the callee's result for the level m
pub pid_level : (p : Process) (k l m : ℕ) → k ≡ pid_at p l → l ≡ m → k ≡ pid_at p m
pid_level p k l m e q = e ∙ ap (pid_at p) q

-- ---- p reads as the process at slot i of v, and the arrays as the parents and levels of v

module _ (v : View) (up : List NsSlot) (levels : List ℕ) (n i : ℕ) (p : Process) (at : ReadAt v i p) (u : slot_in up ≡ v.up) (l : level_in levels ≡ v.level) where
  pub seen_read : seen_from (slot_in up) (level_in levels) n p ≡ seen v n i
  unfolding seen taken below
  seen_read =
      ap₂ (λ (f g : ℕ → ℕ). seen_from f g n p) u l
      ∙ ap₂ (λ (b : Bool) (a : ℕ). b and climb v.up (v.level a) a n) at.taken at.own

  pub pid_in_read : pid_from (slot_in up) (level_in levels) n p ≡ pid_in v n i
  unfolding pid_in pid_seen
  pid_in_read =
      ap₂ (λ (b : Bool) (k : ℕ). when b then k else 0) seen_read
      (ap (λ (f : ℕ → ℕ). pid_at p (f n)) l ∙ at.pid (v.level n))

  -- m is the callee's result for the level of n
  pub named_read : (m k : ℕ) → m ≡ level_in levels n → named_from (slot_in up) (level_in levels) n m k p ≡ (seen v n i and eqb (pid_seen v n i) k)
  unfolding pid_seen
  named_read m k q =
      ap₂ (λ (b : Bool) (j : ℕ). b and eqb j k) seen_read
      (ap (pid_at p) (q ∙ ap (λ (f : ℕ → ℕ). f n) l) ∙ at.pid (v.level n))

-- ---- the same of a process that a loop takes from the table

-- the process at a slot of the table reads as itself
pub itself : (t : Table) (i : ℕ) → ReadAt (view t) i (process t i)
unfolding taken
itself t i =
    record { own = refl; children = refl; parent = refl; state = refl; ended = refl; traits = refl; pid = λ l. refl; taken = refl }

module _ (t : Table) (up : List NsSlot) (levels : List ℕ) (n i : ℕ) (r : Bool) where
  -- r is the result of `seen`
  pub seen_test : slot_in up ≡ (view t).up → level_in levels ≡ (view t).level → r ≡ seen_from (slot_in up) (level_in levels) n (process t i) → r ≡ seen (view t) n i
  seen_test u l e = e ∙ seen_read (view t) up levels n i (process t i) (itself t i) u l

  -- r is the result of `is_named`
  pub named_test : (m k : ℕ) → slot_in up ≡ (view t).up → level_in levels ≡ (view t).level → m ≡ level_in levels n
      → r ≡ named_from (slot_in up) (level_in levels) n m k (process t i) → r ≡ (seen (view t) n i and eqb (pid_seen (view t) n i) k)
  named_test m k u l q e = e ∙ named_read (view t) up levels n i (process t i) (itself t i) u l m k q
