-- What the calls read of the caller, of its parent and of its namespace, against the definitions, and how a caller is
-- changed.
use Prim.Native.Nat.{ℕ, ◌<◌}
use native.Mathlib.Decide.{dec_lt}
use native.Mathlib.Omega.{arith}
use mathlib.Core.Bool.{Bool, not}
use mathlib.Core.List.{List}
use mathlib.Core.Path.{◌≡◌, refl, sym, ap, ap₂, ◌∙◌}
use borrow.Author.Tests.{leb-false}
use lib.Dec.{eqb}
use lib.ListN.{length, get_or}
use Rattle.outcomes.proofs.Verdicts.{none_holds}
use Rattle.outcomes.specs.Verdicts.{verdict}
use Rattle.std.specs.Prelude.{Ok}
use Rattle.table.proofs.Slots.{put_past, process_within}
use Rattle.rules.proofs.Laws.Judged.{place}
use Rattle.rules.proofs.Laws.ReadAt.{read_at}
use Rattle.callers.specs.Making.{refusals_at}
use Rattle.rules.specs.Answers.{answers}
use Rattle.rules.specs.Calls.{own_level, elsewhere, getpid, getppid}
use Rattle.table.specs.Limits.{deepest}
use Rattle.table.specs.Fresh.{empty_process}
use Rattle.table.specs.Slots.{process, namespace, pid_at, put}
use Rattle.rules.specs.Read.{View, view, pid_seen, pid_in}
use Rattle.table.specs.declared.Namespace.{Namespace}
use Rattle.table.specs.declared.NsSlot.{NsSlot}
use Rattle.table.specs.declared.Outcome.{Outcome}
use Rattle.table.specs.declared.Process.{Process}
use Rattle.table.specs.declared.Refusal.TheVariants.{Enospc}
use Rattle.table.specs.declared.Table.{Table}
use Rattle.tree.proofs.Sights.{pid_in_read}
use Rattle.tree.specs.Tree.{slot_in, level_in, pid_from}

-- p is what the code read at the slot i, and f is the change. Past the last slot the code reads an empty process, and
-- puts nothing.
pub put_changed : (t : Table) (i : ℕ) (p : Process) (f : Process → Process) → p ≡ get_or t.processes i empty_process → put t i (f p) ≡ put t i (f (process t i))
put_changed t i p f e = go (dec_lt i long)
  where
    -- both laws ask for a length as it stands in a function's facts
    itself : Process → Process
    itself q = q

    long : ℕ
    long = length t.processes

    go : Dec (i < long) → put t i (f p) ≡ put t i (f (process t i))
    go (yes h) = ap (λ q. put t i (f q)) (process_within t long i p refl h e)
    go (no h) =
        sym (put_past t long i (f p) refl (omega arith)) ∙ put_past t long i (f (process t i)) refl (omega arith)

-- p is the process read at the caller's slot c
module _ (t : Table) (c : ℕ) (p : Process) (e : p ≡ get_or t.processes c empty_process) where
  pub own_level_read : (s : Namespace) → s ≡ namespace t p.own.0 → s.level ≡ own_level (view t) c
  own_level_read s q = ap (λ u. u.level) q ∙ ap (λ n. (namespace t n).level) (read_at t c p e).own

  pub elsewhere_read : (b : Bool) → b ≡ not (eqb p.children.0 p.own.0) → b ≡ elsewhere (view t) c
  elsewhere_read b q = q ∙ ap₂ (λ n m. not (eqb n m)) (read_at t c p e).children (read_at t c p e).own

  -- the number of the process at c in the caller's own namespace, whose level l is
  pub getpid_read : (l k : ℕ) (r : Outcome) → l ≡ own_level (view t) c → k ≡ pid_at p l → r ≡ answers t k → r ≡ getpid t c
  unfolding getpid pid_seen
  getpid_read l k r q h a = a ∙ ap (answers t) (h ∙ (read_at t c p e).pid l ∙ ap ((view t).pid c) q)

  -- q is the process read at the parent's slot
  pub getppid_read : (q : Process) (up : List NsSlot) (levels : List ℕ) (k : ℕ) (r : Outcome) → q ≡ get_or t.processes p.parent.0 empty_process
      → slot_in up ≡ (view t).up → level_in levels ≡ (view t).level → k ≡ pid_from (slot_in up) (level_in levels) p.own.0 q → r ≡ answers t k → r ≡ getppid t c
  unfolding getppid
  getppid_read q up levels k r d u l h a =
      a
      ∙ ap (answers t)
      (h
      ∙ pid_in_read (view t) up levels p.own.0 p.parent.0 q (read_at t p.parent.0 q d) u l
      ∙ ap (λ n. pid_in (view t) n p.parent.0) (read_at t c p e).own
      ∙ ap (pid_in (view t) ((view t).own c)) (read_at t c p e).parent)

-- ---- a call that makes a namespace, by a caller at the level l

-- what `may_make` passed
pub may_make_low : (v : View) (c l : ℕ) (full : Bool) → Ok tt ≡ verdict (refusals_at v c l full) → l < deepest
unfolding place
may_make_low v c l full q = leb-false deepest l (none_holds (refusals_at v c l full) q Enospc)
