-- The definitions of an end by the cases of the code.
use Prim.Native.Nat.{ℕ, zero, suc, ◌≤◌, ◌-◌}
use mathlib.Core.Bool.{Bool, true, false}
use mathlib.Core.List.{List}
use mathlib.Core.Path.{◌≡◌, refl, sym, ap, ap₂, ◌∙◌}
use native.Mathlib.Numerals.{sub-one}
use lib.Dec.{eqb}
use lib.ListN.{get_or, set}
use Rattle.table.proofs.Chains.{pick_yes, pick_no}
use Rattle.table.proofs.FoldLoops.{turns, Turned, fold_done}
use Rattle.table.specs.Fresh.{empty_process}
use Rattle.table.specs.Limits.{deepest, process_slots}
use Rattle.table.specs.Slots.{process, put}
use Rattle.table.specs.Tests.{when◌then◌else◌}
use Rattle.table.specs.declared.End.{End}
use Rattle.table.specs.declared.Namespace.{Namespace}
use Rattle.table.specs.declared.Process.{Process}
use Rattle.table.specs.declared.Table.{Table}
use Rattle.table.specs.Records.{as_ended}
use Rattle.ending.specs.Ending.{killed, falls_with, end_member_by, member_turn, end_namespace, end_member, marked_dead, swept, end_init}

-- ---- small steps from what the code has

-- a table with one of its arrays changed
pub namespaces_changed : (t u : Table) (l : List Namespace) → u.processes ≡ t.processes → u.namespaces ≡ l → ◌≡◌ {A = Table} u (record { processes = t.processes; namespaces = l })
namespaces_changed t u l p q = ap₂ (λ a b. record { processes = a; namespaces = b }) p q

pub processes_changed : (t u : Table) (l : List Process) → u.namespaces ≡ t.namespaces → u.processes ≡ l → ◌≡◌ {A = Table} u (record { processes = l; namespaces = t.namespaces })
processes_changed t u l p q = ap₂ (λ a b. record { processes = a; namespaces = b }) q p

-- ---- the end of one that falls

-- how a namespace right below ends, with that many levels left
unfoldable pub lower : ℕ → Table → ℕ → Table
lower zero t n = t
lower (suc left) t n = end_namespace left t n

pub member_is : (left : ℕ) (t : Table) (n i : ℕ) → end_member left t n i ≡ end_member_by (lower left) t n i
unfolding end_member lower end_member_by
member_is zero t n i = refl
member_is (suc left) t n i = refl

module _ (left : ℕ) (t : Table) (n i : ℕ) where
  pub member_own : (q : Process) → eqb (process t i).own.0 n ≡ true → q ≡ killed (process t i) → put t i q ≡ end_member left t n i
  unfolding end_member_by
  member_own q o e = ap (put t i) e ∙ sym (member_is left t n i ∙ pick_yes (eqb (process t i).own.0 n) (put t i (killed (process t i))) _ o)

  pub member_spent : eqb (process t i).own.0 n ≡ false → left ≡ 0 → t ≡ end_member left t n i
  unfolding end_member_by lower
  member_spent o z =
      sym (member_is left t n i ∙ pick_no (eqb (process t i).own.0 n) (put t i (killed (process t i))) _ o ∙ ap (λ l. lower l t (process t i).own.0) z)

pub member_down : (left : ℕ) (t : Table) (n i : ℕ) (v : Table) → eqb (process t i).own.0 n ≡ false → (left ≡ 0 → ⊥) → v ≡ end_namespace (left - 1) t (process t i).own.0 → v ≡ end_member left t n i
unfolding end_member end_member_by
member_down zero t n i v o z e = absurd (z refl)
member_down (suc left) t n i v o z e =
    (rw sub-one at e) ∙ sym (pick_no (eqb (process t i).own.0 n) (put t i (killed (process t i))) _ o)

-- ---- the loop over the slots

abbrev pub turn : ℕ → ℕ → ℕ → Table → Table
turn left n i t = when falls_with t.namespaces n i (process t i) then end_member left t n i else t

-- r says whether the process at i falls
module _ (left n i : ℕ) (t : Table) (r : Bool) (e : r ≡ falls_with t.namespaces n i (process t i)) where
  -- l is the processes once the one that the test took is back, w the callee's result, u the table after the turn
  module _ (l : List Process) (back : l ≡ t.processes) (u : Table) where
    pub turn_ends : (w : Table) → r ≡ true → w ≡ end_member left (record { processes = l; namespaces = t.namespaces }) n i → u ≡ w → u ≡ turn left n i t
    turn_ends w q h k =
        k ∙ h ∙ ap (λ x. end_member left (record { processes = x; namespaces = t.namespaces }) n i) back
        ∙ sym (pick_yes (falls_with t.namespaces n i (process t i)) (end_member left t n i) t (sym e ∙ q))

    pub turn_passes : r ≡ false → ◌≡◌ {A = Table} u (record { processes = l; namespaces = t.namespaces }) → u ≡ turn left n i t
    turn_passes q k =
        k ∙ ap (λ x. record { processes = x; namespaces = t.namespaces }) back
        ∙ sym (pick_no (falls_with t.namespaces n i (process t i)) (end_member left t n i) t (sym e ∙ q))

pub namespace_is : (left : ℕ) (t : Table) (n : ℕ) → end_namespace left t n ≡ turns process_slots (turn left n) (marked_dead t n)
unfolding end_namespace end_member member_turn
namespace_is zero t n = refl
namespace_is (suc left) t n = refl

pub namespace_done : (left : ℕ) (t : Table) (n : ℕ) (v u : Table) (i : ℕ) → v ≡ marked_dead t n → Turned process_slots (turn left n) v u i → process_slots ≤ i → u ≡ end_namespace left t n
namespace_done left t n v u i e k h =
    fold_done process_slots (turn left n) v u i k h ∙ ap (turns process_slots (turn left n)) e ∙ sym (namespace_is left t n)

-- ---- the end of an init

-- q is the process at p, x the table once its namespace has ended, y the ended init, l the processes with it
pub init_swept : (t : Table) (p : ℕ) (e : End) (q : Process) (x : Table) (y : Process) (l : List Process) (r : Table) → q ≡ get_or t.processes p empty_process → x ≡ end_namespace deepest t q.own.0 → y ≡ as_ended q e → l ≡ set x.processes p y → r ≡ swept (record { processes = l; namespaces = x.namespaces }) q.own.0 → r ≡ end_init t p e
unfolding end_init
init_swept t p e q x y l r a b c d g =
    g ∙ ap (λ z. swept (record { processes = z; namespaces = x.namespaces }) q.own.0) d
    ∙ ap₂ (λ u k. swept (put u p k) q.own.0) b c
    ∙ ap (λ (k : Process). swept (put (end_namespace deepest t k.own.0) p (as_ended k e)) k.own.0) a
