-- What the marks of all processes, and those of all namespaces, come to.
use Prim.Native.Nat.{ℕ, zero, suc}
use native.Mathlib.Omega.{arith}
use mathlib.Core.Bool.{Bool, true, false, not}
use mathlib.Core.List.{List}
use mathlib.Core.Path.{◌≡◌, refl, sym, ap, ap₂, ◌∙◌, fun_ext}
use borrow.Author.Tests.{ne_eqb}
use lib.Dec.{eqb}
use lib.ListN.{get_or, set, replicate}
use Rattle.table.proofs.AnyLoops.{any_or}
use Rattle.table.proofs.FoldLoops.{turns}
use Rattle.table.proofs.MarkLoops.{Marks, marks_like, no_marks, one_mark, mark_if, marks_if, marked, marked_alone}
use Rattle.table.specs.Limits.{process_slots, namespace_slots}
use Rattle.table.specs.Slots.{no_namespace}
use Rattle.rules.specs.Read.{View, view, taken, namespace_taken, children}
use Rattle.rules.specs.Sound.{held}
use Rattle.table.specs.Tests.{◌and◌, ◌or◌, when◌then◌else◌, any}
use Rattle.table.specs.declared.Namespace.{Namespace}
use Rattle.table.specs.declared.Table.{Table}
use Rattle.sound.specs.Quick.{mark_namespace, namespace_row, held_by_processes, held_by_children}
use Rattle.rules.proofs.Laws.OneHold.{holds_one}

-- the turn of the process at i, and of the namespace at i
abbrev pub process_turn : View → ℕ → List Bool → List Bool
process_turn v i m = when taken v i then set (set m (v.own i) true) (children v i) true else m

abbrev pub namespace_turn : List Namespace → ℕ → List Bool → List Bool
namespace_turn s i m = mark_namespace m i (namespace_row i (get_or s i no_namespace))

root : (n : ℕ) → eqb 0 n or false ≡ eqb n 0
unfolding ◌or◌
root zero = refl
root (suc n) = ap (λ x. x or false) (ne_eqb 0 (suc n) (λ e. omega arith)) ∙ sym (ne_eqb (suc n) 0 (λ e. omega arith))

turned : (a b z : Bool) → (a or b) or z ≡ (z or a) or b
unfolding ◌or◌
turned true b true = refl
turned true b false = refl
turned false true true = refl
turned false true false = refl
turned false false true = refl
turned false false false = refl

-- the root is marked before the turns
pub processes_marked : (v : View) → Marks namespace_slots (turns process_slots (process_turn v) (set (replicate namespace_slots false) 0 true)) (held_by_processes v)
unfolding held_by_processes
processes_marked v =
    marks_like namespace_slots _ _ _
    (marked namespace_slots (process_turn v) (λ i n. own n i or inner n i) (λ i. marks_if namespace_slots (taken v i) (v.own i) (children v i)) process_slots _ _
    (one_mark namespace_slots 0 _ _ (no_marks namespace_slots)))
    (λ n. ap₂ (λ x y. x or y) (any_or process_slots (own n) (inner n)) (root n) ∙ turned (any process_slots (own n)) (any process_slots (inner n)) (eqb n 0)
    ∙ ap (λ f. eqb n 0 or any process_slots (own n) or any process_slots f) (fun_ext (λ i. sym (holds_one v n i))))
  where
    own : ℕ → ℕ → Bool
    own n i = taken v i and eqb (v.own i) n

    inner : ℕ → ℕ → Bool
    inner n i = taken v i and eqb (children v i) n

pub children_marked : (s : List Namespace) → Marks namespace_slots (turns namespace_slots (namespace_turn s) (replicate namespace_slots false)) (held_by_children s)
unfolding held_by_children
children_marked s =
    marked_alone namespace_slots (namespace_turn s) _ (λ i. mark_if namespace_slots (not (eqb i 0) and (namespace_row i (get_or s i no_namespace)).taken) (get_or s i no_namespace).parent.0) namespace_slots

-- both together
pub marks_all : (t : Table) (n : ℕ) → held_by_processes (view t) n or held_by_children t.namespaces n ≡ held (view t) n
unfolding held held_by_processes held_by_children namespace_taken
marks_all t n = refl
