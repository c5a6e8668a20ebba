-- The walk from a namespace up by parents, one level at a time: at each it takes a number. `numbers_on` and `joins_on`
-- are what the walk makes of the child's numbers and of the namespaces, with k levels left from `at` on.
use Prim.Native.Nat.{ℕ, zero, suc, ◌<◌, ◌≤◌, ◌-◌}
use mathlib.Core.Bool.{Bool, true, false}
use mathlib.Core.List.{List}
use mathlib.Core.Logic.{⊎_elim}
use mathlib.Core.Path.{◌≡◌, refl, sym, ap, ap₂, ◌∙◌}
use lib.Dec.{eqb, leb}
use lib.ListN.{length, get_or, set, replicate, length-set}
use lib.Seq.{get_or-set_same, get_or-set_other, ext_get_or}
use native.Mathlib.Nat.{eq-or-lt_of_le, le_of_suc-le-suc}
use native.Mathlib.Omega.{arith}
use borrow.Author.Tests.{eqb-true, eqb-false, leb-true, leb-false}
use Rattle.births.specs.Births.{birth_at, child_with, joined_by}
use Rattle.table.proofs.Chains.{by_bool, pick_yes, pick_no}
use Rattle.table.proofs.MapLoops.{changed_length, changed_at, changed_none}
use Rattle.rules.specs.Births.{new_pids, newborn, joined}
use Rattle.table.specs.Limits.{levels, process_slots, namespace_slots}
use Rattle.rules.specs.Pids.{next_pid}
use Rattle.table.specs.Slots.{namespace, no_pid, no_process, no_namespace, put}
use Rattle.rules.specs.Read.{View, view, below, climb, up_by, above_at}
use Rattle.table.specs.Tests.{when◌then◌else◌, changed_to}
use Rattle.table.specs.declared.Life.{Life}
use Rattle.table.specs.declared.Life.TheVariants.{Unborn, Alive, Dead}
use Rattle.table.specs.declared.Namespace.{Namespace}
use Rattle.table.specs.declared.Pid.{Pid}
use Rattle.table.specs.declared.Process.{Process}
use Rattle.table.specs.declared.Table.{Table}
use Rattle.rules.proofs.Laws.ReadAt.{read_at}
use Rattle.table.specs.Fresh.{empty_process}
use Rattle.table.specs.Records.{to_pid}
use Rattle.table.specs.Traits.{born_traits}
use Rattle.table.specs.declared.Traits.{Traits}

-- ---- the child's numbers

unfoldable pub numbers_on : View → ℕ → ℕ → List Pid → List Pid
numbers_on v zero at ps = ps
numbers_on v (suc k) at ps = numbers_on v k (v.up at) (set ps k (to_pid (next_pid v at)))

module _ (v : View) where
  numbers_length : (k at : ℕ) (ps : List Pid) → length (numbers_on v k at ps) ≡ length ps
  unfolding numbers_on
  numbers_length zero at ps = refl
  numbers_length (suc k) at ps = numbers_length k (v.up at) _ ∙ length-set ps k (to_pid (next_pid v at))

  -- a level that the walk does not come to
  numbers_past : (k at l : ℕ) (ps : List Pid) → k ≤ l → get_or (numbers_on v k at ps) l no_pid ≡ get_or ps l no_pid
  unfolding numbers_on
  numbers_past zero at l ps h = refl
  numbers_past (suc k) at l ps h =
      numbers_past k (v.up at) l _ (omega arith)
      ∙ get_or-set_other ps k l (to_pid (next_pid v at)) no_pid (λ e. omega arith)

  -- one that it comes to
  numbers_at : (k at l : ℕ) (ps : List Pid) → l < k → l < length ps → get_or (numbers_on v k at ps) l no_pid ≡ to_pid (next_pid v (up_by v.up (k - suc l) at))
  unfolding numbers_on up_by
  numbers_at zero at l ps h i = absurd (omega arith)
  numbers_at (suc k) at l ps h i =
      ⊎_elim
      (λ (e : l ≡ k).
      let z : suc k - suc l ≡ 0 = omega arith in
      numbers_past k (v.up at) l _ (omega arith)
      ∙ ap (λ j. get_or (set ps k (to_pid (next_pid v at))) j no_pid) e
      ∙ get_or-set_same ps k (to_pid (next_pid v at)) no_pid (omega arith)
      ∙ sym (ap (λ j. to_pid (next_pid v (up_by v.up j at))) z))
      (λ (e : l < k).
      let z : suc k - suc l ≡ suc (k - suc l) = omega arith in
      numbers_at k (v.up at) l _ e (omega (arith, length-set ps k (to_pid (next_pid v at))))
      ∙ sym (ap (λ j. to_pid (next_pid v (up_by v.up j at))) z))
      (eq-or-lt_of_le (le_of_suc-le-suc h))

  abbrev none : List Pid
  none = replicate levels no_pid

  pub numbers_all : (n : ℕ) → numbers_on v (suc (v.level n)) n none ≡ new_pids v n
  unfolding new_pids above_at
  numbers_all n =
      let f : ℕ → Pid → Pid = λ l p. when leb l (v.level n) then to_pid (next_pid v (above_at v n l)) else p in
      let long : length (numbers_on v (suc (v.level n)) n none) ≡ levels = numbers_length (suc (v.level n)) n none in
      ext_get_or no_pid _ _ (long ∙ sym (changed_length f no_pid levels none))
      (λ l h.
      by_bool (leb l (v.level n))
      (λ e.
      let i : l ≤ v.level n = leb-true l (v.level n) e in
      let z : suc (v.level n) - suc l ≡ v.level n - l = omega arith in
      numbers_at (suc (v.level n)) n l none (omega arith) (omega arith)
      ∙ ap (λ j. to_pid (next_pid v (up_by v.up j n))) z
      ∙ sym (changed_at f no_pid levels l none (omega arith) (omega arith) ∙ pick_yes _ _ _ e))
      (λ e.
      let i : v.level n < l = leb-false l (v.level n) e in
      numbers_past (suc (v.level n)) n l none (omega arith)
      ∙ sym (changed_at f no_pid levels l none (omega arith) (omega arith) ∙ pick_no _ _ _ e)))

-- ---- the namespaces

unfoldable pub joins_on : View → ℕ → ℕ → ℕ → List Namespace → List Namespace
joins_on v child zero at ns = ns
joins_on v child (suc k) at ns =
    joins_on v child k (v.up at) (set ns at (joined_by child (next_pid v at) (get_or ns at no_namespace)))

-- a namespace joined twice is joined once
life_twice : (child : ℕ) (l : Life) (k : ℕ) (s : Namespace) → s.life ≡ l → joined_by child k (joined_by child k s) ≡ joined_by child k s
life_twice child Unborn k s e = rw e
life_twice child (Alive i) k s e = rw e
life_twice child Dead k s e = rw e

module _ (v : View) (child : ℕ) where
  joins_length : (k at : ℕ) (ns : List Namespace) → length (joins_on v child k at ns) ≡ length ns
  unfolding joins_on
  joins_length zero at ns = refl
  joins_length (suc k) at ns = joins_length k (v.up at) _ ∙ length-set ns at _

  -- what becomes of s at m
  abbrev joins : ℕ → Namespace → Namespace
  joins m s = joined_by child (next_pid v m) s

  -- one step: at m itself, and elsewhere
  here : (at m : ℕ) (ns : List Namespace) → m < length ns → eqb at m ≡ true → get_or (set ns at (joins at (get_or ns at no_namespace))) m no_namespace ≡ joins m (get_or ns m no_namespace)
  here at m ns h e =
      let q : at ≡ m = eqb-true at m e in
      rw q (get_or-set_same ns m (joins m (get_or ns m no_namespace)) no_namespace h)

  there : (at m : ℕ) (ns : List Namespace) → eqb at m ≡ false → get_or (set ns at (joins at (get_or ns at no_namespace))) m no_namespace ≡ get_or ns m no_namespace
  there at m ns e = get_or-set_other ns at m _ no_namespace (λ q. eqb-false at m e (sym q))

  twice : (b : Bool) (m : ℕ) (s : Namespace) → (when b then joins m (joins m s) else joins m s) ≡ joins m s
  twice true m s = life_twice child s.life (next_pid v m) s refl
  twice false m s = refl

  joins_at : (k at m : ℕ) (ns : List Namespace) → m < length ns → get_or (joins_on v child (suc k) at ns) m no_namespace ≡ (when climb v.up k at m then joins m (get_or ns m no_namespace) else get_or ns m no_namespace)
  unfolding joins_on climb
  joins_at zero at m ns h =
      by_bool (eqb at m) (λ e. here at m ns h e ∙ sym (pick_yes _ _ _ e)) (λ e. there at m ns e ∙ sym (pick_no _ _ _ e))
  joins_at (suc k) at m ns h =
      let b : Bool = climb v.up k (v.up at) m in
      let s : Namespace = get_or ns m no_namespace in
      let next : List Namespace = set ns at (joins at (get_or ns at no_namespace)) in
      joins_at k (v.up at) m next (omega (arith, length-set ns at (joins at (get_or ns at no_namespace))))
      ∙ by_bool (eqb at m)
      (λ e. ap (λ y. when b then joins m y else y) (here at m ns h e) ∙ twice b m s ∙ sym (pick_yes _ _ _ (pick_yes (eqb at m) true b e)))
      (λ e. ap (λ y. when b then joins m y else y) (there at m ns e) ∙ sym (ap (λ c. when c then joins m s else s) (pick_no (eqb at m) true b e)))

  pub joins_all : (n : ℕ) (ns : List Namespace) → length ns ≡ namespace_slots → joins_on v child (suc (v.level n)) n ns ≡ changed_to (joined v child n) no_namespace namespace_slots ns
  unfolding joined below
  joins_all n ns long =
      let same : length (joins_on v child (suc (v.level n)) n ns) ≡ length ns = joins_length (suc (v.level n)) n ns in
      ext_get_or no_namespace _ _ (same ∙ sym (changed_length (joined v child n) no_namespace namespace_slots ns))
      (λ m h.
      joins_at (v.level n) n m ns (omega arith)
      ∙ sym (changed_at (joined v child n) no_namespace namespace_slots m ns (omega arith) (omega arith)))

-- ---- the loop

-- With `left` levels left from `at` on, the walk makes of ps and ns what the whole walk from n makes of the child's
-- empty numbers and of the table's namespaces.
pub record Walking (t : Table) (child n left at : ℕ) (ps : List Pid) (ns : List Namespace) : Type 0 where
  pub numbers : numbers_on (view t) (suc ((view t).level n)) n (replicate levels no_pid) ≡ numbers_on (view t) left at ps
  pub joins : joins_on (view t) child (suc ((view t).level n)) n t.namespaces ≡ joins_on (view t) child left at ns

-- the callees' results: the namespace at `at`, the number, and the numbers and the namespaces with it
module _ (t : Table) (child n left at : ℕ) (ps : List Pid) (ns : List Namespace) (s : Namespace) (pid : Pid) (ps' : List Pid) (ns' : List Namespace) where
  pub walk_goes_on : Walking t child n left at ps ns → 0 < left → s ≡ namespace t at → pid.0 ≡ next_pid (view t) at → ps' ≡ set ps (left - 1) pid
      → ns' ≡ set ns at (joined_by child pid.0 (get_or ns at no_namespace))
      → Walking t child n (left - 1) s.parent.0 ps' ns'
  unfolding numbers_on joins_on
  walk_goes_on w h e p q r =
      let z : left ≡ suc (left - 1) = omega arith in
      let f : s.parent.0 ≡ (view t).up at = ap (λ (x : Namespace). x.parent.0) e in
      let q' : ps' ≡ set ps (left - 1) (to_pid (next_pid (view t) at)) = q ∙ ap (λ k. set ps (left - 1) (to_pid k)) p in
      let r' : ns' ≡ set ns at (joined_by child (next_pid (view t) at) (get_or ns at no_namespace)) = r ∙ ap (λ k. set ns at (joined_by child k (get_or ns at no_namespace))) p in
      record {
        numbers = w.numbers ∙ ap (λ k. numbers_on (view t) k at ps) z ∙ sym (ap₂ (numbers_on (view t) (left - 1)) f q');
        joins = w.joins ∙ ap (λ k. joins_on (view t) child k at ns) z ∙ sym (ap₂ (joins_on (view t) child (left - 1)) f r');
      }

-- o is the parent's record, x the child's traits, p its record, and u the table with it
pub walk_done : (t u : Table) (child caller n left at : ℕ) (ps : List Pid) (ns : List Namespace) (o p : Process) (x : Traits) → Walking t child n left at ps ns → left ≤ 0 → length t.namespaces ≡ namespace_slots → o ≡ get_or t.processes caller empty_process → x ≡ born_traits o.traits → p ≡ child_with caller n x ps → u ≡ put t child p → record { processes = u.processes; namespaces = ns } ≡ birth_at t child caller n
unfolding birth_at newborn numbers_on joins_on
walk_done t u child caller n left at ps ns o p x w h long d y e q =
    let z : left ≡ 0 = omega arith in
    let a : ps ≡ new_pids (view t) n = sym (w.numbers ∙ ap (λ k. numbers_on (view t) k at ps) z) ∙ numbers_all (view t) n in
    let b : ns ≡ changed_to (joined (view t) child n) no_namespace namespace_slots t.namespaces =
    sym (w.joins ∙ ap (λ k. joins_on (view t) child k at ns) z) ∙ joins_all (view t) child n t.namespaces long in
    ap₂ (λ x y. record { processes = x; namespaces = y })
    (ap (λ x. x.processes) q ∙ ap (λ x. set t.processes child x) (e ∙ ap₂ (child_with caller n) (y ∙ ap born_traits (read_at t caller o d).traits) a) ∙ sym (changed_none no_process process_slots _)) b
