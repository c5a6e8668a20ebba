-- What the code reads of a table at a slot, past the last slot too, against the rows of a view.
use Prim.Native.Nat.{ℕ, zero, suc}
use mathlib.Core.List.{List, [], ◌∷◌}
use mathlib.Core.Bool.{Bool, false}
use mathlib.Core.Path.{◌≡◌, refl, ap, ap₂, fun_ext, ◌∙◌}
use lib.ListN.{get_or}
use Rattle.rules.proofs.Keeps.Changed.{get_d_replicate}
use Rattle.table.specs.Fresh.{empty_process}
use Rattle.table.specs.Limits.{levels}
use Rattle.table.specs.Slots.{process, namespace, no_pid, no_process, init_of}
use Rattle.rules.specs.Read.{view, taken, namespace_taken, children}
use Rattle.rules.specs.Sound.{held}
use Rattle.table.specs.declared.Namespace.{Namespace}
use Rattle.table.specs.declared.NsSlot.{NsSlot}
use Rattle.table.specs.declared.Pid.{Pid}
use Rattle.table.specs.declared.Process.{Process}
use Rattle.table.specs.declared.State.TheVariants.{Running}
use Rattle.table.specs.declared.Table.{Table}
use Rattle.table.specs.Traits.{no_traits}
use Rattle.sound.specs.Quick.{ProcessRow, process_row, namespace_row, process_at, namespace_at, process_ok, namespace_ok}

-- an empty slot and what lies past the last one read alike
pub empty_row : process_row empty_process ≡ process_row no_process
empty_row =
    ap (λ (f : ℕ → ℕ). record { taken = false; own = 0; children = 0; parent = 0; state = Running; ended = false; traits = no_traits; pid = f })
    (fun_ext (λ l. ap (λ (p : Pid). p.0) (get_d_replicate no_pid levels l)))

-- past the last slot the code takes an empty record
pub row_reads : (l : List Process) (k : ℕ) → process_row (get_or l k empty_process) ≡ process_row (get_or l k no_process)
row_reads [] k = empty_row
row_reads (p ∷ l) zero = refl
row_reads (p ∷ l) (suc k) = row_reads l k

-- k is the callee's result for the slot i
pub row_at : (t : Table) (x : Process) (k i : ℕ) → x ≡ get_or t.processes k empty_process → k ≡ i → process_row x ≡ process_at (view t) i
unfolding taken
row_at t x k i e q = ap process_row e ∙ row_reads t.processes k ∙ ap (λ j. process_row (process t j)) q

-- what a check of the records that the code took says of the view
module _ (t : Table) where
  pub process_reads :
      (i : ℕ) (up : ℕ → ℕ) (p : Process) (home inner : Namespace) (parent : ProcessRow) (r : Bool)
      → up ≡ (view t).up → p ≡ process t i → home ≡ namespace t (process t i).own.0 → inner ≡ namespace t (process t i).children.0
      → parent ≡ process_at (view t) (process t i).parent.0
      → r ≡ process_ok up i (process_row p) (namespace_row p.own.0 home) (namespace_row p.children.0 inner) parent
      → r ≡ process_ok (view t).up i (process_at (view t) i) (namespace_at (view t) ((view t).own i)) (namespace_at (view t) (children (view t) i)) (process_at (view t) ((view t).parent i))
  unfolding taken namespace_taken
  process_reads i up p home inner parent r a o b c d e =
      let q : Process = process t i in
      e
      ∙ ap₂ (λ (u : ℕ → ℕ) (x : Process). process_ok u i (process_row x) (namespace_row x.own.0 home) (namespace_row x.children.0 inner) parent) a o
      ∙ ap₂ (λ (u w : Namespace). process_ok (view t).up i (process_row q) (namespace_row q.own.0 u) (namespace_row q.children.0 w) parent) b c
      ∙ ap (process_ok (view t).up i (process_row q) (namespace_row q.own.0 (namespace t q.own.0)) (namespace_row q.children.0 (namespace t q.children.0))) d

  pub namespace_reads :
      (n : ℕ) (h : Bool) (k : NsSlot) (s above : Namespace) (init : ProcessRow) (r : Bool)
      → h ≡ held (view t) n → k ≡ record { 0 = n } → s ≡ namespace t n → above ≡ namespace t (namespace t n).parent.0
      → init ≡ process_at (view t) (init_of (namespace t n).life)
      → r ≡ namespace_ok k.0 h (namespace_row k.0 s) (namespace_row s.parent.0 above) init
      → r ≡ namespace_ok n (held (view t) n) (namespace_at (view t) n) (namespace_at (view t) ((view t).up n)) (process_at (view t) (init_of ((view t).life n)))
  unfolding namespace_taken
  namespace_reads n h k s above init r a o b c d e =
      let q : Namespace = namespace t n in
      e
      ∙ ap₂ (λ (u : Bool) (x : NsSlot). namespace_ok x.0 u (namespace_row x.0 s) (namespace_row s.parent.0 above) init) a o
      ∙ ap₂ (λ (x u : Namespace). namespace_ok n (held (view t) n) (namespace_row n x) (namespace_row x.parent.0 u) init) b c
      ∙ ap (namespace_ok n (held (view t) n) (namespace_row n q) (namespace_row q.parent.0 (namespace t q.parent.0))) d
