-- Reading and putting past an array's end, and what a process read at a slot says of the view.
use Prim.Native.Nat.{ℕ, zero, suc, ◌<◌, ◌≤◌}
use mathlib.Core.List.{List, [], ◌∷◌}
use mathlib.Core.Path.{◌≡◌, refl, sym, ap, ◌∙◌}
use lib.ListN.{length, get_or, get_or-eq_default}
use lib.Seq.{set_out}
use native.Mathlib.Nat.{le_of_suc-le-suc}
use native.Mathlib.Omega.{arith}
use Rattle.table.specs.Fresh.{empty_process}
use Rattle.table.specs.Slots.{process, no_pid, no_process, put, put_namespace}
use Rattle.table.specs.declared.Namespace.{Namespace}
use Rattle.table.specs.declared.Pid.{Pid}
use Rattle.table.specs.declared.Process.{Process}
use Rattle.table.specs.declared.Table.{Table}

-- ---- past the end

pub array_past : {X : Type 0} (l : List X) (d : X) (n i : ℕ) → length l ≡ n → n ≤ i → d ≡ get_or l i d
array_past l d n i e h = sym (get_or-eq_default l d (omega arith))

pub field_past : {X : Type 0} (l : List X) (d : X) (n i : ℕ) → length l ≡ n → n ≤ i → d ≡ get_or l i d
field_past l d n i e h = array_past l d n i e h

pub pid_past : (l : List Pid) (n i : ℕ) → length l ≡ n → n ≤ i → 0 ≡ (get_or l i no_pid).0
pid_past l n i e h = ap (λ k. k.0) (field_past l no_pid n i e h)

-- within the array it does not matter what lies past its end
within : {X : Type 0} (l : List X) (d e : X) (i : ℕ) → i < length l → get_or l i d ≡ get_or l i e
within [] d e i h = absurd (omega arith)
within (x ∷ l) d e zero h = refl
within (x ∷ l) d e (suc i) h = within l d e i (le_of_suc-le-suc h)

pub field_within : {X : Type 0} (l : List X) (d e : X) (n i : ℕ) → length l ≡ n → i < n → get_or l i d ≡ get_or l i e
field_within l d e n i q h = within l d e i (omega (arith, q))

pub put_past : (t : Table) (n i : ℕ) (p : Process) → length t.processes ≡ n → n ≤ i → t ≡ put t i p
put_past t n i p e h =
    ap (λ l. record { processes = l; namespaces = t.namespaces })
    (sym (set_out t.processes i p (omega (arith, e))))

pub put_namespace_past : (t : Table) (n i : ℕ) (s : Namespace) → length t.namespaces ≡ n → n ≤ i → t ≡ put_namespace t i s
put_namespace_past t n i s e h =
    ap (λ l. record { processes = t.processes; namespaces = l })
    (sym (set_out t.namespaces i s (omega (arith, e))))

-- what `Table::process` gives below the last slot is the process of the definitions itself
pub process_within : (t : Table) (n i : ℕ) (p : Process) → length t.processes ≡ n → i < n → p ≡ get_or t.processes i empty_process → p ≡ process t i
process_within t n i p e h q = q ∙ field_within t.processes empty_process no_process n i e h
