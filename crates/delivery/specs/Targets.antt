-- A list of slots as an array and a count, and the numbers by which it is put in order.
use Rattle.std.specs.Prelude.{ℕ, Bool, not, List, map, ◌≡◌, eqb, get_or, length, take}
use Rattle.table.specs.Slots.{no_pid, no_process, pid_at}
use Rattle.table.specs.Tests.{◌and◌}
use Rattle.table.specs.declared.Pid.{Pid}
use Rattle.table.specs.declared.ProcSlot.{ProcSlot}
use Rattle.table.specs.declared.Process.{Process}
use Rattle.tree.specs.Tree.{seen_from}
use Rattle.delivery.specs.declared.Targets.{Targets}

-- ---- numbers at a level as functions of the slot: in the table, and in an array

abbrev pub pids_of : List Process → ℕ → ℕ → ℕ
pids_of ps l i = pid_at (get_or ps i no_process) l

abbrev pub pid_in : List Pid → ℕ → ℕ
pid_in pids i = (get_or pids i no_pid).0

-- ---- the list

abbrev pub numbers : List ProcSlot → List ℕ
numbers l = map (λ (x : ProcSlot). x.0) l

abbrev pub listed : Targets → List ℕ
listed r = numbers (take r.len r.slots)

-- it is this list
pub record Lists (r : Targets) (l : List ℕ) : Type 0 where
  pub count : r.len ≡ length l
  pub list : listed r ≡ l

-- ---- the process at slot i is seen from n, and is neither the one at c nor number 1 there

abbrev pub other_from : (ℕ → ℕ) → (ℕ → ℕ) → ℕ → ℕ → ℕ → ℕ → Process → Bool
other_from up level n c i k p = seen_from up level n p and (not (eqb i c) and not (eqb k 1))
