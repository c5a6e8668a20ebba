-- For the calls that give birth: with the slot that the definitions choose, `birth` and `new_namespace` are the
-- definitions' own. r is a callee's result.
use Prim.Native.Nat.{ℕ, ◌<◌, ◌+◌}
use mathlib.Core.Path.{◌≡◌, sym, ap, ◌∙◌}
use lib.ListN.{replicate}
use native.Mathlib.Numerals.{add-one}
use borrow.Author.Tests.{le-leb}
use lib.Dec.{leb}
use Rattle.births.specs.Births.{birth_at, namespace_at}
use Rattle.table.proofs.Chains.{pick_yes}
use Rattle.rules.proofs.Laws.Below.{above_same, below_level}
use Rattle.rules.proofs.Laws.Facts.{Facts, Below}
use Rattle.table.proofs.MapLoops.{changed_at}
use Rattle.rules.specs.Births.{birth, newborn, new_pids}
use Rattle.rules.specs.Calls.{new_namespace, own_level}
use Rattle.table.specs.Limits.{levels}
use Rattle.rules.specs.Pids.{next_pid, free_slot, free_namespace_slot}
use Rattle.table.specs.Slots.{no_pid, pid_at}
use Rattle.rules.specs.Read.{View, view, taken, above_at}
use Rattle.table.specs.Tests.{when◌then◌else◌}
use Rattle.table.specs.declared.Pid.{Pid}
use Rattle.table.specs.declared.Table.{Table}
use Rattle.table.specs.Records.{to_pid}

pub birth_given : (t r : Table) (slot caller n : ℕ) → slot ≡ free_slot (view t) → r ≡ birth_at t slot caller n → r ≡ birth t caller n
unfolding birth_at birth
birth_given t r slot caller n e q = q ∙ ap (λ s. birth_at t s caller n) e

-- level is that of the caller's own namespace
pub namespace_given : (t r : Table) (c slot own level : ℕ) → slot ≡ free_namespace_slot (view t) → own ≡ (view t).own c → level ≡ own_level (view t) c → r ≡ namespace_at t slot own (level + 1) → r ≡ new_namespace t c
unfolding namespace_at new_namespace
namespace_given t r c slot own level e p l q = rw (q, e, p, l, add-one)

-- a new namespace frees and takes no process slot
pub same_free_slot : (t u : Table) (slot own level : ℕ) → u ≡ namespace_at t slot own level → free_slot (view u) ≡ free_slot (view t)
unfolding namespace_at free_slot taken
same_free_slot t u slot own level e = ap (λ x. free_slot (view x)) e

-- clone new: the child in the new namespace. u is the table with it.
pub clone_new_given : (t u r : Table) (c n slot own level : ℕ) → n ≡ free_namespace_slot (view t) → own ≡ (view t).own c → level ≡ own_level (view t) c → u ≡ namespace_at t n own (level + 1) → slot ≡ free_slot (view t) → r ≡ birth_at u slot c n → r ≡ birth (new_namespace t c) c (free_namespace_slot (view t))
clone_new_given t u r c n slot own level e p l q s b =
    birth_given u r slot c n (s ∙ sym (same_free_slot t u n own (level + 1) q)) b
    ∙ ap (λ x. birth x c n) (namespace_given t u c n own level e p l q)
    ∙ ap (birth (new_namespace t c) c) e

-- In a sound table the child's number in any namespace m that it is seen from is the one that was taken there: the
-- answer of clone stands in its record.
pub child_number : (v : View) → Facts v → (caller n m : ℕ) → Below v n m → v.level m < levels → pid_at (newborn v caller n) (v.level m) ≡ next_pid v m
unfolding newborn new_pids
child_number v p caller n m b h =
    let f : ℕ → Pid → Pid = λ l x. when leb l (v.level n) then to_pid (next_pid v (above_at v n l)) else x in
    ap (λ x. x.0)
    (changed_at f no_pid levels (v.level m) (replicate levels no_pid) h h ∙ pick_yes _ _ _ (le-leb (v.level m) (v.level n) (below_level v p n m b)))
    ∙ ap (next_pid v) (above_same v p n m b)
