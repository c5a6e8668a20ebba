-- "After any call, namespaces nobody holds are freed, upward as far as that goes."
use Rattle.std.specs.Prelude.{ℕ, Bool, eqb}
use Rattle.table.specs.Fresh.{empty_namespace}
use Rattle.table.specs.Limits.{process_slots, hold_slots}
use Rattle.rules.specs.Read.{View, view, taken, below}
use Rattle.table.specs.Slots.{changed}
use Rattle.table.specs.Tests.{◌and◌, ◌or◌, when◌then◌else◌, any}
use Rattle.table.specs.declared.Table.{Table}

-- What stays: the root, and each namespace in whose subtree some process, ended or not, has its own or its children's
-- namespace. (A namespace with a child namespace is held, so freeing goes upward; all at once, it is this.)
unfoldable pub kept : View → ℕ → Bool
kept v n =
    eqb n 0
    or any process_slots
    (λ i. taken v i and (below v (v.own i) n or any hold_slots (λ k. below v (v.hold i k) n)))

-- the table with those alone
unfoldable pub freed : Table → Table
freed t = changed t (λ i p. p) (λ n s. when kept (view t) n then s else empty_namespace)
