-- A delivery as the code brings it about: the definitions', but for an end, which is that of `ending`. Where the facts
-- of a sound table hold, but for namespaces that nobody holds, it is the definitions' own.
use Rattle.std.specs.Prelude.{ℕ, ◌<◌, List, [], ◌∷◌, ◌≡◌}
use Rattle.ending.specs.Ending.{end_process}
use Rattle.rules.proofs.Keeps.Deliver.{Safe}
use Rattle.rules.proofs.Laws.Facts.{Facts, Sane}
use Rattle.rules.specs.Delivery.{action_on, resumed, with_pending, deliver, deliver_all}
use Rattle.table.specs.Limits.{signals}
use Rattle.table.specs.Slots.{process, put}
use Rattle.rules.specs.Read.{view}
use Rattle.table.specs.declared.Action.{Action}
use Rattle.table.specs.declared.Action.TheVariants.{Nothing, Resume, Stop, Finish, Pend}
use Rattle.table.specs.declared.End.TheVariants.{Signaled}
use Rattle.table.specs.declared.State.TheVariants.{Stopped}
use Rattle.table.specs.declared.Table.{Table}
use Rattle.table.specs.Records.{with_state}

-- ---- to one

unfoldable pub act_by : Table → ℕ → ℕ → Action → Table
act_by t i s Nothing = t
act_by t i s Resume = put t i (resumed (process t i))
act_by t i s Stop = put t i (with_state (process t i) Stopped)
act_by t i s Finish = end_process t i (Signaled s)
act_by t i s Pend = put t i (with_pending (process t i) s)

unfoldable pub deliver_by : Table → ℕ → ℕ → ℕ → Table
deliver_by t from i s = act_by t i s (action_on (view t) from i s)

-- r is what signal s, sent from the namespace `from` to the process at i, leaves
pub record Delivers (t : Table) (from i s : ℕ) (r : Table) : Type 0 where
  pub always : r ≡ deliver_by t from i s
  pub as_defined : Facts (view t) → r ≡ deliver t from i s

-- ---- to each of a list

unfoldable pub deliver_all_by : Table → ℕ → List ℕ → ℕ → Table
deliver_all_by t from [] s = t
deliver_all_by t from (i ∷ is) s = deliver_all_by (deliver_by t from i s) from is s

-- the same of a list; the root init is on it only where the root sends, and the signal is one of document 01's
pub record DeliversAll (t : Table) (from : ℕ) (is : List ℕ) (s : ℕ) (r : Table) : Type 0 where
  pub always : r ≡ deliver_all_by t from is s
  pub as_defined : s < signals → Sane t → Safe from is → r ≡ deliver_all t from is s
