-- One call on any table, by any caller: the first two negative numbers, and then the call itself.
use Rattle.std.specs.Prelude.{ℕ, Bool}
use Rattle.rules.specs.Answers.{refused}
use Rattle.rules.specs.Calls.{clone, clone_new, unshare, setns, kill, exit, wait, getpid, getppid, handle, poll}
use Rattle.table.specs.Slots.{is_running}
use Rattle.rules.specs.Read.{View, view, taken}
use Rattle.rules.specs.Sound.{sound}
use Rattle.table.specs.Tests.{◌and◌, when◌then◌else◌}
use Rattle.table.specs.declared.Call.{Call}
use Rattle.table.specs.declared.Call.TheVariants.{Clone, CloneNew, Unshare, Setns, Kill, Exit, Wait, Getpid, Getppid, Handle, Poll}
use Rattle.table.specs.declared.Outcome.{Outcome}
use Rattle.table.specs.declared.Refusal.TheVariants.{Unsound, NotRunning}
use Rattle.table.specs.declared.Table.{Table}

-- the call itself, by a running caller of a sound table
unfoldable pub make : Table → ℕ → Call → Outcome
make t c Clone = clone t c
make t c CloneNew = clone_new t c
make t c Unshare = unshare t c
make t c (Setns n) = setns t c n
make t c (Kill n s) = kill t c n s
make t c (Exit s) = exit t c s
make t c Wait = wait t c
make t c Getpid = getpid t c
make t c Getppid = getppid t c
make t c (Handle s on) = handle t c s on
make t c Poll = poll t c

-- The caller's slot is not beyond 63, empty, ended or stopped. (Past the table's end every slot reads as empty.)
unfoldable pub runs : View → ℕ → Bool
runs v c = taken v c and is_running (v.state c)

-- -1000 if the table isn't sound, -1001 if the caller isn't running, and else what the call gives.
unfoldable pub step : Table → ℕ → Call → Outcome
step t c call =
    when sound t then (when runs (view t) c then make t c call else refused t NotRunning) else refused t Unsound
