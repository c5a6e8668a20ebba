-- "Delivery": what a signal does to one process, and to several.
use Rattle.std.specs.Prelude.{ℕ, not, List, [], ◌∷◌, eqb}
use Rattle.rules.specs.Ends.{end}
use Rattle.table.specs.Limits.{sigkill, sigcont, sigstop}
use Rattle.table.specs.Slots.{process, put}
use Rattle.rules.specs.Read.{View, view, living, is_init, handled}
use Rattle.table.specs.SignalSets.{has, with_signal}
use Rattle.table.specs.Tests.{◌and◌, ◌or◌, when◌then◌else◌}
use Rattle.table.specs.declared.Action.{Action}
use Rattle.table.specs.declared.Action.TheVariants.{Nothing, Resume, Stop, Finish, Pend}
use Rattle.table.specs.declared.End.TheVariants.{Signaled}
use Rattle.table.specs.declared.Process.{Process}
use Rattle.table.specs.declared.State.TheVariants.{Running, Stopped}
use Rattle.table.specs.declared.Table.{Table}
use Rattle.table.specs.Records.{with_state, with_traits}
use Rattle.table.specs.Traits.{with_signals}

-- Default by signal number: nothing for 17, 23, 28; resume for 18; stop for 19, 20, 21, 22; end for the other numbers
-- of 1 to 31.
unfoldable pub default_action : ℕ → Action
default_action s =
    when eqb s 17 or eqb s 23 or eqb s 28 then Nothing
    else (when eqb s sigcont then Resume
    else (when eqb s sigstop or eqb s 20 or eqb s 21 or eqb s 22 then Stop else Finish))

-- What signal s, sent by a process whose own namespace is `from`, does to the process at i.
-- Signal 0 and ended targets: nothing. 18 resumes. 9 ends, 19 stops. Any other: if handled, it becomes pending; if not,
-- the default. To an init an unhandled signal does nothing but 18's resuming; 9 and 19 act only if sent from a
-- namespace above (001).
unfoldable pub action_on : View → ℕ → ℕ → ℕ → Action
action_on v from i s =
    when eqb s 0 or not (living v i) then Nothing
    else (when eqb s sigcont then Resume
    else (when eqb s sigkill or eqb s sigstop then (when is_init v i and eqb (v.own i) from then Nothing else default_action s)
    else (when has (handled v i) s then Pend
    else (when is_init v i then Nothing else default_action s))))

-- with signal s pending
unfoldable pub with_pending : Process → ℕ → Process
with_pending p s =
    with_traits p (with_signals p.traits p.traits.handled (with_signal p.traits.pending s))

-- 18 makes a stopped target run, and then becomes pending too if handled.
unfoldable pub resumed : Process → Process
resumed p = when has p.traits.handled sigcont then with_pending (with_state p Running) sigcont else with_state p Running

-- the table once signal s has done an action to the process at i
unfoldable pub act : Table → ℕ → ℕ → Action → Table
act t i s Nothing = t
act t i s Resume = put t i (resumed (process t i))
act t i s Stop = put t i (with_state (process t i) Stopped)
act t i s Finish = end t i (Signaled s)
act t i s Pend = put t i (with_pending (process t i) s)

-- signal s, sent from a namespace, to the process at i
unfoldable pub deliver : Table → ℕ → ℕ → ℕ → Table
deliver t from i s = act t i s (action_on (view t) from i s)

-- To each of a list, in its order. One that has ended or been removed by then is passed over.
unfoldable pub deliver_all : Table → ℕ → List ℕ → ℕ → Table
deliver_all t from [] s = t
deliver_all t from (i ∷ is) s = deliver_all (deliver t from i s) from is s
