-- What a signal does, by the few things that the definition reads of its target: whether it lives, whether it is the
-- init of its own namespace, that namespace, and its handled signals.
use Rattle.std.specs.Prelude.{ℕ, Bool, not, eqb}
use Rattle.rules.specs.Delivery.{default_action}
use Rattle.table.specs.Limits.{sigkill, sigcont, sigstop}
use Rattle.table.specs.Slots.{is_ended, pid_at}
use Rattle.table.specs.SignalSets.{has}
use Rattle.table.specs.Tests.{◌and◌, ◌or◌, when◌then◌else◌}
use Rattle.table.specs.declared.Action.{Action}
use Rattle.table.specs.declared.Action.TheVariants.{Nothing, Resume, Pend}
use Rattle.table.specs.declared.Process.{Process}

-- in the table and not ended
abbrev pub lives : Process → Bool
lives p = not (eqb (pid_at p 0) 0) and not (is_ended p.state)

abbrev pub is_forced : ℕ → Bool
is_forced s = eqb s sigkill or eqb s sigstop

-- what 9 or 19 does to a process of the namespace `own`
abbrev pub forced_by : Bool → ℕ → ℕ → ℕ → Action
forced_by init own from s = when init and eqb own from then Nothing else default_action s

-- what another signal does to one that handles these
abbrev pub plain_by : Bool → ℕ → ℕ → Action
plain_by init handled s = when has handled s then Pend else (when init then Nothing else default_action s)

-- what a signal does
abbrev pub action_by : Bool → Bool → ℕ → ℕ → ℕ → ℕ → Action
action_by living init own handled from s =
    when eqb s 0 or not living then Nothing
    else (when eqb s sigcont then Resume
    else (when is_forced s then forced_by init own from s else plain_by init handled s))
