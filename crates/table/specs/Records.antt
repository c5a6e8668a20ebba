-- Records: an empty one, and a record with a field changed. No other definition of a rule lists a record's fields.
use Rattle.std.specs.Prelude.{ℕ, List}
use Rattle.table.specs.Limits.{no_slot}
use Rattle.table.specs.Traits.{no_traits, ended_traits}
use Rattle.table.specs.declared.End.{End}
use Rattle.table.specs.declared.Life.{Life}
use Rattle.table.specs.declared.Life.TheVariants.{Unborn}
use Rattle.table.specs.declared.Namespace.{Namespace}
use Rattle.table.specs.declared.Pid.{Pid}
use Rattle.table.specs.declared.Process.{Process}
use Rattle.table.specs.declared.State.{State}
use Rattle.table.specs.declared.State.TheVariants.{Running, Ended}
use Rattle.table.specs.declared.Traits.{Traits}

-- a number as a field holds it
abbrev pub to_pid : ℕ → Pid
to_pid k = record { 0 = k }

-- ---- a process

-- these numbers, and else all zero and running
abbrev pub blank_process : List Pid → Process
blank_process ks = record { own = record { 0 = 0 }; children = record { 0 = 0 }; parent = record { 0 = 0 }; state = Running; traits = no_traits; pids = ks }

-- in n, and its children too
abbrev pub of_namespace : Process → ℕ → Process
of_namespace p n = record { own = record { 0 = n }; children = record { 0 = n }; parent = p.parent; state = p.state; traits = p.traits; pids = p.pids }

abbrev pub with_children : Process → ℕ → Process
with_children p n = record { own = p.own; children = record { 0 = n }; parent = p.parent; state = p.state; traits = p.traits; pids = p.pids }

abbrev pub with_parent : Process → ℕ → Process
with_parent p i = record { own = p.own; children = p.children; parent = record { 0 = i }; state = p.state; traits = p.traits; pids = p.pids }

abbrev pub with_state : Process → State → Process
with_state p s = record { own = p.own; children = p.children; parent = p.parent; state = s; traits = p.traits; pids = p.pids }

abbrev pub with_traits : Process → Traits → Process
with_traits p x = record { own = p.own; children = p.children; parent = p.parent; state = p.state; traits = x; pids = p.pids }

-- An ended process has no children's namespace or signals.
abbrev pub as_ended : Process → End → Process
as_ended p e = with_traits (with_state (with_children p no_slot) (Ended e)) (ended_traits p.traits)

-- ---- a namespace

-- all zero, and unborn
abbrev pub blank_namespace : Namespace
blank_namespace = record { parent = record { 0 = 0 }; level = 0; last = to_pid 0; life = Unborn }

-- its parent, and its level
abbrev pub placed : Namespace → ℕ → ℕ → Namespace
placed s n l = record { parent = record { 0 = n }; level = l; last = s.last; life = s.life }

abbrev pub with_last : Namespace → ℕ → Namespace
with_last s k = record { parent = s.parent; level = s.level; last = to_pid k; life = s.life }

abbrev pub with_life : Namespace → Life → Namespace
with_life s l = record { parent = s.parent; level = s.level; last = s.last; life = l }
