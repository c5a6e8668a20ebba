-- "The sheet of a namespace" (the sheet is document 01's own term).
use Rattle.std.specs.Prelude.{ℕ, zero, suc, ◌-◌, true, false, List, map, eqb}
use Rattle.table.specs.Limits.{levels, hold_slots, no_slot}
use Rattle.table.specs.Slots.{is_alive}
use Rattle.rules.specs.Read.{View, init, is_init, pid_in, all_seen}
use Rattle.table.specs.Tests.{when◌then◌else◌, values}
use Rattle.table.specs.declared.Life.{Life}
use Rattle.table.specs.declared.Life.TheVariants.{Unborn, Alive, Dead}
use Rattle.table.specs.declared.State.{State}
use Rattle.table.specs.declared.Traits.{Traits}

-- How a row names a namespace: by its init's number in S; "dead", its level and a number in S; "unborn"; "none".
pub data Name : Type 0 where
  by_init : ℕ → Name
  dead_at : ℕ → ℕ → Name
  unborn_name : Name
  no_name : Name

-- A row for each process: numbers from S's level down; state; signals (its traits); parent's number in S or 0; own
-- namespace; those that it holds, by their index (its children's); and for a living init, its namespace's last number.
-- No slot appears.
pub record Row : Type 0 where
  pub pids : List ℕ
  pub state : State
  pub traits : Traits
  pub parent : ℕ
  pub own : Name
  pub holds : List Name
  pub last : ℕ

-- For namespace S: its level, and the rows.
pub record Sheet : Type 0 where
  pub level : ℕ
  pub rows : List Row

-- the nearest living namespace, n or above it, at most k parents up (as many as n's level says lead to the
-- root, which lives)
unfoldable pub nearest : (ℕ → Life) → (ℕ → ℕ) → ℕ → ℕ → ℕ
nearest life up zero n = n
nearest life up (suc k) n = elim (is_alive (life n)) [ true ↦ n | false ↦ nearest life up k (up n) ]

-- the same of a view
abbrev pub nearest_alive : View → ℕ → ℕ → ℕ
nearest_alive v k n = nearest v.life v.up k n

-- Given as its init's number in S, or if dead as "dead", its level and the number in S of the init of the nearest
-- living namespace above it (0 if that isn't in the subtree);
unfoldable pub name_by : View → ℕ → ℕ → Life → Name
name_by v s n Unborn = unborn_name
name_by v s n (Alive i) = by_init (pid_in v s i.0)
name_by v s n Dead = dead_at (v.level n) (pid_in v s (init v (nearest_alive v (v.level n) n)))

-- likewise, or "unborn" or "none".
unfoldable pub name : View → ℕ → ℕ → Name
name v s n = when eqb n no_slot then no_name else name_by v s n (v.life n)

-- the row of the process at slot i; the last number is 0 but for a living init
unfoldable pub row : View → ℕ → ℕ → Row
row v s i =
    record {
      pids = values (v.pid i) (levels - v.level s) (v.level s);
      state = v.state i;
      traits = v.traits i;
      parent = pid_in v s (v.parent i);
      own = name v s (v.own i);
      holds = values (λ k. name v s (v.hold i k)) hold_slots 0;
      last = when is_init v i then v.last (v.own i) else 0;
    }

-- A row for each process in the subtree, ended ones too, by ascending number in S.
unfoldable pub sheet : View → ℕ → Sheet
sheet v s = record { level = v.level s; rows = map (row v s) (all_seen v s) }
