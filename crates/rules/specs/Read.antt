-- Reading a table: what stands at a slot, what lies below what, who is seen from where.
use Rattle.std.specs.Prelude.{ℕ, zero, suc, ◌-◌, Bool, true, false, not, List, eqb}
use Rattle.table.specs.Limits.{process_slots}
use Rattle.table.specs.Tests.{◌and◌, ◌or◌, ◌implies◌, when◌then◌else◌, lowest, ascending}
use Rattle.table.specs.Slots.{process, namespace, pid_at, hold_at, is_ended, is_unborn, is_alive, is_dead, init_of}
use Rattle.table.specs.declared.Life.{Life}
use Rattle.table.specs.declared.State.{State}
use Rattle.table.specs.declared.Table.{Table}
use Rattle.table.specs.declared.Traits.{Traits}

-- What there is to read, each as a function of the slot. A test rests only on the fields that it names.
pub record View : Type 0 where
  -- Of a process: its own namespace, the namespaces that it holds, by an index (at 0 that of its children), parent,
  -- state, whether it has ended, traits, and its number at a level.
  pub own : ℕ → ℕ
  pub hold : ℕ → ℕ → ℕ
  pub parent : ℕ → ℕ
  pub state : ℕ → State
  pub ended : ℕ → Bool
  pub traits : ℕ → Traits
  pub pid : ℕ → ℕ → ℕ
  -- Of a namespace: parent (one up), level, last number, condition.
  pub up : ℕ → ℕ
  pub level : ℕ → ℕ
  pub last : ℕ → ℕ
  pub life : ℕ → Life

abbrev pub view : Table → View
view t =
    record {
      own = λ i. (process t i).own.0;
      hold = λ i k. hold_at (process t i) k;
      parent = λ i. (process t i).parent.0;
      state = λ i. (process t i).state;
      ended = λ i. is_ended (process t i).state;
      traits = λ i. (process t i).traits;
      pid = λ i l. pid_at (process t i) l;
      up = λ n. (namespace t n).parent.0;
      level = λ n. (namespace t n).level;
      last = λ n. (namespace t n).last.0;
      life = λ n. (namespace t n).life;
    }

-- ---- processes

-- A slot holds a process, ended or not, exactly if its number at the root's level is not 0.
unfoldable pub taken : View → ℕ → Bool
taken v i = not (eqb (v.pid i 0) 0)

-- in the table and not ended
unfoldable pub living : View → ℕ → Bool
living v i = taken v i and not (v.ended i)

-- the process at i is a child of the one at p
unfoldable pub child_of : View → ℕ → ℕ → Bool
child_of v p i = taken v i and eqb (v.parent i) p

-- the namespace of its children
abbrev pub children : View → ℕ → ℕ
children v i = v.hold i 0

-- the signals that it handles
abbrev pub handled : View → ℕ → ℕ
handled v i = (v.traits i).handled

-- ---- namespaces

-- A slot holds a namespace exactly if it is the root's or its level is not 0.
unfoldable pub namespace_taken : View → ℕ → Bool
namespace_taken v n = eqb n 0 or not (eqb (v.level n) 0)

-- The condition is unborn (no process yet),
abbrev pub unborn : View → ℕ → Bool
unborn v n = is_unborn (v.life n)

-- alive (with its init)
abbrev pub alive : View → ℕ → Bool
alive v n = is_alive (v.life n)

-- or dead (init ended).
abbrev pub dead : View → ℕ → Bool
dead v n = is_dead (v.life n)

-- the slot of a living namespace's init
abbrev pub init : View → ℕ → ℕ
init v n = init_of (v.life n)

-- the process at i is the init of its own namespace
unfoldable pub is_init : View → ℕ → Bool
is_init v i = eqb (init v (v.own i)) i

-- ---- "Below" and "subtree" follow parents; a subtree includes its top.

-- a climb from a by parents, at most k of them, comes to b
unfoldable pub climb : (ℕ → ℕ) → ℕ → ℕ → ℕ → Bool
climb up zero a b = eqb a b
climb up (suc k) a b = elim (eqb a b) [ true ↦ true | false ↦ climb up k (up a) b ]

-- a lies in the subtree of b. (In a sound table each parent is one level up, so from a the root is as many parents away
-- as a's level says: a climb of so many passes all that lie above.)
unfoldable pub below : View → ℕ → ℕ → Bool
below v a b = climb v.up (v.level a) a b

-- k parents up from n: all k steps are made
unfoldable pub up_by : (ℕ → ℕ) → ℕ → ℕ → ℕ
up_by up zero n = n
up_by up (suc k) n = up_by up k (up n)

-- the namespace at level l that is n or above it: as many parents up as there are levels between (of a level further
-- down than n's, n itself)
unfoldable pub above_at : View → ℕ → ℕ → ℕ
above_at v n l = up_by v.up (v.level n - l) n

-- ---- who is seen

-- What is seen, and by which number: an own namespace, and a number at each level.
pub record Numbers : Type 0 where
  pub own : ℕ
  pub pid : ℕ → ℕ

-- those of the process at i
abbrev pub numbers : View → ℕ → Numbers
numbers v i = record { own = v.own i; pid = v.pid i }

-- From n one sees what is there and belongs to its subtree,
abbrev pub sees : View → ℕ → Numbers → Bool
sees v n x = not (eqb (x.pid 0) 0) and below v x.own n

-- by this number.
abbrev pub number_in : View → ℕ → Numbers → ℕ
number_in v n x = x.pid (v.level n)

-- y, if it is seen from n, is seen by another number than x
abbrev pub unlike : View → ℕ → Numbers → Numbers → Bool
unlike v n x y = sees v n y implies not (eqb (number_in v n x) (number_in v n y))

-- From n one sees the processes of its subtree, ended ones too.
unfoldable pub seen : View → ℕ → ℕ → Bool
seen v n i = sees v n (numbers v i)

-- the number that the process at i has in n
unfoldable pub pid_seen : View → ℕ → ℕ → ℕ
pid_seen v n i = number_in v n (numbers v i)

-- the same, or 0 where it is not seen
unfoldable pub pid_in : View → ℕ → ℕ → ℕ
pid_in v n i = when seen v n i then pid_seen v n i else 0

-- the slot of the process with number k in n, or 64 where there is none
unfoldable pub find : View → ℕ → ℕ → ℕ
find v n k = lowest (λ i. seen v n i and eqb (pid_seen v n i) k) process_slots 0

-- the slots of all seen from n, by ascending number in n
unfoldable pub all_seen : View → ℕ → List ℕ
all_seen v n = ascending (seen v n) (pid_seen v n) process_slots
