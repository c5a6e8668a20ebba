-- The numbers of document 01, each named once.
use Rattle.std.specs.Prelude.{ℕ, suc}

-- One table: 64 process slots and 48 namespace slots (W-206).
abbrev pub process_slots : ℕ
process_slots = 64

abbrev pub namespace_slots : ℕ
namespace_slots = 48

-- The root has level 0, the deepest namespace level 32 (W-206); a process has one number for each level.
abbrev pub deepest : ℕ
deepest = 32

abbrev pub levels : ℕ
levels = suc deepest

-- The greatest process number, and where the search for a free one starts again.
abbrev pub greatest_pid : ℕ
greatest_pid = 32767

abbrev pub restart_pid : ℕ
restart_pid = 300

-- How many numbers 16 bits hold, as a process number has them.
abbrev pub pid_values : ℕ
pid_values = 65536

-- A field that holds a slot holds this one for "none".
abbrev pub no_slot : ℕ
no_slot = 255

-- A process holds one namespace beside its own: that of its children.
abbrev pub hold_slots : ℕ
hold_slots = 1

-- Signal numbers are 0 to 31, and 0 is no signal.
abbrev pub signals : ℕ
signals = 32

-- Signals that document 01 treats by themselves, with their names from signal(7).
abbrev pub sigkill : ℕ
sigkill = 9

abbrev pub sigcont : ℕ
sigcont = 18

abbrev pub sigstop : ℕ
sigstop = 19

-- The numbers that an exit can keep are 0 to 255.
abbrev pub statuses : ℕ
statuses = 256
