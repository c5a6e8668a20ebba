-- "Negative numbers": document 01's table by its numbers, a test for each row.
use Rattle.std.specs.Prelude.{ℕ, Bool, true, false, not, List, [], ◌∷◌, eqb, ltb, ℤ, pos, negsuc}
use Rattle.std.proofs.Math.Option.{Option, none, some}
use Rattle.rules.specs.Answers.{minus}
use Rattle.rules.specs.Calls.{pid_to, within, natural, names_group}
use Rattle.table.specs.Limits.{process_slots, namespace_slots, signals, deepest, sigkill, sigstop}
use Rattle.table.specs.Slots.{is_running}
use Rattle.rules.specs.Read.{View, view, taken, children, namespace_taken, dead, seen, child_of}
use Rattle.rules.specs.Sound.{sound}
use Rattle.table.specs.Tests.{◌and◌, ◌or◌, all, any}
use Rattle.table.specs.declared.Call.{Call}
use Rattle.table.specs.declared.Call.TheVariants.{Clone, CloneNew, Unshare, Setns, Kill, Exit, Wait, Getpid, Getppid, Handle, Poll}
use Rattle.table.specs.declared.Table.{Table}

-- ---- what the rows speak of

-- the number k is that of the process at i, seen from the caller's namespace
unfoldable pub numbered : View → ℕ → ℤ → ℕ → Bool
numbered v c (pos k) i = seen v (v.own c) i and eqb (pid_to v c i) k
numbered v c (negsuc k) i = false

-- the process at i is one that the caller's kill n means: of that number, or seen and neither the caller nor number 1
unfoldable pub meant : View → ℕ → ℤ → ℕ → Bool
meant v c (pos n) i = numbered v c (pos n) i
meant v c (negsuc n) i = seen v (v.own c) i and (not (eqb i c) and not (eqb (pid_to v c i) 1))

-- the children's namespace isn't the caller's own
abbrev pub away : View → ℕ → Bool
away v c = not (eqb (children v c) (v.own c))

-- the own level is the deepest, 32 (W-206)
abbrev pub deepest_level : View → ℕ → Bool
deepest_level v c = eqb (v.level (v.own c)) deepest

-- 64 processes
abbrev pub full : View → Bool
full v = all process_slots (taken v)

-- 48 namespaces (W-206)
abbrev pub namespaces_taken : View → Bool
namespaces_taken v = all namespace_slots (namespace_taken v)

-- ---- each row, of a call by the process at c, whatever the other rows say; of a call that a row does not name, false

-- -1001: the caller's slot is beyond 63, empty, ended or stopped (house)
unfoldable pub not_running : View → ℕ → Bool
not_running v c = not (ltb c process_slots) or not (taken v c) or not (is_running (v.state c))

-- -22 EINVAL: kill: signal not 0 to 31; handle: signal not 1 to 31, or 9 or 19; unshare, clone new: the children's
-- namespace isn't the caller's own (W-203)
unfoldable pub einval : View → ℕ → Call → Bool
einval v c (Kill n s) = not (within 0 signals s)
einval v c (Handle s on) = not (within 1 signals s) or eqb (natural s) sigkill or eqb (natural s) sigstop
einval v c Unshare = away v c
einval v c CloneNew = away v c
einval v c Clone = false
einval v c (Setns n) = false
einval v c (Exit s) = false
einval v c Wait = false
einval v c Getpid = false
einval v c Getppid = false
einval v c Poll = false

-- -38 ENOSYS: kill: number 0 or below -1 (house)
unfoldable pub enosys : Call → Bool
enosys (Kill n s) = names_group n
enosys Clone = false
enosys CloneNew = false
enosys Unshare = false
enosys (Setns n) = false
enosys (Exit s) = false
enosys Wait = false
enosys Getpid = false
enosys Getppid = false
enosys (Handle s on) = false
enosys Poll = false

-- -3 ESRCH: kill, setns: no such process seen; setns: it has ended (house); kill -1: no target
unfoldable pub esrch : View → ℕ → Call → Bool
esrch v c (Kill n s) = not (any process_slots (meant v c n))
esrch v c (Setns n) = not (any process_slots (λ i. numbered v c n i and not (v.ended i)))
esrch v c Clone = false
esrch v c CloneNew = false
esrch v c Unshare = false
esrch v c (Exit s) = false
esrch v c Wait = false
esrch v c Getpid = false
esrch v c Getppid = false
esrch v c (Handle s on) = false
esrch v c Poll = false

-- -16 EBUSY: exit by the root init (house)
unfoldable pub ebusy : ℕ → Call → Bool
ebusy c (Exit s) = eqb c 0
ebusy c Clone = false
ebusy c CloneNew = false
ebusy c Unshare = false
ebusy c (Setns n) = false
ebusy c (Kill n s) = false
ebusy c Wait = false
ebusy c Getpid = false
ebusy c Getppid = false
ebusy c (Handle s on) = false
ebusy c Poll = false

-- -10 ECHILD: wait: no children
unfoldable pub echild : View → ℕ → Call → Bool
echild v c Wait = not (any process_slots (child_of v c))
echild v c Clone = false
echild v c CloneNew = false
echild v c Unshare = false
echild v c (Setns n) = false
echild v c (Kill n s) = false
echild v c (Exit s) = false
echild v c Getpid = false
echild v c Getppid = false
echild v c (Handle s on) = false
echild v c Poll = false

-- -28 ENOSPC: clone new, unshare: own level is 32 (W-206)
unfoldable pub enospc : View → ℕ → Call → Bool
enospc v c CloneNew = deepest_level v c
enospc v c Unshare = deepest_level v c
enospc v c Clone = false
enospc v c (Setns n) = false
enospc v c (Kill n s) = false
enospc v c (Exit s) = false
enospc v c Wait = false
enospc v c Getpid = false
enospc v c Getppid = false
enospc v c (Handle s on) = false
enospc v c Poll = false

-- -12 ENOMEM: plain clone: the children's namespace is dead
unfoldable pub enomem : View → ℕ → Call → Bool
enomem v c Clone = dead v (children v c)
enomem v c CloneNew = false
enomem v c Unshare = false
enomem v c (Setns n) = false
enomem v c (Kill n s) = false
enomem v c (Exit s) = false
enomem v c Wait = false
enomem v c Getpid = false
enomem v c Getppid = false
enomem v c (Handle s on) = false
enomem v c Poll = false

-- -11 EAGAIN: no room: clone with 64 processes, or clone new or unshare with 48 namespaces, counted before the call
unfoldable pub eagain : View → Call → Bool
eagain v Clone = full v
eagain v CloneNew = full v or namespaces_taken v
eagain v Unshare = namespaces_taken v
eagain v (Setns n) = false
eagain v (Kill n s) = false
eagain v (Exit s) = false
eagain v Wait = false
eagain v Getpid = false
eagain v Getppid = false
eagain v (Handle s on) = false
eagain v Poll = false

-- ---- the table

-- Order: -1000, -1001, -22, -38, -3, -16, -10, -28, -12, -11.
unfoldable pub rows : Table → ℕ → Call → List (ℤ × Bool)
rows t c call =
    (minus 1000, not (sound t))
    ∷ (minus 1001, not_running (view t) c)
    ∷ (minus 22, einval (view t) c call)
    ∷ (minus 38, enosys call)
    ∷ (minus 3, esrch (view t) c call)
    ∷ (minus 16, ebusy c call)
    ∷ (minus 10, echild (view t) c call)
    ∷ (minus 28, enospc (view t) c call)
    ∷ (minus 12, enomem (view t) c call)
    ∷ (minus 11, eagain (view t) call)
    ∷ []

-- the number of the first row that holds
unfoldable pub first : List (ℤ × Bool) → Option ℤ
first [] = none
first (r ∷ rs) = elim r.1 [ true ↦ some r.0 | false ↦ first rs ]

-- a number, if it is below 0
unfoldable pub below_0 : ℤ → Option ℤ
below_0 (pos k) = none
below_0 (negsuc k) = some (negsuc k)
