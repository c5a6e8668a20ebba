-- The search by marks (W-202). It is given of each process its own namespace, and its number in a namespace n, or 0. Of
-- the m numbers above n's last, m marks say which are taken. The code has as many marks as there are process slots; the
-- laws hold of any number of them.
use Rattle.std.specs.Prelude.{ℕ, suc, ◌+◌, ◌-◌, ◌<◌, ◌≤◌, ◌≡◌, Bool, not, Option, Some, None, eqb, leb, ltb, MatchOption}
use Rattle.rules.specs.Read.{climb}
use Rattle.table.specs.Limits.{process_slots, greatest_pid, restart_pid}
use Rattle.table.specs.Slots.{pid_at}
use Rattle.table.specs.Tests.{◌and◌, when◌then◌else◌, any, lowest}
use Rattle.table.specs.declared.Pid.{Pid}
use Rattle.table.specs.declared.Process.{Process}

abbrev pub marks : ℕ
marks = process_slots

-- the number at a level that a process has; in an empty slot none, whatever stands there
abbrev pub held_pid : Process → ℕ → ℕ
held_pid p l = when not (eqb (pid_at p 0) 0) then pid_at p l else 0

-- nobody in the subtree of n has the number x
unfoldable pub unheld : (ℕ → ℕ) → (ℕ → ℕ) → (ℕ → ℕ) → (ℕ → ℕ) → ℕ → ℕ → Bool
unheld up level own pid n x = not (any process_slots (λ i. climb up (level (own i)) (own i) n and eqb (pid i) x))

-- The lowest of the m numbers above `last` of which f holds, if it is at most 32,767; else 0, and so too where there is
-- none.
unfoldable pub first_of : ℕ → (ℕ → Bool) → ℕ → ℕ
first_of m f last =
    let x = lowest f m (last + 1) in
    when ltb x (last + 1 + m) and leb x greatest_pid then x else 0

-- The number by marks: the first of the m above `last`, or else, where these reach to 32,767, the first of the m from
-- 300 on. Where the marks run out it is 0.
unfoldable pub by_marks : ℕ → (ℕ → Bool) → ℕ → ℕ
by_marks m f last =
    let x = first_of m f last in
    let again = when leb (greatest_pid - m) last then first_of m f (restart_pid - 1) else 0 in
    when not (eqb x 0) then x else again

-- The place of a mark: that of the number x among the m above `last`, if who has it is seen. Else m, where there is no
-- mark.
unfoldable pub place_from : ℕ → ℕ → ℕ → Bool → ℕ
place_from m last x seen = when ltb last x and ltb (x - last - 1) m and seen then x - last - 1 else m

-- what a search gives, as these definitions number it: 0 where there is none
abbrev pub pid_found : Option Pid → ℕ
pid_found None = 0
pid_found (Some p) = p.0

-- the lowest number from `from` to g of which f holds, or none
abbrev pub LowestUpTo : ℕ → (ℕ → Bool) → ℕ → Option Pid → Type 0
LowestUpTo g f from r =
    let x = lowest f (suc g - from) from in
    MatchOption r (g < x) (λ p. (p.0 ≡ x) × (p.0 ≤ g))
