-- "Negative numbers", and what an answer says.
use Rattle.std.specs.Prelude.{ℕ, Bool, true, false, List, [], ◌∷◌, eqb, ℤ, pos, negsuc, neg_ℤ}
use Rattle.std.proofs.Math.Option.{Option, none, some}
use Rattle.table.specs.Limits.{no_slot}
use Rattle.table.specs.declared.Answer.{Answer}
use Rattle.table.specs.declared.Answer.TheVariants.{Refused, Number, Reaped}
use Rattle.table.specs.declared.End.{End}
use Rattle.table.specs.declared.Outcome.{Outcome}
use Rattle.table.specs.declared.Refusal.{Refusal}
use Rattle.table.specs.declared.Refusal.TheVariants.{Unsound, NotRunning, Einval, Enosys, Esrch, Ebusy, Echild, Enospc, Enomem, Eagain}
use Rattle.table.specs.declared.Table.{Table}

-- a number below 0
abbrev pub minus : ℕ → ℤ
minus k = neg_ℤ (pos k)

-- the number of each refusal, in the order in which they are given
unfoldable pub refusal_number : Refusal → ℤ
refusal_number Unsound = minus 1000
refusal_number NotRunning = minus 1001
refusal_number Einval = minus 22
refusal_number Enosys = minus 38
refusal_number Esrch = minus 3
refusal_number Ebusy = minus 16
refusal_number Echild = minus 10
refusal_number Enospc = minus 28
refusal_number Enomem = minus 12
refusal_number Eagain = minus 11

-- the number of each answer
unfoldable pub number_of : Answer → ℤ
number_of (Refused e) = refusal_number e
number_of (Number k) = pos k
number_of (Reaped k e) = pos k.0

-- A wait that removed a process also says how it ended: the number it gave, or a signal.
unfoldable pub end_of : Answer → Option End
end_of (Refused e) = none
end_of (Number k) = none
end_of (Reaped k e) = some e

-- What document 01 shows of an answer, and the promises speak of: its number, and how a removed process ended.
abbrev pub Shown : Type 0
Shown = ℤ × Option End

abbrev pub shown : Answer → Shown
shown a = (number_of a, end_of a)

abbrev pub is_negative : ℤ → Bool
is_negative (pos k) = false
is_negative (negsuc k) = true

-- The answer is a refusal: its number is below 0.
unfoldable pub is_refused : Answer → Bool
is_refused a = is_negative (number_of a)

-- one and the same number
abbrev pub same_number : ℤ → ℤ → Bool
same_number (pos a) (pos b) = eqb a b
same_number (pos a) (negsuc b) = false
same_number (negsuc a) (pos b) = false
same_number (negsuc a) (negsuc b) = eqb a b

-- "No room" is -11.
unfoldable pub is_no_room : Shown → Bool
is_no_room x = same_number x.0 (minus 11)

-- ---- what a call gives: the answer, the child's slot for the host, and the table then

-- A refusal leaves the whole table unchanged and tells the host no slot.
unfoldable pub refused : Table → Refusal → Outcome
refused t e = record { reply = record { answer = Refused e; child = record { 0 = no_slot } }; table = t }

-- A call: its refusals, each with its test, in the order in which they are given, and what it gives where none holds.
abbrev pub judged : Table → List (Refusal × Bool) → (Unit {0} → Outcome) → Outcome
judged t [] o = o tt
judged t (r ∷ rs) o = elim r.1 [ true ↦ refused t r.0 | false ↦ judged t rs o ]

-- A call that is granted tells no slot either, but where a child is born.
unfoldable pub granted : Table → Answer → Outcome
granted t a = record { reply = record { answer = a; child = record { 0 = no_slot } }; table = t }

-- granted, with a number
unfoldable pub answers : Table → ℕ → Outcome
answers t k = granted t (Number k)
