-- What is shown of an answer, its number and an end, tells it from every other: so what the promises say of the one
-- they say of the other.
use Prim.Native.Nat.{ℕ, suc}
use mathlib.Core.Option.{none, some}
use mathlib.Core.Path.{◌≡◌, refl, sym, ap, ◌∙◌}
use lib.Dec.{eqb}
use lib.IntN.{pos, negsuc}
use Rattle.rules.specs.Answers.{Shown, end_of, number_of, refusal_number, shown}
use Rattle.table.specs.Records.{to_pid}
use Rattle.table.specs.Tests.{when◌then◌else◌}
use Rattle.table.specs.declared.Answer.TheVariants.{Refused, Number, Reaped}
use Rattle.table.specs.declared.Answer.{Answer}
use Rattle.table.specs.declared.Refusal.TheVariants.{Unsound, NotRunning, Einval, Enosys, Esrch, Ebusy, Echild, Enospc, Enomem, Eagain}
use Rattle.table.specs.declared.Refusal.{Refusal}

-- the refusal whose number is so far below 0
refusal_at : ℕ → Refusal
refusal_at k =
    when eqb k 1000 then Unsound
    else (when eqb k 1001 then NotRunning
    else (when eqb k 22 then Einval
    else (when eqb k 38 then Enosys
    else (when eqb k 3 then Esrch
    else (when eqb k 16 then Ebusy
    else (when eqb k 10 then Echild
    else (when eqb k 28 then Enospc
    else (when eqb k 12 then Enomem
    else Eagain))))))))

-- the answer that is shown so
read : Shown → Answer
read (pos k, none) = Number k
read (pos k, some e) = Reaped (to_pid k) e
read (negsuc k, e) = Refused (refusal_at (suc k))

read_back : (a : Answer) → read (shown a) ≡ a
unfolding read refusal_at number_of end_of refusal_number
read_back (Refused Unsound) = refl
read_back (Refused NotRunning) = refl
read_back (Refused Einval) = refl
read_back (Refused Enosys) = refl
read_back (Refused Esrch) = refl
read_back (Refused Ebusy) = refl
read_back (Refused Echild) = refl
read_back (Refused Enospc) = refl
read_back (Refused Enomem) = refl
read_back (Refused Eagain) = refl
read_back (Number k) = refl
read_back (Reaped k e) = refl

pub shown_apart : (a b : Answer) → shown a ≡ shown b → a ≡ b
shown_apart a b e = sym (read_back a) ∙ ap read e ∙ read_back b
