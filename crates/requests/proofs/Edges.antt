-- Every number that a call has, and its neighbours, with the arguments that the call takes; and what is told of replies
-- of each kind. By computation.
use Prim.Native.Nat.{ℕ}
use mathlib.Core.Bool.{true, false}
use mathlib.Core.List.{[], ◌∷◌, map}
use mathlib.Core.Path.{◌≡◌, refl}
use lib.IntN.{pos}
use Rattle.rules.specs.Answers.{minus, number_of, refusal_number}
use Rattle.table.specs.declared.Answer.{Answer}
use Rattle.table.specs.declared.Answer.TheVariants.{Refused, Number, Reaped}
use Rattle.table.specs.declared.Call.TheVariants.{Clone, CloneNew, Unshare, Setns, Kill, Exit, Wait, Getpid, Getppid, Handle, Poll}
use Rattle.table.specs.declared.End.TheVariants.{Exited, Signaled}
use Rattle.table.specs.declared.Refusal.TheVariants.{Esrch}
use Rattle.table.specs.declared.Reply.{Reply}
use Rattle.requests.specs.Requests.{plain_call, asked_by, told_of}
use Rattle.std.specs.Prelude.{None, Some}
use Rattle.requests.specs.declared.Request.{Request}
use Rattle.requests.specs.declared.Told.{Told}

-- a request with the arguments -1, 9 and 7
abbrev request : ℕ → Request
request k = record { call = k; a = minus 1; b = pos 9; c = pos 7 }

pub numbers_ask : map (λ k. asked_by (request k)) (0 ∷ 1 ∷ 2 ∷ 3 ∷ 4 ∷ 5 ∷ 6 ∷ 7 ∷ 8 ∷ 9 ∷ 10 ∷ 11 ∷ 12 ∷ 13 ∷ 257 ∷ 4294967295 ∷ []) ≡ (None ∷ Some Clone ∷ Some CloneNew ∷ Some Unshare ∷ Some (Setns (minus 1)) ∷ Some (Kill (minus 1) (pos 9)) ∷ Some (Exit (minus 1)) ∷ Some Wait ∷ Some Getpid ∷ Some Getppid ∷ Some (Handle (minus 1) true) ∷ Some (Handle (minus 1) false) ∷ Some Poll ∷ None ∷ None ∷ None ∷ [])
unfolding asked_by plain_call
numbers_ask = refl

abbrev reply : Answer → ℕ → Reply
reply a s = record { answer = a; child = record { 0 = s } }

abbrev told : ℕ → ℕ → ℕ → ℕ → Told
told k s e n = record { answer = pos k; child = record { 0 = s }; state = e; end = n }

-- a child at slot 4; a process that gave 255 and one that signal 9 ended; a refusal
pub replies_tell : map told_of (reply (Number 2) 4 ∷ reply (Reaped (record { 0 = 5 }) (Exited 255)) 255 ∷ reply (Reaped (record { 0 = 6 }) (Signaled 9)) 255 ∷ []) ≡ (told 2 4 0 0 ∷ told 5 255 2 255 ∷ told 6 255 3 9 ∷ [])
unfolding told_of number_of
replies_tell = refl

pub refusals_tell : told_of (reply (Refused Esrch) 255) ≡ record { answer = minus 3; child = record { 0 = 255 }; state = 0; end = 0 }
unfolding told_of number_of refusal_number
refusals_tell = refl
