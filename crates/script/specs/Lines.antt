-- The one text of a slot and a call. A line of a script is good exactly if it is such a text.
use Rattle.std.specs.Prelude.{ℕ, ◌<◌, ◌≤◌, Bool, true, false, List, ◌∷◌, ◌++◌, ℤ, pos, negsuc}
use Rattle.script.specs.Sizes.{greatest_slot, past_32_bit}
use Rattle.script.specs.Texts.{bytes, space, decimal, number}
use Rattle.table.specs.declared.Call.{Call}
use Rattle.table.specs.declared.Call.TheVariants.{Clone, CloneNew, Unshare, Setns, Kill, Exit, Wait, Getpid, Getppid, Handle, Poll}

-- "The second argument of handle is 0 or 1."
unfoldable pub switch : Bool → List ℕ
switch true = bytes "1"
switch false = bytes "0"

-- the call and its arguments, single spaces between them
unfoldable pub call_text : Call → List ℕ
call_text Clone = bytes "clone"
call_text CloneNew = bytes "clone new"
call_text Unshare = bytes "unshare"
call_text (Setns n) = bytes "setns " ++ number n
call_text (Kill n s) = bytes "kill " ++ number n ++ space ∷ number s
call_text (Exit s) = bytes "exit " ++ number s
call_text Wait = bytes "wait"
call_text Getpid = bytes "getpid"
call_text Getppid = bytes "getppid"
call_text (Handle s on) = bytes "handle " ++ number s ++ space ∷ switch on
call_text Poll = bytes "poll"

-- a line: slot, call and arguments
unfoldable pub line_of : ℕ → Call → List ℕ
line_of slot c = decimal slot ++ space ∷ call_text c

-- ---- which slots and arguments a line may have

abbrev pub Is32Bit : ℤ → Type 0
Is32Bit (pos n) = n < past_32_bit
Is32Bit (negsuc n) = n < past_32_bit

abbrev pub ArgumentsFit : Call → Type 0
ArgumentsFit Clone = Unit {0}
ArgumentsFit CloneNew = Unit {0}
ArgumentsFit Unshare = Unit {0}
ArgumentsFit (Setns n) = Is32Bit n
ArgumentsFit (Kill n s) = Is32Bit n × Is32Bit s
ArgumentsFit (Exit s) = Is32Bit s
ArgumentsFit Wait = Unit {0}
ArgumentsFit Getpid = Unit {0}
ArgumentsFit Getppid = Unit {0}
ArgumentsFit (Handle s on) = Is32Bit s
ArgumentsFit Poll = Unit {0}

pub record FitsALine (slot : ℕ) (c : Call) : Type 0 where
  pub slot_fits : slot ≤ greatest_slot
  pub arguments_fit : ArgumentsFit c
