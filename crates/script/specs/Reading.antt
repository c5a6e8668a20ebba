-- How a line is read, word by word. It finds a slot and a call in their one text, and in no other line:
-- specs/Claims.antt says so, and proofs/LineTexts.antt shows it.
use Rattle.std.specs.Prelude.{ℕ, suc, ◌+◌, ◌-◌, ◌*◌, Bool, true, false, List, [], ◌∷◌, eqb, ltb, leb, ℤ, pos, neg_ℤ, length, get_or, take, drop, Option, Some, None}
use Rattle.script.specs.Texts.{bytes, space, minus_sign, digit_0, digit_9}
use Rattle.script.specs.Sizes.{line_bytes, greatest_slot, past_32_bit, most_digits}
use Rattle.script.specs.declared.Asked.{Asked}
use Rattle.table.specs.Tests.{◌and◌, when◌then◌else◌}
use Rattle.table.specs.declared.Call.{Call}
use Rattle.table.specs.declared.Call.TheVariants.{Clone, CloneNew, Unshare, Setns, Kill, Exit, Wait, Getpid, Getppid, Handle, Poll}
use Rattle.table.specs.declared.ProcSlot.{ProcSlot}

-- ---- words

-- how many bytes stand before the first space
unfoldable pub word_length : List ℕ → ℕ
word_length [] = 0
word_length (b ∷ bs) = elim (eqb b space) [ true ↦ 0 | false ↦ suc (word_length bs) ]

-- no space at all
abbrev pub one_word : List ℕ → Bool
one_word l = leb (length l) (word_length l)

abbrev pub first_word : List ℕ → List ℕ
first_word l = take (word_length l) l

abbrev pub later_words : List ℕ → List ℕ
later_words l = drop (suc (word_length l)) l

-- two texts are the same
unfoldable pub same : List ℕ → List ℕ → Bool
same [] [] = true
same [] (c ∷ cs) = false
same (b ∷ bs) [] = false
same (b ∷ bs) (c ∷ cs) = elim (eqb b c) [ true ↦ same bs cs | false ↦ false ]

-- ---- numbers

unfoldable pub is_digit : ℕ → Bool
is_digit b = leb digit_0 b and leb b digit_9

-- the value of digits that follow the digits of n
unfoldable pub natural_from : ℕ → List ℕ → Option ℕ
natural_from n [] = Some n
natural_from n (b ∷ bs) = elim (is_digit b) [ true ↦ natural_from (n * 10 + (b - digit_0)) bs | false ↦ None ]

-- one to ten digits, and 0 comes first only where it stands alone
unfoldable pub read_natural : List ℕ → Option ℕ
read_natural l =
    when eqb (length l) 0 then None else
    when ltb most_digits (length l) then None else
    when eqb (get_or l 0 0) digit_0 then (when eqb (length l) 1 then Some 0 else None) else
    natural_from 0 l

-- a number from 0
unfoldable pub from_zero : Option ℕ → Option ℤ
from_zero None = None
from_zero (Some n) = when ltb n past_32_bit then Some (pos n) else None

-- a number below 0, by what follows its sign
unfoldable pub below_zero : Option ℕ → Option ℤ
below_zero None = None
below_zero (Some n) =
    when eqb n 0 then None else when ltb past_32_bit n then None else Some (neg_ℤ (pos n))

unfoldable pub read_number : List ℕ → Option ℤ
read_number l =
    when eqb (length l) 0 then None else
    when eqb (get_or l 0 0) minus_sign then below_zero (read_natural (drop 1 l)) else
    from_zero (read_natural l)

-- ---- calls

-- a question of the caller about itself
unfoldable pub own_call : List ℕ → Option Call
own_call w =
    when same w (bytes "getpid") then Some Getpid else
    when same w (bytes "getppid") then Some Getppid else
    when same w (bytes "poll") then Some Poll else
    None

-- a call of one word
unfoldable pub plain_call : List ℕ → Option Call
plain_call w =
    when same w (bytes "clone") then Some Clone else
    when same w (bytes "unshare") then Some Unshare else
    when same w (bytes "wait") then Some Wait else
    own_call w

unfoldable pub with_number : List ℕ → Option ℤ → Option Call
with_number w None = None
with_number w (Some n) =
    when same w (bytes "setns") then Some (Setns n) else
    when same w (bytes "exit") then Some (Exit n) else
    None

-- a call of a word and an argument
unfoldable pub call_with : List ℕ → List ℕ → Option Call
call_with w a =
    when same w (bytes "clone") then (when same a (bytes "new") then Some CloneNew else None) else
    with_number w (read_number a)

unfoldable pub kill_call : Option ℤ → Option ℤ → Option Call
kill_call None b = None
kill_call (Some n) None = None
kill_call (Some n) (Some s) = Some (Kill n s)

unfoldable pub handle_call : Option ℤ → List ℕ → Option Call
handle_call None b = None
handle_call (Some s) b =
    when same b (bytes "1") then Some (Handle s true) else
    when same b (bytes "0") then Some (Handle s false) else
    None

-- a call of a word and two arguments
unfoldable pub call_with_two : List ℕ → List ℕ → List ℕ → Option Call
call_with_two w a b =
    when same w (bytes "kill") then kill_call (read_number a) (read_number b) else
    when same w (bytes "handle") then handle_call (read_number a) b else
    None

-- a call and its arguments
unfoldable pub read_call : List ℕ → Option Call
read_call l =
    when one_word l then plain_call l else
    when one_word (later_words l) then call_with (first_word l) (later_words l) else
    call_with_two (first_word l) (first_word (later_words l)) (later_words (later_words l))

-- ---- lines

-- what a good line asks for: a slot and a call
abbrev pub good : ProcSlot → Call → Option Asked
good slot c = Some (record { slot = slot; call = c })

unfoldable pub asked_by : ℕ → Option Call → Option Asked
asked_by n None = None
asked_by n (Some c) = good (record { 0 = n }) c

unfoldable pub after_slot : Option ℕ → List ℕ → Option Asked
after_slot None l = None
after_slot (Some n) l = when ltb greatest_slot n then None else asked_by n (read_call l)

-- a line without its line feed
unfoldable pub read_line : List ℕ → Option Asked
read_line l =
    when ltb line_bytes (length l) then None else
    when one_word l then None else
    after_slot (read_natural (first_word l)) (later_words l)
