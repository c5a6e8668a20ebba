-- What is claimed of the reader: it finds a slot and a call in their one text, and in no other line.
use Rattle.std.specs.Prelude.{ℕ, ◌<◌, ◌^◌, List, ◌↔◌, ◌≡◌, Some}
use Rattle.script.specs.Lines.{line_of, FitsALine}
use Rattle.script.specs.Reading.{read_natural, good, read_line}
use Rattle.script.specs.Sizes.{most_digits}
use Rattle.script.specs.Texts.{decimal}
use Rattle.table.specs.declared.Call.{Call}
use Rattle.table.specs.declared.ProcSlot.{ProcSlot}

-- Reading and writing decimals are inverse.
abbrev pub DecimalsAreRead : Type 0
DecimalsAreRead = (n : ℕ) → n < 10 ^ most_digits → read_natural (decimal n) ≡ Some n

abbrev pub OnlyDecimalsAreRead : Type 0
OnlyDecimalsAreRead = (l : List ℕ) (n : ℕ) → read_natural l ≡ Some n → l ≡ decimal n

-- The text of a slot and a call is read as them.
abbrev pub TextsAreRead : Type 0
TextsAreRead = (slot : ProcSlot) (c : Call) → FitsALine slot.0 c → read_line (line_of slot.0 c) ≡ good slot c

-- What is read as a slot and a call is their text, and they are ones that a line may have.
abbrev pub OnlyTextsAreRead : Type 0
OnlyTextsAreRead =
    (l : List ℕ) (slot : ProcSlot) (c : Call) → read_line l ≡ good slot c → (l ≡ line_of slot.0 c) × FitsALine slot.0 c

-- Both at once: a line is read as a slot and a call exactly if it is their text.
abbrev pub ExactlyTextsAreRead : Type 0
ExactlyTextsAreRead =
    (l : List ℕ) (slot : ProcSlot) (c : Call)
    → (read_line l ≡ good slot c) ↔ ((l ≡ line_of slot.0 c) × FitsALine slot.0 c)
