-- The lines that are written.
use Rattle.std.specs.Prelude.{ℕ, ◌+◌, ◌≤◌, List, [], ◌∷◌, ◌++◌, ◌≡◌, length, take, drop}
use Rattle.std.proofs.Math.Option.{Option, none, some}
use Rattle.arrayvec.specs.ArrayString.{ArrayString}
use Rattle.script.specs.Sizes.{answer_bytes}
use Rattle.script.specs.Texts.{bytes, line_feed, decimal, number}
use Rattle.rules.specs.Answers.{number_of, end_of}
use Rattle.table.specs.declared.Answer.{Answer}
use Rattle.table.specs.declared.End.{End}
use Rattle.table.specs.declared.End.TheVariants.{Exited, Signaled}

-- "For a wait that removed something ` gave S` or ` signal S`."
unfoldable pub end_text : End → List ℕ
end_text (Exited s) = bytes " gave " ++ decimal s
end_text (Signaled s) = bytes " signal " ++ decimal s

unfoldable pub removed_text : Option End → List ℕ
removed_text none = []
removed_text (some e) = end_text e

-- "Each line gives one output line: the answer, .."
unfoldable pub answer_line : Answer → List ℕ
answer_line a = number (number_of a) ++ removed_text (end_of a) ++ line_feed ∷ []

-- "Any other line, an empty one included, gives `?`."
unfoldable pub bad_line : List ℕ
bad_line = bytes "?" ++ line_feed ∷ []

-- ---- a text in the code

-- t holds the bytes l and no more
pub record Written (t : ArrayString) (l : List ℕ) : Type 0 where
  pub room : length t.bytes ≤ answer_bytes
  pub holds : t.bytes ≡ l

-- What a lent buffer holds after a text was copied into it from place `at` on, and the place after it: the text there,
-- and all else as before.
pub record Copied (text : List ℕ) (at : ℕ) (before after : List ℕ) (next : ℕ) : Type 0 where
  pub place : next ≡ at + length text
  pub holds : after ≡ take at before ++ text ++ drop next before
