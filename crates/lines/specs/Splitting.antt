-- "Each line gives one output line", and "the last line feed may be missing".
use Rattle.std.specs.Prelude.{ℕ, true, false, List, [], ◌∷◌, ◌++◌, ◌≡◌, eqb}
use Rattle.script.specs.Texts.{line_feed}

-- the lines that end within the bytes; l stands before them on their first line
unfoldable pub ended : List ℕ → List ℕ → List (List ℕ)
ended l [] = []
ended l (b ∷ bs) = elim (eqb b line_feed) [ true ↦ l ∷ ended [] bs | false ↦ ended (l ++ b ∷ []) bs ]

-- what stands on the line that they leave open
unfoldable pub left : List ℕ → List ℕ → List ℕ
left l [] = l
left l (b ∷ bs) = elim (eqb b line_feed) [ true ↦ left [] bs | false ↦ left (l ++ b ∷ []) bs ]

-- A last line without its line feed counts if there is a byte on it.
unfoldable pub last_line : List ℕ → List (List ℕ)
last_line [] = []
last_line (b ∷ bs) = (b ∷ bs) ∷ []

-- the lines of an input
unfoldable pub lines : List ℕ → List (List ℕ)
lines input = ended [] input ++ last_line (left [] input)

-- ---- an input in chunks

unfoldable pub whole : List (List ℕ) → List ℕ
whole [] = []
whole (c ∷ cs) = c ++ whole cs

-- the lines chunk by chunk, the open line carried on from each to the next
unfoldable pub lines_by_chunks : List ℕ → List (List ℕ) → List (List ℕ)
lines_by_chunks l [] = last_line l
lines_by_chunks l (c ∷ cs) = ended l c ++ lines_by_chunks (left l c) cs

-- For any way of cutting the input the lines are the same.
abbrev pub CutsMakeNoDifference : Type 0
CutsMakeNoDifference = (chunks : List (List ℕ)) → lines_by_chunks [] chunks ≡ lines (whole chunks)
