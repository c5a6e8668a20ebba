-- Text as bytes: words, and decimal numbers.
use Rattle.std.specs.Prelude.{ℕ, zero, suc, ◌+◌, ◌/◌, ◌%◌, true, false, List, [], ◌∷◌, ◌++◌, ltb, ℤ, pos, negsuc}
use Prim.Native.Char.{code}
use Prim.Native.String.{String}
use Rattle.script.specs.Sizes.{most_digits}

-- the bytes of a text
abbrev pub bytes : String → List ℕ
bytes String.[] = []
bytes (String.◌∷◌ c s) = code c ∷ bytes s

abbrev pub line_feed : ℕ
line_feed = 10

abbrev pub space : ℕ
space = 32

abbrev pub minus_sign : ℕ
minus_sign = 45

-- the digit 0; the others follow it, up to 9
abbrev pub digit_0 : ℕ
digit_0 = 48

abbrev pub digit_9 : ℕ
digit_9 = digit_0 + 9

-- ---- decimal numbers: no plus, no needless zeros and no `-0`

-- n in at most k digits
unfoldable pub decimal_in : ℕ → ℕ → List ℕ
decimal_in zero n = []
decimal_in (suc k) n =
    elim (ltb n 10) [ true ↦ (digit_0 + n) ∷ [] | false ↦ decimal_in k (n / 10) ++ (digit_0 + n % 10) ∷ [] ]

-- in as many as a number has at most
unfoldable pub decimal : ℕ → List ℕ
decimal n = decimal_in most_digits n

-- a number below 0 has its sign in front; negsuc n is -(n + 1)
unfoldable pub number : ℤ → List ℕ
number (pos n) = decimal n
number (negsuc n) = minus_sign ∷ decimal (suc n)
