-- The sizes of lines and of the numbers on them, each named once.
use Rattle.std.specs.Prelude.{ℕ}

-- "At most 64 bytes without the line feed."
abbrev pub line_bytes : ℕ
line_bytes = 64

-- Room for an answer and its line feed, in the code and in a host's buffer. No answer is longer.
abbrev pub answer_bytes : ℕ
answer_bytes = 32

-- "A slot is 0 to 255."
abbrev pub greatest_slot : ℕ
greatest_slot = 255

-- "Arguments are signed 32-bit": -2147483648 to 2147483647.
abbrev pub past_32_bit : ℕ
past_32_bit = 2147483648

-- Ten digits are enough for a 32-bit number.
abbrev pub most_digits : ℕ
most_digits = 10
