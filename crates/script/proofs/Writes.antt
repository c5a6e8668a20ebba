-- Writing a text piece by piece: the room for each piece, and what stands there after it.
use Prim.Native.Nat.{ℕ, ◌≤◌, ◌+◌}
use mathlib.Core.List.{List, [], ◌∷◌, ◌++◌, append-nil, append_assoc}
use mathlib.Core.Path.{◌≡◌, sym, ap, ◌∙◌}
use lib.ListN.{length, length-append}
use mir.Syntax.{w32}
use mir.Val.{Fits}
use native.Mathlib.Omega.{arith}
use Rattle.std.specs.Prelude.{decimal as library_decimal}
use Rattle.std.proofs.Math.Option.{Option, none, some}
use Rattle.arrayvec.specs.ArrayString.{ArrayString}
use Rattle.script.proofs.Arguments.{number_length}
use Rattle.script.proofs.Decimals.{decimal_library, decimal_length}
use Rattle.script.specs.Outputs.{end_text, removed_text, answer_line, bad_line, Written}
use Rattle.script.specs.Sizes.{answer_bytes, most_digits}
use Rattle.script.specs.Texts.{bytes, line_feed, minus_sign, decimal, number}
use Rattle.rules.specs.Answers.{refusal_number, number_of, end_of}
use Rattle.table.specs.declared.Answer.{Answer}
use Rattle.table.specs.declared.Answer.TheVariants.{Refused, Number, Reaped}
use Rattle.table.specs.declared.End.{End}
use Rattle.table.specs.declared.End.TheVariants.{Exited, Signaled}
use Rattle.table.specs.declared.Pid.{Pid}
use Rattle.table.specs.declared.Refusal.{Refusal}

-- ---- a decimal number, of which d is the library's text

pub decimal_room : (b d : List ℕ) (n : ℕ) → Fits w32 n → length b + length (decimal n) ≤ answer_bytes → d ≡ library_decimal n → length b + length d ≤ answer_bytes
decimal_room b d n f h e = let k = ap length (e ∙ decimal_library n f) in omega arith

pub decimal_put : (b d c : List ℕ) (n : ℕ) → Fits w32 n → c ≡ b ++ d → d ≡ library_decimal n → c ≡ b ++ decimal n
decimal_put b d c n f p e = p ∙ ap (λ l. b ++ l) (e ∙ decimal_library n f)

pub ruleset decimal_pushes = (decimal_room, decimal_put)

-- ---- how a process ended

pub gave_room : (a b : List ℕ) (s : ℕ) → length a ≤ most_digits → b ≡ a ++ bytes " gave " → length b + length (decimal s) ≤ answer_bytes
gave_room a b s h e =
    let x = ap length e ∙ length-append a (bytes " gave ") in
    let y = decimal_length s in
    omega arith

pub signal_room : (a b : List ℕ) (s : ℕ) → length a ≤ most_digits → b ≡ a ++ bytes " signal " → length b + length (decimal s) ≤ answer_bytes
signal_room a b s h e =
    let x = ap length e ∙ length-append a (bytes " signal ") in
    let y = decimal_length s in
    omega arith

pub gave_text : (a b c : List ℕ) (e : End) (s : ℕ) → e ≡ Exited s → b ≡ a ++ bytes " gave " → c ≡ b ++ decimal s → c ≡ a ++ end_text e
unfolding end_text
gave_text a b c e s q p r =
    r ∙ ap (λ l. l ++ decimal s) p ∙ append_assoc a (bytes " gave ") (decimal s) ∙ sym (ap (λ d. a ++ end_text d) q)

pub signal_text : (a b c : List ℕ) (e : End) (s : ℕ) → e ≡ Signaled s → b ≡ a ++ bytes " signal " → c ≡ b ++ decimal s → c ≡ a ++ end_text e
unfolding end_text
signal_text a b c e s q p r =
    r ∙ ap (λ l. l ++ decimal s) p ∙ append_assoc a (bytes " signal ") (decimal s) ∙ sym (ap (λ d. a ++ end_text d) q)

pub ruleset end_pushes = (gave_room, signal_room, gave_text, signal_text)

end_length : (e : End) → length (end_text e) ≤ 18
unfolding end_text
end_length (Exited s) = let h = decimal_length s in omega arith
end_length (Signaled s) = let h = decimal_length s in omega arith

-- ---- an answer, in a text a that is empty

abbrev words : Answer → List ℕ
words a = number (number_of a) ++ removed_text (end_of a)

pub empty_room : (a : List ℕ) (n : ℕ) → a ≡ [] → length a + length (decimal n) ≤ answer_bytes
empty_room a n z =
    let h = decimal_length n in
    let x = ap length z in
    omega arith

pub sign_room : (a b : List ℕ) (n : ℕ) → a ≡ [] → b ≡ a ++ minus_sign ∷ [] → length b + length (decimal n) ≤ answer_bytes
sign_room a b n z p =
    let h = decimal_length n in
    let x = ap length (p ∙ ap (λ l. l ++ minus_sign ∷ []) z) in
    omega arith

pub end_room : (a b : List ℕ) (n : ℕ) → a ≡ [] → b ≡ a ++ decimal n → length b ≤ most_digits
end_room a b n z p =
    let h = decimal_length n in
    let x = ap length (p ∙ ap (λ l. l ++ decimal n) z) in
    omega arith

pub number_words : (w : Answer) (n : ℕ) (a b : List ℕ) → w ≡ Number n → a ≡ [] → b ≡ a ++ decimal n → b ≡ words w
unfolding number_of end_of removed_text number
number_words w n a b q z p = p ∙ ap (λ l. l ++ decimal n) z ∙ sym (append-nil (decimal n)) ∙ sym (ap words q)

pub removed_words : (w : Answer) (p : Pid) (e : End) (a b c : List ℕ) → w ≡ Reaped p e → a ≡ [] → b ≡ a ++ decimal p.0 → c ≡ b ++ end_text e → c ≡ words w
unfolding number_of end_of removed_text number
removed_words w p e a b c q z r s =
    s ∙ ap (λ l. l ++ end_text e) (r ∙ ap (λ l. l ++ decimal p.0) z) ∙ sym (ap words q)

pub refused_words : (w : Answer) (r : Refusal) (n : ℕ) (a b c : List ℕ) → w ≡ Refused r → number (refusal_number r) ≡ minus_sign ∷ decimal n → a ≡ [] → b ≡ a ++ minus_sign ∷ [] → c ≡ b ++ decimal n → c ≡ words w
unfolding number_of end_of removed_text
refused_words w r n a b c q m z p s =
    s ∙ ap (λ l. l ++ decimal n) (p ∙ ap (λ l. l ++ minus_sign ∷ []) z)
    ∙ sym m ∙ sym (append-nil (number (refusal_number r))) ∙ sym (ap words q)

pub ruleset answer_pushes = (empty_room, sign_room, end_room, number_words, removed_words, refused_words)

-- ---- and its line feed

removed_length : (e : Option End) → length (removed_text e) ≤ 18
unfolding removed_text
removed_length none = omega arith
removed_length (some e) = end_length e

words_length : (w : Answer) → length (words w) ≤ 29
words_length w =
    let a = number_length (number_of w) in
    let b = removed_length (end_of w) in
    let c = length-append (number (number_of w)) (removed_text (end_of w)) in
    omega arith

pub feed_room : (w : Answer) (b : List ℕ) → b ≡ words w → length b + 1 ≤ answer_bytes
feed_room w b p =
    let x = ap length p in
    let y = words_length w in
    omega arith

pub answer_written : (w : Answer) (t u : ArrayString) → t.bytes ≡ words w → u.bytes ≡ t.bytes ++ line_feed ∷ [] → Written u (answer_line w)
unfolding answer_line
answer_written w t u p q =
    let x = ap length q ∙ length-append t.bytes (line_feed ∷ []) in
    let y = feed_room w t.bytes p in
    record { room = omega arith; holds = q ∙ ap (λ l. l ++ line_feed ∷ []) p }

pub bad_written : (t u : ArrayString) → t.bytes ≡ [] → u.bytes ≡ t.bytes ++ bytes "?\n" → Written u bad_line
unfolding bad_line
bad_written t u z p =
    let e : u.bytes ≡ bytes "?\n" = p ∙ ap (λ l. l ++ bytes "?\n") z in
    let x = ap length e in
    record { room = omega arith; holds = e }

-- no answer is longer than the room for one
pub answer_short : (w : Answer) → length (answer_line w) ≤ answer_bytes
unfolding answer_line
answer_short w =
    let a = words_length w in
    let b = length-append (words w) (line_feed ∷ []) in
    omega arith
