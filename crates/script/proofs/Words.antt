-- A line is its words with single spaces between them, both ways.
use Prim.Native.Nat.{ℕ, suc, ◌<◌}
use mathlib.Core.List.{List, [], ◌∷◌, ◌++◌}
use mathlib.Core.Path.{◌≡◌, refl, sym, ap, ap₂, ◌∙◌}
use borrow.Author.Tests.{eqb-true, eqb-false}
use lib.Dec.{eqb}
use lib.ListN.{length, get_or, take, drop, length-append}
use lib.Seq.{take-append_seam, drop-append-add, split_at}
use native.Mathlib.Numerals.{add-one}
use native.Mathlib.Omega.{arith}
use Rattle.script.proofs.Scans.{word_ends, word_goes_on, word_none}
use Rattle.script.proofs.Steps.{of_two_words, of_more_words}
use Rattle.script.specs.Reading.{word_length, first_word, later_words, call_with, call_with_two, read_call}
use Rattle.script.specs.Texts.{space}
use Rattle.table.proofs.Chains.{by_bool}

-- ---- from words to a line

-- a text with no space in it
abbrev pub Unbroken : List ℕ → Type 0
Unbroken w = word_length w ≡ length w

pub word_before : (w r : List ℕ) → Unbroken w → word_length (w ++ space ∷ r) ≡ length w
word_before [] r e = word_ends space r refl
word_before (b ∷ bs) r e =
    by_bool (eqb b space)
    (λ q.
    let z = word_ends b bs (eqb-true b space q) in
    absurd (omega arith))
    (λ q.
    let f = eqb-false b space q in
    let u = word_goes_on b bs f in
    let h : Unbroken bs = omega arith in
    word_goes_on b (bs ++ space ∷ r) f ∙ ap suc (word_before bs r h))

pub first_of : (w r : List ℕ) → Unbroken w → first_word (w ++ space ∷ r) ≡ w
first_of w r e = ap (λ n. take n (w ++ space ∷ r)) (word_before w r e) ∙ take-append_seam w (space ∷ r)

pub later_of : (w r : List ℕ) → Unbroken w → later_words (w ++ space ∷ r) ≡ r
later_of w r e =
    ap (λ n. drop n (w ++ space ∷ r)) (ap suc (word_before w r e) ∙ sym (add-one (length w))) ∙ drop-append-add w (space ∷ r) 1

pub broken : (w r : List ℕ) → Unbroken w → word_length (w ++ space ∷ r) < length (w ++ space ∷ r)
broken w r e =
    let h = word_before w r e in
    let l = length-append w (space ∷ r) in
    omega arith

pub read_one : (w a : List ℕ) → Unbroken w → Unbroken a → read_call (w ++ space ∷ a) ≡ call_with w a
read_one w a e f =
    let l = later_of w a e in
    let x = ap length l in
    let y = ap word_length l in
    of_two_words (w ++ space ∷ a) (broken w a e) (omega arith) ∙ ap₂ call_with (first_of w a e) l

pub read_two : (w a b : List ℕ) → Unbroken w → Unbroken a → read_call (w ++ space ∷ (a ++ space ∷ b)) ≡ call_with_two w a b
read_two w a b e f =
    let r : List ℕ = a ++ space ∷ b in
    let l : later_words (w ++ space ∷ r) ≡ r = later_of w r e in
    let x = ap length l in
    let y = ap word_length l in
    let z = broken a b f in
    of_more_words (w ++ space ∷ r) (broken w r e) (omega arith)
    ∙ (λ j. call_with_two (first_of w r e j) ((ap first_word l ∙ first_of a b f) j) ((ap later_words l ∙ later_of a b f) j))

-- ---- from a line to its words

word_stops : (l : List ℕ) → word_length l < length l → get_or l (word_length l) 0 ≡ space
word_stops [] h = absurd (omega (arith, word_none))
word_stops (b ∷ bs) h =
    by_bool (eqb b space)
    (λ q.
    let s = eqb-true b space q in
    ap (λ n. get_or (b ∷ bs) n 0) (word_ends b bs s) ∙ s)
    (λ q.
    let u = word_goes_on b bs (eqb-false b space q) in
    ap (λ n. get_or (b ∷ bs) n 0) u ∙ word_stops bs (omega arith))

pub joined : (l : List ℕ) → word_length l < length l → l ≡ first_word l ++ space ∷ later_words l
joined l h = split_at l (word_length l) 0 h ∙ ap (λ b. first_word l ++ b ∷ later_words l) (word_stops l h)
