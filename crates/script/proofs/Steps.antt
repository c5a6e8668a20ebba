-- The cases of the reader's definitions as equations.
use Rattle.std.specs.Prelude.{Some, None}
use Prim.Native.Nat.{ℕ, ◌<◌, ◌≤◌}
use mathlib.Core.List.{List}
use mathlib.Core.Path.{◌≡◌, ◌∙◌}
use borrow.Author.Tests.{eq-eqb, ne_eqb, lt-ltb, le-ltb, le-leb, lt-leb}
use lib.Dec.{eqb, ltb}
use lib.ListN.{length, get_or, drop}
use Rattle.script.specs.Sizes.{line_bytes, most_digits}
use Rattle.script.specs.Reading.{word_length, first_word, later_words, one_word, natural_from, read_natural, from_zero, below_zero, read_number, plain_call, call_with, call_with_two, read_call, after_slot, read_line}
use Rattle.script.specs.Texts.{minus_sign, digit_0}
use Rattle.table.proofs.Chains.{pick_yes, pick_no}

-- ---- the value of digits

pub natural_none : (l : List ℕ) → length l ≡ 0 → read_natural l ≡ None
unfolding read_natural
natural_none l z = pick_yes (eqb (length l) 0) None _ (eq-eqb (length l) 0 z)

pub natural_long : (l : List ℕ) → (length l ≡ 0 → ⊥) → most_digits < length l → read_natural l ≡ None
unfolding read_natural
natural_long l z h =
    pick_no (eqb (length l) 0) None _ (ne_eqb (length l) 0 z) ∙ pick_yes (ltb most_digits (length l)) None _ (lt-ltb most_digits (length l) h)

pub natural_padded : (l : List ℕ) → (length l ≡ 0 → ⊥) → length l ≤ most_digits → get_or l 0 0 ≡ digit_0 → (length l ≡ 1 → ⊥) → read_natural l ≡ None
unfolding read_natural
natural_padded l z h f o =
    pick_no (eqb (length l) 0) None _ (ne_eqb (length l) 0 z)
    ∙ pick_no (ltb most_digits (length l)) None _ (le-ltb most_digits (length l) h)
    ∙ pick_yes (eqb (get_or l 0 0) digit_0) _ (natural_from 0 l) (eq-eqb (get_or l 0 0) digit_0 f)
    ∙ pick_no (eqb (length l) 1) (Some 0) None (ne_eqb (length l) 1 o)

pub natural_lone : (l : List ℕ) → (length l ≡ 0 → ⊥) → length l ≤ most_digits → get_or l 0 0 ≡ digit_0 → length l ≡ 1 → read_natural l ≡ Some 0
unfolding read_natural
natural_lone l z h f o =
    pick_no (eqb (length l) 0) None _ (ne_eqb (length l) 0 z)
    ∙ pick_no (ltb most_digits (length l)) None _ (le-ltb most_digits (length l) h)
    ∙ pick_yes (eqb (get_or l 0 0) digit_0) _ (natural_from 0 l) (eq-eqb (get_or l 0 0) digit_0 f)
    ∙ pick_yes (eqb (length l) 1) (Some 0) None (eq-eqb (length l) 1 o)

pub natural_plain : (l : List ℕ) → (length l ≡ 0 → ⊥) → length l ≤ most_digits → (get_or l 0 0 ≡ digit_0 → ⊥) → read_natural l ≡ natural_from 0 l
unfolding read_natural
natural_plain l z h f =
    pick_no (eqb (length l) 0) None _ (ne_eqb (length l) 0 z)
    ∙ pick_no (ltb most_digits (length l)) None _ (le-ltb most_digits (length l) h)
    ∙ pick_no (eqb (get_or l 0 0) digit_0) _ (natural_from 0 l) (ne_eqb (get_or l 0 0) digit_0 f)

-- ---- a number

pub empty_number : (l : List ℕ) → length l ≡ 0 → read_number l ≡ None
unfolding read_number
empty_number l z = pick_yes (eqb (length l) 0) None _ (eq-eqb (length l) 0 z)

pub signed_number : (l : List ℕ) → (length l ≡ 0 → ⊥) → get_or l 0 0 ≡ minus_sign → read_number l ≡ below_zero (read_natural (drop 1 l))
unfolding read_number
signed_number l z e =
    pick_no (eqb (length l) 0) None _ (ne_eqb (length l) 0 z)
    ∙ pick_yes (eqb (get_or l 0 0) minus_sign) (below_zero (read_natural (drop 1 l))) (from_zero (read_natural l)) (eq-eqb (get_or l 0 0) minus_sign e)

pub unsigned_number : (l : List ℕ) → (length l ≡ 0 → ⊥) → (get_or l 0 0 ≡ minus_sign → ⊥) → read_number l ≡ from_zero (read_natural l)
unfolding read_number
unsigned_number l z e =
    pick_no (eqb (length l) 0) None _ (ne_eqb (length l) 0 z)
    ∙ pick_no (eqb (get_or l 0 0) minus_sign) (below_zero (read_natural (drop 1 l))) (from_zero (read_natural l)) (ne_eqb (get_or l 0 0) minus_sign e)

-- ---- a call

pub of_one_word : (l : List ℕ) → length l ≤ word_length l → read_call l ≡ plain_call l
unfolding read_call
of_one_word l h = pick_yes (one_word l) (plain_call l) _ (le-leb (length l) (word_length l) h)

pub of_two_words : (l : List ℕ) → word_length l < length l → length (later_words l) ≤ word_length (later_words l) → read_call l ≡ call_with (first_word l) (later_words l)
unfolding read_call
of_two_words l h k =
    pick_no (one_word l) (plain_call l) _ (lt-leb (length l) (word_length l) h)
    ∙ pick_yes (one_word (later_words l)) (call_with (first_word l) (later_words l)) _ (le-leb (length (later_words l)) (word_length (later_words l)) k)

pub of_more_words : (l : List ℕ) → word_length l < length l → word_length (later_words l) < length (later_words l) → read_call l ≡ call_with_two (first_word l) (first_word (later_words l)) (later_words (later_words l))
unfolding read_call
of_more_words l h k =
    pick_no (one_word l) (plain_call l) _ (lt-leb (length l) (word_length l) h)
    ∙ pick_no (one_word (later_words l)) (call_with (first_word l) (later_words l)) _ (lt-leb (length (later_words l)) (word_length (later_words l)) k)

-- ---- a line

pub too_long : (l : List ℕ) → line_bytes < length l → read_line l ≡ None
unfolding read_line
too_long l h = pick_yes (ltb line_bytes (length l)) None _ (lt-ltb line_bytes (length l) h)

pub no_call : (l : List ℕ) → length l ≤ line_bytes → length l ≤ word_length l → read_line l ≡ None
unfolding read_line
no_call l h k =
    pick_no (ltb line_bytes (length l)) None _ (le-ltb line_bytes (length l) h)
    ∙ pick_yes (one_word l) None (after_slot (read_natural (first_word l)) (later_words l)) (le-leb (length l) (word_length l) k)

pub slot_and_call : (l : List ℕ) → length l ≤ line_bytes → word_length l < length l → read_line l ≡ after_slot (read_natural (first_word l)) (later_words l)
unfolding read_line
slot_and_call l h k =
    pick_no (ltb line_bytes (length l)) None _ (le-ltb line_bytes (length l) h)
    ∙ pick_no (one_word l) None (after_slot (read_natural (first_word l)) (later_words l)) (lt-leb (length l) (word_length l) k)
