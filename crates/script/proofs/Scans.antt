-- How the reader goes over bytes: to the first space, through two texts, and over digits. The loop over digits has a
-- record, its invariant, and laws for its first turn, a next turn and each way out.
use Rattle.std.specs.Prelude.{Some, None, ◌==◌, position, bytes_eq, cond, ◌&&◌}
use Rattle.std.specs.Char.{is_ascii_digit}
use Rattle.std.specs.List.{position_or_len}
use Rattle.std.proofs.lemmas.List.Recursion.{is_position_or_len}
use Rattle.std.proofs.lemmas.Option.{cond_some, none-some}
use Prim.Native.Nat.{ℕ, suc, ◌<◌, ◌≤◌, ◌+◌, ◌-◌, ◌*◌, ◌^◌}
use mathlib.Core.Bool.{Bool, true, false, false≢true}
use mathlib.Core.List.{List, [], ◌∷◌}
use mathlib.Core.Path.{◌≡◌, refl, sym, ap, ◌∙◌}
use borrow.Author.Tests.{eq-eqb, ne_eqb, le-leb, eqb-true, ltb-true, ltb-false, leb-true}
use lib.Dec.{eqb, leb}
use lib.ListN.{length, get_or, take, drop, length-drop, drop_of_length-le}
use lib.Seq.{drop-cons, take_all}
use native.Mathlib.Nat.{pow-suc}
use native.Mathlib.Numerals.{add-one}
use native.Mathlib.Omega.{arith}
use Rattle.script.specs.Reading.{word_length, first_word, later_words, same, is_digit, natural_from}
use Rattle.script.specs.Texts.{space, digit_0, digit_9}
use Rattle.table.specs.Tests.{◌and◌}
use Rattle.table.proofs.Chains.{by_bool, pick_yes, pick_no, and_true}

-- ---- the end of a word

pub word_ends : (b : ℕ) (bs : List ℕ) → b ≡ space → word_length (b ∷ bs) ≡ 0
unfolding word_length
word_ends b bs e = pick_yes (eqb b space) 0 (suc (word_length bs)) (eq-eqb b space e)

pub word_goes_on : (b : ℕ) (bs : List ℕ) → (b ≡ space → ⊥) → word_length (b ∷ bs) ≡ suc (word_length bs)
unfolding word_length
word_goes_on b bs e = pick_no (eqb b space) 0 (suc (word_length bs)) (ne_eqb b space e)

pub word_none : word_length [] ≡ 0
unfolding word_length
word_none = refl

-- the length of a word by the library's search
word_first : (l : List ℕ) → word_length l ≡ position_or_len (λ b. b == space) l
unfolding word_length
word_first = is_position_or_len word_length (λ b. b == space) refl (λ b bs. go (eqb b space) (word_length bs))
  where
    go : (t : Bool) (n : ℕ) → (elim t as (λ _. ℕ) [ true ↦ 0 | false ↦ suc n ]) ≡ cond t 0 (1 + n)
    go true n = refl
    go false n = omega arith

-- a space that is found ends the first word
space_found : (l : List ℕ) (n : ℕ) → Some n ≡ position (λ b. b == space) l → (n ≡ word_length l) × (word_length l < length l)
space_found l n e =
    let w = word_first l in
    let p = cond_some _ _ _ (sym e) in
    let h = ltb-true _ _ p.0 in
    (sym (w ∙ p.1), omega arith)

pub space_missing : (l : List ℕ) → None ≡ position (λ b. b == space) l → length l ≤ word_length l
space_missing l e =
    let w = word_first l in
    let h = ltb-false _ _ (go _ _ e) in
    omega arith
  where
    go : (t : Bool) (n : ℕ) → None ≡ cond t (Some n) None → t ≡ false
    go true n e = absurd (none-some n e)
    go false n e = refl

-- the part from a place on, as code slices it
pub part_from : (l : List ℕ) (a : ℕ) → take (length l - a) (drop a l) ≡ drop a l
part_from l a =
    let h : length (drop a l) ≤ length l - a = omega (arith, length-drop a l) in
    take_all (length l - a) (drop a l) h

-- the two parts of a text with a space
pub space_parts : (l : List ℕ) (n : ℕ) → Some n ≡ position (λ b. b == space) l → (word_length l < length l) × (take n l ≡ first_word l) × (take (length l - (n + 1)) (drop (n + 1) l) ≡ later_words l)
space_parts l n e =
    let f = space_found l n e in
    (f.1, ap (λ k. take k l) f.0, part_from l (n + 1) ∙ ap (λ k. drop k l) (add-one n ∙ ap suc f.0))

-- ---- two texts

same_goes_on : (x y : ℕ) (xs ys : List ℕ) → x ≡ y → same (x ∷ xs) (y ∷ ys) ≡ same xs ys
unfolding same
same_goes_on x y xs ys e = pick_yes (eqb x y) (same xs ys) false (eq-eqb x y e)

same_none : same [] [] ≡ true
unfolding same
same_none = refl

pub same_true : (a b : List ℕ) → same a b ≡ true → a ≡ b
unfolding same
same_true [] [] e = refl
same_true [] (y ∷ ys) e = absurd (false≢true e)
same_true (x ∷ xs) [] e = absurd (false≢true e)
same_true (x ∷ xs) (y ∷ ys) e =
    by_bool (eqb x y)
    (λ q.
    let h = eqb-true x y q in
    let t = same_true xs ys (sym (same_goes_on x y xs ys h) ∙ e) in
    cc)
    (λ q. absurd (false≢true (sym (pick_no (eqb x y) (same xs ys) false q) ∙ e)))

pub same_refl : (a : List ℕ) → same a a ≡ true
same_refl [] = same_none
same_refl (x ∷ xs) = same_goes_on x x xs xs refl ∙ same_refl xs

-- what `==` says of two texts
pub same_is : (a b : List ℕ) (r : Bool) → r ≡ bytes_eq a b → r ≡ same a b
unfolding same
same_is a b r e = e ∙ both a b
  where
    go : (t x y : Bool) → x ≡ y → (t && x) ≡ (elim t as (λ _. Bool) [ true ↦ y | false ↦ false ])
    go true x y p = p
    go false x y p = refl

    both : (a b : List ℕ) → bytes_eq a b ≡ same a b
    both [] [] = refl
    both [] (y ∷ ys) = refl
    both (x ∷ xs) [] = refl
    both (x ∷ xs) (y ∷ ys) = go (eqb x y) (bytes_eq xs ys) (same xs ys) (both xs ys)

-- ---- digits

pub digit_is : (b : ℕ) → digit_0 ≤ b → b ≤ digit_9 → is_digit b ≡ true
unfolding is_digit
digit_is b l h = and_true (leb digit_0 b) (leb b digit_9) (le-leb digit_0 b l) (le-leb b digit_9 h)

-- the library's test is the definition's
digit_test : (b : ℕ) → is_ascii_digit b ≡ is_digit b
unfolding is_digit ◌and◌
digit_test b = go (leb digit_0 b) (leb b digit_9)
  where
    go : (x y : Bool) → (x && y) ≡ x and y
    go true y = refl
    go false y = refl

digit_bounds : (b : ℕ) → is_ascii_digit b ≡ true → (digit_0 ≤ b) × (b ≤ digit_9)
digit_bounds b e = go (leb digit_0 b) (leb b digit_9) refl refl e
  where
    go : (x y : Bool) → leb digit_0 b ≡ x → leb b digit_9 ≡ y → (x && y) ≡ true → (digit_0 ≤ b) × (b ≤ digit_9)
    go true true p q t = (leb-true digit_0 b p, leb-true b digit_9 q)
    go true false p q t = absurd (false≢true t)
    go false y p q t = absurd (false≢true t)

pub digit_goes_on : (n b : ℕ) (bs : List ℕ) → is_digit b ≡ true → natural_from n (b ∷ bs) ≡ natural_from (n * 10 + (b - digit_0)) bs
unfolding natural_from
digit_goes_on n b bs e = pick_yes (is_digit b) (natural_from (n * 10 + (b - digit_0)) bs) None e

pub digit_stops : (n b : ℕ) (bs : List ℕ) → is_digit b ≡ false → natural_from n (b ∷ bs) ≡ None
unfolding natural_from
digit_stops n b bs e = pick_no (is_digit b) (natural_from (n * 10 + (b - digit_0)) bs) None e

pub digits_none : (n : ℕ) → natural_from n [] ≡ Some n
unfolding natural_from
digits_none n = refl

-- the value so far has as many digits as were read
pub record Valued (s : List ℕ) (n i : ℕ) : Type 0 where
  pub within : i ≤ length s
  pub small : n < 10 ^ i
  pub rest : natural_from 0 s ≡ natural_from n (drop i s)

pub value_starts : (s : List ℕ) → Valued s 0 0
value_starts s = record { within = omega arith; small = omega arith; rest = refl }

pub value_next : (s : List ℕ) (n i : ℕ) (r : Bool) → Valued s n i → i < length s → r ≡ is_ascii_digit (get_or s i 0) → r ≡ true → Valued s (n * 10 + (get_or s i 0 - digit_0)) (i + 1)
value_next s n i r k h e t =
    let q = digit_goes_on n (get_or s i 0) (drop (suc i) s) (sym (digit_test (get_or s i 0)) ∙ sym e ∙ t) in
    let d = digit_bounds (get_or s i 0) (sym e ∙ t) in
    let a = d.0 in
    let b = d.1 in
    let w = k.small in
    let p = pow-suc 10 i in
    record {
      within = omega arith;
      small = rw add-one (omega arith);
      rest = k.rest ∙ rw (add-one, drop-cons s i 0 h) q;
    }

pub value_out : (s : List ℕ) (n i : ℕ) (r : Bool) → Valued s n i → i < length s → r ≡ is_ascii_digit (get_or s i 0) → r ≡ false → None ≡ natural_from 0 s
value_out s n i r k h e t =
    let q = digit_stops n (get_or s i 0) (drop (suc i) s) (sym (digit_test (get_or s i 0)) ∙ sym e ∙ t) in
    sym (k.rest ∙ rw (drop-cons s i 0 h) q)

pub value_over : (s : List ℕ) (n i : ℕ) → Valued s n i → length s ≤ i → Some n ≡ natural_from 0 s
value_over s n i k h = sym (k.rest ∙ rw (drop_of_length-le s h) (digits_none n))

pub ruleset value_loop = (value_starts, value_next, value_out, value_over)
