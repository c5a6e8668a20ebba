-- The returns of the functions that take a text apart and hand its parts on.
use Rattle.std.specs.Prelude.{Option, Some, None, Result, Ok, Err, ◌==◌}
use Rattle.std.specs.Bool.{then_some}
use Rattle.std.specs.Result.{OkIff, result_ok}
use Rattle.std.proofs.lemmas.Option.{same_Some, none-some}
use mathlib.Core.Bool.{Bool, true, false}
use mathlib.Core.Logic.{◌⊎◌, ⊎_elim}
use lib.IntN.{ℤ}
use Prim.Native.Nat.{ℕ, ◌<◌, ◌≤◌, ◌-◌}
use mathlib.Core.List.{List}
use mathlib.Core.Path.{◌≡◌, refl, sym, ap, ap₂, subst, ◌∙◌}
use borrow.Author.Tests.{eqb-true, eqb-false, ltb-false, le-ltb}
use lib.Dec.{eqb, ltb}
use lib.ListN.{length, get_or, take, drop}
use native.Mathlib.Omega.{arith}
use Rattle.script.proofs.Scans.{part_from}
use Rattle.script.proofs.Steps.{natural_none, natural_long, natural_lone, natural_padded, natural_plain, empty_number, signed_number, unsigned_number, of_one_word, of_two_words, of_more_words, too_long, no_call, slot_and_call}
use Rattle.script.specs.Reading.{good, word_length, first_word, later_words, natural_from, read_natural, from_zero, below_zero, read_number, plain_call, call_with, call_with_two, read_call, asked_by, after_slot, read_line}
use Rattle.script.specs.Sizes.{greatest_slot, line_bytes, most_digits}
use Rattle.script.specs.Texts.{minus_sign, digit_0}
use Rattle.script.specs.declared.Asked.{Asked}
use Rattle.table.proofs.Chains.{by_bool, pick_yes, pick_no}
use Rattle.table.specs.declared.Call.{Call}

-- ---- the value of digits

pub value_out : (l : List ℕ) (r : Bool) → r ≡ (length l == 0) → (r ≡ true) ⊎ ((r ≡ false) × (most_digits < length l)) → None ≡ read_natural l
value_out l r e =
    ⊎_elim (λ t. sym (natural_none l (eqb-true (length l) 0 (sym e ∙ t))))
    (λ h. sym (natural_long l (eqb-false (length l) 0 (sym e ∙ h.0)) h.1))

pub value_zero : (l : List ℕ) (e : Bool) (r : Option ℕ) → e ≡ (length l == 0) → e ≡ false → length l ≤ most_digits → get_or l 0 0 ≡ digit_0 → r ≡ then_some (length l == 1) 0 → r ≡ read_natural l
value_zero l e r p q h f k = k ∙ go (length l == 1) refl
  where
    z : length l ≡ 0 → ⊥
    z = eqb-false (length l) 0 (sym p ∙ q)

    go : (t : Bool) → eqb (length l) 1 ≡ t → then_some t 0 ≡ read_natural l
    go true o = sym (natural_lone l z h f (eqb-true (length l) 1 o))
    go false o = sym (natural_padded l z h f (eqb-false (length l) 1 o))

pub value_plain : (l : List ℕ) (e : Bool) (r : Option ℕ) → e ≡ (length l == 0) → e ≡ false → length l ≤ most_digits → (get_or l 0 0 ≡ digit_0 → ⊥) → r ≡ natural_from 0 l → r ≡ read_natural l
value_plain l e r p q h f k = k ∙ sym (natural_plain l (eqb-false (length l) 0 (sym p ∙ q)) h f)

pub ruleset read_natural_laws = (value_out, value_zero, value_plain)

-- ---- numbers

pub number_empty : (l : List ℕ) → length l < 1 → None ≡ read_number l
number_empty l h = sym (empty_number l (omega arith))

pub number_below : (l : List ℕ) (m : Option ℕ) (r : Option ℤ) → 1 ≤ length l → get_or l 0 0 ≡ minus_sign → m ≡ read_natural (take (length l - 1) (drop 1 l)) → r ≡ below_zero m → r ≡ read_number l
number_below l m r h e p q =
    q ∙ ap below_zero (p ∙ ap read_natural (part_from l 1)) ∙ sym (signed_number l (λ z. omega arith) e)

pub number_above : (l : List ℕ) (m : Option ℕ) (r : Option ℤ) → 1 ≤ length l → (get_or l 0 0 ≡ minus_sign → ⊥) → m ≡ read_natural l → r ≡ from_zero m → r ≡ read_number l
number_above l m r h e p q = q ∙ ap from_zero p ∙ sym (unsigned_number l (λ z. omega arith) e)

pub ruleset read_number_laws = (number_empty, number_below, number_above)

-- ---- calls

pub call_plain : (l : List ℕ) (r : Option Call) → length l ≤ word_length l → r ≡ plain_call l → r ≡ read_call l
call_plain l r h q = q ∙ sym (of_one_word l h)

-- what is known of the first word of l and of what follows it
abbrev pub Parted : List ℕ → List ℕ → List ℕ → Type 0
Parted l w r = (word_length l < length l) × (w ≡ first_word l) × (r ≡ later_words l)

-- one argument
pub call_one : (l w a : List ℕ) (r : Option Call) → Parted l w a → length a ≤ word_length a → r ≡ call_with w a → r ≡ read_call l
call_one l w a r p h q =
    q ∙ ap₂ call_with p.1 p.2 ∙ sym (of_two_words l p.0 (subst (λ s. length s ≤ word_length s) p.2 h))

-- two
pub call_two : (l w s a b : List ℕ) (r : Option Call) → Parted l w s → Parted s a b → r ≡ call_with_two w a b → r ≡ read_call l
call_two l w s a b r p k q =
    let e = p.2 in
    q ∙ (λ j. call_with_two (p.1 j) ((k.1 ∙ ap first_word e) j) ((k.2 ∙ ap later_words e) j))
    ∙ sym (of_more_words l p.0 (subst (λ u. word_length u < length u) e k.0))

-- ---- lines

pub slot_none : (m : Option ℕ) (l : List ℕ) (x : Option Asked) → x ≡ None → m ≡ None → x ≡ after_slot m l
unfolding after_slot
slot_none m l x q e = q ∙ rw e

-- o is what `try_from` gave for the slot n
pub slot_past : {E : Type 0} (m o : Option ℕ) (n : ℕ) (r : Result ℕ E) (l : List ℕ) (x : Option Asked) → m ≡ Some n → OkIff r (n < 256) n → o ≡ result_ok r → o ≡ None → x ≡ None → x ≡ after_slot m l
unfolding after_slot
slot_past m o n (Ok y) l x e h p q k = absurd (none-some y (sym q ∙ p))
slot_past m o n (Err y) l x e h p q k =
    by_bool (ltb greatest_slot n)
    (λ t. k ∙ rw e (sym (pick_yes (ltb greatest_slot n) None (asked_by n (read_call l)) t)))
    (λ t.
    let f = ltb-false greatest_slot n t in
    absurd (h (omega arith)))

pub call_missing : (m : Option ℕ) (l : List ℕ) (x : Option Asked) → None ≡ read_call l → x ≡ None → x ≡ after_slot m l
unfolding after_slot asked_by
call_missing None l x e k = k
call_missing (Some n) l x e k =
    by_bool (ltb greatest_slot n) (λ t. k ∙ sym (pick_yes (ltb greatest_slot n) None (asked_by n (read_call l)) t))
    (λ t. k ∙ ap (asked_by n) e ∙ sym (pick_no (ltb greatest_slot n) None (asked_by n (read_call l)) t))

pub slot_fits : {E : Type 0} (m o : Option ℕ) (n k : ℕ) (r : Result ℕ E) (l : List ℕ) (c : Call) → m ≡ Some n → OkIff r (n < 256) n → o ≡ result_ok r → o ≡ Some k → Some c ≡ read_call l → good (record { 0 = k }) c ≡ after_slot m l
unfolding after_slot asked_by
slot_fits m o n k (Err y) l c e h p q d = absurd (none-some k (sym p ∙ q))
slot_fits m o n k (Ok y) l c e h p q d =
    let f = h.0 in
    let i : k ≡ n = same_Some k y (sym q ∙ p) ∙ h.1 in
    ap (λ j. good (record { 0 = j }) c) i ∙ ap (asked_by n) d
    ∙ rw e (sym (pick_no (ltb greatest_slot n) None (asked_by n (read_call l)) (le-ltb greatest_slot n (omega arith))))

pub line_long : (l : List ℕ) → line_bytes < length l → None ≡ read_line l
line_long l h = sym (too_long l h)

pub line_short : (l : List ℕ) (r : Option Asked) → length l ≤ line_bytes → length l ≤ word_length l → r ≡ None → r ≡ read_line l
line_short l r h p k = k ∙ sym (no_call l h p)

pub line_whole : (l s a : List ℕ) (m : Option ℕ) (r : Option Asked) → length l ≤ line_bytes → Parted l s a → m ≡ read_natural s → r ≡ after_slot m a → r ≡ read_line l
line_whole l s a m r h p q e =
    e ∙ ap₂ after_slot (q ∙ ap read_natural p.1) p.2 ∙ sym (slot_and_call l h p.0)
