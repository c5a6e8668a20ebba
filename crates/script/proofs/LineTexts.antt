-- The reader finds a slot and a call in their one text, and in no other line: specs/Claims.antt.
use Rattle.std.specs.Prelude.{Option, Some, None}
use Prim.Native.Nat.{ℕ, ◌<◌, ◌≤◌}
use mathlib.Core.List.{List, ◌∷◌, ◌++◌}
use mathlib.Core.Path.{◌≡◌, sym, ap, ap₂, ◌∙◌}
use borrow.Author.Tests.{leb-true, leb-false, ltb-true, ltb-false, le-ltb}
use lib.Dec.{leb, ltb}
use lib.ListN.{length, length-append}
use native.Mathlib.Omega.{arith}
use Rattle.std.proofs.lemmas.Option.{same_Some, none-some}
use Rattle.script.proofs.CallTexts.{call_read, call_length, call_written}
use Rattle.script.proofs.Decimals.{decimal_read, decimal_length, decimal_one_word, natural_written}
use Rattle.script.proofs.Steps.{too_long, no_call, slot_and_call}
use Rattle.script.proofs.Words.{first_of, later_of, broken, joined}
use Rattle.script.specs.Claims.{DecimalsAreRead, OnlyDecimalsAreRead, TextsAreRead, OnlyTextsAreRead, ExactlyTextsAreRead}
use Rattle.script.specs.Lines.{call_text, line_of, FitsALine}
use Rattle.script.specs.Sizes.{greatest_slot, line_bytes}
use Rattle.script.specs.Reading.{good, word_length, first_word, later_words, read_natural, read_call, asked_by, after_slot, read_line}
use Rattle.script.specs.Texts.{space, decimal}
use Rattle.table.proofs.Chains.{by_bool, pick_yes, pick_no}
use Rattle.table.specs.declared.Call.{Call}
use Rattle.table.specs.declared.ProcSlot.{ProcSlot}

pub decimals_are_read : DecimalsAreRead
decimals_are_read n h = decimal_read n h

pub only_decimals_are_read : OnlyDecimalsAreRead
only_decimals_are_read l n e = natural_written l n e

-- ---- the text of a slot and a call is read as them

slot_read : (n : ℕ) (l : List ℕ) (c : Call) → n ≤ greatest_slot → read_call l ≡ Some c → after_slot (Some n) l ≡ good (record { 0 = n }) c
unfolding after_slot asked_by
slot_read n l c h e =
    pick_no (ltb greatest_slot n) None (asked_by n (read_call l)) (le-ltb greatest_slot n h) ∙ ap (asked_by n) e

pub texts_are_read : TextsAreRead
unfolding line_of
texts_are_read slot c h =
    let n : ℕ = slot.0 in
    let r : List ℕ = call_text c in
    let k = h.slot_fits in
    let u = decimal_one_word n (omega arith) in
    let d = decimal_length n in
    let x = call_length c in
    let y = length-append (decimal n) (space ∷ r) in
    slot_and_call (decimal n ++ space ∷ r) (omega arith) (broken (decimal n) r u)
    ∙ ap₂ after_slot (ap read_natural (first_of (decimal n) r u) ∙ decimal_read n (omega arith)) (later_of (decimal n) r u)
    ∙ slot_read n r c k (call_read c h.arguments_fit)

-- ---- nothing else is

record Found (m : Option ℕ) (l : List ℕ) (slot : ProcSlot) (c : Call) : Type 0 where
  read : m ≡ Some slot.0
  fits : slot.0 ≤ greatest_slot
  asks : read_call l ≡ Some c

asked : (n : ℕ) (q : Option Call) (slot : ProcSlot) (c : Call) → asked_by n q ≡ good slot c → (n ≡ slot.0) × (q ≡ Some c)
unfolding asked_by
asked n None slot c e = absurd (none-some _ e)
asked n (Some d) slot c e =
    let r = same_Some _ _ e in
    (ap (λ a. a.slot.0) r, ap (λ a. Some a.call) r)

slot_found : (m : Option ℕ) (l : List ℕ) (slot : ProcSlot) (c : Call) → after_slot m l ≡ good slot c → Found m l slot c
unfolding after_slot
slot_found None l slot c e = absurd (none-some _ e)
slot_found (Some n) l slot c e =
    by_bool (ltb greatest_slot n)
    (λ t. absurd (none-some _ (sym (pick_yes (ltb greatest_slot n) None (asked_by n (read_call l)) t) ∙ e)))
    (λ t.
    let h = ltb-false greatest_slot n t in
    let a = asked n (read_call l) slot c (sym (pick_no (ltb greatest_slot n) None (asked_by n (read_call l)) t) ∙ e) in
    let s = a.0 in
    record { read = ap Some s; fits = omega arith; asks = a.1 })

line_found : (l : List ℕ) (slot : ProcSlot) (c : Call) → word_length l < length l → Found (read_natural (first_word l)) (later_words l) slot c → (l ≡ line_of slot.0 c) × FitsALine slot.0 c
unfolding line_of
line_found l slot c h f =
    let d = natural_written (first_word l) slot.0 f.read in
    let t = call_written (later_words l) c f.asks in
    (joined l h ∙ (λ j. d j ++ space ∷ t.0 j), record { slot_fits = f.fits; arguments_fit = t.1 })

pub only_texts_are_read : OnlyTextsAreRead
only_texts_are_read l slot c e =
    by_bool (ltb line_bytes (length l))
    (λ t. absurd (none-some _ (sym (too_long l (ltb-true line_bytes (length l) t)) ∙ e)))
    (λ t.
    let s = ltb-false line_bytes (length l) t in
    by_bool (leb (length l) (word_length l))
    (λ u. absurd (none-some _ (sym (no_call l s (leb-true (length l) (word_length l) u)) ∙ e)))
    (λ u.
    let h = leb-false (length l) (word_length l) u in
    line_found l slot c h (slot_found (read_natural (first_word l)) (later_words l) slot c (sym (slot_and_call l s h) ∙ e))))

pub exactly_texts_are_read : ExactlyTextsAreRead
exactly_texts_are_read l slot c = (only_texts_are_read l slot c, λ h. ap read_line h.0 ∙ texts_are_read slot c h.1)
