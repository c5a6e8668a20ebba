-- What an arm of a match on words knows of a text.
use Prim.Native.Nat.{ℕ}
use mathlib.Core.Bool.{true, false}
use mathlib.Core.List.{List}
use mathlib.Core.Path.{◌≡◌, ap, subst, ◌∙◌}
use lib.ListN.{length, get_or}
use Rattle.std.proofs.lemmas.Slice.Eq.{text_from_reads, HasBytesAt}
use Rattle.script.proofs.Scans.{same_true, same_refl}
use Rattle.script.specs.Reading.{same}
use Rattle.table.proofs.Chains.{by_bool, if_yes, if_no}

pub is_word : (w t : List ℕ) → length w ≡ length t → HasBytesAt w 0 t → same w t ≡ true
is_word w t h b = subst (λ u. same w u ≡ true) (text_from_reads w t h b) (same_refl w)

pub other_length : (w t : List ℕ) (n : ℕ) → (length w ≡ n → ⊥) → length t ≡ n → same w t ≡ false
other_length w t n h e = by_bool (same w t) (λ s. absurd (h (ap length (same_true w t s) ∙ e))) (λ s. s)

pub other_byte : (w t : List ℕ) (i c : ℕ) → (get_or w i 0 ≡ c → ⊥) → get_or t i 0 ≡ c → same w t ≡ false
other_byte w t i c h e = by_bool (same w t) (λ s. absurd (h (ap (λ u. get_or u i 0) (same_true w t s) ∙ e))) (λ s. s)

pub ruleset arms = (is_word, other_length, other_byte, if_yes, if_no)
