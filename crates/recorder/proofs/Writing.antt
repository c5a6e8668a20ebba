-- What a writer holds after two texts, and after the first bytes of one.
use Rattle.std.proofs.Common.{◌≡◌, refl, sym, ap, subst, ◌∙◌, ℕ, ◌+◌, ◌-◌, List, ◌++◌, length, take, drop, Option, arith, append_assoc, take-append-drop}
use Rattle.std.proofs.KnownBytes.{Appends-trans}
use Rattle.std.proofs.Math.Seq.{take-append-add}
use Rattle.std.proofs.lemmas.List.{length-append, take_at, take_rest, take-append-le}
use Rattle.std.specs.Io.KnownBytes.{Appends}
use Rattle.recorder.specs.Writing.{TookFirst}

-- n bytes of what was left of a text are done too
pub moves_on : (text done rest : List ℕ) (n : ℕ) → text ≡ done ++ rest → text ≡ (done ++ take n rest) ++ take (length rest - n) (drop n rest)
moves_on text done rest n e =
    e ∙ ap (λ l. done ++ l) (sym (take-append-drop n rest)) ∙ sym (append_assoc done (take n rest) (drop n rest))
    ∙ ap (λ l. (done ++ take n rest) ++ l) (sym (take_rest rest n))

pub first_part : (a b : Option (List ℕ)) (text done rest : List ℕ) → text ≡ done ++ rest → Appends a b done → TookFirst a b text
first_part a b text done rest e p =
    let l = length-append done rest in
    let m = ap length e in
    (length done, omega arith, subst (λ w. Appends a b w) (sym (ap (take (length done)) e ∙ take_at done rest (length done) refl)) p)

pub first_both : (a b c : Option (List ℕ)) (xs ys : List ℕ) → Appends a b xs → TookFirst b c ys → TookFirst a c (xs ++ ys)
first_both a b c xs ys p q =
    let l = length-append xs ys in
    let m = q.1 in
    (length xs + q.0, omega arith, subst (λ w. Appends a c w) (sym (take-append-add xs ys q.0)) (Appends-trans a b c xs (take q.0 ys) p q.2))

-- The first bytes of a text are the first bytes of a longer one.
pub first_longer : (a b : Option (List ℕ)) (xs ys : List ℕ) → TookFirst a b xs → TookFirst a b (xs ++ ys)
first_longer a b xs ys q =
    let l = length-append xs ys in
    let m = q.1 in
    (q.0, omega arith, subst (λ w. Appends a b w) (sym (take-append-le q.0 xs ys m)) q.2)
