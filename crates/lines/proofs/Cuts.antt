-- However an input is cut into chunks, the lines are the same.
use Prim.Native.Nat.{ℕ, ◌≤◌}
use mathlib.Core.Bool.{true, false}
use mathlib.Core.List.{List, [], ◌∷◌, ◌++◌, append_assoc}
use mathlib.Core.Path.{◌≡◌, refl, sym, ap, ap₂, ◌∙◌}
use lib.Dec.{eqb}
use lib.ListN.{length}
use native.Mathlib.Omega.{arith}
use Rattle.lines.specs.Splitting.{ended, left, last_line, lines, whole, lines_by_chunks, CutsMakeNoDifference}
use Rattle.script.specs.Texts.{line_feed}
use Rattle.table.proofs.Chains.{by_bool, pick_yes, pick_no}

-- ---- one byte

pub ended_here : (l : List ℕ) (b : ℕ) (bs : List ℕ) → eqb b line_feed ≡ true → ended l (b ∷ bs) ≡ l ∷ ended [] bs
unfolding ended
ended_here l b bs e = pick_yes (eqb b line_feed) (l ∷ ended [] bs) (ended (l ++ b ∷ []) bs) e

pub ended_later : (l : List ℕ) (b : ℕ) (bs : List ℕ) → eqb b line_feed ≡ false → ended l (b ∷ bs) ≡ ended (l ++ b ∷ []) bs
unfolding ended
ended_later l b bs e = pick_no (eqb b line_feed) (l ∷ ended [] bs) (ended (l ++ b ∷ []) bs) e

pub left_here : (l : List ℕ) (b : ℕ) (bs : List ℕ) → eqb b line_feed ≡ true → left l (b ∷ bs) ≡ left [] bs
unfolding left
left_here l b bs e = pick_yes (eqb b line_feed) (left [] bs) (left (l ++ b ∷ []) bs) e

pub left_later : (l : List ℕ) (b : ℕ) (bs : List ℕ) → eqb b line_feed ≡ false → left l (b ∷ bs) ≡ left (l ++ b ∷ []) bs
unfolding left
left_later l b bs e = pick_no (eqb b line_feed) (left [] bs) (left (l ++ b ∷ []) bs) e

pub ended_none : (l : List ℕ) → ended l [] ≡ []
unfolding ended
ended_none l = refl

pub left_none : (l : List ℕ) → left l [] ≡ l
unfolding left
left_none l = refl

-- ---- how many

-- How many lines end does not depend on what stands before them.
pub ended_count : (l m xs : List ℕ) → length (ended l xs) ≡ length (ended m xs)
ended_count l m [] = ap length (ended_none l) ∙ sym (ap length (ended_none m))
ended_count l m (b ∷ bs) =
    by_bool (eqb b line_feed)
    (λ e. ap length (ended_here l b bs e) ∙ sym (ap length (ended_here m b bs e)))
    (λ e.
    ap length (ended_later l b bs e) ∙ ended_count (l ++ b ∷ []) (m ++ b ∷ []) bs
    ∙ sym (ap length (ended_later m b bs e)))

pub ended_few : (l xs : List ℕ) → length (ended l xs) ≤ length xs
ended_few l [] = let e = ap length (ended_none l) in omega arith
ended_few l (b ∷ bs) =
    by_bool (eqb b line_feed)
    (λ e.
    let n = ap length (ended_here l b bs e) in
    let f = ended_few [] bs in
    omega arith)
    (λ e.
    let n = ap length (ended_later l b bs e) in
    let f = ended_few (l ++ b ∷ []) bs in
    omega arith)

-- ---- two parts

pub ended_parts : (l xs ys : List ℕ) → ended l (xs ++ ys) ≡ ended l xs ++ ended (left l xs) ys
ended_parts l [] ys = sym (ap₂ (λ e m. e ++ ended m ys) (ended_none l) (left_none l))
ended_parts l (b ∷ bs) ys =
    by_bool (eqb b line_feed)
    (λ e.
    ended_here l b (bs ++ ys) e ∙ ap (λ s. l ∷ s) (ended_parts [] bs ys)
    ∙ sym (ap₂ (λ s m. s ++ ended m ys) (ended_here l b bs e) (left_here l b bs e)))
    (λ e.
    ended_later l b (bs ++ ys) e ∙ ended_parts (l ++ b ∷ []) bs ys
    ∙ sym (ap₂ (λ s m. s ++ ended m ys) (ended_later l b bs e) (left_later l b bs e)))

pub left_parts : (l xs ys : List ℕ) → left l (xs ++ ys) ≡ left (left l xs) ys
left_parts l [] ys = sym (ap (λ m. left m ys) (left_none l))
left_parts l (b ∷ bs) ys =
    by_bool (eqb b line_feed)
    (λ e. left_here l b (bs ++ ys) e ∙ left_parts [] bs ys ∙ sym (ap (λ m. left m ys) (left_here l b bs e)))
    (λ e. left_later l b (bs ++ ys) e ∙ left_parts (l ++ b ∷ []) bs ys ∙ sym (ap (λ m. left m ys) (left_later l b bs e)))

-- ---- any number of parts, after a line that is open

by_chunks : (l : List ℕ) (cs : List (List ℕ)) → lines_by_chunks l cs ≡ ended l (whole cs) ++ last_line (left l (whole cs))
unfolding lines_by_chunks whole
by_chunks l [] = sym (ap₂ (λ e m. e ++ last_line m) (ended_none l) (left_none l))
by_chunks l (c ∷ cs) =
    ap (λ s. ended l c ++ s) (by_chunks (left l c) cs)
    ∙ sym (append_assoc (ended l c) (ended (left l c) (whole cs)) (last_line (left (left l c) (whole cs))))
    ∙ sym (ap₂ (λ e m. e ++ last_line m) (ended_parts l c (whole cs)) (left_parts l c (whole cs)))

pub cuts_make_no_difference : CutsMakeNoDifference
unfolding lines
cuts_make_no_difference cs = by_chunks [] cs
