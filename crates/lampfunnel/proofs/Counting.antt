-- A line is counted where it begins.
use Prim.Native.Nat.{ℕ, zero, suc, ◌≤◌, ◌<◌, ◌+◌}
use mathlib.Core.Bool.{Bool, true, false, not}
use mathlib.Core.List.{List, [], ◌∷◌, ◌++◌}
use mathlib.Core.Path.{◌≡◌, refl, sym, ap, ◌∙◌}
use native.Mathlib.Numerals.{add-one}
use native.Mathlib.Omega.{arith}
use lib.Dec.{eqb}
use lib.ListN.{length, drop, get_or, length-append}
use lib.Seq.{drop-cons}
use borrow.Author.Tests.{not-true, not-false}
use Rattle.lines.proofs.Cuts.{ended_here, ended_later, ended_none, left_here, left_later, left_none}
use Rattle.lines.specs.Splitting.{ended, left, last_line, lines}
use Rattle.script.specs.Texts.{line_feed}
use Rattle.table.proofs.Chains.{by_bool}

-- a byte begins a line if it stands in none
unfoldable pub begins : Bool → ℕ
begins true = 0
begins false = 1

-- how many lines begin within the bytes, after a byte within a line or not
unfoldable pub begun : Bool → List ℕ → ℕ
begun b [] = 0
begun b (x ∷ xs) = begins b + begun (not (eqb x line_feed)) xs

-- the lines of the bytes xs that come after l on its line
count : List ℕ → List ℕ → ℕ
count l xs = length (ended l xs) + length (last_line (left l xs))

none_left : length (last_line []) ≡ 0
unfolding last_line
none_left = refl

one_left : (x : ℕ) (l : List ℕ) → length (last_line (x ∷ l)) ≡ 1
unfolding last_line
one_left x l = refl

count_none : (l : List ℕ) → count l [] ≡ length (last_line l)
unfolding count
count_none l =
    let e = ap length (ended_none l) in
    let f = ap (λ m. length (last_line m)) (left_none l) in
    omega arith

count_here : (l : List ℕ) (x : ℕ) (xs : List ℕ) → eqb x line_feed ≡ true → count l (x ∷ xs) ≡ suc (count [] xs)
unfolding count
count_here l x xs h =
    let e = ap length (ended_here l x xs h) in
    let f = ap (λ m. length (last_line m)) (left_here l x xs h) in
    omega arith

count_later : (l : List ℕ) (x : ℕ) (xs : List ℕ) → eqb x line_feed ≡ false → count l (x ∷ xs) ≡ count (l ++ x ∷ []) xs
unfolding count
count_later l x xs h =
    let e = ap length (ended_later l x xs h) in
    let f = ap (λ m. length (last_line m)) (left_later l x xs h) in
    omega arith

begun_step : (b t : Bool) (x : ℕ) (xs : List ℕ) → eqb x line_feed ≡ t → begun b (x ∷ xs) ≡ begins b + begun (not t) xs
unfolding begun
begun_step b t x xs e = ap (λ u. begins b + begun (not u) xs) e

-- after an empty line, and after one with a byte on it
record Counts (xs : List ℕ) : Type 0 where
  empty : count [] xs ≡ begun false xs
  some : (y : ℕ) (l : List ℕ) → count (y ∷ l) xs ≡ suc (begun true xs)

counts : (xs : List ℕ) → Counts xs
unfolding begun begins
counts [] =
    record {
      empty = count_none [] ∙ none_left;
      some = λ y l. count_none (y ∷ l) ∙ one_left y l;
    }
counts (x ∷ xs) =
    let r = counts xs in
    let e = r.empty in
    by_bool (eqb x line_feed)
    (λ h.
    let f = begun_step false true x xs h in
    let t = begun_step true true x xs h in
    record {
      empty = let n = count_here [] x xs h in omega arith;
      some = λ y l. let n = count_here (y ∷ l) x xs h in omega arith;
    })
    (λ h.
    let f = begun_step false false x xs h in
    let t = begun_step true false x xs h in
    record {
      empty =
          let n = count_later [] x xs h in
          let m = r.some x [] in
          omega arith;
      some =
          λ y l.
          let n = count_later (y ∷ l) x xs h in
          let m = r.some y (l ++ x ∷ []) in
          omega arith;
    })

pub lines_begun : (xs : List ℕ) → length (lines xs) ≡ begun false xs
unfolding lines count
lines_begun xs = length-append (ended [] xs) (last_line (left [] xs)) ∙ (counts xs).empty

-- ---- the loop

-- Up to place i, `count` lines have begun; b tells whether the byte before stands in one that goes on.
pub record Counted (xs : List ℕ) (count : ℕ) (b : Bool) (i : ℕ) : Type 0 where
  pub all : count + begun b (drop i xs) ≡ begun false xs
  pub few : count ≤ i
  pub within : i ≤ length xs

next_byte : (xs : List ℕ) (b : Bool) (i : ℕ) → i < length xs → begun b (drop i xs) ≡ begins b + begun (not (eqb (get_or xs i 0) line_feed)) (drop (i + 1) xs)
next_byte xs b i h =
    ap (begun b) (drop-cons xs i 0 h)
    ∙ begun_step b (eqb (get_or xs i 0) line_feed) (get_or xs i 0) (drop (suc i) xs) refl
    ∙ ap (λ k. begins b + begun (not (eqb (get_or xs i 0) line_feed)) (drop k xs)) (sym (add-one i))

-- a byte that begins a line, and one within a line
pub counted_new : (xs : List ℕ) (count n : ℕ) (b : Bool) (i : ℕ) → Counted xs count b i → i < length xs → not b ≡ true → n ≡ count + 1 → Counted xs n (not (eqb (get_or xs i 0) line_feed)) (i + 1)
unfolding begins
counted_new xs count n b i w h e c =
    let a = w.all in
    let f = w.few in
    let x = next_byte xs b i h in
    let z = ap begins (not-true b e) in
    record { all = omega arith; few = omega arith; within = omega arith }

pub counted_on : (xs : List ℕ) (count n : ℕ) (b : Bool) (i : ℕ) → Counted xs count b i → i < length xs → not b ≡ false → n ≡ count → Counted xs n (not (eqb (get_or xs i 0) line_feed)) (i + 1)
unfolding begins
counted_on xs count n b i w h e c =
    let a = w.all in
    let f = w.few in
    let x = next_byte xs b i h in
    let z = ap begins (not-false b e) in
    record { all = omega arith; few = omega arith; within = omega arith }

none_begun : (b : Bool) (xs : List ℕ) (i : ℕ) → length xs ≤ i → begun b (drop i xs) ≡ 0
unfolding begun
none_begun b [] zero h = refl
none_begun b [] (suc i) h = refl
none_begun b (x ∷ xs) zero h = absurd (omega arith)
none_begun b (x ∷ xs) (suc i) h = none_begun b xs i (omega arith)

pub counted_all : (xs : List ℕ) (count : ℕ) (b : Bool) (i : ℕ) → Counted xs count b i → length xs ≤ i → count ≡ length (lines xs)
counted_all xs count b i w h =
    let a = w.all in
    let n = none_begun b xs i h in
    let l = lines_begun xs in
    omega arith
