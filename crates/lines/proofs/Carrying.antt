-- The line that is carried, byte by byte and through a chunk.
use Prim.Native.Nat.{ℕ, suc, ◌<◌, ◌≤◌, ◌+◌, ◌-◌, min, max}
use mathlib.Core.Bool.{Bool, true, false, true≢false, false≢true}
use mathlib.Core.List.{List, [], ◌∷◌, ◌++◌, append-nil, append_assoc}
use mathlib.Core.Path.{◌≡◌, refl, sym, ap, ap₂, subst, ◌∙◌}
use borrow.Author.Tests.{ltb-true, ltb-false}
use lib.Dec.{eqb, ltb}
use lib.ListN.{length, get_or, take, drop, length-append, length-take, length-drop, drop_of_length-le}
use lib.Seq.{take_all, take-append-le, take-append-add, take-append_seam, length-take-le, get_or-take, drop-drop, split_at}
use native.Mathlib.Omega.{arith}
use Rattle.std.specs.Prelude.{Option, Some, None, position, cond, ◌==◌}
use Rattle.std.proofs.lemmas.List.Quantifiers.{position-Some}
use Rattle.std.proofs.lemmas.List.Sums.{fails_before_first}
use Rattle.std.proofs.lemmas.Option.{none-some}
use Rattle.lines.proofs.Cuts.{ended_here, ended_later, ended_none, ended_parts, left_here, left_later, left_none, left_parts}
use Rattle.lines.specs.Carried.{carried, Carries, cut, Took}
use Rattle.lines.specs.Splitting.{ended, left}
use Rattle.lines.specs.declared.Line.{Line}
use Rattle.script.proofs.Scans.{part_from}
use Rattle.script.proofs.Steps.{too_long}
use Rattle.script.specs.Outputs.{Copied}
use Rattle.script.specs.Sizes.{line_bytes}
use Rattle.script.specs.Reading.{read_line}
use Rattle.script.specs.Texts.{line_feed}
use Rattle.script.specs.declared.Asked.{Asked}
use Rattle.table.proofs.Chains.{by_bool}

-- ---- a line as it is taken in

cut_short : (t : Line) → t.len ≤ carried → t ≡ cut t
cut_short t h = let e : t.len ≡ min carried t.len = omega arith in ap (λ n. record { bytes = t.bytes; len = n }) e

-- A line that carries something is taken in as it is.
pub carries_cut : (t : Line) (l : List ℕ) → Carries t l → Carries (cut t) l
carries_cut t l k = let s = k.size in subst (λ u. Carries u l) (cut_short t (omega arith)) k

-- ---- more bytes

-- what fits of m after l
take_fits : (l m : List ℕ) → take carried l ++ take (min (length m) (carried - min carried (length l))) m ≡ take carried (l ++ m)
take_fits l m =
    by_bool (ltb (length l) carried)
    (λ t.
    let h = ltb-true (length l) carried t in
    let k : ℕ = carried - length l in
    let e : carried ≡ length l + k = omega arith in
    let f : min carried (length l) ≡ length l = omega arith in
    (λ j. take_all carried l (omega arith) j ++ take (min (length m) (carried - f j)) m)
    ∙ ap (λ x. l ++ x) (least k m) ∙ sym (ap (λ n. take n (l ++ m)) e ∙ take-append-add l m k))
    (λ t.
    let h = ltb-false (length l) carried t in
    let z : min (length m) (carried - min carried (length l)) ≡ 0 = omega arith in
    ap (λ n. take carried l ++ take n m) z ∙ append-nil (take carried l) ∙ sym (take-append-le carried l m h))
  where
    least : (k : ℕ) (m : List ℕ) → take (min (length m) k) m ≡ take k m
    least k m =
        by_bool (ltb (length m) k)
        (λ t.
        let h = ltb-true (length m) k t in
        take_all (min (length m) k) m (omega arith) ∙ sym (take_all k m (omega arith)))
        (λ t.
        let h = ltb-false (length m) k t in
        let e : min (length m) k ≡ k = omega arith in
        ap (λ n. take n m) e)

pub appended : (t : Line) (m after : List ℕ) (at fits next : ℕ) → length t.bytes ≡ carried → at ≡ min t.len carried → fits ≡ min (length m) (carried - at) → Copied (take fits m) at t.bytes after next → (l : List ℕ) → Carries (cut t) l → Carries (record { bytes = after; len = next }) (l ++ m)
appended t m after at fits next e a f c l k =
    let s = k.size in
    let i : at ≡ min carried (length l) = omega arith in
    let n : length (take fits m) ≡ fits = length-take-le fits m (omega arith) in
    let p = c.place in
    let b = length-append l m in
    let z = length-take-le at t.bytes (omega arith) in
    let d = length-append (take at t.bytes) (take fits m) in
    let w : next ≡ length (take at t.bytes ++ take fits m) = omega arith in
    let y : take at t.bytes ≡ take carried l = ap (λ j. take j t.bytes) (a ∙ omega arith) ∙ k.holds in
    record {
      size = omega arith;
      holds =
          ap₂ (λ j x. take j x) w c.holds ∙ take-append_seam (take at t.bytes ++ take fits m) (drop next t.bytes)
          ∙ ap₂ (λ x j. x ++ take j m) y (f ∙ ap (λ j. min (length m) (carried - j)) i)
          ∙ take_fits l m;
    }

-- ---- a chunk

-- bytes with no line feed leave the line open
no_feed : (l m : List ℕ) → ((k : ℕ) → k < length m → eqb (get_or m k 0) line_feed ≡ false) → (ended l m ≡ []) × (left l m ≡ l ++ m)
no_feed l [] f = (ended_none l, left_none l ∙ sym (append-nil l))
no_feed l (b ∷ bs) f =
    let e : eqb b line_feed ≡ false = f 0 (omega arith) in
    let r = no_feed (l ++ b ∷ []) bs (λ k h. f (suc k) (omega arith)) in
    (ended_later l b bs e ∙ r.0, left_later l b bs e ∙ r.1 ∙ append_assoc l (b ∷ []) bs)

feed_missing : (l m : List ℕ) → None ≡ position (λ b. b == line_feed) m → (ended l m ≡ []) × (left l m ≡ l ++ m)
feed_missing l m e =
    let h = ltb-false _ _ (go _ _ e) in
    no_feed l m (λ k i. fails_before_first (λ b. b == line_feed) m k 0 (omega arith))
  where
    go : (t : Bool) (n : ℕ) → None ≡ cond t (Some n) None → t ≡ false
    go true n e = absurd (none-some n e)
    go false n e = refl

-- the bytes up to the first line feed, and those after it
feed_found : (l m : List ℕ) (n : ℕ) → Some n ≡ position (λ b. b == line_feed) m → (ended l m ≡ (l ++ take n m) ∷ ended [] (drop (suc n) m)) × (left l m ≡ left [] (drop (suc n) m))
feed_found l m n e =
    let p = position-Some (λ b. b == line_feed) m n 0 (sym e) in
    let h = p.0 in
    let b : ℕ = get_or m n 0 in
    let rest : List ℕ = drop (suc n) m in
    let s : m ≡ take n m ++ b ∷ rest = split_at m n 0 h in
    let w = length-take-le n m (omega arith) in
    let r = no_feed l (take n m) (λ k i. ap (λ x. eqb x line_feed) (get_or-take n m k 0 (omega arith)) ∙ p.2 k (omega arith)) in (
      ap (ended l) s ∙ ended_parts l (take n m) (b ∷ rest) ∙ (λ j. r.0 j ++ ended (r.1 j) (b ∷ rest))
          ∙ ended_here (l ++ take n m) b rest p.1,
      ap (left l) s ∙ left_parts l (take n m) (b ∷ rest) ∙ ap (λ x. left x (b ∷ rest)) r.1
          ∙ left_here (l ++ take n m) b rest p.1,
    )

-- the rest of a chunk, as code slices it
rest_is : (chunk : List ℕ) (from start : ℕ) → start ≡ min from (length chunk) → take (length chunk - start) (drop start chunk) ≡ drop from chunk
rest_is chunk from start e =
    part_from chunk start
    ∙ by_bool (ltb from (length chunk))
    (λ t.
    let h = ltb-true from (length chunk) t in
    let i : start ≡ from = omega arith in
    ap (λ n. drop n chunk) i)
    (λ t.
    let h = ltb-false from (length chunk) t in
    drop_of_length-le chunk (omega arith) ∙ sym (drop_of_length-le chunk h))

pub taken_ended : (chunk rest : List ℕ) (whole t : Line) (from start n : ℕ) → start ≡ min from (length chunk) → rest ≡ take (length chunk - start) (drop start chunk) → Some n ≡ position (λ b. b == line_feed) rest → ((l : List ℕ) → Carries (cut whole) l → Carries t (l ++ take n rest)) → (l : List ℕ) → Carries (cut whole) l → Took l chunk from (record { line = t; ended = true; at = start + n + 1 })
taken_ended chunk rest whole t from start n s r e a l c =
    let d : rest ≡ drop from chunk = r ∙ rest_is chunk from start s in
    let q : Some n ≡ position (λ b. b == line_feed) (drop from chunk) = e ∙ ap (position (λ b. b == line_feed)) d in
    let i = (position-Some (λ b. b == line_feed) (drop from chunk) n 0 (sym q)).0 in
    let k = length-drop from chunk in
    let f = feed_found l (drop from chunk) n q in
    let w : drop (suc n) (drop from chunk) ≡ drop (start + n + 1) chunk = drop-drop (suc n) from chunk ∙ ap (λ j. drop j chunk) (omega arith) in
    record {
      on_end =
          λ _. record {
            line = l ++ take n (drop from chunk);
            carries = subst (λ x. Carries t (l ++ take n x)) d (a l c);
            lines_are = f.0 ∙ ap (λ x. (l ++ take n (drop from chunk)) ∷ ended [] x) w;
            left_is = f.1 ∙ ap (left []) w;
            further = omega arith;
            within = omega arith;
          };
      on_more = λ o. absurd (true≢false o);
    }

pub taken_open : (chunk rest : List ℕ) (whole t : Line) (from start at : ℕ) → start ≡ min from (length chunk) → rest ≡ take (length chunk - start) (drop start chunk) → None ≡ position (λ b. b == line_feed) rest → ((l : List ℕ) → Carries (cut whole) l → Carries t (l ++ rest)) → at ≡ max from (length chunk) → (l : List ℕ) → Carries (cut whole) l → Took l chunk from (record { line = t; ended = false; at = at })
taken_open chunk rest whole t from start at s r e a z l c =
    let d : rest ≡ drop from chunk = r ∙ rest_is chunk from start s in
    let f = feed_missing l (drop from chunk) (e ∙ ap (position (λ b. b == line_feed)) d) in
    record {
      on_end = λ o. absurd (false≢true o);
      on_more =
          λ _. record {
            lines_are = f.0;
            carries = subst (Carries t) (ap (λ x. l ++ x) d ∙ sym f.1) (a l c);
            at_is = z;
          };
    }

-- ---- reading what is carried

-- A line that is too long is still too long.
cut_read : (l : List ℕ) → read_line (take carried l) ≡ read_line l
cut_read l =
    by_bool (ltb line_bytes (length l))
    (λ e.
    let h = ltb-true line_bytes (length l) e in
    let n = length-take-le carried l h in
    too_long (take carried l) (omega arith) ∙ sym (too_long l h))
    (λ e.
    let h = ltb-false line_bytes (length l) e in
    ap read_line (take_all carried l (omega arith)))

-- ---- what any line carries

short_own : (t : Line) → length t.bytes ≡ carried → length (take t.len t.bytes) ≡ min carried t.len
short_own t e =
    let n = length-take t.len t.bytes in
    omega arith

pub carries_own : (t : Line) → length t.bytes ≡ carried → Carries (cut t) (take (cut t).len t.bytes)
carries_own t e =
    let n = short_own (cut t) e in
    record { size = omega arith; holds = sym (take_all carried (take (cut t).len t.bytes) (omega arith)) }

-- ---- reading

pub carried_read : (t : Line) (r : Option Asked) → r ≡ read_line (take t.len t.bytes) → (l : List ℕ) → Carries t l → r ≡ read_line l
carried_read t r e l k = e ∙ ap read_line k.holds ∙ cut_read l

pub full_read : (t : Line) → length t.bytes ≡ carried → line_bytes < t.len → None ≡ read_line (take t.len t.bytes)
full_read t e h =
    let n = short_own t e in
    sym (too_long (take t.len t.bytes) (omega arith))
