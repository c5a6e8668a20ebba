-- What is written into a lent buffer, piece by piece.
use Prim.Native.Nat.{ℕ, ◌≤◌, ◌+◌}
use mathlib.Core.List.{List, [], ◌∷◌, ◌++◌, append-nil, append_assoc}
use mathlib.Core.Path.{◌≡◌, refl, sym, ap, ap₂, ◌∙◌}
use lib.ListN.{length, take, drop, length-append, length-take, length-drop, take-append-drop}
use lib.Seq.{take-append_seam, drop-append-add, drop-drop}
use native.Mathlib.Omega.{arith}
use Rattle.arrayvec.specs.ArrayString.{ArrayString}
use Rattle.lines.specs.Carried.{Carries, cut}
use Rattle.lines.specs.Runs.{run_all}
use Rattle.lines.specs.Splitting.{last_line}
use Rattle.lines.specs.declared.Line.{Line}
use Rattle.script.specs.Outputs.{Written, Copied}
use Rattle.session.specs.Places.{Puts}
use Rattle.session.specs.Sessions.{Wrote}
use Rattle.table.specs.declared.Table.{Table}

-- ---- from a place on

pub puts_none : (at : ℕ) (out : List ℕ) → Puts [] at out out at
puts_none at out =
    record {
      place = omega arith;
      holds = sym (ap (λ l. l ++ drop at out) (append-nil (take at out)) ∙ take-append-drop at out);
    }

pub puts_text : (t : ArrayString) (v l : List ℕ) (at next : ℕ) (before after : List ℕ) → Written t l → v ≡ t.bytes → Copied v at before after next → Puts l at before after next
puts_text t v l at next before after w i c =
    record {
      place = c.place ∙ ap (λ x. at + length x) (i ∙ w.holds);
      holds = c.holds ∙ ap (λ u. take at before ++ u ++ drop next before) (i ∙ w.holds);
    }

pub puts_more : (a b : List ℕ) (at mid_at next : ℕ) (before mid after : List ℕ) → at ≤ length before → Puts a at before mid mid_at → Puts b mid_at mid after next → Puts (a ++ b) at before after next
puts_more a b at mid_at next before mid after h p q =
    let front : List ℕ = take at before ++ a in
    let n = p.place in
    let m = q.place in
    let s = length-append a b in
    let f = length-append (take at before) a in
    let t = length-take at before in
    let size : mid_at ≡ length front = omega arith in
    let x : take mid_at mid ≡ front = ap₂ (λ i l. take i l) size p.holds ∙ take-append_seam front (drop mid_at before) in
    let y : drop next mid ≡ drop next before =
    ap₂ (λ i l. drop i l) (m ∙ ap (λ i. i + length b) size) p.holds
    ∙ drop-append-add front (drop mid_at before) (length b)
    ∙ drop-drop (length b) mid_at before
    ∙ ap (λ i. drop i before) (sym m) in
    record {
      place = omega arith;
      holds =
          q.holds ∙ ap₂ (λ u v. u ++ b ++ v) x y
          ∙ ap (λ u. u ++ drop next before) (append_assoc (take at before) a b);
    }

pub puts_length : (text : List ℕ) (at next : ℕ) (before after : List ℕ) → Puts text at before after next → next ≤ length before → length after ≡ length before
puts_length text at next before after p h =
    let n = p.place in
    let e = ap length p.holds in
    let a = length-append (take at before ++ text) (drop next before) in
    let b = length-append (take at before) text in
    let t = length-take at before in
    let d = length-drop next before in
    omega arith

-- ---- from the start on

pub wrote_none : (out : List ℕ) → Wrote [] out out 0
wrote_none out = record { size = refl; holds = refl }

pub puts_wrote : (text before after : List ℕ) (used : ℕ) → Puts text 0 before after used → Wrote text before after used
puts_wrote text before after used p = let n = p.place in record { size = omega arith; holds = p.holds }

-- the part that was written
pub written : (text before after : List ℕ) (used : ℕ) → Wrote text before after used → take used after ≡ text
written text before after used w =
    ap₂ (λ i l. take i l) w.size w.holds ∙ take-append_seam text (drop used before)

pub wrote_length : (text before after : List ℕ) (used : ℕ) → Wrote text before after used → used ≤ length before → length after ≡ length before
wrote_length text before after used w h =
    puts_length text 0 used before after (let n = w.size in record { place = omega arith; holds = w.holds }) h

-- Where there is no byte on the last line nothing is written.
pub nothing_last : (t : Table) (k : Line) (out : List ℕ) → k.len ≡ 0 → (l : List ℕ) → Carries (cut k) l → Wrote (run_all t (last_line l)).text out out 0
unfolding last_line run_all
nothing_last t k out z [] c = wrote_none out
nothing_last t k out z (b ∷ bs) c = let s = c.size in absurd (omega arith)
