-- To the next call of a chunk: the loop of `seek`, and the answer before it.
use Prim.Native.Nat.{ℕ, suc, ◌<◌, ◌≤◌, ◌+◌, ◌*◌, ◌-◌}
use mathlib.Core.Bool.{Bool, true, false, true≢false, false≢true}
use mathlib.Core.List.{List, [], ◌∷◌, ◌++◌, append_assoc}
use mathlib.Core.Path.{◌≡◌, refl, sym, ap, subst, ◌∙◌}
use lib.ListN.{length, take, drop}
use native.Mathlib.Omega.{arith}
use Rattle.std.specs.Prelude.{Option, Some, None, is_some}
use Rattle.std.proofs.lemmas.Option.{none-some}
use Rattle.arrayvec.specs.ArrayString.{ArrayString}
use Rattle.lines.proofs.Carrying.{carries_cut, carries_own, carried_read}
use Rattle.lines.proofs.Cuts.{ended_count}
use Rattle.lines.specs.Carried.{carried, Carries, cut, LineEnded, StillOpen, Took}
use Rattle.lines.specs.Runs.{Ran, run_line, run_all}
use Rattle.lines.specs.Splitting.{ended, left}
use Rattle.lines.specs.declared.Line.{Line}
use Rattle.lines.specs.declared.Taken.{Taken}
use Rattle.script.specs.Outputs.{bad_line, Written, Copied}
use Rattle.script.specs.Reading.{read_line}
use Rattle.script.specs.Sizes.{answer_bytes}
use Rattle.script.specs.declared.Asked.{Asked}
use Rattle.session.proofs.Writing.{puts_none, puts_text, puts_more, puts_length}
use Rattle.session.specs.Places.{left_at, and_then, run_at, Puts, Sought}
use Rattle.session.specs.declared.Place.{Place}
use Rattle.table.proofs.Chains.{by_bool, pick_yes, pick_no}
use Rattle.table.specs.declared.Table.{Table}

-- ---- the loop's invariant

-- From l and the place `from` on: the line `line` is open at the place `at`, and k was taken in from there. There is
-- room for the lines that are left.
pub record Going (l chunk : List ℕ) (from start : ℕ) (before : List ℕ) (k : Taken) (used : ℕ) (out : List ℕ) : Type 0 where
  pub text : List ℕ
  pub line : List ℕ
  pub at : ℕ
  pub took : Took line chunk at k
  pub gives : (t : Table) → run_all t (ended l (drop from chunk)) ≡ and_then text (run_all t (ended line (drop at chunk)))
  pub left_is : left l (drop from chunk) ≡ left line (drop at chunk)
  pub wrote : Puts text start before out used
  pub room : used + answer_bytes * length (ended line (drop at chunk)) ≤ start + answer_bytes * length (ended l (drop from chunk))
  pub fits : start + answer_bytes * length (ended l (drop from chunk)) ≤ length before

-- The same for every line that may stand before the place `from`, of which there is one.
pub record Seeking (k₀ : Taken) (chunk : List ℕ) (from start : ℕ) (before : List ℕ) (k : Taken) (used : ℕ) (out : List ℕ) : Type 0 where
  pub first : List ℕ
  pub took : Took first chunk from k₀
  pub going : (l : List ℕ) → Took l chunk from k₀ → Going l chunk from start before k used out

-- The lines that may still end in the chunk.
unfoldable pub lines_left : List ℕ → Taken → ℕ
lines_left chunk k = elim k.ended [ true ↦ suc (length chunk - k.at) | false ↦ 0 ]

-- ---- one line

-- a line that is no call
bad_next : (t : Table) (l : List ℕ) (ls : List (List ℕ)) → read_line l ≡ None → run_all t (l ∷ ls) ≡ and_then bad_line (run_all t ls)
unfolding run_all run_line
bad_next t l ls e = ap (λ p. let r = run_line t p in and_then r.text (run_all r.table ls)) e

-- a line that is one, where the reading stops
call_next : (t : Table) (chunk l : List ℕ) (p : Place) (a : Asked) → p.asked ≡ Some a → read_line l ≡ Some a → run_all t (l ∷ ended [] (drop p.at chunk)) ≡ run_at t chunk p
unfolding run_all run_at
call_next t chunk l p a f e =
    let rest : List (List ℕ) = ended [] (drop p.at chunk) in
    rw f (ap (λ q. let s = run_line t q in and_then s.text (run_all s.table rest)) e)

-- a text after a text
pub twice : (a b : List ℕ) (r : Ran) → and_then a (and_then b r) ≡ and_then (a ++ b) r
twice a b r = ap (λ s. record { text = s; table = r.table }) (sym (append_assoc a b r.text))

abbrev Read : Line → Option Asked → Type 0
Read k p = p ≡ read_line (take k.len k.bytes)

-- what a line that has ended reads as
line_read : (k : Line) (l : List ℕ) (p q : Option Asked) → Carries k l → Read k p → p ≡ q → read_line l ≡ q
line_read k l p q c r e = sym (carried_read k p r l c) ∙ e

going_next : (l chunk : List ℕ) (from start : ℕ) (before : List ℕ) (k : Taken) (used : ℕ) (out : List ℕ) (p : Option Asked) (u : ArrayString) (v : List ℕ) (next : ℕ) (k' : Taken) (after : List ℕ) → Going l chunk from start before k used out → k.ended ≡ true → Read k.line p → p ≡ None → Written u bad_line → v ≡ u.bytes → Copied v used out after next → Took [] chunk k.at k' → Going l chunk from start before k' next after
going_next l chunk from start before k used out p u v next k' after g h r b w i c q =
    let e : LineEnded g.line chunk g.at k = g.took.on_end h in
    let n = ap length e.lines_are in
    let m = g.room in
    let f = g.fits in
    let s = w.room in
    let j = ap length i in
    let y = c.place in
    record {
      text = g.text ++ bad_line;
      line = [];
      at = k.at;
      took = q;
      gives =
          λ t.
          g.gives t
          ∙ ap (and_then g.text) (ap (run_all t) e.lines_are ∙ bad_next t e.line (ended [] (drop k.at chunk)) (line_read k.line e.line p None e.carries r b))
          ∙ twice g.text bad_line (run_all t (ended [] (drop k.at chunk)));
      left_is = g.left_is ∙ e.left_is;
      wrote =
          puts_more g.text bad_line start used next before out after (omega arith) g.wrote
          (puts_text u v bad_line used next out after w i c);
      room = omega arith;
      fits = f;
    }

-- ---- the loop

pub seeking_starts : (line : Line) (k : Taken) (chunk : List ℕ) (from start : ℕ) (out : List ℕ) → length line.bytes ≡ carried → start + answer_bytes * length (ended [] (drop from chunk)) ≤ length out → ((l : List ℕ) → Carries (cut line) l → Took l chunk from k) → Seeking k chunk from start out k start out
seeking_starts line k chunk from start out e h q =
    let own : List ℕ = take (cut line).len line.bytes in
    record {
      first = own;
      took = q own (carries_own line e);
      going =
          λ l w.
          let n = ended_count l [] (drop from chunk) in
          record {
            text = [];
            line = l;
            at = from;
            took = w;
            gives = λ t. refl;
            left_is = refl;
            wrote = puts_none start out;
            room = omega arith;
            fits = omega arith;
          };
    }

any_of : (k₀ : Taken) (chunk : List ℕ) (from start : ℕ) (before : List ℕ) (k : Taken) (used : ℕ) (out : List ℕ) → (w : Seeking k₀ chunk from start before k used out) → Going w.first chunk from start before k used out
any_of k₀ chunk from start before k used out w = w.going w.first w.took

pub seeking_length : (k₀ : Taken) (chunk : List ℕ) (from start : ℕ) (before : List ℕ) (k : Taken) (used : ℕ) (out : List ℕ) → Seeking k₀ chunk from start before k used out → length out ≡ length before
seeking_length k₀ chunk from start before k used out w =
    let a = any_of k₀ chunk from start before k used out w in
    let m = a.room in
    let f = a.fits in
    puts_length a.text start used before out a.wrote (omega arith)

pub seeking_room : (k₀ : Taken) (chunk : List ℕ) (from start : ℕ) (before : List ℕ) (k : Taken) (used : ℕ) (out : List ℕ) (u : ArrayString) (v : List ℕ) → Seeking k₀ chunk from start before k used out → k.ended ≡ true → Written u bad_line → v ≡ u.bytes → used + length v ≤ length out
seeking_room k₀ chunk from start before k used out u v w h r i =
    let a = any_of k₀ chunk from start before k used out w in
    let n = ap length (a.took.on_end h).lines_are in
    let m = a.room in
    let f = a.fits in
    let x = r.room in
    let j = ap length i in
    let y = seeking_length k₀ chunk from start before k used out w in
    omega arith

-- s is whether the line was a call
no_call : (p : Option Asked) (s : Bool) → s ≡ is_some p → s ≡ false → p ≡ None
no_call None s e f = refl
no_call (Some c) s e f = absurd (true≢false (sym e ∙ f))

pub seeking_next : (k₀ : Taken) (chunk : List ℕ) (from start : ℕ) (before : List ℕ) (k : Taken) (used : ℕ) (out : List ℕ) (p : Option Asked) (s : Bool) (u : ArrayString) (v : List ℕ) (next : ℕ) (e : Line) (k' : Taken) (after : List ℕ) → Seeking k₀ chunk from start before k used out → k.ended ≡ true → Read k.line p → s ≡ is_some p → s ≡ false → Written u bad_line → v ≡ u.bytes → Copied v used out after next → Carries e [] → ((l : List ℕ) → Carries (cut e) l → Took l chunk k.at k') → Seeking k₀ chunk from start before k' next after
seeking_next k₀ chunk from start before k used out p s u v next e k' after w h r b d f i c z q =
    record {
      first = w.first;
      took = w.took;
      going =
          λ l x. going_next l chunk from start before k used out p u v next k' after (w.going l x) h r (no_call p s b d) f i c
          (q [] (carries_cut e [] z));
    }

pub seeking_less : (k₀ : Taken) (chunk : List ℕ) (from start : ℕ) (before : List ℕ) (k : Taken) (used : ℕ) (out : List ℕ) (e : Line) (k' : Taken) → Seeking k₀ chunk from start before k used out → k.ended ≡ true → Carries e [] → ((l : List ℕ) → Carries (cut e) l → Took l chunk k.at k') → lines_left chunk k' < lines_left chunk k
unfolding lines_left
seeking_less k₀ chunk from start before k used out e k' w h z q =
    let now = pick_yes k.ended (suc (length chunk - k.at)) 0 h in
    by_bool k'.ended
    (λ y.
    let then = pick_yes k'.ended (suc (length chunk - k'.at)) 0 y in
    let n = (q [] (carries_cut e [] z)).on_end y in
    let a = n.further in
    let b = n.within in
    omega arith)
    (λ y.
    let then = pick_no k'.ended (suc (length chunk - k'.at)) 0 y in
    omega arith)

-- ---- where it stops

seeking_found : (line : Line) (k₀ : Taken) (chunk : List ℕ) (from start : ℕ) (before : List ℕ) (k : Taken) (used : ℕ) (out : List ℕ) (p : Option Asked) (c : Asked) → Seeking k₀ chunk from start before k used out → k.ended ≡ true → Read k.line p → p ≡ Some c → ((l : List ℕ) → Carries (cut line) l → Took l chunk from k₀) → (l : List ℕ) → Carries (cut line) l → Sought [] l chunk from start before out (record { asked = Some c; line = k.line; at = k.at; used = used })
unfolding left_at
seeking_found line k₀ chunk from start before k used out p c w h r b q l z =
    let g = w.going l (q l z) in
    let e : LineEnded g.line chunk g.at k = g.took.on_end h in
    let n = ap length e.lines_are in
    let m = g.room in
    let there : Place = record { asked = Some c; line = k.line; at = k.at; used = used } in
    record {
      text = g.text;
      wrote = g.wrote;
      gives =
          λ t.
          g.gives t
          ∙ ap (and_then g.text) (ap (run_all t) e.lines_are ∙ call_next t chunk e.line there c refl (line_read k.line e.line p (Some c) e.carries r b));
      leaves = record { on_call = λ a f. g.left_is ∙ e.left_is; on_end = λ f. absurd (none-some c (sym f)) };
      short = omega arith;
      room = omega arith;
    }

pub seeking_some : (line : Line) (k₀ : Taken) (chunk : List ℕ) (from start : ℕ) (before : List ℕ) (k : Taken) (used : ℕ) (out : List ℕ) (p : Option Asked) (s : Bool) → Seeking k₀ chunk from start before k used out → k.ended ≡ true → Read k.line p → s ≡ is_some p → s ≡ true → ((l : List ℕ) → Carries (cut line) l → Took l chunk from k₀) → (l : List ℕ) → Carries (cut line) l → Sought [] l chunk from start before out (record { asked = p; line = k.line; at = k.at; used = used })
seeking_some line k₀ chunk from start before k used out None s w h r b d q l z = absurd (false≢true (sym b ∙ d))
seeking_some line k₀ chunk from start before k used out (Some c) s w h r b d q l z =
    seeking_found line k₀ chunk from start before k used out (Some c) c w h r refl q l z

pub end_next : (t : Table) (chunk : List ℕ) (p : Place) → p.asked ≡ None → run_all t [] ≡ run_at t chunk p
unfolding run_at
end_next t chunk p f = rw f

pub seeking_done : (line : Line) (k₀ : Taken) (chunk : List ℕ) (from start : ℕ) (before : List ℕ) (k : Taken) (used : ℕ) (out : List ℕ) → Seeking k₀ chunk from start before k used out → k.ended ≡ false → ((l : List ℕ) → Carries (cut line) l → Took l chunk from k₀) → (l : List ℕ) → Carries (cut line) l → Sought [] l chunk from start before out (record { asked = None; line = k.line; at = k.at; used = used })
unfolding left_at
seeking_done line k₀ chunk from start before k used out w h q l z =
    let g = w.going l (q l z) in
    let o : StillOpen g.line chunk g.at k = g.took.on_more h in
    let m = g.room in
    let there : Place = record { asked = None; line = k.line; at = k.at; used = used } in
    record {
      text = g.text;
      wrote = g.wrote;
      gives = λ t. g.gives t ∙ ap (and_then g.text) (ap (run_all t) o.lines_are ∙ end_next t chunk there refl);
      leaves =
          record {
            on_call = λ a f. absurd (none-some a f);
            on_end = λ _. subst (Carries k.line) (sym g.left_is) o.carries;
          };
      short = omega arith;
      room = omega arith;
    }

pub ruleset seek_loop = (seeking_starts, seeking_length, seeking_room, seeking_next, seeking_less, seeking_some, seeking_done)

-- ---- after an answer

pub answer_sought : (u : ArrayString) (v a : List ℕ) (chunk before mid after : List ℕ) (from at next : ℕ) (e : Line) (r : Place) → at + answer_bytes * suc (length (ended [] (drop from chunk))) ≤ length before → Written u a → v ≡ u.bytes → Copied v at before mid next → Carries e [] → ((l : List ℕ) → Carries (cut e) l → Sought [] l chunk from next mid after r) → Sought a [] chunk from at before after r
answer_sought u v a chunk before mid after from at next e r h w i c z q =
    let s = q [] (carries_cut e [] z) in
    let x = w.room in
    let n = ap length (i ∙ w.holds) in
    let j = ap length i in
    let y = c.place in
    let m = s.room in
    record {
      text = s.text;
      wrote = puts_more a s.text at next r.used before mid after (omega arith) (puts_text u v a at next before mid w i c) s.wrote;
      gives = s.gives;
      leaves = s.leaves;
      short = omega arith;
      room = omega arith;
    }
