-- A whole script, run into a buffer that has room for it.
use Prim.Native.Nat.{ℕ, ◌≤◌, ◌<◌, ◌+◌, ◌-◌, ◌*◌, ◌/◌}
use mathlib.Core.Bool.{true}
use mathlib.Core.List.{List, [], ◌∷◌, ◌++◌, append-nil, append_assoc}
use mathlib.Core.Path.{◌≡◌, refl, sym, ap, ap₂, subst, subst₂, ◌∙◌}
use native.Mathlib.Nat.{add-zero}
use native.Mathlib.Omega.{arith}
use lib.Dec.{ltb}
use lib.ListN.{length, take, drop, length-append, length-drop, take-append-drop, drop_of_length-le}
use lib.Seq.{take_all, take-append_seam, drop-append-add, drop-drop}
use borrow.Author.Tests.{lt-ltb, le-ltb}
use Rattle.lines.proofs.Carrying.{carries_cut}
use Rattle.lines.proofs.Running.{text_parts}
use Rattle.std.specs.Prelude.{Option, Some, None}
use Rattle.lines.specs.Carried.{Carries, cut}
use Rattle.lines.specs.Runs.{run_line, run_all, run}
use Rattle.lines.specs.Splitting.{ended, left, last_line, lines}
use Rattle.lines.specs.declared.Line.{Line}
use Rattle.script.proofs.Writes.{answer_short}
use Rattle.script.specs.Outputs.{bad_line}
use Rattle.script.specs.Reading.{read_line}
use Rattle.script.specs.Sizes.{answer_bytes}
use Rattle.script.specs.declared.Asked.{Asked}
use Rattle.session.proofs.Writing.{nothing_last, wrote_length}
use Rattle.session.specs.Sessions.{Wrote, Feeds}
use Rattle.session.specs.declared.Fed.{Fed}
use Rattle.session.specs.declared.Session.{Session}
use Rattle.table.proofs.Chains.{if_yes, if_no}
use Rattle.table.specs.Fresh.{fresh}
use Rattle.rules.specs.Step.{step}
use Rattle.table.specs.declared.Table.{Table}
use Rattle.lampfunnel.specs.Run.{short, needed, told, filled}

-- ---- no answer is longer than the room for one

line_short : (t : Table) (p : Option Asked) → length (run_line t p).text ≤ answer_bytes
unfolding run_line bad_line
line_short t None = omega arith
line_short t (Some a) = answer_short (step t a.slot.0 a.call).reply.answer

answers_short : (t : Table) (ls : List (List ℕ)) → length (run_all t ls).text ≤ answer_bytes * length ls
unfolding run_all
answers_short t [] = omega arith
answers_short t (l ∷ ls) =
    let r = run_line t (read_line l) in
    let s = line_short t (read_line l) in
    let m = answers_short r.table ls in
    let a = length-append r.text (run_all r.table ls).text in
    omega arith

-- ---- too short a buffer

is_short : (script : List ℕ) (size n : ℕ) → n ≡ length (lines script) → size / answer_bytes < n → ltb size (needed script) ≡ true
unfolding needed
is_short script size n e h = lt-ltb size (answer_bytes * length (lines script)) (omega arith)

pub short_told : (script : List ℕ) (size n : ℕ) → n ≡ length (lines script) → size / answer_bytes < n → short ≡ told script size
unfolding told
short_told script size n e h = if_yes (ltb size (needed script)) short short (length (run script)) (is_short script size n e h) refl

pub short_filled : (script before : List ℕ) (n : ℕ) → n ≡ length (lines script) → length before / answer_bytes < n → before ≡ filled script before
unfolding filled
short_filled script before n e h =
    if_yes (ltb (length before) (needed script)) before before (run script ++ drop (length (run script)) before)
    (is_short script (length before) n e h) refl

-- ---- a buffer with room

has_room : (script : List ℕ) (size n : ℕ) → n ≡ length (lines script) → n ≤ size / answer_bytes → needed script ≤ size
unfolding needed
has_room script size n e h = omega arith

lines_parts : (script : List ℕ) → length (lines script) ≡ length (ended [] script) + length (last_line (left [] script))
unfolding lines
lines_parts script = length-append (ended [] script) (last_line (left [] script))

pub room_for_ended : (script : List ℕ) (size n : ℕ) → n ≡ length (lines script) → n ≤ size / answer_bytes → answer_bytes * length (ended [] script) ≤ size
room_for_ended script size n e h = let p = lines_parts script in omega arith

pub wrote_told : (script before after : List ℕ) (r : ℕ) → needed script ≤ length before → Wrote (run script) before after r → (r ≡ told script (length before)) × (after ≡ filled script before)
unfolding told filled
wrote_told script before after r h w =
    let f = le-ltb (length before) (needed script) h in (
      if_no (ltb (length before) (needed script)) r short (length (run script)) f w.size,
      if_no (ltb (length before) (needed script)) after before (run script ++ drop (length (run script)) before) f
          (w.holds ∙ ap (λ k. run script ++ drop k before) w.size),
    )

-- ---- two parts

run_parts : (script : List ℕ) → run script ≡ (run_all fresh (ended [] script)).text ++ (run_all (run_all fresh (ended [] script)).table (last_line (left [] script))).text
unfolding run lines
run_parts script = text_parts fresh (ended [] script) (last_line (left [] script))

pub wrote_parts : (x y before mid after part : List ℕ) (u m : ℕ) → Wrote x before mid u → Wrote y (drop u mid) part m → after ≡ take u mid ++ part → Wrote (x ++ y) before after (u + m)
wrote_parts x y before mid after part u m v w e =
    let s = v.size in
    let n = w.size in
    let a = length-append x y in
    let f : take u mid ≡ x = ap₂ (λ i l. take i l) s v.holds ∙ take-append_seam x (drop u before) in
    let g : drop m (drop u mid) ≡ drop (u + m) before =
    drop-drop m u mid ∙ ap₂ (λ i l. drop i l) (ap (λ i. i + m) s) v.holds ∙ drop-append-add x (drop u before) m
    ∙ drop-drop m u before in
    record {
      size = omega arith;
      holds =
          e ∙ ap₂ (λ p q. p ++ q) f (w.holds ∙ ap (λ q. y ++ q) g) ∙ sym (append_assoc x y (drop (u + m) before));
    }

-- ---- the script is fed whole

-- The lines that end in it were run; r tells what is left.
pub record FedWhole (script before mid : List ℕ) (r : Fed) : Type 0 where
  pub room : needed script ≤ length before
  pub wrote : Wrote (run_all fresh (ended [] script)).text before mid r.used
  pub table_is : r.session.table ≡ (run_all fresh (ended [] script)).table
  pub carries : Carries r.session.line (left [] script)

pub fed_whole : (script before mid : List ℕ) (n : ℕ) (s : Session) (r : Fed) → n ≡ length (lines script) → n ≤ length before / answer_bytes → (s.table ≡ fresh) × Carries s.line [] → ((l : List ℕ) → Carries (cut s.line) l → Feeds s l script before mid r) → FedWhole script before mid r
fed_whole script before mid n s r e h b f =
    let w : Feeds s [] script before mid r = f [] (carries_cut s.line [] b.1) in
    record {
      room = has_room script (length before) n e h;
      wrote = subst (λ t. Wrote (run_all t (ended [] script)).text before mid r.used) b.0 w.wrote;
      table_is = w.table_is ∙ ap (λ t. (run_all t (ended [] script)).table) b.0;
      carries = w.carries;
    }

taken_in : (script before mid : List ℕ) (r : Fed) → FedWhole script before mid r → Carries (cut r.session.line) (left [] script)
taken_in script before mid r w = carries_cut r.session.line (left [] script) w.carries

last_one : (k : Line) (l : List ℕ) → Carries k l → (k.len ≡ 0 → ⊥) → length (last_line l) ≡ 1
unfolding last_line
last_one k [] c z = let s = c.size in absurd (z (omega arith))
last_one k (x ∷ xs) c z = refl

-- what was written fits into the room for the lines that ended
fed_short : (script before mid : List ℕ) (r : Fed) → FedWhole script before mid r → r.used ≤ answer_bytes * length (ended [] script)
fed_short script before mid r w =
    let a = answers_short fresh (ended [] script) in
    let s = w.wrote.size in
    omega arith

fed_length : (script before mid : List ℕ) (r : Fed) → FedWhole script before mid r → length mid ≡ length before
unfolding needed
fed_length script before mid r w =
    let u = fed_short script before mid r w in
    let h = w.room in
    let p = lines_parts script in
    wrote_length (run_all fresh (ended [] script)).text before mid r.used w.wrote (omega arith)

-- Where a line is left open there is room for its answer.
pub room_left : (script before mid : List ℕ) (r : Fed) → FedWhole script before mid r → (r.session.line.len ≡ 0 → ⊥) → r.used + answer_bytes ≤ length mid
unfolding needed
room_left script before mid r w z =
    let u = fed_short script before mid r w in
    let e = fed_length script before mid r w in
    let h = w.room in
    let p = lines_parts script in
    let o = last_one r.session.line (left [] script) w.carries z in
    omega arith

pub all_ended : (script before mid : List ℕ) (r : Fed) → FedWhole script before mid r → r.session.line.len ≡ 0 → (r.used ≡ told script (length before)) × (mid ≡ filled script before)
all_ended script before mid r w z =
    let x = run_all fresh (ended [] script) in
    let y : List ℕ = (run_all x.table (last_line (left [] script))).text in
    let n : Wrote y (drop r.used mid) (drop r.used mid) 0 =
    nothing_last x.table r.session.line (drop r.used mid) z (left [] script) (taken_in script before mid r w) in
    let v = wrote_parts x.text y before mid mid (drop r.used mid) r.used 0 w.wrote n (sym (take-append-drop r.used mid)) in
    wrote_told script before mid r.used w.room
    (subst (λ k. Wrote (run script) before mid k) (add-zero r.used) (subst (λ t. Wrote t before mid (r.used + 0)) (sym (run_parts script)) v))

-- ---- the last line

-- the rest of the buffer, as it is lent and as it comes back
rest_lent : (u : ℕ) (mid : List ℕ) → take (length mid - u) (drop u mid) ≡ drop u mid
rest_lent u mid = let d = length-drop u mid in take_all (length mid - u) (drop u mid) (omega arith)

rest_back : (u : ℕ) (mid part : List ℕ) → take u mid ++ (part ++ drop (length mid - u) (drop u mid)) ≡ take u mid ++ part
rest_back u mid part =
    let d = length-drop u mid in
    ap (λ l. take u mid ++ l)
    (ap (λ l. part ++ l) (drop_of_length-le (drop u mid) {i = length mid - u} (omega arith)) ∙ append-nil part)

pub last_asks : (script before mid : List ℕ) (r : Fed) → FedWhole script before mid r → (r.session.line.len ≡ 0 → ⊥) → answer_bytes ≤ length (take (length mid - r.used) (drop r.used mid))
last_asks script before mid r w z =
    let h = room_left script before mid r w z in
    let d = length-drop r.used mid in
    let e = ap length (rest_lent r.used mid) in
    omega arith

-- the last line's answers in the rest of the buffer
abbrev pub LastWrote : (mid part : List ℕ) → Fed → ℕ → Type 0
LastWrote mid part r m =
    (l : List ℕ) → Carries (cut r.session.line) l →
    Wrote (run_all r.session.table (last_line l)).text (take (length mid - r.used) (drop r.used mid)) part m

pub last_fits : (script before mid part : List ℕ) (r : Fed) (m : ℕ) → FedWhole script before mid r → (r.session.line.len ≡ 0 → ⊥) → LastWrote mid part r m → r.used + m ≤ length before
last_fits script before mid part r m w z f =
    let h = room_left script before mid r w z in
    let e = fed_length script before mid r w in
    let s = (f (left [] script) (taken_in script before mid r w)).size in
    let a = answers_short r.session.table (last_line (left [] script)) in
    let o = last_one r.session.line (left [] script) w.carries z in
    omega arith

pub last_run : (script before mid part : List ℕ) (r : Fed) (m : ℕ) → FedWhole script before mid r → LastWrote mid part r m → (r.used + m ≡ told script (length before)) × (take r.used mid ++ (part ++ drop (length mid - r.used) (drop r.used mid)) ≡ filled script before)
last_run script before mid part r m w f =
    let x = run_all fresh (ended [] script) in
    let after : List ℕ = take r.used mid ++ (part ++ drop (length mid - r.used) (drop r.used mid)) in
    let n =
    subst₂ (λ t b. Wrote (run_all t (last_line (left [] script))).text b part m) w.table_is (rest_lent r.used mid)
    (f (left [] script) (taken_in script before mid r w)) in
    let v =
    wrote_parts x.text (run_all x.table (last_line (left [] script))).text before mid after part r.used m
    w.wrote n (rest_back r.used mid part) in
    wrote_told script before after (r.used + m) w.room
    (subst (λ t. Wrote t before after (r.used + m)) (sym (run_parts script)) v)
