-- What whoever feeds a session must know: that there is room, and that what was written lies within the buffer.
use Prim.Native.Nat.{ℕ, ◌≤◌, ◌*◌}
use mathlib.Core.List.{List, [], ◌∷◌, ◌++◌}
use mathlib.Core.Path.{◌≡◌, sym, ap}
use lib.ListN.{length, take, drop, length-append}
use lib.Seq.{length-take-le}
use native.Mathlib.Omega.{arith}
use denote.Laws.{Is}
use denote.Struct.Laws as LL
use Rattle.lines.proofs.Carrying.{carries_own}
use Rattle.lines.proofs.Cuts.{ended_few}
use Rattle.lines.specs.Carried.{Carries, cut}
use Rattle.lines.specs.Runs.{run_all}
use Rattle.lines.specs.Splitting.{ended, last_line}
use Rattle.lines.specs.contracts.Line as L
use Rattle.lines.proofs.Line.TheLaws as L'
use Rattle.script.specs.Sizes.{answer_bytes}
use Rattle.session.specs.contracts.Session as S
use Rattle.session.proofs.Session.TheLaws as S'
use Rattle.session.specs.Sessions.{Wrote, Feeds}
use Rattle.session.specs.declared.Fed.{Fed}
use Rattle.session.specs.declared.Session.{Session}

-- A chunk asks for at most as much room as an answer for each of its bytes.
pub enough_room : (chunk out : List ℕ) → answer_bytes * length chunk ≤ length out → answer_bytes * length (ended [] chunk) ≤ length out
enough_room chunk out h = let f = ended_few [] chunk in omega arith

-- What is known of every session that is passed or returned: that it is one of the declared type.
abbrev pub Good : Session → Type 0
Good s = Is S.the_row s (LL.val S.the_type S'.the_laws s ∷ [])

-- So its line, as it is taken in, carries something.
abbrev own : Session → List ℕ
own s = take (cut s.line).len s.line.bytes

own_carried : (s : Session) → Good s → Carries (cut s.line) (own s)
own_carried s g =
    let is = (LL.owed S.the_type S'.the_laws s _ g).1.0 in
    carries_own s.line (LL.owed L.the_type L'.the_laws s.line _ is).0.1.0.1

wrote_within : (text before after : List ℕ) (used : ℕ) → Wrote text before after used → used ≤ length after
wrote_within text before after used w =
    let s = w.size in
    let e : length after ≡ length (text ++ drop used before) = ap length w.holds in
    let n = length-append text (drop used before) in
    omega arith

-- ---- after a chunk

pub fed_within : (s : Session) (chunk before after : List ℕ) (r : Fed) → Good s → ((l : List ℕ) → Carries (cut s.line) l → Feeds s l chunk before after r) → r.used ≤ length after
fed_within s chunk before after r g f =
    wrote_within (run_all s.table (ended (own s) chunk)).text before after r.used (f (own s) (own_carried s g)).wrote

pub fed_part : (s : Session) (chunk before after : List ℕ) (r : Fed) → Good s → ((l : List ℕ) → Carries (cut s.line) l → Feeds s l chunk before after r) → r.used ≡ length (take r.used after)
fed_part s chunk before after r g f = sym (length-take-le r.used after (fed_within s chunk before after r g f))

-- ---- at the end

pub last_within : (s : Session) (before after : List ℕ) (used : ℕ) → Good s → ((l : List ℕ) → Carries (cut s.line) l → Wrote (run_all s.table (last_line l)).text before after used) → used ≤ length after
last_within s before after used g f =
    wrote_within (run_all s.table (last_line (own s))).text before after used (f (own s) (own_carried s g))

pub last_part : (s : Session) (before after : List ℕ) (used : ℕ) → Good s → ((l : List ℕ) → Carries (cut s.line) l → Wrote (run_all s.table (last_line l)).text before after used) → used ≡ length (take used after)
last_part s before after used g f = sym (length-take-le used after (last_within s before after used g f))
