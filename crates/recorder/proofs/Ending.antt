-- What a whole script gives, and what was written of it.
use Rattle.std.proofs.Common.{◌≡◌, sym, ap, subst, ◌∙◌, ℕ, ◌≤◌, List, length, [], ◌++◌, take, Option, None, Some, Result, Ok, arith}
use Rattle.std.proofs.KnownBytes.{Appends-trans, Consumes-whole}
use Rattle.std.proofs.lemmas.List.{append_assoc, length-take}
use Rattle.std.specs.Io.KnownBytes.{Appends, IsAtEnd}
use Rattle.lines.proofs.Carrying.{carries_cut}
use Rattle.lines.proofs.Cuts.{ended_parts}
use Rattle.lines.proofs.Running.{text_parts}
use Rattle.lines.specs.Carried.{Carries, cut}
use Rattle.lines.specs.Runs.{run_all, run}
use Rattle.lines.specs.Splitting.{ended, left, last_line, lines}
use Rattle.recorder.proofs.Writing.{first_both, first_longer}
use Rattle.recorder.specs.Running.{GoesOn, WritesFirst, WritesAll}
use Rattle.recorder.specs.Standing.{Stands}
use Rattle.recorder.specs.Writing.{TookFirst}
use Rattle.recorder.specs.declared.faults.Stopped.{Stopped}
use Rattle.session.proofs.Writing.{written}
use Rattle.session.specs.Sessions.{Wrote}
use Rattle.session.specs.declared.Session.{Session}
use Rattle.table.specs.Fresh.{fresh}

-- What a script gives begins with what its first bytes gave.
more : (xs ys : List ℕ) → List ℕ
more xs ys =
    let rest : List (List ℕ) = ended (left [] xs) ys ++ last_line (left [] (xs ++ ys)) in
    (run_all (run_all fresh (ended [] xs)).table rest).text

run_parts : (xs ys : List ℕ) → run (xs ++ ys) ≡ (run_all fresh (ended [] xs)).text ++ more xs ys
unfolding run lines more
run_parts xs ys =
    let m : List (List ℕ) = last_line (left [] (xs ++ ys)) in
    let rest : List (List ℕ) = ended (left [] xs) ys ++ m in
    ap (λ e. (run_all fresh (e ++ m)).text) (ended_parts [] xs ys)
    ∙ ap (λ ls. (run_all fresh ls).text) (append_assoc (ended [] xs) (ended (left [] xs) ys) m)
    ∙ text_parts fresh (ended [] xs) rest

run_last : (xs : List ℕ) → run xs ≡ (run_all fresh (ended [] xs)).text ++ (run_all (run_all fresh (ended [] xs)).table (last_line (left [] xs))).text
unfolding run lines
run_last xs = text_parts fresh (ended [] xs) (last_line (left [] xs))

-- ---- where the open line is not run

pub writes_first : (script rest old new : Option (List ℕ)) (r : Result Session Stopped) → GoesOn script rest old new r → WritesFirst script old new
writes_first None rest old new r g = tt
writes_first (Some xs) None old new r g = absurd g.consumes
writes_first (Some xs) (Some ys) old new r g =
    let a = g.answers in
    let e = ap run g.consumes ∙ run_parts g.input ys ∙ ap (λ t. t ++ more g.input ys) (sym a.text_is) in
    subst (λ t. TookFirst old new t) (sym e) (first_longer old new a.gave (more g.input ys) a.first)

-- ---- where it is run, at the end of the input

module _ (script rest old mid : Option (List ℕ)) (s : Session) (before out : List ℕ) (used : ℕ) (g : GoesOn script rest old mid (Ok s)) (finished : (l : List ℕ) → Carries (cut s.line) l → Wrote (run_all s.table (last_line l)).text before out used) where
  stands : Stands g.input g.answers.gave s
  stands = g.answers.whole.0

  wrote : Wrote (run_all s.table (last_line (left [] g.input))).text before out used
  wrote = finished (left [] g.input) (carries_cut s.line (left [] g.input) stands.carries)

  last : take used out ≡ (run_all s.table (last_line (left [] g.input))).text
  last = written (run_all s.table (last_line (left [] g.input))).text before out used wrote

  pub ends_part : used ≡ length (take used out)
  ends_part = wrote.size ∙ sym (ap length last)

  pub ends_within : used ≤ length out
  ends_within =
      let e = ends_part in
      let n = length-take used out in
      omega arith

  gives : run g.input ≡ g.answers.gave ++ take used out
  gives =
      let m : List (List ℕ) = last_line (left [] g.input) in
      run_last g.input ∙ ap (λ x. x ++ (run_all (run_all fresh (ended [] g.input)).table m).text) (sym stands.text_is)
      ∙ ap (λ u. g.answers.gave ++ (run_all u m).text) (sym stands.table_is) ∙ ap (λ x. g.answers.gave ++ x) (sym last)

  pub ends_first : (new : Option (List ℕ)) → IsAtEnd rest → TookFirst mid new (take used out) → WritesFirst script old new
  ends_first new e p =
      Consumes-whole script rest g.input (λ xs. TookFirst old new (run xs)) g.consumes e
      (subst (λ t. TookFirst old new t) (sym gives) (first_both old mid new g.answers.gave (take used out) g.answers.whole.1 p))

  pub ends_whole : (new : Option (List ℕ)) → IsAtEnd rest → Appends mid new (take used out) → WritesAll script old new
  ends_whole new e p =
      Consumes-whole script rest g.input (λ xs. Appends old new (run xs)) g.consumes e
      (subst (λ t. Appends old new t) (sym gives) (Appends-trans old mid new g.answers.gave (take used out) g.answers.whole.1 p))

pub ruleset end_laws = (writes_first, ends_part, ends_within)
