-- What is read, run and written, from chunk to chunk.
use Rattle.std.proofs.Common.{◌≡◌, sym, subst, ℕ, List, [], ◌++◌, take, Option, Result, Ok, IfOk, arith}
use Rattle.std.proofs.KnownBytes.{Appends-nil, Appends-trans, Consumes-nil, Consumes-trans}
use Rattle.std.proofs.lemmas.Result.{IfOk-weaker}
use Rattle.std.specs.Io.KnownBytes.{Appends, Consumes}
use Rattle.lines.proofs.Carrying.{carries_cut}
use Rattle.lines.specs.Carried.{Carries, cut}
use Rattle.lines.specs.Runs.{run_all}
use Rattle.lines.specs.Splitting.{ended, left}
use Rattle.recorder.proofs.Standing.{stands_first, stands_next}
use Rattle.recorder.proofs.Writing.{first_both}
use Rattle.recorder.specs.Running.{Answers, GoesOn}
use Rattle.recorder.specs.Standing.{Stands}
use Rattle.recorder.specs.Writing.{TookFirst}
use Rattle.recorder.specs.declared.faults.Stopped.{Stopped}
use Rattle.session.proofs.Writing.{written}
use Rattle.session.specs.Sessions.{Feeds}
use Rattle.session.specs.declared.Fed.{Fed}
use Rattle.session.specs.declared.Session.{Session}
use Rattle.table.specs.Fresh.{fresh}

-- ---- a chunk

module _ (input text chunk before out : List ℕ) (old new : Option (List ℕ)) (s : Session) (f : Fed) (feeds : (l : List ℕ) → Carries (cut s.line) l → Feeds s l chunk before out f) (a : Stands input text s) where
  gave : List ℕ
  gave = (run_all s.table (ended (left [] input) chunk)).text

  fed : Feeds s (left [] input) chunk before out f
  fed = feeds (left [] input) (carries_cut s.line (left [] input) a.carries)

  wrote : take f.used out ≡ gave
  unfolding gave
  wrote = written gave before out f.used fed.wrote

  pub answered : (r : Result Session Stopped) → TookFirst old new (take f.used out) → IfOk r (λ t. (t ≡ f.session) × Appends old new (take f.used out)) → Answers input text chunk old new r
  unfolding gave
  answered r p w =
      let n = stands_next input text chunk before out s f a fed in
      record {
        gave = gave;
        text_is = n.text_is;
        first = subst (λ t. TookFirst old new t) wrote p;
        whole =
            IfOk-weaker r _ _
            (λ t q. (subst (λ t. Stands (input ++ chunk) (text ++ gave) t) (sym q.0) n, subst (λ t. Appends old new t) wrote q.1))
            w;
      }

-- ---- one after the other

-- Before the first read.
pub begins : (unread w : Option (List ℕ)) (s : Session) → (s.table ≡ fresh) × Carries s.line [] → GoesOn unread unread w w (Ok s)
begins unread w s p =
    let a = stands_first s p in
    record {
      input = [];
      consumes = Consumes-nil unread;
      answers = record { gave = []; text_is = a.text_is; first = (0, omega arith, Appends-nil w); whole = (a, Appends-nil w) };
    }

-- A chunk that was read and run.
pub goes_further : (unread rest later old mid new : Option (List ℕ)) (s : Session) (chunk : List ℕ) (r : Result Session Stopped) → GoesOn unread rest old mid (Ok s) → Consumes rest later chunk → ((input text : List ℕ) → Stands input text s → Answers input text chunk mid new r) → GoesOn unread later old new r
goes_further unread rest later old mid new s chunk r g c f =
    let a = g.answers in
    let (stands, whole) = a.whole in
    let b = f g.input a.gave stands in
    record {
      input = g.input ++ chunk;
      consumes = Consumes-trans unread rest later g.input chunk g.consumes c;
      answers = record {
        gave = a.gave ++ b.gave;
        text_is = b.text_is;
        first = first_both old mid new a.gave b.gave whole b.first;
        whole = IfOk-weaker r _ _ (λ t q. (q.0, Appends-trans old mid new a.gave b.gave whole q.1)) b.whole;
      };
    }
