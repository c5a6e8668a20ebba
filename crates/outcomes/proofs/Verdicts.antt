-- A call whose refusals have a verdict.
use mathlib.Core.Bool.{Bool, true, false, false≢true}
use mathlib.Core.List.{List, [], ◌∷◌}
use mathlib.Core.Path.{◌≡◌, refl, sym, ◌∙◌, ap}
use lib.Dec.{eqb}
use Rattle.std.proofs.Common.{Result, Ok, Err}
use Rattle.std.specs.Result.{IsErrAnd}
use Rattle.outcomes.specs.Verdicts.{settled, verdict}
use Rattle.rules.proofs.Laws.Judged.{None, place}
use Rattle.rules.proofs.Laws.Tests.{choose}
use Rattle.rules.specs.Answers.{judged, refused}
use Rattle.table.specs.Tests.{when◌then◌else◌}
use Rattle.table.specs.declared.Outcome.{Outcome}
use Rattle.table.specs.declared.Refusal.{Refusal}
use Rattle.table.specs.declared.Table.{Table}

-- whether a call is granted, or why not
abbrev pub Verdict : Type 0
Verdict = Result (Unit {0}) Refusal

-- that of one test
abbrev pub tested : Bool → Refusal → Verdict
tested b e = when b then Err e else Ok tt

-- ---- a list's verdict, from its first refusal on: b is what the code tested

pub err_ok : {e : Refusal} → ◌≡◌ {A = Verdict} (Err e) (Ok tt) → ⊥
err_ok q = false≢true (ap is_granted q)
  where
    is_granted : Verdict → Bool
    is_granted (Ok u) = true
    is_granted (Err e) = false

-- the test holds: the call is refused, whatever follows
pub refused_first : (e d : Refusal) (b x : Bool) (v : Verdict) → Err d ≡ tested b e → b ≡ x → Err d ≡ (when x then Err e else v)
refused_first e d true x v a h = a ∙ ap (λ y. when y then Err e else v) h
refused_first e d false x v a h = absurd (err_ok a)

-- it does not hold: the verdict is that of the others
pub passed_first : (e : Refusal) (b x : Bool) (u : Unit {0}) (v r : Verdict) → Ok u ≡ tested b e → b ≡ x → r ≡ v → r ≡ (when x then Err e else v)
passed_first e true x u v r a h q = absurd (err_ok (sym a))
passed_first e false x u v r a h q = q ∙ ap (λ y. when y then Err e else v) h

-- a refusal by an `ok_or`, as a verdict
pub refused_or : {A : Type 0} (e d : Refusal) → ◌≡◌ {A = Result A Refusal} (Err d) (Err e) → ◌≡◌ {A = Verdict} (Err d) (Err e)
refused_or {A} e d h = ap again h
  where
    again : Result A Refusal → Verdict
    again (Ok x) = Ok tt
    again (Err x) = Err x

-- what is granted passed the test
pub passed : (e : Refusal) (b : Bool) (u : Unit {0}) (v : Verdict) → Ok u ≡ (when b then Err e else v) → (b ≡ false) × (Ok u ≡ v)
passed e true u v a = absurd (err_ok (sym a))
passed e false u v a = (refl, a)

-- what is granted passed them all
pub none_holds : (rs : List (Refusal × Bool)) → Ok tt ≡ verdict rs → None rs
none_holds [] q e = refl
none_holds (r ∷ rs) q e =
    let (h, k) = passed r.0 r.1 tt (verdict rs) q in
    choose (λ b. b ≡ false) (eqb (place e) (place r.0)) (λ z. h) (λ z. none_holds rs k e)

-- ---- and what the call gives by it

-- what a call gives by a verdict
abbrev ruled : Table → Verdict → (Unit {0} → Outcome) → Outcome
ruled t (Ok u) o = o tt
ruled t (Err e) o = refused t e

-- the definition goes by the verdict on its list
judged_ruled : (t : Table) (rs : List (Refusal × Bool)) (o : Unit {0} → Outcome) → judged t rs o ≡ ruled t (verdict rs) o
judged_ruled t [] o = refl
judged_ruled t (r ∷ rs) o = go r.1 (judged_ruled t rs o)
  where
    go : (b : Bool) → judged t rs o ≡ ruled t (verdict rs) o → (when b then refused t r.0 else judged t rs o) ≡ ruled t (when b then Err r.0 else verdict rs) o
    go true h = refl
    go false h = h

-- e is what a `?` passes on, as r
module _ (t : Table) (rs : List (Refusal × Bool)) (o : Unit {0} → Outcome) where
  pub judged_refuses : (e : Refusal) (r : Result Outcome Refusal) → IsErrAnd r (λ d. d ≡ e) → Err e ≡ verdict rs → settled t r ≡ judged t rs o
  judged_refuses e (Ok x) q h = absurd q
  judged_refuses e (Err d) q h = ap (refused t) q ∙ ap (λ v. ruled t v o) h ∙ sym (judged_ruled t rs o)

  pub judged_grants : (u : Unit {0}) (r : Outcome) → Ok u ≡ verdict rs → r ≡ o tt → r ≡ judged t rs o
  judged_grants u r h a = a ∙ ap (λ v. ruled t v o) h ∙ sym (judged_ruled t rs o)
