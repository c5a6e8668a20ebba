-- A whole session writes what its script gives.
use Prim.Native.Nat.{ℕ}
use mathlib.Core.List.{List, [], ◌∷◌, ◌++◌}
use mathlib.Core.Path.{◌≡◌, ap, ap₂, ◌∙◌}
use Rattle.lines.proofs.Running.{cuts_change_no_output}
use Rattle.lines.specs.Carried.{Carries}
use Rattle.lines.specs.Runs.{run_chunks}
use Rattle.lines.specs.Splitting.{left}
use Rattle.session.proofs.Writing.{written}
use Rattle.session.specs.Whole.{Writes, SessionsWriteWhatScriptsGive}
use Rattle.session.specs.declared.Session.{Session}

writes_chunks : (cs : List (List ℕ)) (s : Session) (l text : List ℕ) → Carries s.line l → Writes cs s text → text ≡ run_chunks s.table l cs
unfolding Writes run_chunks
writes_chunks [] s l text k w = w.text_is ∙ written _ w.before w.after w.used (w.finished l k)
writes_chunks (c ∷ cs) s l text k w =
    let f = w.feeds l k in
    let e = writes_chunks cs w.fed.session (left l c) w.rest f.carries w.goes_on in
    w.text_is
    ∙ ap₂ (λ x y. x ++ y) (written _ w.before w.after w.fed.used f.wrote) (e ∙ ap (λ t. run_chunks t (left l c) cs) f.table_is)

pub sessions_write_what_scripts_give : SessionsWriteWhatScriptsGive
sessions_write_what_scripts_give s cs text k w =
    writes_chunks cs s [] text k.1 w ∙ ap (λ t. run_chunks t [] cs) k.0 ∙ cuts_change_no_output cs
