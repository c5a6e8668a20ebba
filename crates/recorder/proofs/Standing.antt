-- Where a session stands, from chunk to chunk.
use Rattle.std.proofs.Common.{◌≡◌, refl, sym, ap, ap₂, subst, ◌∙◌, ℕ, List, [], ◌∷◌, ◌++◌}
use Rattle.lines.proofs.Cuts.{ended_parts, left_parts}
use Rattle.lines.proofs.Running.{text_parts}
use Rattle.lines.specs.Carried.{Carries}
use Rattle.lines.specs.Runs.{run_all, run_line}
use Rattle.lines.specs.Splitting.{ended, left}
use Rattle.recorder.specs.Standing.{Stands}
use Rattle.script.specs.Reading.{read_line}
use Rattle.session.specs.Sessions.{Feeds}
use Rattle.session.specs.declared.Fed.{Fed}
use Rattle.session.specs.declared.Session.{Session}
use Rattle.table.specs.Fresh.{fresh}
use Rattle.table.specs.declared.Table.{Table}

-- ---- a table in two parts

table_parts : (t : Table) (ks ls : List (List ℕ)) → (run_all t (ks ++ ls)).table ≡ (run_all (run_all t ks).table ls).table
unfolding run_all
table_parts t [] ls = refl
table_parts t (k ∷ ks) ls = table_parts (run_line t (read_line k)).table ks ls

-- ---- at the start, and on through a chunk

pub stands_first : (s : Session) → (s.table ≡ fresh) × Carries s.line [] → Stands [] [] s
unfolding run_all ended left
stands_first s p = record { table_is = p.0; carries = p.1; text_is = refl }

pub stands_next : (input text chunk before after : List ℕ) (s : Session) (r : Fed) → Stands input text s → Feeds s (left [] input) chunk before after r → Stands (input ++ chunk) (text ++ (run_all s.table (ended (left [] input) chunk)).text) r.session
stands_next input text chunk before after s r a f =
    let ls : List (List ℕ) = ended (left [] input) chunk in
    let e = sym (ended_parts [] input chunk) in
    record {
      table_is =
          f.table_is ∙ ap (λ t. (run_all t ls).table) a.table_is ∙ sym (table_parts fresh (ended [] input) ls)
          ∙ ap (λ ks. (run_all fresh ks).table) e;
      carries = subst (λ l. Carries r.session.line l) (sym (left_parts [] input chunk)) f.carries;
      text_is =
          ap₂ (λ x t. x ++ (run_all t ls).text) a.text_is a.table_is ∙ sym (text_parts fresh (ended [] input) ls)
          ∙ ap (λ ks. (run_all fresh ks).text) e;
    }
