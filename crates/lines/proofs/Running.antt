-- Running lines as they come: by parts and by chunks.
use Prim.Native.Nat.{ℕ}
use mathlib.Core.List.{List, [], ◌∷◌, ◌++◌, append_assoc}
use mathlib.Core.Path.{◌≡◌, refl, sym, ap, ◌∙◌}
use Rattle.lines.proofs.Cuts.{cuts_make_no_difference}
use Rattle.lines.specs.Runs.{run_line, run_all, run, run_chunks, CutsChangeNoOutput}
use Rattle.lines.specs.Splitting.{ended, left, lines_by_chunks}
use Rattle.script.specs.Reading.{read_line}
use Rattle.table.specs.Fresh.{fresh}
use Rattle.table.specs.declared.Table.{Table}

-- ---- lines in two parts

pub text_parts : (t : Table) (ks ls : List (List ℕ)) → (run_all t (ks ++ ls)).text ≡ (run_all t ks).text ++ (run_all (run_all t ks).table ls).text
unfolding run_all
text_parts t [] ls = refl
text_parts t (k ∷ ks) ls =
    let r = run_line t (read_line k) in
    ap (λ s. r.text ++ s) (text_parts r.table ks ls)
    ∙ sym (append_assoc r.text (run_all r.table ks).text (run_all (run_all r.table ks).table ls).text)

-- ---- chunks

chunks_text : (t : Table) (l : List ℕ) (cs : List (List ℕ)) → run_chunks t l cs ≡ (run_all t (lines_by_chunks l cs)).text
unfolding run_chunks lines_by_chunks
chunks_text t l [] = refl
chunks_text t l (c ∷ cs) =
    ap (λ s. (run_all t (ended l c)).text ++ s) (chunks_text (run_all t (ended l c)).table (left l c) cs)
    ∙ sym (text_parts t (ended l c) (lines_by_chunks (left l c) cs))

pub cuts_change_no_output : CutsChangeNoOutput
unfolding run
cuts_change_no_output cs = chunks_text fresh [] cs ∙ ap (λ ls. (run_all fresh ls).text) (cuts_make_no_difference cs)
