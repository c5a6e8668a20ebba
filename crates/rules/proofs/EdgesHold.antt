-- "Edges to try", with the check of the table before each call: each call leaves a sound table sound, so the answers
-- are those that Edges.antt computes.
use Prim.Native.Nat.{ℕ}
use mathlib.Core.Bool.{So}
use mathlib.Core.List.{List, [], ◌∷◌}
use mathlib.Core.Path.{◌≡◌, refl, ap, ◌∙◌}
use Rattle.rules.proofs.Edges.{Line, Edge, answers, all_answers, edges, sound_starts, expected, edges_start, edges_served}
use Rattle.rules.proofs.Keeps.Changes.{keeps_sound}
use Rattle.rules.proofs.Laws.Tests.{left, right}
use Rattle.rules.proofs.Tables.{served}
use Rattle.rules.specs.Answers.{shown}
use Rattle.rules.specs.Claims.{KeepsSound}
use Rattle.rules.specs.Sound.{SoundTable}
use Rattle.rules.specs.Step.{step}
use Rattle.table.specs.declared.Call.{Call}
use Rattle.table.specs.declared.Outcome.{Outcome}
use Rattle.table.specs.declared.Table.{Table}

served_is : (t : Table) (c : ℕ) (call : Call) → SoundTable t → step t c call ≡ served t c call
unfolding step
served_is t c call h = rw h.rules

same_answers : (t : Table) → SoundTable t → (ls : List Line) → answers step t ls ≡ answers served t ls
unfolding KeepsSound
same_answers t h [] = refl
same_answers t h (l ∷ ls) =
    ap (λ rest. shown (step t l.0 l.1).reply.answer ∷ rest) (same_answers (step t l.0 l.1).table (keeps_sound t l.0 l.1 h) ls)
    ∙ ap (λ (r : Outcome). shown r.reply.answer ∷ answers served r.table ls) (served_is t l.0 l.1 h)

same_all : (es : List Edge) → So (sound_starts es) → all_answers step es ≡ all_answers served es
same_all [] h = refl
same_all (e ∷ es) h =
    let s = left _ _ h in
    ap (λ a. a ∷ all_answers step es) (same_answers e.0 (record { shape = left _ _ s; rules = right _ _ s }) e.1)
    ∙ ap (λ rest. answers served e.0 e.1 ∷ rest) (same_all es (right _ _ h))

-- Every edge is answered as document 01 says. (Where an init signals itself, the whole table stays as it was:
-- `init_spared` says so for any sound table.)
pub edges_hold : all_answers step edges ≡ expected edges
edges_hold = same_all edges edges_start ∙ edges_served
