-- Promise 3 as types: a value of such a type is a proof.
use Rattle.std.specs.Prelude.{ℕ, Bool, true, false, not, List, [], ◌∷◌, ◌≡◌}
use Rattle.std.proofs.Math.Bool.{So}
use Rattle.std.proofs.Math.Option.{Option, none, some}
use Rattle.rules.specs.Answers.{Shown, minus, is_no_room}
use Rattle.sameness.specs.Events.{Place, at, Event, inside, outside, sheet_of, inside_calls, happens, answer_of, next_table, next_place}
use Rattle.rules.specs.Read.{view, namespace_taken, alive, dead, seen, pid_seen}
use Rattle.sameness.specs.Sheet.{Sheet, sheet}
use Rattle.rules.specs.Sound.{SoundTable}
use Rattle.table.specs.Tests.{◌and◌, ◌or◌, when◌then◌else◌}
use Rattle.sameness.specs.Touches.{allowed, untouched}
use Rattle.table.specs.declared.Call.{Call}
use Rattle.table.specs.declared.Table.{Table}

-- An outside call that makes no touch leaves the sheet as it was, granted or refused.
unfoldable pub OutsideLeaves : Type 0
OutsideLeaves =
    (t : Table) (s i : ℕ) (c : Call) → SoundTable t → So (namespace_taken (view t) s) → So (allowed t (at s) (outside i c))
    → sheet_of (next_table t (at s) (outside i c)) (next_place t (at s) (outside i c)) ≡ sheet (view t) s

-- Compared are the answers, with how a removed process ended, but no slot told to the host, and the whole sheets.
pub record Observed : Type 0 where
  pub answer : Option Shown
  pub sheet : Sheet

-- what one event adds: after an inside call its answer and the sheet
unfoldable pub observe : Table → Place → Event → List Observed → List Observed
observe t p (inside k c) os =
    record { answer = answer_of (happens t p (inside k c)); sheet = sheet_of (next_table t p (inside k c)) (next_place t p (inside k c)) } ∷ os
observe t p (outside i c) os = os

-- of a whole list, and the sheet at its end
unfoldable pub observations : Table → Place → List Event → List Observed
observations t p [] = record { answer = none; sheet = sheet_of t p } ∷ []
observations t p (e ∷ es) = observe t p e (observations (next_table t p e) (next_place t p e) es)

-- an answer of "no room"
unfoldable pub lacks_room : Observed → Bool
lacks_room o = elim o.answer [ none ↦ false | some a ↦ is_no_room a ]

-- equal up to the first "no room" of either
unfoldable pub Agree : List Observed → List Observed → Type 0
Agree [] [] = Unit {0}
Agree [] (q ∷ qs) = ⊥
Agree (o ∷ os) [] = ⊥
Agree (o ∷ os) (q ∷ qs) = when lacks_room o or lacks_room q then Unit {0} else ((o ≡ q) × Agree os qs)

-- Two sound tables, in each a living namespace, the two with equal sheets: the same inside calls give the same answers
-- and equal sheets on both, whatever untouching outside calls stand between, up to the first "no room".
unfoldable pub Sameness : Type 0
Sameness =
    (t u : Table) (s r : ℕ) → SoundTable t → SoundTable u → So (alive (view t) s) → So (alive (view u) r)
    → sheet (view t) s ≡ sheet (view u) r
    → (es fs : List Event) → inside_calls es ≡ inside_calls fs → So (untouched t (at s) es) → So (untouched u (at r) fs)
    → Agree (observations t (at s) es) (observations u (at r) fs)

-- ---- the end of S

-- S ended: any inside call then gets -1001.
unfoldable pub EndedRefuses : Type 0
EndedRefuses =
    (t : Table) (s i : ℕ) (c : Call) → SoundTable t → So (dead (view t) s) → So (seen (view t) s i)
    → answer_of (happens t (at s) (inside (pid_seen (view t) s i) c)) ≡ some (minus 1001, none)

-- where S is at the end of a list
unfoldable pub place_after : Table → Place → List Event → Place
place_after t p [] = p
place_after t p (e ∷ es) = place_after (next_table t p e) (next_place t p e) es

-- Without touches S is never freed.
unfoldable pub NeverFreed : Type 0
NeverFreed =
    (t : Table) (s : ℕ) (es : List Event) → SoundTable t → So (alive (view t) s) → So (untouched t (at s) es)
    → place_after t (at s) es ≡ at s

-- ---- what is learnt

-- no observation is a "no room"
unfoldable pub roomy : List Observed → Bool
roomy [] = true
roomy (o ∷ os) = not (lacks_room o) and roomy os

-- A program inside cannot learn, by any calls, anything of what stands outside, but by the four touches and the lack of
-- room: where there is room, all that is observed is the same on both tables.
unfoldable pub NothingLearnt : Type 0
NothingLearnt =
    (t u : Table) (s r : ℕ) → SoundTable t → SoundTable u → So (alive (view t) s) → So (alive (view u) r)
    → sheet (view t) s ≡ sheet (view u) r
    → (es fs : List Event) → inside_calls es ≡ inside_calls fs → So (untouched t (at s) es) → So (untouched u (at r) fs)
    → So (roomy (observations t (at s) es)) → So (roomy (observations u (at r) fs))
    → observations t (at s) es ≡ observations u (at r) fs
