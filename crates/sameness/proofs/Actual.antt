-- Promise 3 is not empty: tables and lists to which it applies; how rows name namespaces; for each of the four touches
-- a call by which the sheet changes; and two tables on which the lack of room makes the answers differ. By computation.
use Prim.Native.Nat.{ℕ, ◌-◌}
use mathlib.Core.Bool.{Bool, true, So}
use mathlib.Core.List.{List, [], ◌∷◌, ◌++◌, map}
use mathlib.Core.Option.{none, some}
use mathlib.Core.Path.{◌≡◌, refl}
use lib.IntN.{pos}
use lib.ListN.{length, replicate}
use Rattle.rules.proofs.Open.{everything}
use Rattle.sameness.proofs.Open.{sheets}
use Rattle.rules.proofs.Tables.{crowd, after}
use Rattle.sameness.specs.Claims.{observations, place_after}
use Rattle.sameness.specs.Events.{Place, at, Event, inside, outside, sheet_of, happens, answer_of, next_table, next_place}
use Rattle.table.specs.Fresh.{fresh}
use Rattle.rules.specs.Answers.{minus}
use Rattle.rules.specs.Read.{view, alive}
use Rattle.sameness.specs.Sheet.{Name, Row, Sheet, by_init, dead_at, unborn_name, no_name, sheet}
use Rattle.rules.specs.Sound.{SoundTable}
use Rattle.sameness.specs.Touches.{touches, untouched}
use Rattle.table.specs.declared.Call.{Call}
use Rattle.table.specs.declared.Call.TheVariants.{Clone, CloneNew, Unshare, Setns, Kill, Exit, Wait, Getpid, Getppid}
use Rattle.table.specs.declared.End.TheVariants.{Exited, Signaled}
use Rattle.table.specs.declared.State.{State}
use Rattle.table.specs.declared.State.TheVariants.{Running, Stopped, Ended}
use Rattle.table.specs.declared.Table.{Table}
use Rattle.table.specs.Traits.{no_traits}

-- ---- where it applies

-- a namespace in a table with nobody else, and one in a table with three more processes
abbrev pub alone : Table
alone = after fresh ((0, CloneNew) ∷ [])

abbrev pub among : Table
among = after fresh ((0, Clone) ∷ (0, Clone) ∷ (1, Clone) ∷ (1, CloneNew) ∷ [])

-- a row of S, one level below the root
abbrev row_with : List ℕ → State → ℕ → Name → Name → ℕ → Row
row_with ks state parent own children last =
    record { pids = ks ++ replicate (32 - length ks) 0; state = state; traits = no_traits; parent = parent; own = own; holds = children ∷ []; last = last }

-- the sheet of both, and of the one in a full table below: a lone init
abbrev lone_init : Sheet
lone_init = record { level = 1; rows = row_with (1 ∷ []) Running 0 (by_init 1) (by_init 1) 1 ∷ [] }

-- the same inside calls, by a stopped and by an ended process too, and one by nobody; with other calls between, of
-- which one is the ordinary end of the outside parent
abbrev pub some_calls : List Event
some_calls =
    inside 1 Clone ∷ outside 0 Clone ∷ inside 2 Getppid ∷ inside 1 (Kill (pos 2) (pos 19)) ∷ inside 2 Getpid
    ∷ inside 1 (Kill (pos 2) (pos 9)) ∷ inside 2 Getpid ∷ inside 1 Wait ∷ inside 7 Getpid ∷ []

abbrev pub other_calls : List Event
other_calls =
    outside 2 (Exit (pos 3)) ∷ inside 1 Clone ∷ inside 2 Getppid ∷ outside 0 Wait ∷ inside 1 (Kill (pos 2) (pos 19))
    ∷ outside 1 (Exit (pos 4)) ∷ inside 2 Getpid ∷ inside 1 (Kill (pos 2) (pos 9)) ∷ outside 200 Clone ∷ inside 2 Getpid
    ∷ inside 1 Wait ∷ inside 7 Getpid ∷ outside 0 Clone ∷ []

pub sound : SoundTable alone × SoundTable among
unfolding everything sheets
sound = (record { shape = refl; rules = refl }, record { shape = refl; rules = refl })

pub lives : So (alive (view alone) 1) × So (alive (view among) 1)
unfolding everything sheets
lives = (refl, refl)

pub same_sheets : (sheet (view alone) 1 ≡ lone_init) × (sheet (view among) 1 ≡ lone_init)
unfolding everything sheets
same_sheets = (refl, refl)

pub untouching : So (untouched alone (at 1) some_calls) × So (untouched among (at 1) other_calls)
unfolding everything sheets
untouching = (refl, refl)

-- what is answered inside; at the end of the list nothing is
pub answered :
    map (λ o. o.answer) (observations alone (at 1) some_calls)
    ≡ some (pos 2, none) ∷ some (pos 1, none) ∷ some (pos 0, none) ∷ some (minus 1001, none) ∷ some (pos 0, none)
    ∷ some (minus 1001, none) ∷ some (pos 2, some (Signaled 9)) ∷ none ∷ none ∷ []
unfolding everything sheets
answered = refl

-- S ended, with its init in the table: that one is refused, and S stays where it was
abbrev ends : List Event
ends = inside 1 (Exit (pos 4)) ∷ outside 0 Clone ∷ inside 1 Getpid ∷ []

pub ended :
    (map (λ o. o.answer) (observations alone (at 1) ends) ≡ some (pos 0, none) ∷ some (minus 1001, none) ∷ none ∷ [])
    × (place_after alone (at 1) ends ≡ at 1)
unfolding everything sheets
ended = (refl, refl)

-- ---- how a row names a namespace

-- S with a process whose children's namespace is unborn, and one whose own namespace is dead: that of the init's
-- children
abbrev named_all : Table
named_all =
    after fresh
    ((0, CloneNew) ∷ (1, Clone) ∷ (2, Unshare) ∷ (1, Unshare) ∷ (1, Clone) ∷ (3, Exit (pos 7)) ∷ [])

-- S with its init ended: no living namespace above it is in the subtree
abbrev ended_init : Table
ended_init = after fresh ((0, CloneNew) ∷ (1, Exit (pos 4)) ∷ [])

pub names :
    ((sheet (view named_all) 1).rows
    ≡ row_with (1 ∷ []) Running 0 (by_init 1) (dead_at 2 1) 3
    ∷ row_with (2 ∷ []) Running 1 (by_init 1) unborn_name 0
    ∷ row_with (3 ∷ 1 ∷ []) (Ended (Exited 7)) 1 (dead_at 2 1) no_name 0
    ∷ [])
    × ((sheet (view ended_init) 1).rows ≡ row_with (1 ∷ []) (Ended (Exited 4)) 0 (dead_at 1 0) no_name 0 ∷ [])
unfolding everything sheets
names = (refl, refl)

-- ---- each touch changes a sheet

-- what is seen of S in a place: the states of its processes
abbrev states : Table → Place → List State
states t p = map (λ r. r.state) (sheet_of t p).rows

-- a call by an outsider, judged a touch, and the states before and after it
abbrev Touch : Type 0
Touch = Table × ℕ × ℕ × Call × List State × List State

abbrev changes : List Touch
changes =
    -- a child cloned into the subtree
    (after fresh ((0, CloneNew) ∷ (0, Setns (pos 2)) ∷ []), 1, 0, Clone, Running ∷ [], Running ∷ Running ∷ [])
    -- a signal sent to a process in it
    ∷ (alone, 1, 0, Kill (pos 2) (pos 19), Running ∷ [], Stopped ∷ [])
    -- the end of an init above S, by a signal and by its exit
    ∷ (after fresh ((0, CloneNew) ∷ (1, CloneNew) ∷ []), 2, 0, Kill (pos 2) (pos 9), Running ∷ [], [])
    ∷ (after fresh ((0, CloneNew) ∷ (1, CloneNew) ∷ []), 2, 1, Exit (pos 0), Running ∷ [], [])
    -- a wait that removes one of its processes
    ∷ (after fresh ((0, CloneNew) ∷ (0, Setns (pos 2)) ∷ (0, Clone) ∷ (2, Exit (pos 0)) ∷ []), 1, 0, Wait, Running ∷ Ended (Exited 0) ∷ [], Running ∷ [])
    ∷ []

-- the judgement, and the states before and after
abbrev seen_of : Touch → Bool × List State × List State
seen_of (t, s, i, c, b, a) = (touches t (at s) i c, states t (at s), states (next_table t (at s) (outside i c)) (next_place t (at s) (outside i c)))

pub touched : map seen_of changes ≡ map (λ (x : Touch). (true, x.4, x.5)) changes
unfolding everything sheets
touched = refl

-- ---- the lack of room

-- the same namespace in a table with 64 processes
abbrev full : Table
full = after (crowd 62) ((0, CloneNew) ∷ [])

-- The same sheet, the same call, and one answer is "no room".
pub no_room :
    (sheet (view full) 1 ≡ lone_init)
    × (answer_of (happens alone (at 1) (inside 1 Clone)) ≡ some (pos 2, none))
    × (answer_of (happens full (at 1) (inside 1 Clone)) ≡ some (minus 11, none))
unfolding everything sheets
no_room = (refl, refl, refl)
