-- "Edges to try": the ten lines, every starred edge and the room for processes and namespaces; an edge for each
-- shortcut that looks harmless; the kinds of delivery; and what no answer shows. By computation.
use Prim.Native.Nat.{ℕ, zero, suc}
use mathlib.Core.Bool.{Bool, true, false, So}
use mathlib.Core.List.{List, [], ◌∷◌, ◌++◌, map}
use mathlib.Core.Option.{none, some}
use mathlib.Core.Path.{◌≡◌, refl}
use lib.Dec.{eqb}
use lib.IntN.{pos}
use Rattle.rules.proofs.Open.{everything}
use Rattle.rules.proofs.Tables.{running, exited, root_at, table_of, crowd, served, after}
use Rattle.rules.specs.Answers.{Shown, minus, shown}
use Rattle.rules.specs.Delivery.{default_action}
use Rattle.table.specs.Fresh.{fresh}
use Rattle.rules.specs.Read.{view}
use Rattle.rules.specs.Sound.{shaped, sound}
use Rattle.rules.specs.Step.{step}
use Rattle.table.specs.Tests.{◌and◌, only, values}
use Rattle.table.specs.declared.Action.{Action}
use Rattle.table.specs.declared.Action.TheVariants.{Nothing, Resume, Stop, Finish, Pend}
use Rattle.table.specs.declared.Call.{Call}
use Rattle.table.specs.declared.Call.TheVariants.{Clone, CloneNew, Unshare, Setns, Kill, Exit, Wait, Getpid, Getppid, Handle, Poll}
use Rattle.table.specs.declared.End.TheVariants.{Exited, Signaled}
use Rattle.table.specs.declared.Outcome.{Outcome}
use Rattle.table.specs.declared.Table.{Table}

abbrev says : ℕ → Shown
says k = (pos k, none)

abbrev refuses : ℕ → Shown
refuses k = (minus k, none)

abbrev gave : ℕ → ℕ → Shown
gave k s = (pos k, some (Exited s))

abbrev signal : ℕ → ℕ → Shown
signal k s = (pos k, some (Signaled s))

-- a line of a script, and what it must answer
abbrev pub Line : Type 0
Line = ℕ × Call × Shown

-- clone new by the processes at the n slots from c, each one's only child
abbrev deeper : ℕ → ℕ → List Line
deeper c zero = []
deeper c (suc n) = (c, CloneNew, says 2) ∷ deeper (suc c) n

-- n times clone new by the root init, with the answers from k on
abbrev wider : ℕ → ℕ → List Line
wider k zero = []
wider k (suc n) = (0, CloneNew, says k) ∷ wider (suc k) n

-- a table, and lines from there on
abbrev pub Edge : Type 0
Edge = Table × List Line

-- What the lines answer where f makes the calls.
abbrev pub answers : (Table → ℕ → Call → Outcome) → Table → List Line → List Shown
answers f t [] = []
answers f t (l ∷ ls) = let r = f t l.0 l.1 in shown r.reply.answer ∷ answers f r.table ls

abbrev pub all_answers : (Table → ℕ → Call → Outcome) → List Edge → List (List Shown)
all_answers f es = map (λ (e : Edge). answers f e.0 e.1) es

abbrev pub edges : List Edge
edges =
    -- the ten lines
    (
      fresh,
      (0, CloneNew, says 2)
          ∷ (1, Getpid, says 1)
          ∷ (1, Getppid, says 0)
          ∷ (1, Clone, says 2)
          ∷ (2, Kill (pos 1) (pos 9), says 0)
          ∷ (0, Kill (pos 2) (pos 9), says 0)
          ∷ (0, Kill (pos 3) (pos 0), refuses 3)
          ∷ (0, Wait, signal 2 9)
          ∷ (0, Wait, refuses 10)
          ∷ (0, Clone, says 4)
          ∷ [],
    )
    -- last 32,766: next 32,767; then 300;
    ∷ (table_of [] (root_at 32766 ∷ []), (0, Clone, says 32767) ∷ (0, Clone, says 300) ∷ [])
    -- if 300 is held, 301; held by an ended process too, until a wait
    ∷ (table_of (running 0 0 (300 ∷ []) ∷ []) (root_at 32767 ∷ []), (0, Clone, says 301) ∷ [])
    ∷ (table_of (exited 0 0 (300 ∷ []) ∷ []) (root_at 32767 ∷ []), (0, Clone, says 301) ∷ [])
    ∷ (table_of (exited 0 0 (300 ∷ []) ∷ []) (root_at 32767 ∷ []), (0, Wait, gave 300 0) ∷ (0, Clone, says 300) ∷ [])
    -- wait takes the lowest number and not the lowest slot; the ended one makes no call
    ∷ (
      table_of [] (root_at 32766 ∷ []),
      (0, Clone, says 32767)
          ∷ (0, Clone, says 300)
          ∷ (1, Exit (pos 7), says 0)
          ∷ (2, Exit (pos 8), says 0)
          ∷ (1, Getpid, refuses 1001)
          ∷ (0, Wait, gave 300 8)
          ∷ (0, Wait, gave 32767 7)
          ∷ [],
    )
    -- level 31 may clone new, level 32 gets -28 (for any table: Levels.antt), and may clone plainly
    ∷ (fresh, deeper 0 32 ++ (32, CloneNew, refuses 28) ∷ (32, Unshare, refuses 28) ∷ (32, Clone, says 2) ∷ [])
    -- 47 namespaces: clone new works; 48: it and unshare get -11, and plain clone works; after a wait, clone new works
    ∷ (
      fresh,
      wider 2 47
          ++ (0, CloneNew, refuses 11)
          ∷ (1, Unshare, refuses 11)
          ∷ (0, Clone, says 49)
          ∷ (0, Kill (pos 2) (pos 9), says 0)
          ∷ (0, CloneNew, refuses 11)
          ∷ (0, Wait, signal 2 9)
          ∷ (0, CloneNew, says 50)
          ∷ [],
    )
    -- a process that ends itself giving -1 is kept with 255; 256 is kept as 0, and -256 as 0
    ∷ (
      crowd 3,
      (1, Exit (minus 1), says 0)
          ∷ (2, Exit (pos 256), says 0)
          ∷ (3, Exit (minus 256), says 0)
          ∷ (0, Wait, gave 2 255)
          ∷ (0, Wait, gave 3 0)
          ∷ (0, Wait, gave 4 0)
          ∷ [],
    )
    -- kill 1 9 by an init on itself: 0, nothing ends
    ∷ (after fresh ((0, CloneNew) ∷ []), (1, Kill (pos 1) (pos 9), says 0) ∷ (1, Getpid, says 1) ∷ (0, Wait, says 0) ∷ [])
    -- exit by the root init: -16; a caller at an empty slot and beyond the last one: -1001
    ∷ (fresh, (0, Exit (pos 0), refuses 16) ∷ (1, Getpid, refuses 1001) ∷ (64, Getpid, refuses 1001) ∷ (255, Clone, refuses 1001) ∷ [])
    -- kill -1 on the fresh table: -3; kill 0: -38; kill 5 32: -22
    ∷ (fresh, (0, Kill (minus 1) (pos 9), refuses 3) ∷ (0, Kill (pos 0) (pos 9), refuses 38) ∷ (0, Kill (pos 5) (pos 32), refuses 22) ∷ (0, Kill (pos 0) (pos 32), refuses 22) ∷ [])
    -- one that has ended is found by kill and kill -1 until it is removed, and setns refuses it
    ∷ (
      fresh,
      (0, Clone, says 2)
          ∷ (1, Exit (pos 3), says 0)
          ∷ (0, Kill (pos 2) (pos 9), says 0)
          ∷ (0, Kill (minus 1) (pos 9), says 0)
          ∷ (0, Setns (pos 2), refuses 3)
          ∷ (0, Wait, gave 2 3)
          ∷ (0, Kill (pos 2) (pos 9), refuses 3)
          ∷ (0, Kill (minus 1) (pos 9), refuses 3)
          ∷ [],
    )
    -- unshare, clone, child exits, clone: -12
    ∷ (fresh, (0, Unshare, says 0) ∷ (0, Clone, says 2) ∷ (1, Exit (pos 0), says 0) ∷ (0, Clone, refuses 12) ∷ [])
    -- unshare and clone new give -22 while the children's namespace isn't the own one (W-203): an unborn one; after
    -- setns back to the own one both are granted again
    ∷ (
      fresh,
      (0, Unshare, says 0)
          ∷ (0, Unshare, refuses 22)
          ∷ (0, CloneNew, refuses 22)
          ∷ (0, Setns (pos 1), says 0)
          ∷ (0, Unshare, says 0)
          ∷ (0, Setns (pos 1), says 0)
          ∷ (0, CloneNew, says 2)
          ∷ [],
    )
    -- one that lives below, and a dead one
    ∷ (
      fresh,
      (0, CloneNew, says 2)
          ∷ (0, Setns (pos 2), says 0)
          ∷ (0, Unshare, refuses 22)
          ∷ (0, CloneNew, refuses 22)
          ∷ (1, Exit (pos 0), says 0)
          ∷ (0, Unshare, refuses 22)
          ∷ (0, CloneNew, refuses 22)
          ∷ (0, Setns (pos 1), says 0)
          ∷ (0, Unshare, says 0)
          ∷ [],
    )
    -- unshare: the caller stays where it is, its next child is the init of the new namespace, and the one after a
    -- member; handle between them leaves that as it is
    ∷ (
      fresh,
      (0, Unshare, says 0)
          ∷ (0, Getpid, says 1)
          ∷ (0, Handle (pos 10) true, says 0)
          ∷ (0, Clone, says 2)
          ∷ (1, Getpid, says 1)
          ∷ (1, Getppid, says 0)
          ∷ (0, Clone, says 3)
          ∷ (2, Getpid, says 2)
          ∷ [],
    )
    -- setns n: the children go into n's own namespace, and not where n's children go
    ∷ (
      fresh,
      (0, CloneNew, says 2)
          ∷ (1, Unshare, says 0)
          ∷ (0, Setns (pos 2), says 0)
          ∷ (0, Clone, says 3)
          ∷ (2, Getpid, says 2)
          ∷ (1, Clone, says 3)
          ∷ (3, Getpid, says 1)
          ∷ [],
    )
    -- 63 processes: clone works; 64: -11; after a wait, it works
    ∷ (
      crowd 62,
      (0, Clone, says 64)
          ∷ (0, Clone, refuses 11)
          ∷ (9, Exit (pos 7), says 0)
          ∷ (0, Clone, refuses 11)
          ∷ (0, Wait, gave 10 7)
          ∷ (0, Clone, says 65)
          ∷ [],
    )
    -- an orphan goes to the init of its parent's namespace: that one may wait for it
    ∷ (
      fresh,
      (0, Clone, says 2)
          ∷ (1, CloneNew, says 3)
          ∷ (1, Exit (pos 0), says 0)
          ∷ (2, Getppid, says 0)
          ∷ (0, Kill (pos 3) (pos 9), says 0)
          ∷ (0, Wait, gave 2 0)
          ∷ (0, Wait, signal 3 9)
          ∷ [],
    )
    -- setns moves the children's namespace and not the caller; a member with an outside parent falls with its init
    ∷ (
      fresh,
      (0, CloneNew, says 2)
          ∷ (0, Setns (pos 2), says 0)
          ∷ (0, Getpid, says 1)
          ∷ (0, Clone, says 3)
          ∷ (2, Getpid, says 2)
          ∷ (2, Getppid, says 0)
          ∷ (0, Kill (pos 2) (pos 9), says 0)
          ∷ (0, Wait, signal 2 9)
          ∷ (0, Wait, signal 3 9)
          ∷ [],
    )
    -- one that ended before its init keeps its own reason for its outside parent
    ∷ (
      fresh,
      (0, CloneNew, says 2)
          ∷ (0, Setns (pos 2), says 0)
          ∷ (0, Clone, says 3)
          ∷ (2, Exit (pos 5), says 0)
          ∷ (0, Kill (pos 2) (pos 9), says 0)
          ∷ (0, Wait, signal 2 9)
          ∷ (0, Wait, gave 3 5)
          ∷ [],
    )
    -- an init's end removes its grandchildren too: their slots are used again
    ∷ (
      fresh,
      (0, CloneNew, says 2)
          ∷ (1, Clone, says 2)
          ∷ (2, Clone, says 3)
          ∷ (0, Kill (pos 2) (pos 9), says 0)
          ∷ (0, Clone, says 5)
          ∷ (0, Clone, says 6)
          ∷ (2, Getpid, says 5)
          ∷ (3, Getpid, says 6)
          ∷ [],
    )
    -- 19 stops and 18 resumes; a handled signal becomes pending and has no other effect; off drops it; another ends
    ∷ (
      crowd 1,
      (0, Kill (pos 2) (pos 19), says 0)
          ∷ (1, Getpid, refuses 1001)
          ∷ (0, Kill (pos 2) (pos 18), says 0)
          ∷ (1, Handle (pos 20) true, says 0)
          ∷ (0, Kill (minus 1) (pos 20), says 0)
          ∷ (1, Poll, says 20)
          ∷ (1, Poll, says 0)
          ∷ (0, Kill (pos 2) (pos 20), says 0)
          ∷ (1, Handle (pos 20) false, says 0)
          ∷ (1, Poll, says 0)
          ∷ (1, Handle (pos 9) true, refuses 22)
          ∷ (0, Kill (pos 2) (pos 17), says 0)
          ∷ (0, Wait, says 0)
          ∷ (0, Kill (pos 2) (pos 15), says 0)
          ∷ (0, Wait, signal 2 15)
          ∷ [],
    )
    -- a handled 18 resumes and is pending; a stopped process is ended by 15
    ∷ (
      crowd 1,
      (1, Handle (pos 18) true, says 0)
          ∷ (0, Kill (pos 2) (pos 19), says 0)
          ∷ (1, Poll, refuses 1001)
          ∷ (0, Kill (pos 2) (pos 18), says 0)
          ∷ (1, Poll, says 18)
          ∷ (0, Kill (pos 2) (pos 19), says 0)
          ∷ (0, Kill (pos 2) (pos 15), says 0)
          ∷ (0, Wait, signal 2 15)
          ∷ [],
    )
    -- poll with two pending: the lowest first, one at a time; unshare and setns leave them
    ∷ (
      crowd 1,
      (1, Handle (pos 20) true, says 0)
          ∷ (1, Handle (pos 10) true, says 0)
          ∷ (0, Kill (pos 2) (pos 20), says 0)
          ∷ (0, Kill (pos 2) (pos 10), says 0)
          ∷ (1, Unshare, says 0)
          ∷ (1, Setns (pos 2), says 0)
          ∷ (1, Poll, says 10)
          ∷ (1, Poll, says 20)
          ∷ (1, Poll, says 0)
          ∷ [],
    )
    -- 9 and 19 to an inner init: nothing from within, by a member and by itself; 15 nothing from above too; 19 from
    -- above stops it, 18 resumes it, and 9 from above ends it
    ∷ (
      fresh,
      (0, CloneNew, says 2)
          ∷ (1, Clone, says 2)
          ∷ (2, Kill (pos 1) (pos 19), says 0)
          ∷ (2, Kill (pos 1) (pos 9), says 0)
          ∷ (1, Kill (pos 1) (pos 19), says 0)
          ∷ (0, Kill (pos 2) (pos 15), says 0)
          ∷ (1, Getpid, says 1)
          ∷ (0, Kill (pos 2) (pos 19), says 0)
          ∷ (1, Getpid, refuses 1001)
          ∷ (0, Kill (pos 2) (pos 18), says 0)
          ∷ (1, Getpid, says 1)
          ∷ (0, Kill (pos 2) (pos 9), says 0)
          ∷ (0, Wait, signal 2 9)
          ∷ [],
    )
    ∷ []

-- ---- what is computed of them

abbrev pub sound_starts : List Edge → Bool
sound_starts [] = true
sound_starts (e ∷ es) = (shaped e.0 and sound e.0) and sound_starts es

abbrev pub expected : List Edge → List (List Shown)
expected es = map (λ (e : Edge). map (λ (l : Line). l.2) e.1) es

-- Every edge starts from a sound table and is answered as document 01 says. With the check: EdgesHold.antt.
pub edges_start : So (sound_starts edges)
unfolding everything
edges_start = refl

pub edges_served : all_answers served edges ≡ expected edges
unfolding everything
edges_served = refl

-- ---- beside the answers

-- a table that isn't sound: the last number is past 32,767
abbrev broken : Table
broken = table_of [] (root_at 32768 ∷ [])

-- On it a call gets -1000, and the table stays as it was.
pub unsound_told : (shown (step broken 0 Clone).reply.answer ≡ refuses 1000) × ((step broken 0 Clone).table ≡ broken)
unfolding everything
unsound_told = (refl, refl)

-- Two namespaces were made, and the first was given back: a new child, and its namespace, take the lowest free slots.
abbrev one_free : Table
one_free = after fresh ((0, CloneNew) ∷ (0, CloneNew) ∷ (0, Kill (pos 2) (pos 9)) ∷ (0, Wait) ∷ [])

pub lowest_slots : ((served one_free 0 CloneNew).reply.child.0 ≡ 1) × ((view (served one_free 0 CloneNew).table).own 1 ≡ 1)
unfolding everything
lowest_slots = (refl, refl)

-- the signals from 1 to 31 with a default action
abbrev place : Action → ℕ
place Nothing = 0
place Resume = 1
place Stop = 2
place Finish = 3
place Pend = 4

abbrev with_default : Action → List ℕ
with_default a = only (λ s. eqb (place (default_action s)) (place a)) (values (λ s. s) 31 1)

-- The four groups.
pub defaults :
    (with_default Nothing ≡ 17 ∷ 23 ∷ 28 ∷ [])
    × (with_default Resume ≡ 18 ∷ [])
    × (with_default Stop ≡ 19 ∷ 20 ∷ 21 ∷ 22 ∷ [])
    × (with_default Finish ≡ values (λ s. s) 16 1 ++ values (λ s. s) 4 24 ++ values (λ s. s) 3 29)
unfolding everything
defaults = (refl, refl, refl, refl)
