-- No sentence of soundness is empty: for each, tables that it alone refuses, by computation. Two sentences follow from
-- the others, so they alone refuse no table: "all below a dead one are dead" and "none belongs to an unborn one".
use Prim.Native.Nat.{ℕ, zero, suc, ◌^◌}
use mathlib.Core.Bool.{Bool, true, false}
use mathlib.Core.List.{List, [], ◌∷◌, map, ◌++◌}
use mathlib.Core.Path.{◌≡◌, refl}
use lib.ListN.{replicate}
use Rattle.rules.proofs.Open.{everything}
use Rattle.rules.proofs.Tables.{running, exited, ns, alive_with, root_at, table_of, dead_from}
use Rattle.table.specs.Fresh.{fresh, empty_process, root_init, root}
use Rattle.table.specs.Limits.{no_slot}
use Rattle.rules.specs.Read.{View, view}
use Rattle.table.specs.Slots.{put, put_namespace}
use Rattle.rules.specs.Sound.{sound_view, SoundTable, root_process, have_parents, root_namespace, inits, empty_slots, namespace_tree, below_dead, unborn_namespaces, last_pids, pid_range, pids_differ, first_pids, dead_members, unborn_members, parents, first_parents, children_namespaces, ended_bare, ends_kept, namespaces_held, process_traits}
use Rattle.table.specs.Tests.{◌and◌}
use Rattle.table.specs.declared.End.TheVariants.{Signaled}
use Rattle.table.specs.declared.Life.TheVariants.{Unborn, Dead}
use Rattle.table.specs.declared.Process.{Process}
use Rattle.table.specs.declared.Table.{Table}
use Rattle.table.specs.Records.{with_parent, with_children, as_ended, with_traits}
use Rattle.table.specs.Traits.{with_signals, no_traits, handled_ok, pending_ok}
use Rattle.table.specs.declared.Traits.{Traits}

-- The fresh table is sound.
pub fresh_sound : SoundTable fresh
unfolding everything
fresh_sound = record { shape = refl; rules = refl }

-- ---- the tables

-- a sentence, and tables that it alone refuses
abbrev Entry : Type 0
Entry = (View → Bool) × List Table

-- the fresh table with the root init changed, and with one child
abbrev root_as : Process → Table
root_as p = put fresh 0 p

abbrev with_child : Process → Table
with_child p = table_of (p ∷ []) (root ∷ [])

-- a child of the root init, number 2, running and ended
abbrev second : Process
second = running 0 0 (2 ∷ [])

abbrev second_ended : Process
second_ended = exited 0 0 (2 ∷ [])

-- these signals handled and pending
abbrev signalled : ℕ → ℕ → Traits
signalled h q = with_signals no_traits h q

-- signals 0, 9 and 19 handled
abbrev handled_wrong : List Traits
handled_wrong = signalled (2 ^ 0) 0 ∷ signalled (2 ^ 9) 0 ∷ signalled (2 ^ 19) 0 ∷ []

-- a signal pending and not handled
abbrev pending_wrong : List Traits
pending_wrong = signalled (2 ^ 15) (2 ^ 10) ∷ []

-- the init of namespace 1, and that namespace, below the root
abbrev inner : Process
inner = running 1 0 (2 ∷ 1 ∷ [])

abbrev entries : List Entry
entries =
    -- the root init has a parent
    (root_process, root_as (with_parent root_init 0) ∷ [])
    -- the parent's slot is empty; there is no such slot
    ∷ (have_parents, with_child (running 0 5 (2 ∷ [])) ∷ with_child (running 0 no_slot (2 ∷ [])) ∷ [])
    -- the root namespace has a parent
    ∷ (root_namespace, table_of [] (ns 0 0 1 (alive_with 0) ∷ []) ∷ [])
    -- a namespace's init belongs to another; has ended
    ∷ (
      inits,
      table_of (running 1 0 (2 ∷ 2 ∷ []) ∷ []) (root ∷ ns 0 1 2 (alive_with 0) ∷ [])
          ∷ table_of (exited 1 0 (2 ∷ 1 ∷ []) ∷ []) (root ∷ ns 0 1 1 (alive_with 1) ∷ [])
          ∷ [],
    )
    -- an empty process slot with a parent, an empty namespace slot with a last number
    ∷ (empty_slots, with_child (with_parent empty_process 7) ∷ table_of [] (root ∷ ns 0 0 5 Unborn ∷ []) ∷ [])
    -- level 2 right below the root; level 33, in a chain of dead namespaces
    ∷ (
      namespace_tree,
      table_of (running 1 0 (2 ∷ 1 ∷ 1 ∷ []) ∷ []) (root ∷ ns 0 2 1 (alive_with 1) ∷ [])
          ∷ table_of (exited 33 0 (replicate 33 2) ∷ []) (root ∷ dead_from 1 33)
          ∷ [],
    )
    -- follows: a namespace below a dead one has no living process to be its init's parent or its holder
    ∷ (below_dead, [])
    -- an unborn namespace with a last number, with a namespace below it, with two holders, with a holder further up
    ∷ (
      unborn_namespaces,
      put_namespace (root_as (with_children root_init 1)) 1 (ns 0 1 5 Unborn)
          ∷ put (table_of (exited 2 0 (2 ∷ 2 ∷ 2 ∷ []) ∷ []) (root ∷ ns 0 1 0 Unborn ∷ ns 1 2 2 Dead ∷ [])) 0 (with_children root_init 1)
          ∷ put (table_of (with_children second 1 ∷ []) (root ∷ ns 0 1 0 Unborn ∷ [])) 0 (with_children root_init 1)
          ∷ put (table_of (inner ∷ []) (root ∷ ns 0 1 1 (alive_with 1) ∷ ns 1 2 0 Unborn ∷ [])) 0 (with_children root_init 2)
          ∷ [],
    )
    -- a last number of 32,768
    ∷ (last_pids, table_of [] (root_at 32768 ∷ []) ∷ [])
    -- a number of 32,768; a number beyond the own level; none at the own level
    ∷ (
      pid_range,
      with_child (running 0 0 (32768 ∷ []))
          ∷ with_child (running 0 0 (2 ∷ 5 ∷ []))
          ∷ table_of (inner ∷ running 1 1 (3 ∷ []) ∷ []) (root ∷ ns 0 1 1 (alive_with 1) ∷ [])
          ∷ [],
    )
    -- two processes with number 2 in the root; in an inner namespace
    ∷ (
      pids_differ,
      table_of (second ∷ second ∷ []) (root ∷ [])
          ∷ table_of (inner ∷ running 1 1 (3 ∷ 2 ∷ []) ∷ running 1 1 (4 ∷ 2 ∷ []) ∷ []) (root ∷ ns 0 1 2 (alive_with 1) ∷ [])
          ∷ [],
    )
    -- the init of a living namespace has number 2 there
    ∷ (first_pids, table_of (running 1 0 (2 ∷ 2 ∷ []) ∷ []) (root ∷ ns 0 1 2 (alive_with 1) ∷ []) ∷ [])
    -- a running process in a dead namespace
    ∷ (dead_members, table_of (inner ∷ []) (root ∷ ns 0 1 1 Dead ∷ []) ∷ [])
    -- follows: an unborn namespace has no members
    ∷ (unborn_members, [])
    -- a parent that has ended; a parent in a namespace beside; parents in a circle
    ∷ (
      parents,
      table_of (second_ended ∷ running 0 1 (3 ∷ []) ∷ []) (root ∷ [])
          ∷ table_of (inner ∷ running 2 0 (3 ∷ 1 ∷ []) ∷ running 2 1 (4 ∷ 2 ∷ []) ∷ []) (root ∷ ns 0 1 1 (alive_with 1) ∷ ns 0 1 2 (alive_with 2) ∷ [])
          ∷ table_of (running 0 2 (2 ∷ []) ∷ running 0 1 (3 ∷ []) ∷ []) (root ∷ [])
          ∷ [],
    )
    -- an init whose parent is two levels up
    ∷ (first_parents, table_of (inner ∷ running 2 0 (3 ∷ 2 ∷ 1 ∷ []) ∷ []) (root ∷ ns 0 1 2 (alive_with 1) ∷ ns 1 2 1 (alive_with 2) ∷ []) ∷ [])
    -- a children's namespace above the own one
    ∷ (children_namespaces, table_of (with_children inner 0 ∷ []) (root ∷ ns 0 1 1 (alive_with 1) ∷ []) ∷ [])
    -- either sentence on signals
    ∷ (process_traits, map (λ x. with_child (with_traits second x)) (handled_wrong ++ pending_wrong))
    -- an ended process with a children's namespace, with signals
    ∷ (
      ended_bare,
      with_child (with_children second_ended 0)
          ∷ with_child (with_traits second_ended (signalled (2 ^ 15) 0))
          ∷ with_child (with_traits second_ended (signalled (2 ^ 15) (2 ^ 15)))
          ∷ [],
    )
    -- ended by signal 0; by signal 32
    ∷ (ends_kept, with_child (as_ended second (Signaled 0)) ∷ with_child (as_ended second (Signaled 32)) ∷ [])
    -- a dead namespace that nobody holds
    ∷ (namespaces_held, table_of [] (root ∷ ns 0 1 1 Dead ∷ []) ∷ [])
    ∷ []

-- ---- what is shown of them

-- all of them hold, from the first on
abbrev hold_all : View → Bool → List Entry → Bool
hold_all v b [] = b
hold_all v b (e ∷ es) = hold_all v (b and e.0 v) es

-- These are all sentences: together they are soundness.
pub whole : (v : View) → sound_view v ≡ hold_all v true entries
unfolding sound_view ◌and◌
whole v = refl

-- what each sentence says of a table
abbrev verdicts : Table → List Bool
verdicts t = map (λ (e : Entry). e.0 (view t)) entries

-- false at the place k, and true elsewhere
abbrev but_one : ℕ → List Entry → List Bool
but_one k [] = []
but_one zero (e ∷ es) = false ∷ map (λ (e : Entry). true) es
but_one (suc k) (e ∷ es) = true ∷ but_one k es

abbrev expected : ℕ → List Entry → List (List (List Bool))
expected k [] = []
expected k (e ∷ es) = map (λ (t : Table). but_one k entries) e.1 ∷ expected (suc k) es

-- Each table is refused by its sentence, and by no other.
pub refused_alone : map (λ (e : Entry). map verdicts e.1) entries ≡ expected 0 entries
unfolding everything
refused_alone = refl

-- the two sentences on signals
abbrev both_sentences : Traits → Bool × Bool
both_sentences x = (handled_ok x, pending_ok x)

-- Likewise of these two: each refuses its own alone.
pub signals_refused :
    map both_sentences (handled_wrong ++ pending_wrong) ≡ (false, true) ∷ (false, true) ∷ (false, true) ∷ (true, false) ∷ []
unfolding everything
signals_refused = refl
