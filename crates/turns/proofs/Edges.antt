-- A few calls on what a host holds, one after the other, and bytes that no writer makes. By computation.
use Prim.Native.Nat.{ℕ}
use mathlib.Core.List.{List, [], ◌∷◌, map}
use mathlib.Core.Path.{◌≡◌, refl}
use lib.IntN.{ℤ, pos}
use lib.ListN.{get_or, set}
use Rattle.mirror.specs.Mirror.{process_row, namespace_row, mirror_of, state_from, life_from, process_from, namespace_from, is_process_row, is_namespace_row, no_process_row, no_namespace_row, is_written, table_from}
use Rattle.mirror.specs.declared.Mirror.{Mirror}
use Rattle.mirror.specs.declared.NamespaceRow.{NamespaceRow}
use Rattle.mirror.specs.declared.ProcessRow.{ProcessRow}
use Rattle.requests.specs.Requests.{plain_call, asked_by, told_of}
use Rattle.requests.specs.declared.Request.{Request}
use Rattle.rules.proofs.Open.{everything}
use Rattle.rules.specs.Answers.{minus}
use Rattle.table.specs.Fresh.{fresh}
use Rattle.turns.specs.Turns.{given_back, turned, turn}

-- A proof that says `unfolding opened` computes all of a call on what a host holds.
unfoldable pub opened : Unit {0}
unfolding everything turn turned given_back asked_by plain_call told_of mirror_of process_row namespace_row table_from is_written is_process_row is_namespace_row state_from life_from process_from namespace_from
opened = tt

abbrev pub request : ℕ → ℤ → Request
request k a = record { call = k; a = a; b = pos 0; c = pos 0 }

-- what a host holds after calls, each by its caller, from the fresh table
abbrev after : List (ℕ × Request) → Mirror → Mirror
after [] m = m
after (x ∷ xs) m = after xs (turn m x.0 x.1).mirror

abbrev pub held : Mirror
held = mirror_of fresh

-- Clone by the root init: number 2, at slot 1. The child gives 7, and a wait is told so.
pub child_told : (turn held 0 (request 1 (pos 0))).told ≡ record { answer = pos 2; child = record { 0 = 1 }; state = 0; end = 0 }
unfolding opened
child_told = refl

pub end_told : (turn (after ((0, request 1 (pos 0)) ∷ (1, request 6 (pos 7)) ∷ []) held) 0 (request 7 (pos 0))).told ≡ record { answer = pos 2; child = record { 0 = 255 }; state = 2; end = 7 }
unfolding opened
end_told = refl

-- 256 is not taken for 0, and neither is any other number past the table's end.
pub nobody_calls : map (λ c. (turn held c (request 8 (pos 0))).told.answer) (0 ∷ 64 ∷ 255 ∷ 256 ∷ 4294967295 ∷ []) ≡ (pos 1 ∷ minus 1001 ∷ minus 1001 ∷ minus 1001 ∷ minus 1001 ∷ [])
unfolding opened
nobody_calls = refl

-- ---- bytes that no writer makes: at a taken slot, at an empty one, and in a namespace that is not there

abbrev with_process : ℕ → (ProcessRow → ProcessRow) → Mirror
with_process i f =
    record { processes = set held.processes i (f (get_or held.processes i no_process_row)); namespaces = held.namespaces }

abbrev with_namespace : ℕ → (NamespaceRow → NamespaceRow) → Mirror
with_namespace n f =
    record { processes = held.processes; namespaces = set held.namespaces n (f (get_or held.namespaces n no_namespace_row)) }

abbrev marked : ℕ → ProcessRow → ProcessRow
marked b r = record { own = r.own; children = r.children; parent = r.parent; state = r.state; end = r.end; reserved = b; pids = r.pids; handled = r.handled; pending = r.pending }

abbrev ended : ℕ → ProcessRow → ProcessRow
ended b r = record { own = r.own; children = r.children; parent = r.parent; state = r.state; end = b; reserved = r.reserved; pids = r.pids; handled = r.handled; pending = r.pending }

abbrev begun : ℕ → NamespaceRow → NamespaceRow
begun b r = record { parent = r.parent; level = r.level; life = r.life; init = b; last = r.last }

-- The same changes with 0 change nothing, and the root init is told its number.
pub caught : map (λ (m : Mirror). (turn m 0 (request 8 (pos 0))).told.answer) (with_process 0 (marked 0) ∷ with_process 0 (marked 1) ∷ with_process 63 (marked 128) ∷ with_process 0 (ended 9) ∷ with_process 63 (ended 1) ∷ with_namespace 47 (begun 0) ∷ with_namespace 47 (begun 1) ∷ []) ≡ (pos 1 ∷ minus 1000 ∷ minus 1000 ∷ minus 1000 ∷ minus 1000 ∷ pos 1 ∷ minus 1000 ∷ [])
unfolding opened
caught = refl
