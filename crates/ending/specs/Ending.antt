-- The end of an init as the code brings it about: its namespace ends with its members, one after the other; each that
-- is the init of a namespace right below takes that one down by the same rule, the levels left falling; then those
-- whose parent is inside are removed. proofs/Fallen.antt has the law that this is the change that the definitions make
-- at one go.
use Rattle.std.specs.Prelude.{ℕ, zero, suc, Bool, not, List, ◌≡◌, eqb, get_or}
use Rattle.std.proofs.Math.Bool.{So}
use Rattle.table.proofs.FoldLoops.{turns}
use Rattle.rules.proofs.Laws.Facts.{Facts}
use Rattle.rules.specs.Ends.{end}
use Rattle.table.specs.Fresh.{empty_process}
use Rattle.table.specs.Limits.{deepest, namespace_slots, process_slots, sigkill}
use Rattle.table.specs.Slots.{process, namespace, pid_at, no_process, no_namespace, is_ended, is_unborn, init_of, put}
use Rattle.rules.specs.Read.{view, living, seen}
use Rattle.table.specs.Tests.{◌and◌, ◌or◌, when◌then◌else◌, changed_to}
use Rattle.table.specs.declared.End.{End}
use Rattle.table.specs.declared.End.TheVariants.{Signaled}
use Rattle.table.specs.declared.Life.TheVariants.{Dead}
use Rattle.table.specs.declared.Namespace.{Namespace}
use Rattle.table.specs.declared.Process.{Process}
use Rattle.table.specs.declared.Table.{Table}
use Rattle.table.specs.Records.{with_parent, as_ended, with_life}

-- ---- a namespace and its members

-- ended by signal 9, unless it had ended before
unfoldable pub killed : Process → Process
killed p = when is_ended p.state then p else as_ended p (Signaled sigkill)

-- the namespace s at slot m is dead once n is: it is n, or an unborn one right below, which has no init to end with
unfoldable pub dies_with : ℕ → ℕ → Namespace → Bool
dies_with n m s = eqb m n or (not (eqb s.level 0) and eqb s.parent.0 n and is_unborn s.life)

unfoldable pub once_dead : ℕ → ℕ → Namespace → Namespace
once_dead n m s = when dies_with n m s then with_life s Dead else s

unfoldable pub marked_dead : Table → ℕ → Table
marked_dead t n =
    record { processes = t.processes; namespaces = changed_to (once_dead n) no_namespace namespace_slots t.namespaces }

-- the process p at slot i ends as n does: a member of n that has not ended, or the init of a namespace right below
unfoldable pub falls_with : List Namespace → ℕ → ℕ → Process → Bool
falls_with ss n i p =
    not (eqb (pid_at p 0) 0)
    and (when eqb p.own.0 n then not (is_ended p.state)
    else (eqb (get_or ss p.own.0 no_namespace).parent.0 n and eqb (init_of (get_or ss p.own.0 no_namespace).life) i))

-- the end of one that falls with n; `lower` says how a namespace right below ends
unfoldable pub end_member_by : (Table → ℕ → Table) → Table → ℕ → ℕ → Table
end_member_by lower t n i =
    when eqb (process t i).own.0 n then put t i (killed (process t i)) else lower t (process t i).own.0

-- the turn of the process at i
unfoldable pub member_turn : (Table → ℕ → Table) → ℕ → ℕ → Table → Table
member_turn lower n i t = when falls_with t.namespaces n i (process t i) then end_member_by lower t n i else t

-- The end of a namespace, with that many levels left below it. With none left a namespace right below would stay; on a
-- sound table there is none then.
unfoldable pub end_namespace : ℕ → Table → ℕ → Table
end_namespace zero t n = turns process_slots (member_turn (λ u m. u) n) (marked_dead t n)
end_namespace (suc left) t n = turns process_slots (member_turn (end_namespace left) n) (marked_dead t n)

unfoldable pub end_member : ℕ → Table → ℕ → ℕ → Table
end_member zero t n i = end_member_by (λ u m. u) t n i
end_member (suc left) t n i = end_member_by (end_namespace left) t n i

-- ---- an init

-- what is left of the process q at slot i, where some slots are inside: nothing, if it and its parent are
unfoldable pub once_swept : (ℕ → Bool) → ℕ → Process → Process
once_swept inside i q = when inside i and inside q.parent.0 then empty_process else q

-- the subtree of n without those whose parent is inside
unfoldable pub swept : Table → ℕ → Table
swept t n =
    record { processes = changed_to (once_swept (seen (view t) n)) no_process process_slots t.processes; namespaces = t.namespaces }

-- the init at p ends for the reason e, which it keeps; no namespace lies deeper than `deepest` levels below another
unfoldable pub end_init : Table → ℕ → End → Table
end_init t p e =
    let q = get_or t.processes p empty_process in
    swept (put (end_namespace deepest t q.own.0) p (as_ended q e)) q.own.0

-- ---- another process

-- what becomes of the process q at slot i when the one at p ends, whose children go to the process at k
unfoldable pub once_handed : ℕ → End → ℕ → ℕ → Process → Process
once_handed p e k i q =
    when eqb i p then as_ended q e
    else (when not (eqb (pid_at q 0) 0) and eqb q.parent.0 p then with_parent q k else q)

unfoldable pub handed_over : Table → ℕ → End → ℕ → Table
handed_over t p e k =
    record { processes = changed_to (once_handed p e k) no_process process_slots t.processes; namespaces = t.namespaces }

-- ---- any process

-- the process at p ends for the reason e, with its namespace if it is its init
unfoldable pub end_process : Table → ℕ → End → Table
end_process t p e =
    let k = init_of (namespace t (get_or t.processes p empty_process).own.0).life in
    when eqb k p then end_init t p e else handed_over t p e k

-- r is what the end of the process at p leaves: always by the rules above; and document 01's end at one go, if the
-- facts of a sound table hold, but for namespaces that nobody holds, and p has not ended
pub record Ends (t : Table) (p : ℕ) (e : End) (r : Table) : Type 0 where
  pub always : r ≡ end_process t p e
  pub as_defined : Facts (view t) → So (living (view t) p) → r ≡ end t p e
