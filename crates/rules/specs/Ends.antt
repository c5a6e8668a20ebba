-- "An end".
use Rattle.std.specs.Prelude.{ℕ, not, eqb}
use Rattle.table.specs.Fresh.{empty_process}
use Rattle.table.specs.Limits.{sigkill}
use Rattle.table.specs.Slots.{is_ended, changed}
use Rattle.rules.specs.Read.{View, view, init, is_init, below, seen, child_of}
use Rattle.table.specs.Tests.{when◌then◌else◌}
use Rattle.table.specs.declared.End.{End}
use Rattle.table.specs.declared.End.TheVariants.{Signaled}
use Rattle.table.specs.declared.Life.TheVariants.{Dead}
use Rattle.table.specs.declared.Namespace.{Namespace}
use Rattle.table.specs.declared.Process.{Process}
use Rattle.table.specs.declared.Table.{Table}
use Rattle.table.specs.Records.{with_parent, as_ended, with_life}

-- Not an init: it is ended; all its children go to the init of its own namespace.
-- (What becomes of the process q at slot i when the one at p ends for the reason e.)
unfoldable pub member_ends : View → ℕ → End → ℕ → Process → Process
member_ends v p e i q =
    when eqb i p then as_ended q e
    else (when child_of v p i then with_parent q (init v (v.own p)) else q)

-- An init: every process in the subtree not yet ended is ended by signal 9 (the init keeps its own reason), and all
-- whose parent is inside the subtree, ended before or now, are removed; the others stay for their outside parent.
-- (A member that is itself an init takes its own namespace down by the same rule: its subtree lies inside this one, and
-- signal 9 is its reason too, so one pass over the subtree says it, and nothing has to be done again for those below.)
unfoldable pub init_ends : View → ℕ → End → ℕ → Process → Process
init_ends v p e i q =
    when not (seen v (v.own p) i) then q
    else (when seen v (v.own p) (v.parent i) then empty_process
    else (when eqb i p then as_ended q e
    else (when is_ended q.state then q else as_ended q (Signaled sigkill))))

-- Its namespace is dead, and all below it.
unfoldable pub namespace_dies : View → ℕ → ℕ → Namespace → Namespace
namespace_dies v top n s = when below v n top then with_life s Dead else s

-- The process at p ends for the reason e.
unfoldable pub end : Table → ℕ → End → Table
end t p e =
    when is_init (view t) p then changed t (init_ends (view t) p e) (namespace_dies (view t) ((view t).own p))
    else changed t (member_ends (view t) p e) (λ n s. s)
