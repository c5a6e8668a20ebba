-- For the loop that gathers whom a caller sees beside itself. The invariant is `Gathering t c n up levels pids r i`: r
-- lists those of the slots below i, and the small arrays read as the table does.
use Prim.Native.Nat.{ℕ, suc, ◌<◌, ◌≤◌, ◌+◌}
use mathlib.Core.Bool.{Bool, true, false, not}
use mathlib.Core.List.{List}
use mathlib.Core.Path.{◌≡◌, refl, sym, ap, ap₂, subst, ◌∙◌}
use lib.Dec.{eqb}
use lib.ListN.{length, get_or}
use native.Mathlib.Numerals.{add-one}
use native.Mathlib.Omega.{arith}
use Rattle.rules.proofs.Laws.ReadAt.{read_at}
use Rattle.rules.specs.Calls.{others, pid_to}
use Rattle.table.specs.Fresh.{empty_process}
use Rattle.table.specs.Limits.{process_slots}
use Rattle.table.specs.Slots.{process}
use Rattle.rules.specs.Read.{View, view, seen, pid_seen, all_seen}
use Rattle.table.specs.Tests.{◌and◌, insert, ascending}
use Rattle.table.specs.declared.NsSlot.{NsSlot}
use Rattle.table.specs.declared.Pid.{Pid}
use Rattle.table.specs.declared.Process.{Process}
use Rattle.table.specs.declared.Table.{Table}
use Rattle.tree.proofs.Sights.{seen_test}
use Rattle.tree.specs.Tree.{slot_in, level_in}
use Rattle.delivery.proofs.Orders.{ascending_more, ascending_same, ascending_few, insert_length, only_ascending}
use Rattle.delivery.specs.Targets.{pids_of, pid_in, listed, other_from, Lists}
use Rattle.delivery.specs.declared.Targets.{Targets}

-- seen by the caller, and neither the caller nor number 1 there
abbrev pub is_other : View → ℕ → ℕ → Bool
is_other v c i = seen v (v.own c) i and (not (eqb i c) and not (eqb (pid_to v c i) 1))

-- those of the slots below n, by ascending number
abbrev pub others_below : View → ℕ → ℕ → List ℕ
others_below v c n = ascending (is_other v c) (pid_to v c) n

pub others_all : (v : View) (c : ℕ) → others_below v c process_slots ≡ others v c
unfolding others all_seen
others_all v c = sym (only_ascending (pid_to v c) (λ i. not (eqb i c) and not (eqb (pid_to v c i) 1)) (seen v (v.own c)) process_slots)

pub record Gathering (t : Table) (c n : ℕ) (up : List NsSlot) (levels : List ℕ) (pids : List Pid) (r : Targets) (i : ℕ) : Type 0 where
  pub within : i ≤ process_slots
  pub own : n ≡ (view t).own c
  pub ups : slot_in up ≡ (view t).up
  pub level : level_in levels ≡ (view t).level
  pub keys : pid_in pids ≡ pid_to (view t) c
  pub lists : Lists r (others_below (view t) c i)

-- p is the caller as it is read, and l its level
pub gathers_start : (t : Table) (c : ℕ) (p : Process) (up : List NsSlot) (levels : List ℕ) (pids : List Pid) (l : ℕ) (r : Targets)
    → p ≡ get_or t.processes c empty_process → slot_in up ≡ (view t).up → level_in levels ≡ (view t).level → l ≡ level_in levels p.own.0
    → pid_in pids ≡ pids_of t.processes l → r.len ≡ 0 → Gathering t c p.own.0 up levels pids r 0
unfolding pid_seen ascending
gathers_start t c p up levels pids l r e u v h k z =
    let own : p.own.0 ≡ (view t).own c = (read_at t c p e).own in
    let deep : l ≡ (view t).level ((view t).own c) = h ∙ ap (λ (f : ℕ → ℕ). f p.own.0) v ∙ ap (view t).level own in
    record {
      within = omega arith;
      own = own;
      ups = u;
      level = v;
      keys = k ∙ ap (pids_of t.processes) deep;
      lists = record { count = z; list = ap (λ n. listed (record { slots = r.slots; len = n })) z };
    }

module _ (t : Table) (c n : ℕ) (up : List NsSlot) (levels : List ℕ) (pids : List Pid) (r : Targets) (i : ℕ) (w : Gathering t c n up levels pids r i) where
  -- k is the number that is read at i, and b the result of the test
  tested : (k : ℕ) (b : Bool) → k ≡ pid_in pids i → b ≡ other_from (slot_in up) (level_in levels) n c i k (process t i) → b ≡ is_other (view t) c i
  tested k b e q =
      q
      ∙ ap (λ (a : Bool). a and (not (eqb i c) and not (eqb k 1))) (seen_test t up levels n i _ w.ups w.level refl ∙ ap (λ m. seen (view t) m i) w.own)
      ∙ ap (λ m. seen (view t) ((view t).own c) i and (not (eqb i c) and not (eqb m 1))) (e ∙ ap (λ (f : ℕ → ℕ). f i) w.keys)

  -- there is room for one more
  pub gathers_room : i < process_slots → r.len < process_slots
  gathers_room h = omega (arith, w.lists.count, ascending_few (pid_to (view t) c) (is_other (view t) c) i)

  -- u is the list with i put in
  pub gathers_one : (k : ℕ) (b : Bool) (u m : Targets) → i < process_slots → k ≡ pid_in pids i → b ≡ other_from (slot_in up) (level_in levels) n c i k (process t i) → b ≡ true
      → u.len ≡ r.len + 1 → listed u ≡ insert (pid_in pids) i (listed r) → m ≡ u → Gathering t c n up levels pids m (i + 1)
  gathers_one k b u m h e q y x₀ x₁ z =
      let more : others_below (view t) c (suc i) ≡ insert (pid_to (view t) c) i (others_below (view t) c i) =
      ascending_more (pid_to (view t) c) (is_other (view t) c) i (sym (tested k b e q) ∙ y) in
      rw (add-one, z)
      (record {
        within = omega arith;
        own = w.own;
        ups = w.ups;
        level = w.level;
        keys = w.keys;
        lists = record {
          count = x₀ ∙ add-one _ ∙ ap suc w.lists.count ∙ sym (insert_length (pid_to (view t) c) i (others_below (view t) c i)) ∙ ap length (sym more);
          list = x₁ ∙ ap₂ (λ (g : ℕ → ℕ) l. insert g i l) w.keys w.lists.list ∙ sym more;
        };
      })

  pub gathers_none : (k : ℕ) (b : Bool) (m : Targets) → i < process_slots → k ≡ pid_in pids i → b ≡ other_from (slot_in up) (level_in levels) n c i k (process t i) → b ≡ false → m ≡ r
      → Gathering t c n up levels pids m (i + 1)
  gathers_none k b m h e q y z =
      rw (add-one, z)
      (record {
        within = omega arith;
        own = w.own;
        ups = w.ups;
        level = w.level;
        keys = w.keys;
        lists = subst (Lists r) (sym (ascending_same (pid_to (view t) c) (is_other (view t) c) i (sym (tested k b e q) ∙ y))) w.lists;
      })

  pub gathers_all : process_slots ≤ i → Lists r (others (view t) c)
  gathers_all h =
      let k = w.within in
      let e : i ≡ process_slots = omega arith in
      subst (Lists r) (ap (others_below (view t) c) e ∙ others_all (view t) c) w.lists

pub ruleset gather_loops = (gathers_start, gathers_room, gathers_one, gathers_none, gathers_all)
