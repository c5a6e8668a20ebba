-- What the search by marks finds in the columns of a table: the number that the table gives next.
use Prim.Native.Nat.{ℕ, ◌<◌, ◌+◌, ◌-◌}
use mathlib.Core.Bool.{Bool, true, false, not}
use mathlib.Core.List.{List}
use mathlib.Core.Path.{◌≡◌, refl, ap, fun_ext, ◌∙◌}
use native.Mathlib.Omega.{arith}
use borrow.Author.Tests.{ne_eqb, eqb-true, leb-true}
use lib.Dec.{eqb, ltb, leb}
use Rattle.numbers.proofs.Choice as choice
use Rattle.numbers.proofs.Window.{lowest_same, found_free, none_free}
use Rattle.numbers.specs.Holders.{own_in, pid_in, unheld_in}
use Rattle.numbers.specs.Marks.{held_pid, unheld, first_of, by_marks}
use Rattle.numbers.specs.declared.Holder.{Holder}
use Rattle.rules.specs.Pids.{free_pid, next_pid}
use Rattle.rules.specs.Read.{view, climb, taken, below, seen, pid_seen}
use Rattle.table.proofs.Chains.{by_bool, pick_yes, pick_no, and_false_later}
use Rattle.table.specs.Limits.{process_slots, greatest_pid, restart_pid}
use Rattle.table.specs.Slots.{process, namespace, pid_at}
use Rattle.table.specs.Tests.{◌and◌, when◌then◌else◌, any}
use Rattle.table.specs.declared.Namespace.{Namespace}
use Rattle.table.specs.declared.Table.{Table}
use Rattle.tree.specs.Tree.{slot_in, level_in}
use Rattle.tree.specs.declared.Tree.{Tree}

-- ---- what is found in them

-- b: the slot is taken; c: its process is in the subtree; x: its number
held_seen : (b c : Bool) (x k : ℕ) → 0 < k → c and eqb (when b then x else 0) k ≡ (b and c) and eqb x k
unfolding ◌and◌
held_seen true c x k h = refl
held_seen false c x k h = and_false_later c _ (ne_eqb 0 k (λ e. omega arith))

-- s is the namespace at n
module _ (t : Table) (n : ℕ) (s : Namespace) (up level own pid : ℕ → ℕ) (e : s ≡ namespace t n) (u : up ≡ (view t).up) (v : level ≡ (view t).level) (o : own ≡ (view t).own) (p : pid ≡ (λ i. held_pid (process t i) s.level)) where
  unheld_free : (k : ℕ) → 0 < k → unheld up level own pid n k ≡ free_pid (view t) n k
  unfolding unheld free_pid seen taken below pid_seen
  unheld_free k h = ap (λ (f : ℕ → Bool). not (any process_slots f)) (fun_ext at)
    where
      at : (i : ℕ) → climb up (level (own i)) (own i) n and eqb (pid i) k ≡ (not (eqb (pid_at (process t i) 0) 0) and climb (view t).up ((view t).level (process t i).own.0) (process t i).own.0 n) and eqb (pid_at (process t i) ((view t).level n)) k
      at i = rw (u, v, o, p, e) (held_seen (not (eqb (pid_at (process t i) 0) 0)) _ (pid_at (process t i) ((view t).level n)) k h)

-- The columns of a table as the code has them: its tree's, and the holders' at the level of n; s is the namespace at n.
pub record Columns (t : Table) (n : ℕ) (s : Namespace) (tree : Tree) (hs : List Holder) : Type 0 where
  pub here : s ≡ namespace t n
  pub ups : slot_in tree.parents ≡ (view t).up
  pub depths : level_in tree.levels ≡ (view t).level
  pub own : own_in hs ≡ (view t).own
  pub held : pid_in hs ≡ (λ i. held_pid (process t i) s.level)

-- r is what the search by marks gave in them
module _ (t : Table) (n : ℕ) (s : Namespace) (tree : Tree) (hs : List Holder) (m : ℕ) where
  abbrev free : ℕ → Bool
  free = unheld_in (tree, n) hs

  first_free : Columns t n s tree hs → (last : ℕ) → first_of m free last ≡ first_of m (free_pid (view t) n) last
  unfolding first_of
  first_free c last =
      ap (λ x. when ltb x (last + 1 + m) and leb x greatest_pid then x else 0)
      (lowest_same _ _ m (last + 1) (λ j l. unheld_free t n s _ _ _ _ c.here c.ups c.depths c.own c.held j (omega arith)))

  pub marks_give_next : (r : ℕ) → r ≡ by_marks m free s.last.0 → 0 < r → Columns t n s tree hs → r ≡ next_pid (view t) n
  unfolding by_marks
  marks_give_next r q i c = by_bool (eqb above 0) none found
    where
      o : r ≡ 0 → ⊥
      o z = omega arith

      above : ℕ
      above = first_of m free s.last.0

      -- the search above the last number
      found : eqb above 0 ≡ false → r ≡ next_pid (view t) n
      found z =
          let e : r ≡ above = q ∙ pick_yes _ _ _ (ap not z) in
          let (first, within) = found_free m (free_pid (view t) n) s.last.0 r (e ∙ first_free c s.last.0) o in
          choice.found_above t n s c.here r first within

      -- and the one from 300 on
      again : above ≡ 0 → r ≡ (when leb (greatest_pid - m) s.last.0 then first_of m free (restart_pid - 1) else 0) → r ≡ next_pid (view t) n
      again z e = by_bool (leb (greatest_pid - m) s.last.0) reached (λ h. absurd (o (e ∙ pick_no _ _ _ h)))
        where
          reached : leb (greatest_pid - m) s.last.0 ≡ true → r ≡ next_pid (view t) n
          reached h =
              let far = leb-true (greatest_pid - m) s.last.0 h in
              choice.none_above t n s c.here _ r refl (none_free m (free_pid (view t) n) s.last.0 above (first_free c s.last.0) z (omega arith))
              (found_free m (free_pid (view t) n) (restart_pid - 1) r (e ∙ pick_yes _ _ _ h ∙ first_free c (restart_pid - 1)) o).0

      none : eqb above 0 ≡ true → r ≡ next_pid (view t) n
      none z = again (eqb-true above 0 z) (q ∙ pick_no _ _ _ (ap not z))
