-- Two tables are the same to a namespace: its level, and each row of one is a row of the other.
use Prim.Native.Nat.{ℕ, ◌+◌, ◌-◌, ◌<◌}
use native.Mathlib.Omega.{arith}
use mathlib.Core.Bool.{So}
use mathlib.Core.List.{map}
use mathlib.Core.Path.{◌≡◌, sym, ◌∙◌, ap, subst}
use lib.ListN.{get_or}
use Rattle.rules.proofs.Laws.Below.{level_deepest}
use Rattle.rules.proofs.Laws.Facts.{Facts, seen_taken}
use Rattle.rules.proofs.Laws.Lists.{In, in_map, map_in, in_ascending, ascending_in, ascending_sorted, Sorted, map_sorted, sorted_unique}
use Rattle.rules.proofs.Laws.Slots.{pid_unique}
use Rattle.table.specs.Limits.{levels, process_slots}
use Rattle.rules.specs.Read.{View, all_seen, namespace_taken, pid_seen, seen, pid_in, is_init}
use Rattle.sameness.specs.Sheet.{Row, row, sheet, name}
use Rattle.sameness.proofs.Names.{Named, getD_values, names_alike}
use Rattle.table.specs.Tests.{values, when◌then◌else◌}

-- its level, and each row of one is a row of the other
pub record Same (v u : View) (s r : ℕ) : Type 0 where
  pub levels : v.level s ≡ u.level r
  pub there : (i : ℕ) → So (seen v s i) → (j : ℕ) × So (seen u r j) × (row v s i ≡ row u r j)
  pub back : (j : ℕ) → So (seen u r j) → (i : ℕ) × So (seen v s i) × (row v s i ≡ row u r j)

-- what a row says of the number in s
abbrev pub key : Row → ℕ
key q = get_or q.pids 0 0

pub row_key : (v : View) (s i : ℕ) → v.level s < levels → key (row v s i) ≡ pid_seen v s i
unfolding row pid_seen
row_key v s i l =
    let e : v.level s + 0 ≡ v.level s = omega arith in
    getD_values (v.pid i) 0 (levels - v.level s) (v.level s) 0 (omega arith) ∙ ap (v.pid i) e

pub level_lt : {v : View} → Facts v → (s : ℕ) → So (namespace_taken v s) → v.level s < levels
level_lt {v} f s h = omega (arith, level_deepest v f s h)

pub seen_listed : {v : View} → Facts v → (s i : ℕ) → So (seen v s i) → In i (all_seen v s)
unfolding all_seen
seen_listed {v} f s i h = in_ascending _ _ process_slots i (f.in_range i (seen_taken v s i h)) h

pub listed_seen : (v : View) (s i : ℕ) → In i (all_seen v s) → So (seen v s i)
unfolding all_seen
listed_seen v s i h = (ascending_in _ _ process_slots i h).1

-- from the sheets
one_way : {v : View} (u : View) (s r : ℕ) → Facts v → sheet v s ≡ sheet u r → (i : ℕ) → So (seen v s i) → (j : ℕ) × So (seen u r j) × (row v s i ≡ row u r j)
unfolding sheet
one_way {v} u s r h e i k =
    let (j, m, q) = map_in (row u r) (row v s i) (all_seen u r) (subst (In (row v s i)) (ap (λ x. x.rows) e) (in_map (row v s) i (all_seen v s) (seen_listed h s i k))) in
    (j, listed_seen u r j m, q)

-- equal sheets, and the same rows
pub same_of_sheets : {v u : View} {s r : ℕ} → Facts v → Facts u → sheet v s ≡ sheet u r → Same v u s r
unfolding sheet
same_of_sheets {v} {u} {s} {r} h g e =
    record { levels = ap (λ x. x.level) e; there = one_way u s r h e; back = λ j k. let (i, m, q) = one_way v r s g (sym e) j k in (i, m, sym q) }

-- and back
rows_sorted : {v : View} (s : ℕ) → Facts v → So (namespace_taken v s) → Sorted key (map (row v s) (all_seen v s))
unfolding all_seen
rows_sorted {v} s h k =
    map_sorted (row v s) (pid_seen v s) key (all_seen v s) (λ i m. row_key v s i (level_lt h s k))
    (ascending_sorted (seen v s) (pid_seen v s) process_slots (λ i j l m p q e. omega (arith, pid_unique v h s i j k p q e)))

rows_in : (v : View) {u : View} (s r : ℕ) → Facts u → ((i : ℕ) → So (seen v s i) → (j : ℕ) × So (seen u r j) × (row v s i ≡ row u r j)) → (x : Row) → In x (map (row v s) (all_seen v s)) → In x (map (row u r) (all_seen u r))
rows_in v {u} s r g h x m =
    let (i, n, e) = map_in (row v s) x (all_seen v s) m in
    let (j, k, q) = h i (listed_seen v s i n) in
    subst (λ y. In y (map (row u r) (all_seen u r))) (sym (e ∙ q)) (in_map (row u r) j (all_seen u r) (seen_listed g r j k))

pub sheets_of_same : {v u : View} {s r : ℕ} → Facts v → Facts u → So (namespace_taken v s) → So (namespace_taken u r) → Same v u s r → sheet v s ≡ sheet u r
unfolding sheet
sheets_of_same {v} {u} {s} {r} h g hs hr w =
    λ i. record {
      level = w.levels i;
      rows = sorted_unique key (map (row v s) (all_seen v s)) (map (row u r) (all_seen u r)) (rows_sorted s h hs) (rows_sorted r g hr) (rows_in v s r g w.there) (rows_in u r s h (λ j k. let (i, m, q) = w.back j k in (i, m, sym q))) i;
    }

-- a row by its parts
pub row_by : (v u : View) (s r i j : ℕ) → values (v.pid i) (levels - v.level s) (v.level s) ≡ values (u.pid j) (levels - u.level r) (u.level r) → v.state i ≡ u.state j → v.traits i ≡ u.traits j → pid_in v s (v.parent i) ≡ pid_in u r (u.parent j) → name v s (v.own i) ≡ name u r (u.own j) → Named v u s r i j → (when is_init v i then v.last (v.own i) else 0) ≡ (when is_init u j then u.last (u.own j) else 0) → row v s i ≡ row u r j
unfolding row
row_by v u s r i j a b c f g h z =
    λ k. record { pids = a k; state = b k; traits = c k; parent = f k; own = g k; holds = names_alike v u s r i j h k; last = z k }

pub same_trans : {v u x : View} {s r q : ℕ} → Same v u s r → Same u x r q → Same v x s q
same_trans a b =
    record {
      levels = a.levels ∙ b.levels;
      there = λ i k. let (j, m, e) = a.there i k in let (l, n, g) = b.there j m in (l, n, e ∙ g);
      back = λ l n. let (j, m, g) = b.back l n in let (i, k, e) = a.back j m in (i, k, e ∙ g);
    }

-- ---- with equal sheets

pub row_pid : (v u : View) (s r i j : ℕ) → v.level s < levels → u.level r < levels → row v s i ≡ row u r j → pid_seen v s i ≡ pid_seen u r j
row_pid v u s r i j l m e = sym (row_key v s i l) ∙ ap key e ∙ row_key u r j m
