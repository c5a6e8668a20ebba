-- What the reader's steps say of the definitions.
use Prim.Native.Nat.{ℕ, zero, suc, ◌<◌}
use mathlib.Core.Bool.{Bool, true, false}
use mathlib.Core.List.{List, map}
use mathlib.Core.Path.{◌≡◌, refl, sym, ap, ap₂, subst, ◌∙◌}
use lib.ListN.{length, get_or}
use lib.Dec.{eqb}
use borrow.Author.Tests.{ne_eqb}
use native.Mathlib.Omega.{arith}
use denote.Param.Members.{Mut}
use denote.Ref.{Bor}
use Rattle.std.proofs.iter.Yields.{fronts}
use Rattle.std.proofs.lemmas.Iterator.{cases_from_all, YieldsList-from_slice}
use Rattle.std.specs.Bool.{MatchBool}
use Rattle.std.specs.Fn.{Called}
use Rattle.std.specs.Iterator.{YieldsThen}
use Rattle.std.specs.List.{AllWithin, HoldsAt, FoldsTo}
use Rattle.std.specs.Option.{MatchOption}
use Rattle.std.proofs.Common.{Iter, Option}
use Rattle.std.specs.Slice.Iter.{iter_rest}
use Rattle.table.proofs.AllLoops.{all_stops}
use Rattle.table.proofs.Chains.{pick_yes, pick_no, and_true, and_false, and_false_later, and_goes, told_equal, told_other}
use Rattle.table.specs.Tests.{◌and◌, all}
use Rattle.table.specs.declared.Namespace.{Namespace}
use Rattle.table.specs.declared.Process.{Process}
use Rattle.table.specs.declared.Table.{Table}
use Rattle.mirror.specs.Mirror.{state_kind, state_end, life_kind, life_init, state_from, life_from, process_from, namespace_from, writes_state, writes_life, is_process_row, is_namespace_row, is_written, empty_table, table_from}
use Rattle.mirror.specs.declared.NamespaceRow.{NamespaceRow}
use Rattle.mirror.specs.declared.ProcessRow.{ProcessRow}
use Rattle.table.specs.declared.Life.{Life}
use Rattle.table.specs.declared.State.{State}
use Rattle.mirror.specs.declared.Mirror.{Mirror}

-- ---- one row: s, the state that is read, is written as k and e

pub state_passes : (r : ProcessRow) (s : State) (k e : ℕ) (b : Bool) → s ≡ state_from r.state r.end → k ≡ state_kind s → e ≡ state_end s → k ≡ r.state → b ≡ eqb e r.end → b ≡ true → eqb r.reserved 0 ≡ is_process_row r
unfolding is_process_row
state_passes r s k e b p q t u v w = subst (λ z. eqb r.reserved 0 ≡ writes_state z r.state r.end and eqb r.reserved 0) p (and_goes _ _ _ (and_true _ _ (told_equal _ _ _ q u) (ap (λ z. eqb z r.end) (sym t) ∙ sym v ∙ w)) refl)

pub state_fails : (r : ProcessRow) (s : State) (k : ℕ) → s ≡ state_from r.state r.end → k ≡ state_kind s → (k ≡ r.state → ⊥) → false ≡ is_process_row r
unfolding is_process_row
state_fails r s k p q u = subst (λ z. false ≡ writes_state z r.state r.end and eqb r.reserved 0) p (sym (and_false _ _ (and_false _ _ (told_other _ _ _ q u))))

pub end_fails : (r : ProcessRow) (s : State) (e : ℕ) → s ≡ state_from r.state r.end → e ≡ state_end s → eqb e r.end ≡ false → false ≡ is_process_row r
unfolding is_process_row
end_fails r s e p t v = subst (λ z. false ≡ writes_state z r.state r.end and eqb r.reserved 0) p (sym (and_false _ _ (and_false_later _ _ (ap (λ z. eqb z r.end) (sym t) ∙ v))))

pub life_passes : (r : NamespaceRow) (l : Life) (k i : ℕ) → l ≡ life_from r.life r.init → k ≡ life_kind l → i ≡ life_init l → k ≡ r.life → eqb i r.init ≡ is_namespace_row r
unfolding is_namespace_row
life_passes r l k i p q t u = subst (λ z. eqb i r.init ≡ writes_life z r.life r.init) p (and_goes _ _ _ (told_equal _ _ _ q u) (ap (λ z. eqb z r.init) t))

pub life_fails : (r : NamespaceRow) (l : Life) (k : ℕ) → l ≡ life_from r.life r.init → k ≡ life_kind l → (k ≡ r.life → ⊥) → eqb k r.life ≡ is_namespace_row r
unfolding is_namespace_row
life_fails r l k p q u = subst (λ z. eqb k r.life ≡ writes_life z r.life r.init) p (ne_eqb _ _ u ∙ sym (and_false _ _ (told_other _ _ _ q u)))

-- ---- all rows

all_held : (n : ℕ) (f : ℕ → Bool) → ((i : ℕ) → i < n → f i ≡ true) → all n f ≡ true
unfolding all
all_held zero f h = refl
all_held (suc n) f h = pick_yes (f n) (all n f) false (h n (omega arith)) ∙ all_held n f (λ i k. h i (omega arith))

-- of a slice, one way and the other
all_cases : {X : Type 0} (l : List X) (d : X) (f : X → Bool) (r : Bool) → MatchBool r (AllWithin (λ x. f x ≡ true) l 0 (length l)) ((k : ℕ) × (k < length l) × HoldsAt (λ x. f x ≡ false) l k) → r ≡ all (length l) (λ i. f (get_or l i d))
all_cases l d f true h = sym (all_held (length l) (λ i. f (get_or l i d)) (λ i k. h i d (omega arith) k))
all_cases l d f false (k, within, fails) = all_stops (length l) (λ i. f (get_or l i d)) k within (fails d)

-- `l.iter().all(..)` of a closure that tells f of each element
pub all_passed : {X F : Type 0} {g : Mut F (Bor X × Unit {0}) Bool} {s u : Iter X} {c : F} (l : List X) (d : X) (f : X → Bool) (r : Bool) → (xs : List (Bor X)) × (o : Option (Bor X)) × (j : F) × YieldsThen fronts s xs o u × FoldsTo (λ p x q. Called g p (x, tt) true q) c xs j × MatchOption o (r ≡ true) (λ x. (r ≡ false) × ((h : F) × Called g j (x, tt) false h)) → iter_rest s ≡ l → ((x : Bor X) (b : Bool) (q : F) → Called g c (x, tt) b q → (q ≡ c) × (b ≡ f x.now)) → r ≡ all (length l) (λ i. f (get_or l i d))
all_passed {u = u} {c = c} l d f r ran e h =
    all_cases l d f r
    (cases_from_all u c r (λ x. f x ≡ true) (λ x. f x ≡ false) ran (YieldsList-from_slice l e)
    (λ x q k. let w = h x true q k in (w.0, sym w.1)) (λ x q k. sym (h x false q k).1))

-- ---- a whole table

pub read_empty : (m : Mirror) (b : Bool) (t : Table) → b ≡ is_written m → b ≡ false → t ≡ empty_table → t ≡ table_from m
unfolding table_from
read_empty m b t p q e = e ∙ sym (pick_no (is_written m) _ empty_table (sym p ∙ q))

pub read_whole : (m : Mirror) (b : Bool) (ps : List Process) (ns : List Namespace) → b ≡ is_written m → b ≡ true → ps ≡ map process_from m.processes → ns ≡ map namespace_from m.namespaces → ◌≡◌ {A = Table} (record { processes = ps; namespaces = ns }) (table_from m)
unfolding table_from
read_whole m b ps ns p q e f = ap₂ (λ x y. record { processes = x; namespaces = y }) e f ∙ sym (pick_yes (is_written m) _ empty_table (sym p ∙ q))
