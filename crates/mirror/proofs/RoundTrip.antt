-- Reading what was written gives the table back; writing what was read gives a mirror back that a writer made.
use Prim.Native.Nat.{ℕ, zero, suc}
use mathlib.Core.Bool.{Bool, true, false, false≢true}
use mathlib.Core.List.{List, [], ◌∷◌, map}
use mathlib.Core.Path.{◌≡◌, refl, sym, ap, ap₂, subst, ◌∙◌}
use lib.Dec.{eqb}
use lib.ListN.{length, get_or, length-map, get_or-map}
use lib.Seq.{ext_get_or}
use native.Mathlib.Omega.{arith}
use borrow.Author.Tests.{eq-eqb, eqb-true}
use Rattle.table.proofs.AllLoops.{all_at}
use Rattle.table.proofs.Chains.{and_true, pick_yes, pick_no}
use Rattle.table.specs.Slots.{no_process, no_namespace}
use Rattle.table.specs.Tests.{◌and◌, all}
use Rattle.table.specs.declared.End.TheVariants.{Exited, Signaled}
use Rattle.table.specs.declared.Life.{Life}
use Rattle.table.specs.declared.Life.TheVariants.{Unborn, Alive, Dead}
use Rattle.table.specs.declared.Namespace.{Namespace}
use Rattle.table.specs.declared.Process.{Process}
use Rattle.table.specs.declared.State.{State}
use Rattle.table.specs.declared.State.TheVariants.{Running, Stopped, Ended}
use Rattle.mirror.specs.Claims.{MirrorsAreRead, MirrorsAreWritten, WrittenIsKept, OthersReadAsEmpty}
use Rattle.mirror.specs.Mirror.{state_kind, state_end, life_kind, life_init, process_row, namespace_row, mirror_of, state_from, life_from, process_from, namespace_from, is_process_row, is_namespace_row, no_process_row, no_namespace_row, is_written, empty_table, table_from}
use Rattle.mirror.specs.declared.Mirror.{Mirror}
use Rattle.mirror.specs.declared.NamespaceRow.{NamespaceRow}
use Rattle.mirror.specs.declared.ProcessRow.{ProcessRow}

both_first : (a b : Bool) → a and b ≡ true → a ≡ true
unfolding ◌and◌
both_first true b e = refl
both_first false b e = absurd (false≢true e)

both_second : (a b : Bool) → a and b ≡ true → b ≡ true
unfolding ◌and◌
both_second true b e = e
both_second false b e = absurd (false≢true e)

-- ---- one record, written and read

state_read : (s : State) → state_from (state_kind s) (state_end s) ≡ s
unfolding state_from
state_read Running = refl
state_read Stopped = refl
state_read (Ended (Exited k)) = refl
state_read (Ended (Signaled k)) = refl

life_read : (l : Life) → life_from (life_kind l) (life_init l) ≡ l
unfolding life_from
life_read Unborn = refl
life_read (Alive i) = refl
life_read Dead = refl

process_read : (p : Process) → process_from (process_row p) ≡ p
unfolding process_from process_row
process_read p =
    ap (λ (s : State). record { own = p.own; children = p.children; parent = p.parent; state = s; traits = p.traits; pids = p.pids })
    (state_read p.state)

namespace_read : (n : Namespace) → namespace_from (namespace_row n) ≡ n
unfolding namespace_from namespace_row
namespace_read n =
    ap (λ (l : Life). record { parent = n.parent; level = n.level; last = n.last; life = l }) (life_read n.life)

same : (k : ℕ) → eqb k k ≡ true
same k = eq-eqb k k refl

process_written : (p : Process) → is_process_row (process_row p) ≡ true
unfolding is_process_row process_row
process_written p =
    rw (state_read p.state)
    (and_true _ _ (and_true _ _ (same (state_kind p.state)) (same (state_end p.state))) refl)

namespace_written : (n : Namespace) → is_namespace_row (namespace_row n) ≡ true
unfolding is_namespace_row namespace_row
namespace_written n = rw (life_read n.life) (and_true _ _ (same (life_kind n.life)) (same (life_init n.life)))

-- ---- one row, read and written

process_kept : (r : ProcessRow) → is_process_row r ≡ true → process_row (process_from r) ≡ r
unfolding is_process_row process_row process_from
process_kept r e =
    let s = state_from r.state r.end in
    let bytes = both_first _ _ e in
    let kind : state_kind s ≡ r.state = eqb-true _ _ (both_first _ _ bytes) in
    let value : state_end s ≡ r.end = eqb-true _ _ (both_second _ _ bytes) in
    let spare : r.reserved ≡ 0 = eqb-true _ _ (both_second _ _ e) in
    let row : ℕ → ℕ → ℕ → ProcessRow = λ a b c. record { own = r.own; children = r.children; parent = r.parent; state = a; end = b; reserved = c; pids = r.pids; handled = r.handled; pending = r.pending } in
    ap₂ (λ a b. row a b 0) kind value ∙ ap (row r.state r.end) (sym spare)

namespace_kept : (r : NamespaceRow) → is_namespace_row r ≡ true → namespace_row (namespace_from r) ≡ r
unfolding is_namespace_row namespace_row namespace_from
namespace_kept r e =
    ap₂ (λ (a b : ℕ). record { parent = r.parent; level = r.level; life = a; init = b; last = r.last })
    (eqb-true _ _ (both_first _ _ e)) (eqb-true _ _ (both_second _ _ e))

-- ---- arrays of them

map_back : {A B : Type 0} (f : A → B) (g : B → A) → ((x : A) → g (f x) ≡ x) → (l : List A) → map g (map f l) ≡ l
map_back f g h [] = refl
map_back f g h (x ∷ l) = ap₂ (λ y k. y ∷ k) (h x) (map_back f g h l)

-- the same for those that pass a test, as each does
map_back_if : {A B : Type 0} (f : A → B) (g : B → A) (t : A → Bool) (d : A) → t d ≡ true → ((x : A) → t x ≡ true → g (f x) ≡ x) → (l : List A) → all (length l) (λ i. t (get_or l i d)) ≡ true → map g (map f l) ≡ l
map_back_if f g t d k h l e =
    ext_get_or (g (f d)) (map g (map f l)) l (length-map (map f l) g ∙ length-map l f)
    (λ i q.
    get_or-map g (map f l) i (f d) ∙ ap g (get_or-map f l i d)
    ∙ h (get_or l i d) (all_at (length l) (λ j. t (get_or l j d)) i e (omega (arith, length-map (map f l) g, length-map l f)))
    ∙ ap (get_or l i) (sym (h d k)))

all_true : (n : ℕ) (f : ℕ → Bool) → ((i : ℕ) → f i ≡ true) → all n f ≡ true
unfolding all
all_true zero f h = refl
all_true (suc n) f h = pick_yes (f n) (all n f) false (h n) ∙ all_true n f h

-- each row of what was written passes
rows_pass : {A B : Type 0} (f : A → B) (t : B → Bool) (d : A) → ((x : A) → t (f x) ≡ true) → (l : List A) → all (length (map f l)) (λ i. t (get_or (map f l) i (f d))) ≡ true
rows_pass f t d h l = all_true _ _ (λ i. ap t (get_or-map f l i d) ∙ h (get_or l i d))

-- ---- whole tables

-- what lies past the end of an array of rows is the row of what lies past the end of the table's
past_process : process_row no_process ≡ no_process_row
unfolding process_row
past_process = refl

past_namespace : namespace_row no_namespace ≡ no_namespace_row
unfolding namespace_row
past_namespace = refl

pub mirrors_are_written : MirrorsAreWritten
unfolding is_written mirror_of
mirrors_are_written t =
    and_true _ _
    (subst (λ d. all (length (map process_row t.processes)) (λ i. is_process_row (get_or (map process_row t.processes) i d)) ≡ true) past_process (rows_pass process_row is_process_row no_process process_written t.processes))
    (subst (λ d. all (length (map namespace_row t.namespaces)) (λ i. is_namespace_row (get_or (map namespace_row t.namespaces) i d)) ≡ true) past_namespace (rows_pass namespace_row is_namespace_row no_namespace namespace_written t.namespaces))

pub mirrors_are_read : MirrorsAreRead
unfolding table_from mirror_of
mirrors_are_read t =
    pick_yes (is_written (mirror_of t)) _ empty_table (mirrors_are_written t)
    ∙ ap₂ (λ ps ns. record { processes = ps; namespaces = ns })
    (map_back process_row process_from process_read t.processes)
    (map_back namespace_row namespace_from namespace_read t.namespaces)

-- what lies past the end passes too
past_process_passes : is_process_row no_process_row ≡ true
unfolding is_process_row state_from ◌and◌
past_process_passes = refl

past_namespace_passes : is_namespace_row no_namespace_row ≡ true
unfolding is_namespace_row life_from ◌and◌
past_namespace_passes = refl

rows_kept : (m : Mirror) → is_written m ≡ true → mirror_of (record { processes = map process_from m.processes; namespaces = map namespace_from m.namespaces }) ≡ m
unfolding mirror_of is_written
rows_kept m e =
    ap₂ (λ ps ns. record { processes = ps; namespaces = ns })
    (map_back_if process_from process_row is_process_row no_process_row past_process_passes process_kept m.processes (both_first _ _ e))
    (map_back_if namespace_from namespace_row is_namespace_row no_namespace_row past_namespace_passes namespace_kept m.namespaces (both_second _ _ e))

pub written_is_kept : WrittenIsKept
unfolding table_from
written_is_kept m e = ap mirror_of (pick_yes (is_written m) _ empty_table e) ∙ rows_kept m e

pub others_read_as_empty : OthersReadAsEmpty
unfolding table_from
others_read_as_empty m e = pick_no (is_written m) _ empty_table e
