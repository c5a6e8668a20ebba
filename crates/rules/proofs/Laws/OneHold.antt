-- While a process holds one namespace, that of its children: each test over the indices as the test of that one. For
-- code that reads own and children's namespace by name.
use Prim.Native.Nat.{ℕ}
use mathlib.Core.Bool.{Bool, true, false, not}
use mathlib.Core.Path.{◌≡◌, refl, sym, ◌∙◌, ap, fun_ext}
use lib.Dec.{eqb}
use Rattle.rules.proofs.Laws.Facts.{Holds}
use Rattle.rules.proofs.Laws.Holds.{only_index}
use Rattle.rules.specs.Freeing.{kept}
use Rattle.rules.specs.Read.{View, below, children, namespace_taken, taken}
use Rattle.rules.specs.Sound.{each_process, ended_bare, held, holds, zero_process}
use Rattle.table.specs.Limits.{hold_slots, levels, namespace_slots, no_slot, process_slots}
use Rattle.table.specs.Slots.{is_running}
use Rattle.table.specs.Tests.{◌and◌, ◌implies◌, ◌or◌, all, any}
use Rattle.table.specs.Traits.{bare_traits, blank_traits}

-- ---- tests over the indices

pub any_one : (f : ℕ → Bool) → any hold_slots f ≡ f 0
unfolding any
any_one f = go (f 0)
  where
    go : (b : Bool) → (elim b as (λ z. Bool) [ true ↦ true | false ↦ false ]) ≡ b
    go true = refl
    go false = refl

pub all_one : (f : ℕ → Bool) → all hold_slots f ≡ f 0
unfolding all
all_one f = go (f 0)
  where
    go : (b : Bool) → (elim b as (λ z. Bool) [ true ↦ true | false ↦ false ]) ≡ b
    go true = refl
    go false = refl

-- ---- each definition

pub holds_one : (v : View) (n i : ℕ) → holds v n i ≡ (taken v i and eqb (children v i) n)
unfolding holds
holds_one v n i = ap (λ b. taken v i and b) (any_one _)

pub kept_one : (v : View) (n : ℕ) → kept v n ≡ (eqb n 0 or any process_slots (λ i. taken v i and (below v (v.own i) n or below v (children v i) n)))
unfolding kept
kept_one v n = ap (λ (f : ℕ → Bool). eqb n 0 or any process_slots (λ i. taken v i and (below v (v.own i) n or f i))) (fun_ext (λ i. any_one _))

pub held_one : (v : View) (n : ℕ)
    → held v n ≡ (eqb n 0 or any process_slots (λ i. taken v i and eqb (v.own i) n) or any process_slots (λ i. taken v i and eqb (children v i) n) or any namespace_slots (λ m. not (eqb m 0) and namespace_taken v m and eqb (v.up m) n))
unfolding held
held_one v n =
    ap (λ (f : ℕ → Bool). eqb n 0 or any process_slots (λ i. taken v i and eqb (v.own i) n) or any process_slots f or any namespace_slots (λ m. not (eqb m 0) and namespace_taken v m and eqb (v.up m) n))
    (fun_ext (holds_one v n))

pub ended_one : (v : View) → ended_bare v ≡ each_process v (λ i. v.ended i implies eqb (children v i) no_slot and bare_traits (v.traits i))
unfolding ended_bare
ended_one v = ap (λ (f : ℕ → Bool). each_process v (λ i. v.ended i implies f i and bare_traits (v.traits i))) (fun_ext (λ i. all_one _))

pub zero_one : (v : View) (i : ℕ)
    → zero_process v i ≡ (eqb (v.own i) 0 and eqb (children v i) 0 and eqb (v.parent i) 0 and is_running (v.state i) and blank_traits (v.traits i) and all levels (λ l. eqb (v.pid i l) 0))
unfolding zero_process
zero_one v i = ap (λ b. eqb (v.own i) 0 and b and eqb (v.parent i) 0 and is_running (v.state i) and blank_traits (v.traits i) and all levels (λ l. eqb (v.pid i l) 0)) (all_one _)

-- what a process holds it has for its children
pub only_children : (v : View) (i n : ℕ) → Holds v i n → children v i ≡ n
only_children v i n (k, l, e) = ap (v.hold i) (sym (only_index k l)) ∙ e
