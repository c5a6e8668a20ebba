-- Whom a kill finds is whom it means.
use Prim.Native.Nat.{ℕ, zero, suc}
use native.Mathlib.Omega.{arith}
use mathlib.Core.Bool.{Bool, true, false, So}
use mathlib.Core.List.{◌∷◌, []}
use mathlib.Core.Logic.{◌↔◌, inl, inr, ⊎_elim}
use mathlib.Core.Path.{◌≡◌, refl, sym, ◌∙◌, ap}
use borrow.Author.Tests.{ne_eqb, eqb-true, eq-eqb, eqb-false}
use lib.Dec.{eqb}
use lib.IntN.{ℤ, pos, negsuc}
use Rattle.rules.proofs.Keeps.Changed.{changed_at, process_count}
use Rattle.rules.proofs.Laws.Below.{below_level}
use Rattle.rules.proofs.Laws.Facts.{Facts, Taken, Stands, Seen, seen_taken, seen_below}
use Rattle.rules.proofs.Laws.Find.{find_cases, finds}
use Rattle.rules.proofs.Laws.Lists.{In, some_of_in, in_some_of, only_in, in_only, in_ascending, ascending_in}
use Rattle.rules.proofs.Laws.Slots.{pid_pos}
use Rattle.rules.proofs.Laws.Tests.{left, right, both}
use Rattle.rules.specs.Calls.{targets, named, others, pid_to}
use Rattle.rules.specs.Refusals.{meant, numbered}
use Rattle.rules.specs.Freeing.{freed}
use Rattle.table.specs.Limits.{process_slots}
use Rattle.table.specs.Slots.{no_process, process}
use Rattle.rules.specs.Read.{View, find, pid_seen, seen, all_seen}
use Rattle.rules.specs.Sound.{shaped}
use Rattle.table.specs.Tests.{when◌then◌else◌, ◌and◌, some_of}
use Rattle.table.specs.declared.Table.{Table}

module _ (v : View) (f : Facts v) (c : ℕ) (here : Taken v c) where
  place : Stands v (v.own c)
  place = (f.members c here).0.0

  -- who is seen has a number there, from 1
  pub counted : (i : ℕ) → Seen v (v.own c) i → pid_to v c i ≡ 0 → ⊥
  unfolding pid_seen
  counted i h e = omega (arith, pid_pos v f i (v.level (v.own c)) (seen_taken v _ i h) (below_level v f _ _ (seen_below v _ i h)))

  named_meant : (n : ℕ) → (i : ℕ) → (named v c (pos n) ≡ process_slots → ⊥) → i ≡ named v c (pos n) → Seen v (v.own c) i × (pid_to v c i ≡ n)
  unfolding named
  named_meant zero i o e = absurd (o refl)
  named_meant (suc k) i o e = rw e (⊎_elim (λ x. (x.0, x.1)) (λ x. absurd (o x.0)) (find_cases v (v.own c) (suc k)))

  pub meant_named : (n i : ℕ) → Seen v (v.own c) i → pid_to v c i ≡ n → named v c (pos n) ≡ i
  unfolding named
  meant_named zero i h e = absurd (counted i h e)
  meant_named (suc k) i h e = ap (find v (v.own c)) (sym e) ∙ finds v f (v.own c) i place h

  -- exactly those that the kill means are among the found
  pub targets_meant : (n : ℤ) (i : ℕ) → So (some_of (eqb i) (targets v c n)) ↔ So (meant v c n i)
  unfolding targets meant numbered others all_seen
  targets_meant (pos n) i = (λ h. there (eqb (named v c (pos n)) process_slots) refl (some_of_in i _ h), λ h. back h)
    where
      there : (b : Bool) → eqb (named v c (pos n)) process_slots ≡ b → In i (when b then [] else named v c (pos n) ∷ []) → So (seen v (v.own c) i and eqb (pid_to v c i) n)
      there true e h = absurd h
      there false e (inl q) = let (s, k) = named_meant n i (eqb-false _ process_slots e) q in both _ _ s (eq-eqb _ n k)
      there false e (inr h) = absurd h

      back : So (seen v (v.own c) i and eqb (pid_to v c i) n) → So (some_of (eqb i) (when eqb (named v c (pos n)) process_slots then [] else named v c (pos n) ∷ []))
      back h =
          let s = left _ _ h in
          let e = meant_named n i s (eqb-true _ n (right _ _ h)) in
          let l = f.in_range i (seen_taken v _ i s) in
          rw (ne_eqb (named v c (pos n)) process_slots (λ q. omega (arith, q, e, l))) (in_some_of i (named v c (pos n) ∷ []) (inl (sym e)))
  targets_meant (negsuc n) i = (
    λ h. let (m, k) = only_in _ i _ (some_of_in i _ h) in both _ _ (ascending_in _ _ process_slots i m).1 k,
    λ h. in_some_of i _ (in_only _ i _ (in_ascending _ _ process_slots i (f.in_range i (seen_taken v _ i (left _ _ h))) (left _ _ h)) (right _ _ h)),
  )

-- whom a kill means is seen
pub meant_seen : (v : View) (c : ℕ) (n : ℤ) (i : ℕ) → So (meant v c n i) → Seen v (v.own c) i
unfolding meant numbered
meant_seen v c (pos n) i m = left _ _ m
meant_seen v c (negsuc n) i m = left _ _ m

-- whom a number names in the caller's namespace has it there
pub named_is : (v : View) (c : ℕ) (n : ℤ) → (named v c n ≡ process_slots → ⊥) → So (numbered v c n (named v c n))
unfolding numbered named
named_is v c (pos zero) o = absurd (o refl)
named_is v c (pos (suc k)) o = ⊎_elim (λ x. both _ _ x.0 (eq-eqb _ (suc k) x.1)) (λ x. absurd (o x.0)) (find_cases v (v.own c) (suc k))
named_is v c (negsuc k) o = absurd (o refl)

-- freeing leaves the processes
pub freed_leaves : (t : Table) → So (shaped t) → (i : ℕ) → process (freed t) i ≡ process t i
unfolding freed
freed_leaves t g = changed_at (λ i p. p) no_process process_slots t.processes (process_count t g) (λ i l. refl)
