-- What the end of one that is no init ends, hands over and leaves.
use Prim.Native.Nat.{ℕ, ◌<◌}
use mathlib.Core.Bool.{false, So}
use mathlib.Core.Path.{◌≡◌, refl, sym, ◌∙◌, ap, subst}
use borrow.Author.Tests.{eq-eqb, eqb-true, ne_eqb, le-leb, lt-ltb}
use lib.IntN.{ℤ, pos}
use Rattle.rules.proofs.Keeps.Deliver.{Good, action_good}
use Rattle.rules.proofs.Keeps.End.{end_sane, member_ended_at}
use Rattle.rules.proofs.Keeps.Exact.{finish_made, exit_made}
use Rattle.rules.proofs.Keeps.Finds.{freed_leaves}
use Rattle.rules.proofs.Keeps.MemberEnds.{reaches}
use Rattle.rules.proofs.Keeps.Premises as K
use Rattle.rules.proofs.Laws.Facts.{Lives, Other, Seen, lives_taken, facts, Sane, sane}
use Rattle.rules.proofs.Laws.Reach.{no_self}
use Rattle.rules.proofs.Laws.Steps.{runs_lives, remainder}
use Rattle.rules.proofs.Laws.Tests.{isnt_so, right, both}
use Rattle.rules.specs.Calls.{pid_to, status}
use Rattle.rules.specs.Claims.{MemberEnds, MemberEndExact}
use Rattle.rules.specs.Delivery.{action_on}
use Rattle.rules.specs.Ends.{end, member_ends}
use Rattle.rules.specs.Freeing.{freed}
use Rattle.rules.specs.Read.{child_of, init, is_init, view}
use Rattle.rules.specs.Sound.{SoundTable, kept_end}
use Rattle.rules.specs.Step.{runs, step}
use Rattle.table.specs.Limits.{process_slots, signals}
use Rattle.table.specs.Slots.{process}
use Rattle.table.specs.declared.Action.TheVariants.{Finish}
use Rattle.table.specs.declared.Call.TheVariants.{Exit, Kill}
use Rattle.table.specs.declared.End.TheVariants.{Exited, Signaled}
use Rattle.table.specs.declared.End.{End}
use Rattle.table.specs.declared.State.TheVariants.{Ended}
use Rattle.table.specs.declared.Table.{Table}

module _ (t : Table) (s : Sane t) (p : ℕ) (e : End) (lives : Lives (view t) p) (other : Other p) (ok : So (kept_end (Ended e))) (no : is_init (view t) p ≡ false) where
  at : (i : ℕ) → process (freed (end t p e)) i ≡ member_ends (view t) p e i (process t i)
  at i = freed_leaves (end t p e) (end_sane t s p e lives other ok).shape_of i ∙ member_ended_at t s p e (lives_taken (view t) p lives) no i

  -- a child is another process
  not_own : (i : ℕ) → So (child_of (view t) p i) → i ≡ p → ⊥
  unfolding child_of
  not_own i c x =
      other (no_self (view t).parent process_slots p (ap (view t).parent (sym x) ∙ eqb-true _ p (right _ _ c)) (reaches (view t) s.facts p (lives_taken (view t) p lives)))

  pub member_ends_exactly : MemberEnds t (freed (end t p e)) p e
  unfolding member_ends
  member_ends_exactly =
      record {
        itself = at p ∙ rw (eq-eqb p p refl);
        children = λ i c. at i ∙ rw (ne_eqb i p (not_own i c), c);
        others = λ i o n. let c : child_of (view t) p i ≡ false = isnt_so n in at i ∙ rw (ne_eqb i p o, c);
      }

not_root : (t : Table) → SoundTable t → (i : ℕ) → (So (is_init (view t) i) → ⊥) → Other i
unfolding is_init
not_root t h i o z = o (eq-eqb _ i (ap (init (view t)) (ap (view t).own z ∙ (facts t h).root_own) ∙ (facts t h).root_init ∙ sym z))

by_exit : (t : Table) (c : ℕ) (s : ℤ) → SoundTable t → So (runs (view t) c) → (So (is_init (view t) c) → ⊥) → MemberEnds t (step t c (Exit s)).table c (Exited (status s))
by_exit t c s h r o =
    let other = not_root t h c o in
    subst (λ x. MemberEnds t x c (Exited (status s))) (sym (exit_made t c s h r other))
    (member_ends_exactly t (sane t h) c (Exited (status s)) (runs_lives t c r) other (remainder s) (isnt_so o))

by_signal : (t : Table) (c i s : ℕ) → SoundTable t → So (runs (view t) c) → Seen (view t) ((view t).own c) i → (So (is_init (view t) i) → ⊥) → s < signals → action_on (view t) ((view t).own c) i s ≡ Finish → MemberEnds t (step t c (Kill (pos (pid_to (view t) c i)) (pos s))).table i (Signaled s)
by_signal t c i s h r a o l e =
    let g : Good (view t) i s Finish = subst (Good (view t) i s) e (action_good (view t) i s ((view t).own c) (facts t h) (K.safe_seen (view t) (facts t h) ((view t).own c) i a)) in
    subst (λ x. MemberEnds t x i (Signaled s)) (sym (finish_made t c i h r a s l e))
    (member_ends_exactly t (sane t h) i (Signaled s) g.0 g.1 (both _ _ (le-leb 1 s g.2) (lt-ltb s signals l)) (isnt_so o))

pub member_end_exact : MemberEndExact
member_end_exact = record { by_exit = by_exit; by_signal = by_signal }
