-- What a signal leaves that changes the record of a process that lives on.
use Prim.Native.Nat.{ℕ, ◌<◌}
use native.Mathlib.Omega.{arith}
use mathlib.Core.Bool.{false, not}
use mathlib.Core.Logic.{inl}
use mathlib.Core.Path.{◌≡◌, refl, sym, ◌∙◌, ap, subst, ap₂}
use borrow.Author.Tests.{eq-eqb, ne_eqb}
use lib.Dec.{eqb}
use lib.ListN.{get_or}
use Rattle.rules.proofs.Keeps.Changed.{stored, pick_same, process_count}
use Rattle.rules.proofs.Keeps.Trace.{over, over_same, Trace, parent_after_old, rest_same}
use Rattle.rules.proofs.Laws.Facts.{Taken, Lives, lives_taken, not_ended, Sane}
use Rattle.rules.proofs.Laws.Slots.{init_living}
use Rattle.rules.proofs.Laws.Tests.{isnt_so}
use Rattle.rules.specs.Read.{living, namespace_taken, taken, view}
use Rattle.table.specs.Limits.{process_slots}
use Rattle.table.specs.Slots.{is_ended, no_pid, no_process, pid_at, process, put}
use Rattle.table.specs.Tests.{◌and◌, when◌then◌else◌}
use Rattle.table.specs.declared.Process.{Process}
use Rattle.table.specs.declared.Table.{Table}
use Rattle.table.specs.Records.{with_parent}
use Rattle.table.specs.Traits.{ended_traits}

-- x is the record q of a living process, but for what an end clears and for running or stopping
abbrev pub Kin : Process → Process → Type 0
Kin x q = (x.own ≡ q.own) × (x.parent ≡ q.parent) × (x.pids ≡ q.pids) × (is_ended x.state ≡ false) × (ended_traits x.traits ≡ ended_traits q.traits)

module _ (k from : ℕ) (P : ℕ → Type 0) (u : Table) (s : Sane u) (j : ℕ) (x : Process) (l : Lives (view u) j) (kin : Kin x (process u j)) where
  abbrev w : Table
  w = put u j x

  low : j < process_slots
  low = s.facts.in_range j (lives_taken (view u) j l)

  at : (i : ℕ) → process w i ≡ (when eqb i j then x else process u i)
  at = stored u.processes j x no_process (omega (arith, process_count u s.shape_of, low))

  field : {B : Type 0} (r : Process → B) → r x ≡ r (process u j) → (i : ℕ) → r (process w i) ≡ r (process u i)
  field r e i = ap r (at i) ∙ pick_same u s.shape_of j r x e i

  taken_same : (i : ℕ) → taken (view w) i ≡ taken (view u) i
  unfolding taken
  taken_same = field (λ p. not (eqb (pid_at p 0) 0)) (ap (λ ps. not (eqb (get_or ps 0 no_pid).0 0)) kin.2)

  ended_same : (i : ℕ) → (view w).ended i ≡ (view u).ended i
  ended_same = field (λ p. is_ended p.state) (kin.3 ∙ sym (isnt_so (not_ended (view u) j l)))

  living_same : (i : ℕ) → living (view w) i ≡ living (view u) i
  unfolding living
  living_same i = ap₂ (λ a b. a and not b) (taken_same i) (ended_same i)

  -- the others' records are as they were
  put_others : (i : ℕ) → (i ≡ j → ⊥) → process w i ≡ process u i
  put_others i o = at i ∙ rw (ne_eqb i j o)

  pub put_rest : (i : ℕ) → (i ≡ j → ⊥) → process w i ≡ with_parent (process u i) ((view w).parent i)
  put_rest i o = rest_same w i (process u i) (put_others i o)

  pub put_self : process w j ≡ x
  put_self = at j ∙ rw (eq-eqb j j refl)

  put_ended : (i : ℕ) → Taken (view w) i → (Lives (view w) i → ⊥) → process w i ≡ over k (process u i)
  put_ended i h o =
      let d : Lives (view u) i → ⊥ = λ a. o (living_same i ∙ a) in
      put_others i (λ e. d (subst (Lives (view u)) (sym e) l)) ∙ sym (over_same k u i (sym (taken_same i) ∙ h) d)

  pub put_trace : Trace k from P u w
  unfolding namespace_taken
  put_trace =
      record {
        kin = λ i h. (field (λ p. p.own) kin.0 i, field (λ p. p.pids) kin.2 i, field (λ p. ended_traits p.traits) kin.4 i);
        lives = λ i a. sym (living_same i) ∙ a;
        ups = refl;
        levels = refl;
        stay = λ m h. (h, (refl, refl, λ o. inl refl));
        parents = λ i h. field (λ p. p.parent.0) (ap (λ p. p.0) kin.1) i ∙ sym (parent_after_old u w i (λ a. living_same _ ∙ a));
        removed = λ i h o. absurd (o (taken_same i ∙ h));
        ended = λ i h o. rest_same w i _ (put_ended i h o);
        heads = λ m (a, o). absurd (o (living_same _ ∙ init_living (view u) s.facts m a));
      }
