-- A fresh namespace below the caller's own, on one table: it stands, unborn and held by nobody yet, and changes
-- nothing for S.
use Prim.Native.Nat.{ℕ, suc}
use native.Mathlib.Omega.{arith}
use mathlib.Core.Bool.{false, not, So, false≢true}
use mathlib.Core.Logic.{⊎_elim}
use mathlib.Core.Path.{◌≡◌, refl, sym, ◌∙◌, ap, subst}
use borrow.Author.Tests.{eqb-false, ne_eqb}
use lib.Dec.{eqb}
use lib.Seq.{get_or-set_same, get_or-set_other}
use Rattle.rules.proofs.Keeps.Changed.{namespace_count}
use Rattle.rules.proofs.Keeps.Premises.{free_namespace_is}
use Rattle.rules.proofs.Laws.Below.{below_taken, deep_namespace, no_level, shallow_below}
use Rattle.rules.proofs.Laws.Facts.{Facts, Sane, seen_taken, Holds, hold_cases}
use Rattle.rules.proofs.Laws.Slots.{own_taken, up_taken}
use Rattle.rules.proofs.Laws.Tests.{both, cases, isnt, isnt_so, no_so}
use Rattle.sameness.proofs.Anchor.{below_up}
use Rattle.sameness.proofs.Remain.{Places, everyone, below_stays, seen_remain}
use Rattle.sameness.proofs.Still.{Still, near}
use Rattle.rules.specs.Calls.{new_namespace}
use Rattle.table.specs.Limits.{namespace_slots, no_slot}
use Rattle.rules.specs.Pids.{free_namespace_slot, free_slot}
use Rattle.table.specs.Slots.{is_unborn, namespace, no_namespace}
use Rattle.rules.specs.Read.{below, namespace_taken, seen, taken, unborn, view}
use Rattle.sameness.specs.Sheet.{name, name_by, unborn_name}
use Rattle.table.specs.declared.Life.TheVariants.{Unborn}
use Rattle.table.specs.declared.Table.{Table}
use Rattle.table.specs.Records.{to_pid}

-- the processes are the same
pub same_free : (t : Table) (c : ℕ) → free_slot (view (new_namespace t c)) ≡ free_slot (view t)
unfolding free_slot taken new_namespace
same_free t c = refl

module _ {t : Table} (f : Sane t) (c : ℕ) (room : free_namespace_slot (view t) ≡ namespace_slots → ⊥) where
  abbrev x : ℕ
  x = free_namespace_slot (view t)

  abbrev t₁ : Table
  t₁ = new_namespace t c

  other : (n : ℕ) → (n ≡ x → ⊥) → namespace t₁ n ≡ namespace t n
  unfolding new_namespace
  other n o = get_or-set_other t.namespaces x n _ no_namespace o

  pub the_namespace : namespace t₁ x ≡ record { parent = record { 0 = (view t).own c }; level = suc ((view t).level ((view t).own c)); last = to_pid 0; life = Unborn }
  unfolding new_namespace
  the_namespace = get_or-set_same t.namespaces x _ no_namespace (omega (arith, namespace_count t f.shape_of, (free_namespace_is (view t) room).0))

  pub new_unborn : So (unborn (view t₁) x)
  new_unborn = ap (λ s. is_unborn s.life) the_namespace

  pub new_taken : So (namespace_taken (view t₁) x)
  new_taken = deep_namespace (view t₁) x _ (ap (λ s. s.level) the_namespace)

  pub new_name : (s : ℕ) → name (view t₁) s x ≡ unborn_name
  unfolding name name_by
  new_name s = rw (ne_eqb x no_slot (λ e. omega (arith, (free_namespace_is (view t) room).0)), ap (λ q. q.life) the_namespace) refl

  taken_other : (n : ℕ) → So (namespace_taken (view t) n) → n ≡ x → ⊥
  taken_other n h e = (free_namespace_is (view t) room).1 (subst (λ m. So (namespace_taken (view t) m)) e h)

  pub not_held : (i : ℕ) → So (taken (view t₁) i) → Holds (view t₁) i x → ⊥
  unfolding new_namespace taken
  not_held i h (k, l, e) = ⊎_elim (λ y. taken_other _ y e) (λ y. omega (arith, (free_namespace_is (view t) room).0, sym e ∙ y)) (hold_cases (view t) f.facts i h k l)

  -- ---- all else stands

  apart : (n : ℕ) → So (namespace_taken (view t) n) → So (not (eqb n x))
  apart n h = ap not (ne_eqb n x (taken_other n h))

  places : Places (view t) (view t₁) (λ n. not (eqb n x)) everyone
  unfolding new_namespace
  places =
      record {
        tree =
            record {
              ups = λ n h. ap (λ s. s.parent.0) (other n (eqb-false n x (isnt _ h)));
              levels = λ n h. ap (λ s. s.level) (other n (eqb-false n x (isnt _ h)));
              up_kept = λ n k h e. apart ((view t).up n) (up_taken (view t) f.facts n k e);
            };
        owns = λ i q. refl;
        pids = λ i l q. refl;
        gone = λ i q. absurd (false≢true (sym q));
        own_kept = λ i q h. apart ((view t).own i) (own_taken (view t) f.facts i h);
      }

  module _ (s : ℕ) (hs : So (namespace_taken (view t) s)) where
    near_other : (n : ℕ) → So (near (view t) s n) → n ≡ x → ⊥
    near_other n h e =
        ⊎_elim (λ b. taken_other s hs (sym (shallow_below (view t) n s (no_level (view t) f.facts n (λ k. taken_other n k e)) b) ∙ e))
        (λ b. taken_other n (below_taken (view t) f.facts s n hs b) e) (cases _ _ h)

    pub new_still : Still (view t) (view t₁) s
    unfolding new_namespace
    new_still =
        record {
          ups = λ n h. ap (λ q. q.parent.0) (other n (near_other n h));
          levels = λ n h. ap (λ q. q.level) (other n (near_other n h));
          lives = λ n h. ap (λ q. q.life) (other n (near_other n h));
          seens = λ i. seen_remain f.facts places s i refl;
          looks = λ i k. refl;
          pids = λ i l k. refl;
          parents = λ i k. refl;
          lasts = λ i k. ap (λ q. q.last.0) (other ((view t).own i) (taken_other _ (own_taken (view t) f.facts i (seen_taken (view t) s i k))));
        }

    -- it is not of S if the caller is not
    pub new_outside : So (taken (view t) c) → Facts (view t₁) → seen (view t) s c ≡ false → below (view t₁) x s ≡ false
    unfolding seen taken
    new_outside tc g o =
        isnt_so
        (λ b. no_so o
        (both _ _ tc
        (sym (below_stays f.facts places.tree ((view t).own c) s (apart _ (own_taken (view t) f.facts c tc)))
        ∙ subst (λ n. So (below (view t₁) n s)) (ap (λ z. z.parent.0) the_namespace) (below_up g x s b (λ e. taken_other s hs (sym e))))))
