-- setns: by twin callers, and by an outsider.
use Prim.Native.Nat.{ℕ, zero, suc}
use mathlib.Core.Bool.{So}
use mathlib.Core.Logic.{inl, inr}
use mathlib.Core.Path.{◌≡◌, refl, ap}
use borrow.Author.Tests.{eq-eqb, eqb-false}
use lib.Dec.{eqb}
use lib.IntN.{ℤ, pos, negsuc}
use Rattle.rules.proofs.Keeps.Changes.{setns_sane}
use Rattle.rules.proofs.Laws.Facts.{facts}
use Rattle.rules.proofs.Laws.Find.{named_seen}
use Rattle.rules.proofs.Laws.Judged.{alike, all_alike, gives, place}
use Rattle.rules.proofs.Laws.Steps.{runs_lives}
use Rattle.rules.proofs.Laws.Tests.{or_false_left}
use Rattle.sameness.proofs.Calls.{Kept, Ready, owns_twins, TestsAlike, GivesSame, GivesLeaves}
use Rattle.sameness.proofs.Light.{shown, same_put, shown_to}
use Rattle.sameness.proofs.Freeing.{freed_alike, freed_still}
use Rattle.sameness.proofs.Readers.{NobodyOrTwins, find_twins, ended_twins, slot_v}
use Rattle.sameness.proofs.Still.{put_still}
use Rattle.sameness.proofs.Twins.{flip_pair, flip_twin, Twin, twin_rows}
use Rattle.rules.specs.Answers.{answers, granted}
use Rattle.rules.specs.Calls.{named, set_children}
use Rattle.table.specs.Limits.{process_slots}
use Rattle.table.specs.Slots.{process}
use Rattle.rules.specs.Read.{view, seen, namespace_taken}
use Rattle.sameness.specs.Sheet.{Row, row}
use Rattle.table.specs.Tests.{◌or◌}
use Rattle.table.specs.declared.Call.TheVariants.{Setns}
use Rattle.table.specs.declared.Refusal.TheVariants.{Esrch}
use Rattle.table.specs.declared.Table.{Table}
use Rattle.table.specs.Records.{with_children}

-- a number names twins, or nobody
pub named_twins : {t u : Table} {s r i j : ℕ} → Ready t u s r i j → (z : ℤ) → NobodyOrTwins (view t) (view u) s r (named (view t) i z) (named (view u) j z)
unfolding named
named_twins w (pos zero) = inl (refl, refl)
named_twins w (pos (suc k)) = find_twins w.pair (suc k) (owns_twins w)
named_twins w (negsuc k) = inl (refl, refl)

module _ {t u : Table} {s r i j : ℕ} (w : Ready t u s r i j) where
  -- both callers take the own namespaces of two twins that they see
  set_children_kept : {x y : ℕ} → Twin (view t) (view u) s r x y → So (seen (view t) ((view t).own i) x) → So (seen (view u) ((view u).own j) y) → Kept t u s r (answers (set_children t i ((view t).own x)) 0) (answers (set_children u j ((view u).own y)) 0)
  unfolding set_children row answers granted
  set_children_kept {x} {y} k sx sy =
      let z = shown t u w.pair w.twin in
      let a = setns_sane t w.sound_t i x (runs_lives t i w.runs_t) sx in
      let b = setns_sane u w.sound_u j y (runs_lives u j w.runs_u) sy in
      inr (
        refl,
        freed_alike t u a b w.pair.alive_v w.pair.alive_u
            (same_put t u w.pair w.twin w.sound_t.shape w.sound_u.shape
            (shown_to z (ap (λ (q : Row). q.own) (twin_rows w.pair k)))
            (refl, refl, refl) (refl, refl, refl)),
      )

-- setns by twin callers: both name nobody, or twins, who have ended on both tables or on neither
pub setns_alike : (z : ℤ) → TestsAlike (Setns z)
unfolding ◌or◌
setns_alike z t u s r i j w = alike (go (named_twins w z)) all_alike
  where
    go : NobodyOrTwins (view t) (view u) s r (named (view t) i z) (named (view u) j z) → eqb (named (view t) i z) process_slots or (view t).ended (named (view t) i z) ≡ eqb (named (view u) j z) process_slots or (view u).ended (named (view u) j z)
    go (inl (e, d)) = rw (eq-eqb _ _ e, eq-eqb _ _ d)
    go (inr a) = rw (slot_v w.pair a, slot_v (flip_pair w.pair) (flip_twin a)) (ended_twins w.pair a)

pub setns_same : (z : ℤ) → GivesSame (Setns z)
unfolding place answers granted
setns_same z t u s r i j w n m h g = go (named_twins w z)
  where
    at_t : named (view t) i z ≡ process_slots → ⊥
    at_t = eqb-false _ _ (or_false_left _ _ (n Esrch))

    at_u : named (view u) j z ≡ process_slots → ⊥
    at_u = eqb-false _ _ (or_false_left _ _ (m Esrch))

    go : NobodyOrTwins (view t) (view u) s r (named (view t) i z) (named (view u) j z) → Kept t u s r (gives t i (Setns z) tt) (gives u j (Setns z) tt)
    go (inl (e, d)) = absurd (at_t e)
    go (inr a) = set_children_kept w a (named_seen (view t) i z at_t) (named_seen (view u) j z at_u)

-- by an outsider
pub setns_leaves : (z : ℤ) → GivesLeaves (Setns z)
unfolding place set_children answers granted namespace_taken
setns_leaves z t s i h hs k n o x g =
    freed_still h (setns_sane t h i _ (runs_lives t i k) (named_seen (view t) i z (eqb-false _ _ (or_false_left _ _ (n Esrch))))) hs
    (put_still t (facts t h) i (with_children (process t i) ((view t).own (named (view t) i z))) (refl, refl, refl) s o)
