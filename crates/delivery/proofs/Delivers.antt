-- For the loop that delivers to each slot of a list. The invariant is
-- `Delivering t from s l u i`: what is left to do to u, from i on, makes of it what all of them make of t. `Going`
-- says so of the definitions, which need the facts of a sound table at each delivery.
use Prim.Native.Nat.{ℕ, suc, ◌<◌, ◌≤◌, ◌+◌}
use mathlib.Core.List.{List, [], ◌∷◌}
use mathlib.Core.Path.{◌≡◌, refl, sym, ap, subst, ◌∙◌}
use lib.ListN.{length, get_or}
use native.Mathlib.Numerals.{add-one}
use native.Mathlib.Omega.{arith}
use Rattle.rules.proofs.Keeps.Changes.{deliver_sane}
use Rattle.rules.proofs.Keeps.Deliver.{Safe}
use Rattle.rules.proofs.Laws.Facts.{Sane}
use Rattle.rules.specs.Delivery.{deliver_all}
use Rattle.table.specs.Limits.{signals}
use Rattle.table.specs.declared.ProcSlot.{ProcSlot}
use Rattle.table.specs.declared.Table.{Table}
use Rattle.delivery.proofs.Slots.{no_one, rest, rest_all, rest_cons, rest_none}
use Rattle.delivery.specs.Delivery.{deliver_all_by, Delivers, DeliversAll}
use Rattle.delivery.specs.Targets.{numbers}

pub record Going (t : Table) (from s : ℕ) (is : List ℕ) (u : Table) (js : List ℕ) : Type 0 where
  pub sane : Sane u
  pub safe : Safe from js
  pub left : deliver_all u from js s ≡ deliver_all t from is s

pub record Delivering (t : Table) (from s : ℕ) (l : List ProcSlot) (u : Table) (i : ℕ) : Type 0 where
  pub within : i ≤ length l
  pub always : deliver_all_by u from (rest l i) s ≡ deliver_all_by t from (numbers l) s
  pub going : s < signals → Sane t → Safe from (numbers l) → Going t from s (numbers l) u (rest l i)

pub delivers_start : (t : Table) (from s : ℕ) (l : List ProcSlot) → Delivering t from s l t 0
delivers_start t from s l =
    record {
      within = omega arith;
      always = ap (λ is. deliver_all_by t from is s) (rest_all l);
      going = λ low k h. rw rest_all (record { sane = k; safe = h; left = refl });
    }

module _ (t : Table) (from s : ℕ) (l : List ProcSlot) (u : Table) (i : ℕ) (w : Delivering t from s l u i) where
  -- m is the table after the delivery to the slot at i
  pub delivers_one : (m : Table) → i < length l → Delivers u from (get_or l i no_one).0 s m → Delivering t from s l m (i + 1)
  unfolding deliver_all deliver_all_by
  delivers_one m h d =
      let next : rest l i ≡ (get_or l i no_one).0 ∷ rest l (suc i) = rest_cons l i h in
      rw add-one
      (record {
        within = omega arith;
        always =
            ap (λ x. deliver_all_by x from (rest l (suc i)) s) d.always
            ∙ sym (ap (λ js. deliver_all_by u from js s) next) ∙ w.always;
        going = λ low a b.
            let x : Going t from s (numbers l) u ((get_or l i no_one).0 ∷ rest l (suc i)) =
            subst (Going t from s (numbers l) u) next (w.going low a b) in
            rw (d.as_defined x.sane.facts)
            (record {
              sane = deliver_sane u x.sane (get_or l i no_one).0 s low from x.safe.0;
              safe = x.safe.1;
              left = x.left;
            });
      })

  pub delivers_all : length l ≤ i → DeliversAll t from (numbers l) s u
  unfolding deliver_all deliver_all_by
  delivers_all h =
      let f = w.within in
      let q : i ≡ length l = omega arith in
      let done : rest l i ≡ [] = ap (rest l) q ∙ rest_none l in
      record {
        always = subst (λ js. deliver_all_by u from js s ≡ deliver_all_by t from (numbers l) s) done w.always;
        as_defined = λ low a b. subst (λ js. deliver_all u from js s ≡ deliver_all t from (numbers l) s) done (w.going low a b).left;
      }

pub ruleset delivery_loops = (delivers_start, delivers_one, delivers_all)
