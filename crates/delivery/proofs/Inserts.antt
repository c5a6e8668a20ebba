-- For the loop that puts a slot at its place in a list. From the place on each slot moves up by one: the loop holds the
-- one that is to be stored next. The invariant is `Placing f s r₀ r held placed i`: what stands below i, with what is
-- held and the rest, is the whole list r₀ with s inserted.
use Prim.Native.Nat.{ℕ, suc, ◌<◌, ◌≤◌, ◌+◌}
use mathlib.Core.Bool.{Bool, true, false, true≢false}
use mathlib.Core.List.{List, [], ◌∷◌, ◌++◌, append-nil}
use mathlib.Core.Path.{◌≡◌, refl, sym, ap, subst, ◌∙◌}
use lib.Dec.{ltb}
use lib.ListN.{length, get_or, set, take, length-set}
use lib.Seq.{get_or-set_other, get_or-take, length-take-le}
use native.Mathlib.Numerals.{add-one}
use native.Mathlib.Omega.{arith}
use Rattle.table.proofs.Chains.{pick_yes, pick_no}
use Rattle.table.specs.Tests.{◌or◌, when◌then◌else◌, insert}
use Rattle.table.specs.declared.ProcSlot.{ProcSlot}
use Rattle.delivery.proofs.Slots.{no_one, numbers_take, numbers_take_set, rest, rest_all, rest_cons, rest_none}
use Rattle.delivery.specs.Targets.{numbers, listed}
use Rattle.delivery.specs.declared.Targets.{Targets}

-- what is still to be stored: the one that is held and the rest, or the rest with s inserted
abbrev pub to_store : (ℕ → ℕ) → ℕ → Bool → ℕ → List ℕ → List ℕ
to_store f s placed held r = when placed then held ∷ r else insert f s r

-- what is left of a list of slots from i on
abbrev pub left : Targets → ℕ → List ℕ
left r i = rest (take r.len r.slots) i

pub record Placing (f : ℕ → ℕ) (s : ℕ) (r₀ r : Targets) (held : ProcSlot) (placed : Bool) (i : ℕ) : Type 0 where
  pub within : i ≤ r₀.len
  pub room : r₀.len < length r₀.slots
  pub count : r.len ≡ r₀.len
  pub long : length r.slots ≡ length r₀.slots
  pub whole : numbers (take i r.slots) ++ to_store f s placed held.0 (left r₀ i) ≡ insert f s (listed r₀)
  pub same : (k : ℕ) → i ≤ k → get_or r.slots k no_one ≡ get_or r₀.slots k no_one
  pub unplaced : placed ≡ false → held.0 ≡ s

-- n is the array's length
pub places_start : (n : ℕ) (f : ℕ → ℕ) (r₀ : Targets) (x : ProcSlot) → length r₀.slots ≡ n → r₀.len < n → Placing f x.0 r₀ r₀ x false 0
places_start n f r₀ x e h =
    record {
      within = omega arith;
      room = omega (arith, e);
      count = refl;
      long = refl;
      whole = ap (insert f x.0) (rest_all (take r₀.len r₀.slots));
      same = λ k q. refl;
      unplaced = λ q. refl;
    }

module _ (f : ℕ → ℕ) (s : ℕ) (r₀ r : Targets) (held : ProcSlot) (placed : Bool) (i : ℕ) (w : Placing f s r₀ r held placed i) where
  abbrev other : ℕ
  other = (get_or r.slots i no_one).0

  is_next : i < r₀.len → left r₀ i ≡ other ∷ left r₀ (suc i)
  is_next h =
      let k = w.room in
      rest_cons (take r₀.len r₀.slots) i (omega (arith, length-take-le r₀.len r₀.slots (omega arith)))
      ∙ ap (λ (x : ProcSlot). x.0 ∷ left r₀ (suc i)) (get_or-take r₀.len r₀.slots i no_one h ∙ sym (w.same i (omega arith)))

  -- one turn more, where the slots are l then, next is held and put says whether s has its place
  turned : (l : List ProcSlot) (next : ProcSlot) (put : Bool) → i < r₀.len → length l ≡ length r.slots
      → numbers (take (suc i) l) ++ to_store f s put next.0 (left r₀ (suc i)) ≡ numbers (take i r.slots) ++ to_store f s placed held.0 (other ∷ left r₀ (suc i))
      → ((k : ℕ) → suc i ≤ k → get_or l k no_one ≡ get_or r.slots k no_one) → (put ≡ false → next.0 ≡ s)
      → Placing f s r₀ (record { slots = l; len = r.len }) next put (i + 1)
  turned l next put h e q j u =
      rw add-one
      (record {
        within = omega arith;
        room = w.room;
        count = w.count;
        long = e ∙ w.long;
        whole = q ∙ ap (λ m. numbers (take i r.slots) ++ to_store f s placed held.0 m) (sym (is_next h)) ∙ w.whole;
        same = λ k p. j k p ∙ w.same k (omega arith);
        unplaced = u;
      })

  -- the one at i moves up
  moved : (b : Bool) → (b ≡ false → held.0 ≡ s) → b or ltb (f s) (f other) ≡ true → to_store f s b held.0 (other ∷ left r₀ (suc i)) ≡ held.0 ∷ other ∷ left r₀ (suc i)
  unfolding ◌or◌ insert
  moved true u e = refl
  moved false u e = pick_yes (ltb (f s) (f other)) _ _ e ∙ ap (λ x. x ∷ other ∷ left r₀ (suc i)) (sym (u refl))

  pub moves_on : (m : Targets) (next : ProcSlot) (put : Bool) → i < r₀.len → placed or ltb (f s) (f other) ≡ true
      → m ≡ record { slots = set r.slots i held; len = r.len } → next ≡ get_or r.slots i no_one → put ≡ true → Placing f s r₀ m next put (i + 1)
  moves_on m next put h e x y z =
      let k = w.room in
      rw (x, y, z)
      (turned (set r.slots i held) _ true h (length-set r.slots i held)
      (numbers_take_set r.slots i held (omega (arith, w.long)) _ ∙ ap (λ l. numbers (take i r.slots) ++ l) (sym (moved placed w.unplaced e)))
      (λ j q. get_or-set_other r.slots i j held no_one (λ p. omega arith)) (λ q. absurd (true≢false q)))

  -- it stays
  stayed : (b : Bool) → b or ltb (f s) (f other) ≡ false → to_store f s b held.0 (other ∷ left r₀ (suc i)) ≡ other ∷ to_store f s b held.0 (left r₀ (suc i))
  unfolding ◌or◌ insert
  stayed true e = absurd (true≢false e)
  stayed false e = pick_no (ltb (f s) (f other)) _ _ e

  pub stays_on : (m : Targets) (next : ProcSlot) (put : Bool) → i < r₀.len → placed or ltb (f s) (f other) ≡ false
      → m ≡ r → next ≡ held → put ≡ placed → Placing f s r₀ m next put (i + 1)
  stays_on m next put h e x y z =
      let k = w.room in
      rw (x, y, z)
      (turned r.slots held placed h refl
      (numbers_take r.slots i (omega (arith, w.long)) _ ∙ ap (λ l. numbers (take i r.slots) ++ l) (sym (stayed placed e)))
      (λ j q. refl) w.unplaced)

-- at the end the one that is held is stored past the rest
last_one : (f : ℕ → ℕ) (s x : ℕ) (b : Bool) → (b ≡ false → x ≡ s) → to_store f s b x [] ≡ x ∷ []
unfolding insert
last_one f s x true u = refl
last_one f s x false u = ap (λ y. y ∷ []) (sym (u refl))

left_none : (r₀ : Targets) → r₀.len < length r₀.slots → left r₀ r₀.len ≡ []
left_none r₀ h =
    ap (rest (take r₀.len r₀.slots)) (sym (length-take-le r₀.len r₀.slots (omega arith))) ∙ rest_none (take r₀.len r₀.slots)

pub stores_last : (f : ℕ → ℕ) (s : ℕ) (r₀ r : Targets) (held : ProcSlot) (placed : Bool) (i : ℕ) → Placing f s r₀ r held placed i → r₀.len ≤ i
    → listed (record { slots = set r.slots r.len held; len = r.len + 1 }) ≡ insert f s (listed r₀)
stores_last f s r₀ r held placed i w h =
    let k = w.room in
    let e : i ≡ r₀.len = omega (arith, w.within) in
    let whole : numbers (take r₀.len r.slots) ++ to_store f s placed held.0 (left r₀ r₀.len) ≡ insert f s (listed r₀) =
    subst (λ j. numbers (take j r.slots) ++ to_store f s placed held.0 (left r₀ j) ≡ insert f s (listed r₀)) e w.whole in
    rw (add-one, w.count)
    (sym (append-nil (numbers (take (suc r₀.len) (set r.slots r₀.len held))))
    ∙ numbers_take_set r.slots r₀.len held (omega (arith, w.long)) []
    ∙ ap (λ l. numbers (take r₀.len r.slots) ++ l) (sym (last_one f s held.0 placed w.unplaced) ∙ ap (to_store f s placed held.0) (sym (left_none r₀ w.room)))
    ∙ whole)

pub ruleset insert_loops = (places_start, moves_on, stays_on, stores_last)
