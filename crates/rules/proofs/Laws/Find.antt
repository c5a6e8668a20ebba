-- The lowest number of which a test holds; whom a number names; whom a kill finds.
use Prim.Native.Nat.{ℕ, zero, suc, ◌<◌, ◌≤◌, ◌+◌}
use native.Mathlib.Decide.{ℕ_discrete, dec_lt}
use native.Mathlib.Omega.{arith}
use mathlib.Core.Bool.{Bool, true, false, So, false≢true}
use mathlib.Core.List.{[], ◌∷◌}
use mathlib.Core.Logic.{◌⊎◌, inl, ⊎_elim, inr}
use mathlib.Core.Path.{◌≡◌, refl, subst, sym, ◌∙◌}
use borrow.Author.Tests.{eqb-true, eq-eqb, eqb-false, ltb-true, ltb-false}
use lib.Dec.{eqb, ltb}
use lib.IntN.{ℤ, pos, negsuc}
use Rattle.rules.proofs.Laws.Facts.{Facts, Stands, Seen, seen_taken}
use Rattle.rules.proofs.Laws.Lists.{In, ascending_in, only_in}
use Rattle.rules.proofs.Laws.Tests.{left, right, no_so, both, and_false, true_and, true_or, false_or_true, false_or_false, true_and_false}
use Rattle.rules.specs.Calls.{named, targets, others}
use Rattle.table.specs.Limits.{process_slots}
use Rattle.rules.specs.Read.{View, find, seen, pid_seen, all_seen}
use Rattle.table.specs.Tests.{lowest, least, ◌and◌, ◌or◌, when◌then◌else◌}

pub record Lowest (f : ℕ → Bool) (n k r : ℕ) : Type 0 where
  pub from : k ≤ r
  pub upto : r ≤ k + n
  pub holds : r < k + n → So (f r)
  pub none_before : (j : ℕ) → k ≤ j → j < r → f j ≡ false

-- a search is as its definition says
pub lowest_is : (f : ℕ → Bool) (n k : ℕ) → Lowest f n k (lowest f n k)
unfolding lowest
lowest_is f zero k = record { from = omega arith; upto = omega arith; holds = λ l. absurd (omega arith); none_before = λ j a b. absurd (omega arith) }
lowest_is f (suc n) k = go (f k) refl (lowest_is f n (suc k))
  where
    before : f k ≡ false → (r : ℕ) → Lowest f n (suc k) r → (j : ℕ) → k ≤ j → j < r → Dec (j ≡ k) → f j ≡ false
    before e r h j a b (yes q) = rw q e
    before e r h j a b (no q) = h.none_before j (omega arith) b

    go : (b : Bool) → f k ≡ b → Lowest f n (suc k) (lowest f n (suc k)) → Lowest f (suc n) k (elim b as (λ x. ℕ) [ true ↦ k | false ↦ lowest f n (suc k) ])
    go true e h = record { from = omega arith; upto = omega arith; holds = λ l. e; none_before = λ j a b. absurd (omega arith) }
    go false e h = record { from = omega (arith, h.from); upto = omega (arith, h.upto); holds = λ l. h.holds (omega arith); none_before = λ j a b. before e _ h j a b (ℕ_discrete j k) }

-- where f is lowest among those of which p holds, or d where there is none
abbrev pub Least : (ℕ → Bool) → (ℕ → ℕ) → ℕ → ℕ → ℕ → Type 0
Least p f d n x = ((x ≡ d) × ((i : ℕ) → i < n → p i ≡ false)) ⊎ (So (p x) × (x < n) × ((i : ℕ) → i < n → So (p i) → f x ≤ f i))

pub least_cases : (p : ℕ → Bool) (f : ℕ → ℕ) (d n : ℕ) → n ≤ d → Least p f d n (least p f d n)
unfolding least
least_cases p f d zero l = inl (refl, λ i k. absurd (omega arith))
least_cases p f d (suc n) l = go (least p f d n) (least_cases p f d n (omega arith)) (p n) refl
  where
    extend : (P : ℕ → Type 0) → ((i : ℕ) → i < n → P i) → P n → (i : ℕ) → i < suc n → P i
    extend P h k i m = at (ℕ_discrete i n)
      where
        at : Dec (i ≡ n) → P i
        at (yes e) = subst P (sym e) k
        at (no o) = h i (omega arith)

    go : (b : ℕ) → Least p f d n b → (c : Bool) → p n ≡ c → Least p f d (suc n) (when p n and (eqb b d or ltb (f n) (f b)) then n else b)
    go b r false e = rw (e, and_false (eqb b d or ltb (f n) (f b))) (stay b r)
      where
        stay : (b : ℕ) → Least p f d n b → Least p f d (suc n) b
        stay b (inl (q, h)) = inl (q, extend (λ i. p i ≡ false) h e)
        stay b (inr (q, m, h)) = inr (q, omega arith, extend (λ i. So (p i) → f b ≤ f i) h (λ k. absurd (false≢true (sym e ∙ k))))
    go b r true e = test (eqb b d) refl (ltb (f n) (f b)) refl r
      where
        test : (x : Bool) → eqb b d ≡ x → (y : Bool) → ltb (f n) (f b) ≡ y → Least p f d n b → Least p f d (suc n) (when p n and (eqb b d or ltb (f n) (f b)) then n else b)
        test true ex y ey (inl (q, h)) = rw (e, ex, true_or (ltb (f n) (f b)), true_and) (inr (e, omega arith, extend (λ i. So (p i) → f n ≤ f i) (λ i m k. absurd (false≢true (sym (h i m) ∙ k))) (λ k. omega arith)))
        test true ex y ey (inr (q, m, h)) = absurd (omega (arith, eqb-true b d ex))
        test false ex y ey (inl (q, h)) = absurd (eqb-false b d ex q)
        test false ex true ey (inr (q, m, h)) =
            rw (e, ex, ey, false_or_true, true_and) (inr (e, omega arith, extend (λ i. So (p i) → f n ≤ f i) (λ i a k. omega (arith, h i a k, ltb-true (f n) (f b) ey)) (λ k. omega arith)))
        test false ex false ey (inr (q, m, h)) =
            rw (e, ex, ey, false_or_false, true_and_false) (inr (q, omega arith, extend (λ i. So (p i) → f b ≤ f i) h (λ k. ltb-false (f n) (f b) ey)))

-- somebody has the number in n, or nobody
abbrev pub Found : View → ℕ → ℕ → ℕ → Type 0
Found v n k x =
    (So (seen v n x) × (pid_seen v n x ≡ k) × (x < process_slots))
    ⊎ ((x ≡ process_slots) × ((i : ℕ) → i < process_slots → So (seen v n i) → pid_seen v n i ≡ k → ⊥))

pub find_cases : (v : View) (n k : ℕ) → Found v n k (find v n k)
unfolding find
find_cases v n k = go (dec_lt x process_slots)
  where
    at : ℕ → Bool
    at i = seen v n i and eqb (pid_seen v n i) k

    x : ℕ
    x = lowest at process_slots 0

    r : Lowest at process_slots 0 x
    r = lowest_is at process_slots 0

    go : Dec (x < process_slots) → Found v n k x
    go (yes l) = let h = r.holds (omega arith) in inl (left _ _ h, eqb-true _ _ (right _ _ h), l)
    go (no o) = inr (omega (arith, r.upto), λ i l s e. no_so (r.none_before i (omega arith) (omega arith)) (both _ _ s (eq-eqb _ _ e)))

-- the number in n of a process seen there finds it
pub finds : (v : View) → Facts v → (n i : ℕ) → Stands v n → Seen v n i → find v n (pid_seen v n i) ≡ i
finds v f n i s h = ⊎_elim (λ x. f.differ n s _ i x.0 h x.1) (λ x. absurd (x.1 i (f.in_range i (seen_taken v n i h)) h refl)) (find_cases v n (pid_seen v n i))

-- whom a number names in the caller's namespace is seen from there
pub named_seen : (v : View) (c : ℕ) (n : ℤ) → (named v c n ≡ process_slots → ⊥) → Seen v (v.own c) (named v c n)
unfolding named
named_seen v c (pos zero) o = absurd (o refl)
named_seen v c (pos (suc k)) o = ⊎_elim (λ x. x.0) (λ x. absurd (o x.0)) (find_cases v (v.own c) (suc k))
named_seen v c (negsuc k) o = absurd (o refl)

-- and so is each whom a kill finds
pub targets_seen : (v : View) (c : ℕ) (n : ℤ) (x : ℕ) → In x (targets v c n) → Seen v (v.own c) x
unfolding targets others all_seen
targets_seen v c (negsuc k) x h = (ascending_in _ _ process_slots x (only_in _ x _ h).0).1
targets_seen v c (pos k) x h = go (eqb (named v c (pos k)) process_slots) refl h
  where
    go : (b : Bool) → eqb (named v c (pos k)) process_slots ≡ b → In x (when b then [] else named v c (pos k) ∷ []) → Seen v (v.own c) x
    go true e m = absurd m
    go false e (inl q) = subst (Seen v (v.own c)) (sym q) (named_seen v c (pos k) (eqb-false _ _ e))
    go false e (inr m) = absurd m
