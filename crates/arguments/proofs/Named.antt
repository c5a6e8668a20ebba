-- What callers ask of the tests: whom a number names, and that a signal that passed one is below 32.
use Prim.Native.Nat.{ℕ, zero, suc, ◌<◌, ◌%◌}
use native.Mathlib.Nat.{mod-eq_of_lt}
use native.Mathlib.Omega.{arith}
use mathlib.Core.Bool.{Bool, true, false, not, true≢false, false≢true}
use mathlib.Core.List.{[], ◌∷◌}
use mathlib.Core.Path.{◌≡◌, refl, sym, ◌∙◌}
use borrow.Author.Tests.{ltb-true, ltb-false, not-false}
use lib.Dec.{eqb, leb, ltb}
use lib.IntN.{ℤ, pos, negsuc}
use Rattle.rules.specs.Calls.{within, natural, named, targets, others, names_group}
use Rattle.table.specs.Limits.{process_slots, signals, sigkill, sigstop}
use Rattle.rules.specs.Read.{View, find}
use Rattle.table.specs.Tests.{◌and◌, ◌or◌, when◌then◌else◌}
use Rattle.arguments.specs.Arguments.{names_everyone, byte_values}

-- ---- numbers of processes

module _ (v : View) (c : ℕ) where
  pub named_one : (n : ℤ) → ltb 0 (natural n) ≡ true → named v c n ≡ find v (v.own c) (natural n)
  unfolding named
  named_one (pos zero) h = absurd (false≢true h)
  named_one (pos (suc k)) h = refl
  named_one (negsuc k) h = absurd (false≢true h)

  pub named_none : (n : ℤ) → ltb 0 (natural n) ≡ false → named v c n ≡ process_slots
  unfolding named
  named_none (pos zero) h = refl
  named_none (pos (suc k)) h = absurd (omega (arith, ltb-false 0 (suc k) h))
  named_none (negsuc k) h = refl

  pub targets_everyone : (n : ℤ) → names_everyone n ≡ true → targets v c n ≡ others v c
  unfolding targets
  targets_everyone (pos n) h = absurd (false≢true h)
  targets_everyone (negsuc n) h = refl

  -- not a group and not everyone: one
  pub targets_one : (n : ℤ) → names_group n ≡ false → names_everyone n ≡ false
      → targets v c n ≡ (when eqb (named v c n) process_slots then [] else named v c n ∷ [])
  unfolding targets
  targets_one (pos n) g h = refl
  targets_one (negsuc n) g h = absurd (true≢false (sym (not-false (eqb n 0) g) ∙ h))

-- ---- signals

and_right : (a b : Bool) → (a and b) ≡ true → b ≡ true
unfolding ◌and◌
and_right true b h = h
and_right false b h = absurd (false≢true h)

or_left : (a b : Bool) → (a or b) ≡ false → a ≡ false
unfolding ◌or◌
or_left true b h = absurd (true≢false h)
or_left false b h = refl

pub within_below : (a b : ℕ) (z : ℤ) → within a b z ≡ true → natural z < b
within_below a b (pos n) h = ltb-true n b (and_right (leb a n) (ltb n b) h)
within_below a b (negsuc n) h = absurd (false≢true h)

pub handled_below : (z : ℤ) → (not (within 1 signals z) or eqb (natural z) sigkill or eqb (natural z) sigstop) ≡ false → natural z < signals
handled_below z h = within_below 1 signals z (not-false (within 1 signals z) (or_left _ _ (or_left _ _ h)))

-- a signal that passed a test fits: k is what `signal_of` gives
pub signal_is : (k : ℕ) (z : ℤ) → k ≡ natural z % byte_values → natural z < signals → k ≡ natural z
signal_is k z e h = e ∙ mod-eq_of_lt (omega arith)
