-- For a `return` after a chain of tests. The definition joins the same tests by `and`, `or`, `implies`, `agree`, `not`
-- and `if`, and `search chains depth 12` goes down the definition by what the tests on the way told.
use Prim.Native.Nat.{ℕ, ◌<◌, ◌≤◌}
use mathlib.Core.Bool.{Bool, true, false, not, true≢false, false≢true}
use mathlib.Core.Path.{◌≡◌, refl, sym, ◌∙◌}
use native.Mathlib.Omega.{arith}
use lib.Dec.{eqb, ltb, leb}
use borrow.Author.Tests.{not-true, not-false, eq-eqb, ne_eqb, lt-ltb, le-ltb, le-leb, lt-leb}
use Rattle.table.specs.Tests.{◌and◌, ◌or◌, ◌implies◌, agree, when◌then◌else◌}

-- by the two values of a test, each with its equation
pub by_bool {ℓ} : {A : Type ℓ} (b : Bool) → (b ≡ true → A) → (b ≡ false → A) → A
by_bool true f g = f refl
by_bool false f g = g refl

-- ---- a choice

pub pick_yes : {A : Type 0} (b : Bool) (x y : A) → b ≡ true → (when b then x else y) ≡ x
pick_yes true x y e = refl
pick_yes false x y e = absurd (false≢true e)

pub pick_no : {A : Type 0} (b : Bool) (x y : A) → b ≡ false → (when b then x else y) ≡ y
pick_no true x y e = absurd (true≢false e)
pick_no false x y e = refl

pub if_yes : {A : Type 0} (b : Bool) (r x y : A) → b ≡ true → r ≡ x → r ≡ (when b then x else y)
if_yes b r x y e p = p ∙ sym (pick_yes b x y e)

pub if_no : {A : Type 0} (b : Bool) (r x y : A) → b ≡ false → r ≡ y → r ≡ (when b then x else y)
if_no b r x y e p = p ∙ sym (pick_no b x y e)

-- ---- what a joined test comes to

pub and_true : (a b : Bool) → a ≡ true → b ≡ true → a and b ≡ true
unfolding ◌and◌
and_true true b p q = q
and_true false b p q = absurd (false≢true p)

pub and_false : (a b : Bool) → a ≡ false → a and b ≡ false
unfolding ◌and◌
and_false true b p = absurd (true≢false p)
and_false false b p = refl

pub and_false_later : (a b : Bool) → b ≡ false → a and b ≡ false
unfolding ◌and◌
and_false_later true b p = p
and_false_later false b p = refl

pub or_true : (a b : Bool) → a ≡ true → a or b ≡ true
unfolding ◌or◌
or_true true b p = refl
or_true false b p = absurd (false≢true p)

pub or_true_later : (a b : Bool) → b ≡ true → a or b ≡ true
unfolding ◌or◌
or_true_later true b p = refl
or_true_later false b p = p

pub or_false : (a b : Bool) → a ≡ false → b ≡ false → a or b ≡ false
unfolding ◌or◌
or_false true b p q = absurd (true≢false p)
or_false false b p q = q

pub implies_void : (a b : Bool) → a ≡ false → (a implies b) ≡ true
unfolding ◌implies◌
implies_void true b p = absurd (true≢false p)
implies_void false b p = refl

pub implies_true : (a b : Bool) → b ≡ true → (a implies b) ≡ true
unfolding ◌implies◌
implies_true true b p = p
implies_true false b p = refl

pub implies_false : (a b : Bool) → a ≡ true → b ≡ false → (a implies b) ≡ false
unfolding ◌implies◌
implies_false true b p q = q
implies_false false b p q = absurd (false≢true p)

pub agree_both : (a b : Bool) → a ≡ true → b ≡ true → agree a b ≡ true
unfolding agree
agree_both true b p q = q
agree_both false b p q = absurd (false≢true p)

pub agree_neither : (a b : Bool) → a ≡ false → b ≡ false → agree a b ≡ true
unfolding agree
agree_neither true b p q = absurd (true≢false p)
agree_neither false true p q = absurd (true≢false q)
agree_neither false false p q = refl

pub agree_left : (a b : Bool) → a ≡ true → b ≡ false → agree a b ≡ false
unfolding agree
agree_left true b p q = q
agree_left false b p q = absurd (false≢true p)

pub agree_right : (a b : Bool) → a ≡ false → b ≡ true → agree a b ≡ false
unfolding agree
agree_right true b p q = absurd (true≢false p)
agree_right false true p q = refl
agree_right false false p q = absurd (false≢true q)

pub not_no : (a : Bool) → a ≡ false → not a ≡ true
not_no true p = absurd (true≢false p)
not_no false p = refl

pub not_yes : (a : Bool) → a ≡ true → not a ≡ false
not_yes true p = refl
not_yes false p = absurd (false≢true p)

-- ---- what is returned is the last test: x

pub and_goes : (a b x : Bool) → a ≡ true → x ≡ b → x ≡ a and b
unfolding ◌and◌
and_goes true b x p q = q
and_goes false b x p q = absurd (false≢true p)

-- the same, where the code made the later test before
pub and_first : (a b x : Bool) → b ≡ true → x ≡ a → x ≡ a and b
unfolding ◌and◌
and_first true b x p q = q ∙ sym p
and_first false b x p q = q

pub or_goes : (a b x : Bool) → a ≡ false → x ≡ b → x ≡ a or b
unfolding ◌or◌
or_goes true b x p q = absurd (true≢false p)
or_goes false b x p q = q

pub implies_goes : (a b x : Bool) → a ≡ true → x ≡ b → x ≡ (a implies b)
unfolding ◌implies◌
implies_goes true b x p q = q
implies_goes false b x p q = absurd (false≢true p)

-- ---- from what the code has: a callee's result r is what its contract says, b, and a test found it to be c

pub told : (r b c : Bool) → r ≡ b → r ≡ c → b ≡ c
told r b c p q = sym p ∙ q

pub told_not : (r b : Bool) → r ≡ b → not r ≡ true → b ≡ false
told_not r b p q = sym p ∙ not-true r q

pub told_yes : (r b : Bool) → r ≡ b → not r ≡ false → b ≡ true
told_yes r b p q = sym p ∙ not-false r q

-- a callee's result a is the number b, and a test compared it with k
pub told_equal : (a b k : ℕ) → a ≡ b → a ≡ k → eqb b k ≡ true
told_equal a b k p q = eq-eqb b k (sym p ∙ q)

pub told_other : (a b k : ℕ) → a ≡ b → (a ≡ k → ⊥) → eqb b k ≡ false
told_other a b k p q = ne_eqb b k (λ e. q (p ∙ e))

pub told_less : (a b k : ℕ) → a ≡ b → a < k → ltb b k ≡ true
told_less a b k p h = lt-ltb b k (omega arith)

pub told_no_less : (a b k : ℕ) → a ≡ b → k ≤ a → ltb b k ≡ false
told_no_less a b k p h = le-ltb b k (omega arith)

pub told_at_most : (a b k : ℕ) → a ≡ b → a ≤ k → leb b k ≡ true
told_at_most a b k p h = le-leb b k (omega arith)

pub told_more : (a b k : ℕ) → a ≡ b → k < a → leb b k ≡ false
told_more a b k p h = lt-leb b k (omega arith)

-- a `return true` or `return false` asks the equation the other way round
pub says_true : (b : Bool) → b ≡ true → true ≡ b
says_true b p = sym p

pub says_false : (b : Bool) → b ≡ false → false ≡ b
says_false b p = sym p

pub same {ℓ} : {A : Type ℓ} {a : A} → a ≡ a
same = refl

-- the tests on numbers, and on callees' results
pub ruleset facts = (same, eq-eqb, ne_eqb, lt-ltb, le-ltb, le-leb, lt-leb, told, told_not, told_yes, told_equal, told_other, told_less, told_no_less, told_at_most, told_more)

pub ruleset chains = (facts, if_yes, if_no, and_true, and_false, and_false_later, or_true, or_true_later, or_false, implies_void, implies_true, implies_false, agree_both, agree_neither, agree_left, agree_right, not_no, not_yes, and_goes, and_first, or_goes, implies_goes, says_true, says_false)
