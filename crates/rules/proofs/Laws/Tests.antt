-- Laws of tests. A test holds where it is `true`: `So b` is `b ≡ true`. `simp tests` turns a test into what it says.
use Prim.Native.Nat.{ℕ, zero, suc, ◌<◌, ◌≤◌}
use native.Mathlib.Decide.{ℕ_discrete}
use native.Mathlib.Nat.{not-suc-le-zero}
use native.Mathlib.Omega.{arith}
use mathlib.Core.Bool.{Bool, true, false, not, So, false≢true}
use mathlib.Core.Logic.{◌⊎◌, inl, inr, ◌↔◌}
use mathlib.Core.Path.{◌≡◌, refl, sym, ◌∙◌, ap}
use borrow.Author.Tests.{eq-eqb, eqb-true, leb-true, ltb-true, le-leb, lt-ltb, ne_eqb}
use lib.Dec.{eqb, leb, ltb}
use Rattle.table.specs.Slots.{is_alive, is_dead, is_unborn}
use Rattle.table.specs.Tests.{◌and◌, ◌implies◌, ◌or◌, agree, all, any, when◌then◌else◌}
use Rattle.table.specs.declared.Life.TheVariants.{Unborn, Alive, Dead}
use Rattle.table.specs.declared.Life.{Life}

pub left : (a b : Bool) → So (a and b) → So a
unfolding ◌and◌
left true b h = refl
left false b h = h

pub right : (a b : Bool) → So (a and b) → So b
unfolding ◌and◌
right true b h = h
right false b h = absurd (false≢true h)

pub both : (a b : Bool) → So a → So b → So (a and b)
unfolding ◌and◌
both true b h k = k
both false b h k = h

pub given : (a b : Bool) → So (a implies b) → So a → So b
unfolding ◌implies◌
given true b h k = h
given false b h k = absurd (false≢true k)

pub assume : (a b : Bool) → (So a → So b) → So (a implies b)
unfolding ◌implies◌
assume true b h = h refl
assume false b h = refl

pub cases : (a b : Bool) → So (a or b) → So a ⊎ So b
unfolding ◌or◌
cases true b h = inl refl
cases false b h = inr h

pub or_left : (a b : Bool) → So a → So (a or b)
unfolding ◌or◌
or_left true b h = refl
or_left false b h = absurd (false≢true h)

pub isnt : (a : Bool) → So (not a) → a ≡ false
isnt true h = absurd (false≢true h)
isnt false h = refl

pub isnt_not : (a : Bool) → not a ≡ false → So a
isnt_not true h = refl
isnt_not false h = absurd (false≢true (sym h))

pub or_false_left : (a b : Bool) → a or b ≡ false → a ≡ false
unfolding ◌or◌
or_false_left true b h = h
or_false_left false b h = refl

pub or_false_right : (a b : Bool) → a or b ≡ false → b ≡ false
unfolding ◌or◌
or_false_right true b h = absurd (false≢true (sym h))
or_false_right false b h = h

pub or_true : (a : Bool) → So (a or true)
unfolding ◌or◌
or_true true = refl
or_true false = refl

pub all_elim : (n : ℕ) (f : ℕ → Bool) → So (all n f) → (i : ℕ) → i < n → So (f i)
unfolding all
all_elim zero f h i l = absurd (not-suc-le-zero l)
all_elim (suc n) f h i l = go (f n) refl h (λ k m. all_elim n f k i m) (ℕ_discrete i n)
  where
    go : (b : Bool) → f n ≡ b → So (elim b [ true ↦ all n f | false ↦ false ]) → (So (all n f) → i < n → So (f i)) → Dec (i ≡ n) → So (f i)
    go true e h r (yes q) = rw (q, e)
    go true e h r (no q) = r h (omega arith)
    go false e h r d = absurd (false≢true h)

pub all_intro : (n : ℕ) (f : ℕ → Bool) → ((i : ℕ) → i < n → So (f i)) → So (all n f)
unfolding all
all_intro zero f h = refl
all_intro (suc n) f h = rw (h n (omega arith), all) (all_intro n f (λ i l. h i (omega arith)))

pub any_elim : (n : ℕ) (f : ℕ → Bool) → So (any n f) → (i : ℕ) × (i < n) × So (f i)
unfolding any
any_elim zero f h = absurd (false≢true h)
any_elim (suc n) f h = go (f n) refl h (λ k. any_elim n f k)
  where
    go : (b : Bool) → f n ≡ b → So (elim b [ true ↦ true | false ↦ any n f ]) → (So (any n f) → (i : ℕ) × (i < n) × So (f i)) → (i : ℕ) × (i < suc n) × So (f i)
    go true e h r = (n, omega arith, e)
    go false e h r = let (i, l, k) = r h in (i, omega arith, k)

pub any_intro : (n : ℕ) (f : ℕ → Bool) (i : ℕ) → i < n → So (f i) → So (any n f)
unfolding any
any_intro zero f i l h = absurd (not-suc-le-zero l)
any_intro (suc n) f i l h = go (f n) refl (λ m. any_intro n f i m h) (ℕ_discrete i n)
  where
    go : (b : Bool) → f n ≡ b → (i < n → So (any n f)) → Dec (i ≡ n) → So (elim b [ true ↦ true | false ↦ any n f ])
    go true e r d = refl
    go false e r (yes q) = absurd (false≢true (sym (ap f q ∙ e) ∙ h))
    go false e r (no q) = r (omega arith)

pub or_right : (a b : Bool) → So b → So (a or b)
unfolding ◌or◌
or_right true b h = refl
or_right false b h = h

pub and_false : (b : Bool) → false and b ≡ false
unfolding ◌and◌
and_false b = refl

pub true_and : true and true ≡ true
unfolding ◌and◌
true_and = refl

pub true_or : (b : Bool) → true or b ≡ true
unfolding ◌or◌
true_or b = refl

pub false_or_true : false or true ≡ true
unfolding ◌or◌
false_or_true = refl

pub false_or_false : false or false ≡ false
unfolding ◌or◌
false_or_false = refl

pub true_and_false : true and false ≡ false
unfolding ◌and◌
true_and_false = refl

-- ---- each test as what it says: `simp tests` turns a test into a statement, and back

pub and_iff : (a b : Bool) → So (a and b) ↔ (So a × So b)
and_iff a b = (λ h. (left a b h, right a b h), λ h. both a b h.0 h.1)

pub implies_iff : (a b : Bool) → So (a implies b) ↔ (So a → So b)
implies_iff a b = (λ h. given a b h, λ h. assume a b h)

pub or_iff : (a b : Bool) → So (a or b) ↔ ((So a → ⊥) → So b)
unfolding ◌or◌
or_iff true b = (λ h n. absurd (n refl), λ h. refl)
or_iff false b = (λ h n. h, λ h. h (λ e. absurd (false≢true e)))

pub not_iff : (a : Bool) → So (not a) ↔ (So a → ⊥)
not_iff true = (λ h. absurd (false≢true h), λ h. absurd (h refl))
not_iff false = (λ h e. absurd (false≢true e), λ h. refl)

pub eqb_iff : (a b : ℕ) → So (eqb a b) ↔ (a ≡ b)
eqb_iff a b = (λ h. eqb-true a b h, λ h. eq-eqb a b h)

pub leb_iff : (a b : ℕ) → So (leb a b) ↔ (a ≤ b)
leb_iff a b = (λ h. leb-true a b h, λ h. le-leb a b h)

pub ltb_iff : (a b : ℕ) → So (ltb a b) ↔ (a < b)
ltb_iff a b = (λ h. ltb-true a b h, λ h. lt-ltb a b h)

pub all_iff : (n : ℕ) (f : ℕ → Bool) → So (all n f) ↔ ((i : ℕ) → i < n → So (f i))
all_iff n f = (λ h. all_elim n f h, λ h. all_intro n f h)

pub any_iff : (n : ℕ) (f : ℕ → Bool) → So (any n f) ↔ ((i : ℕ) × (i < n) × So (f i))
any_iff n f = (λ h. any_elim n f h, λ h. any_intro n f h.0 h.1 h.2)

pub agree_iff : (a b : Bool) → So (agree a b) ↔ ((So a → So b) × (So b → So a))
unfolding agree
agree_iff true b = (λ h. (λ e. h, λ e. refl), λ h. h.0 refl)
agree_iff false b = (λ h. (λ e. absurd (false≢true e), λ e. absurd ((not_iff b).0 h e)), λ h. (not_iff b).1 (λ e. false≢true (h.1 e)))

pub ruleset tests = (agree_iff, and_iff, implies_iff, or_iff, not_iff, eqb_iff, leb_iff, ltb_iff, all_iff, any_iff)

-- ---- cases of a test, of a number, of a condition

pub yes_or_no : (b : Bool) → So b ⊎ (b ≡ false)
yes_or_no true = inl refl
yes_or_no false = inr refl

pub isnt_so : {b : Bool} → (So b → ⊥) → b ≡ false
isnt_so {b} h = isnt b ((not_iff b).1 h)

pub no_so : {b : Bool} → b ≡ false → So b → ⊥
no_so e h = false≢true (sym e ∙ h)

pub and_not : (a : Bool) {b : Bool} → b ≡ false → a and b ≡ false
unfolding ◌and◌
and_not true h = h
and_not false h = refl

pub false_and : (a b : Bool) → (So a → ⊥) → a and b ≡ false
unfolding ◌and◌
false_and true b h = absurd (h refl)
false_and false b h = refl

pub zero_or : {A : Type 0} (i : ℕ) → (i ≡ 0 → A) → ((i ≡ 0 → ⊥) → A) → A
zero_or {A = A} i a b = go (ℕ_discrete i 0)
  where
    go : Dec (i ≡ 0) → A
    go (yes x) = a x
    go (no x) = b x

pub same_or : (i k : ℕ) → (i ≡ k) ⊎ (eqb i k ≡ false)
same_or i k = go (ℕ_discrete i k)
  where
    go : Dec (i ≡ k) → (i ≡ k) ⊎ (eqb i k ≡ false)
    go (yes x) = inl x
    go (no x) = inr (ne_eqb i k x)

-- neither unborn nor dead is alive
pub life_cases : (l : Life) → (So (is_unborn l) → ⊥) → (So (is_dead l) → ⊥) → So (is_alive l)
life_cases Unborn a b = absurd (a refl)
life_cases (Alive i) a b = refl
life_cases Dead a b = absurd (b refl)

pub dead_otherwise : (l : Life) → (So (is_unborn l) → ⊥) → (So (is_alive l) → ⊥) → So (is_dead l)
dead_otherwise Unborn a b = absurd (a refl)
dead_otherwise (Alive i) a b = absurd (b refl)
dead_otherwise Dead a b = refl

pub alive_unborn : (l : Life) → So (is_alive l) → So (is_unborn l) → ⊥
alive_unborn Unborn a u = false≢true a
alive_unborn (Alive i) a u = false≢true u
alive_unborn Dead a u = false≢true a

pub dead_unborn : (l : Life) → So (is_dead l) → So (is_unborn l) → ⊥
dead_unborn Unborn d u = false≢true d
dead_unborn (Alive i) d u = false≢true d
dead_unborn Dead d u = false≢true u

-- what holds of each of two holds of the one that a test picks
pub choose : {A : Type 0} (P : A → Type 0) (b : Bool) {x y : A} → (So b → P x) → (b ≡ false → P y) → P (when b then x else y)
choose P true h k = h refl
choose P false h k = k refl

-- two tests of which each holds where the other does
pub bool_ext : (a b : Bool) → (So a → So b) → (So b → So a) → a ≡ b
bool_ext true b h k = sym (h refl)
bool_ext false true h k = k refl
bool_ext false false h k = refl
