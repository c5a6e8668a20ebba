-- Tests that come out true or false, tests over the numbers below a bound, and searches.
use Rattle.std.specs.Prelude.{ℕ, zero, suc, Bool, true, false, not, List, [], ◌∷◌, eqb, ltb, get_or, set}

infixl 35 ◌and◌
infixl 30 ◌or◌
infixr 20 ◌implies◌
infix 10 when◌then◌else◌
-- ---- connectives; each is shut, so that a proof sees which parts a test is made of

unfoldable pub ◌and◌ : Bool → Bool → Bool
true and b = b
false and b = false

unfoldable pub ◌or◌ : Bool → Bool → Bool
true or b = true
false or b = b

unfoldable pub ◌implies◌ : Bool → Bool → Bool
true implies b = b
false implies b = true

-- both or neither
unfoldable pub agree : Bool → Bool → Bool
agree true b = b
agree false b = not b

abbrev pub when◌then◌else◌ {ℓ} : {A : Type ℓ} → Bool → A → A → A
when b then x else y = elim b [ true ↦ x | false ↦ y ]

-- ---- over the numbers below n

-- f holds of each
unfoldable pub all : ℕ → (ℕ → Bool) → Bool
all zero f = true
all (suc n) f = elim (f n) [ true ↦ all n f | false ↦ false ]

-- f holds of some
unfoldable pub any : ℕ → (ℕ → Bool) → Bool
any zero f = false
any (suc n) f = elim (f n) [ true ↦ true | false ↦ any n f ]

-- f holds of exactly one
unfoldable pub one : ℕ → (ℕ → Bool) → Bool
one n f = any n (λ i. f i and all n (λ j. f j implies eqb i j))

-- ---- searches

-- the lowest of the n numbers from k of which f holds, or k + n
unfoldable pub lowest : (ℕ → Bool) → ℕ → ℕ → ℕ
lowest f zero k = k
lowest f (suc n) k = elim (f k) [ true ↦ k | false ↦ lowest f n (suc k) ]

-- the number below n of which p holds and at which f is lowest, or d
unfoldable pub least : (ℕ → Bool) → (ℕ → ℕ) → ℕ → ℕ → ℕ
least p f d zero = d
least p f d (suc n) = let b = least p f d n in when p n and (eqb b d or ltb (f n) (f b)) then n else b

-- ---- lists

-- the number i put at its place by ascending f
unfoldable pub insert : (ℕ → ℕ) → ℕ → List ℕ → List ℕ
insert f i [] = i ∷ []
insert f i (j ∷ js) = elim (ltb (f i) (f j)) [ true ↦ i ∷ j ∷ js | false ↦ j ∷ insert f i js ]

-- the numbers below n of which p holds, by ascending f
unfoldable pub ascending : (ℕ → Bool) → (ℕ → ℕ) → ℕ → List ℕ
ascending p f zero = []
ascending p f (suc n) = elim (p n) [ true ↦ insert f n (ascending p f n) | false ↦ ascending p f n ]

-- those of a list of which p holds
unfoldable pub only : (ℕ → Bool) → List ℕ → List ℕ
only p [] = []
only p (x ∷ xs) = elim (p x) [ true ↦ x ∷ only p xs | false ↦ only p xs ]

-- p holds of some number of the list
unfoldable pub some_of : (ℕ → Bool) → List ℕ → Bool
some_of p [] = false
some_of p (x ∷ xs) = elim (p x) [ true ↦ true | false ↦ some_of p xs ]

-- what f gives at the n numbers from k
unfoldable pub values {ℓ} : {A : Type ℓ} → (ℕ → A) → ℕ → ℕ → List A
values f zero k = []
values f (suc n) k = f k ∷ values f n (suc k)

-- the list with each of its first n elements changed by its place
unfoldable pub changed_to {ℓ} : {A : Type ℓ} → (ℕ → A → A) → A → ℕ → List A → List A
changed_to f d zero l = l
changed_to f d (suc n) l = set (changed_to f d n l) n (f n (get_or l n d))
