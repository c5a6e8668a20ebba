-- For a loop that replaces each of the first n elements of an array by what f makes of its place and of it. The
-- invariant is `Mapped n f d l₀ l i`: i is at most n, and l is l₀ with its first i elements changed. `search map_loops`
-- closes the loop's three needs. d is what lies past the array's end.
use Prim.Native.Nat.{ℕ, zero, suc, ◌<◌, ◌≤◌, ◌+◌}
use mathlib.Core.List.{List}
use mathlib.Core.Logic.{⊎_elim}
use mathlib.Core.Path.{◌≡◌, refl, sym, ap, ap₂, subst, fun_ext, ◌∙◌}
use lib.ListN.{length, get_or, set, length-set, get_or-eq_default}
use lib.Seq.{get_or-set_same, get_or-set_other, set-get_or}
use native.Mathlib.Decide.{dec_lt}
use native.Mathlib.Nat.{eq-or-lt_of_le, le_of_suc-le-suc}
use native.Mathlib.Numerals.{add-one}
use native.Mathlib.Omega.{arith}
use Rattle.table.specs.Tests.{changed_to}

-- ---- the changed list

pub changed_length : {A : Type 0} (f : ℕ → A → A) (d : A) (n : ℕ) (l : List A) → length (changed_to f d n l) ≡ length l
unfolding changed_to
changed_length f d zero l = refl
changed_length f d (suc n) l = length-set (changed_to f d n l) n (f n (get_or l n d)) ∙ changed_length f d n l

-- the elements from n on stand
pub changed_past : {A : Type 0} (f : ℕ → A → A) (d : A) (n i : ℕ) (l : List A) → n ≤ i → get_or (changed_to f d n l) i d ≡ get_or l i d
unfolding changed_to
changed_past f d zero i l h = refl
changed_past f d (suc n) i l h =
    get_or-set_other (changed_to f d n l) n i (f n (get_or l n d)) d (λ q. omega arith) ∙ changed_past f d n i l (omega arith)

-- those below n are what f makes of them
pub changed_at : {A : Type 0} (f : ℕ → A → A) (d : A) (n i : ℕ) (l : List A) → i < n → i < length l → get_or (changed_to f d n l) i d ≡ f i (get_or l i d)
unfolding changed_to
changed_at f d zero i l h k = absurd (omega arith)
changed_at f d (suc n) i l h k =
    ⊎_elim
    (λ (q : i ≡ n).
    subst (λ m. get_or (set (changed_to f d n l) n (f n (get_or l n d))) m d ≡ f m (get_or l m d)) (sym q)
    (get_or-set_same (changed_to f d n l) n (f n (get_or l n d)) d (omega (arith, changed_length f d n l))))
    (λ (q : i < n).
    get_or-set_other (changed_to f d n l) n i (f n (get_or l n d)) d (λ e. omega arith) ∙ changed_at f d n i l q k)
    (eq-or-lt_of_le (le_of_suc-le-suc h))

-- what counts of a change is what it makes of the elements that are there
pub changed_same : {A : Type 0} (f g : ℕ → A → A) (d : A) (n : ℕ) (l : List A) → ((i : ℕ) → i < n → f i (get_or l i d) ≡ g i (get_or l i d)) → changed_to f d n l ≡ changed_to g d n l
unfolding changed_to
changed_same f g d zero l h = refl
changed_same f g d (suc n) l h =
    ap₂ (λ u x. set u n x) (changed_same f g d n l (λ i k. h i (omega arith))) (h n (omega arith))

-- where f changes nothing the list stands
pub changed_none : {A : Type 0} (d : A) (n : ℕ) (l : List A) → changed_to (λ i x. x) d n l ≡ l
unfolding changed_to
changed_none d zero l = refl
changed_none d (suc n) l = ap (λ u. set u n (get_or l n d)) (changed_none d n l) ∙ set-get_or l n d

-- ---- the loop

pub record Mapped {A : Type 0} (n : ℕ) (f : ℕ → A → A) (d : A) (l₀ l : List A) (i : ℕ) : Type 0 where
  pub within : i ≤ n
  pub done : l ≡ changed_to f d i l₀

pub map_starts : {A : Type 0} (n : ℕ) (f : ℕ → A → A) (d : A) (l₀ : List A) → Mapped n f d l₀ l₀ 0
unfolding changed_to
map_starts n f d l₀ = record { within = omega arith; done = refl }

-- y is the callee's result for the element at i of the array as it was
pub map_goes_on_old : {A : Type 0} (n : ℕ) (f : ℕ → A → A) (d : A) (l₀ l : List A) (i : ℕ) (y : A) → Mapped n f d l₀ l i → i < n → y ≡ f i (get_or l₀ i d) → Mapped n f d l₀ (set l i y) (i + 1)
unfolding changed_to
map_goes_on_old n f d l₀ l i y m h e =
    record { within = omega arith; done = rw (add-one, e) (ap (λ u. set u i (f i (get_or l₀ i d))) m.done) }

-- y is the callee's result for the element at i of the array as it is, which no turn has changed yet
pub map_goes_on : {A : Type 0} (n : ℕ) (f : ℕ → A → A) (d : A) (l₀ l : List A) (i : ℕ) (y : A) → Mapped n f d l₀ l i → i < n → y ≡ f i (get_or l i d) → Mapped n f d l₀ (set l i y) (i + 1)
map_goes_on n f d l₀ l i y m h e =
    map_goes_on_old n f d l₀ l i y m h
    (e ∙ ap (λ u. f i (get_or u i d)) m.done ∙ ap (f i) (changed_past f d i i l₀ (omega arith)))

pub map_done : {A : Type 0} (n : ℕ) (f : ℕ → A → A) (d : A) (l₀ l : List A) (i : ℕ) → Mapped n f d l₀ l i → n ≤ i → l ≡ changed_to f d n l₀
map_done n f d l₀ l i m h =
    let w = m.within in
    let e : i ≡ n = omega arith in
    subst (λ k. l ≡ changed_to f d k l₀) e m.done

pub ruleset map_loops = (map_starts, map_goes_on, map_done)

pub ruleset map_old_loops = (map_starts, map_goes_on_old, map_done)

-- ---- the array l that such a loop leaves, read at any slot

-- h reads f in it: below n in what the loop puts, and from n on in what lies past the end
pub changed_reads : {A C : Type 0} (h : A → C) (g : ℕ → A → A) (d : A) (n : ℕ) (l₀ l : List A) (f : ℕ → C) → l ≡ changed_to g d n l₀ → length l₀ ≡ n → ((i : ℕ) → i < n → h (g i (get_or l₀ i d)) ≡ f i) → ((i : ℕ) → n ≤ i → h d ≡ f i) → ◌≡◌ {A = ℕ → C} (λ i. h (get_or l i d)) f
changed_reads h g d n l₀ l f e k below past = fun_ext (λ i. ap (λ u. h (get_or u i d)) e ∙ at i (dec_lt i n))
  where
    at : (i : ℕ) → Dec (i < n) → h (get_or (changed_to g d n l₀) i d) ≡ f i
    at i (yes b) = ap h (changed_at g d n i l₀ b (omega arith)) ∙ below i b
    at i (no o) =
        ap h (changed_past g d n i l₀ (omega arith) ∙ get_or-eq_default l₀ d {n = i} (omega arith)) ∙ past i (omega arith)

-- so it reads as another array b does from which each element is made
pub filled_reads : {A B C : Type 0} (g : B → A) (e : B) (h : A → C) (n : ℕ) (l₀ l : List A) (b : List B) → l ≡ changed_to (λ i x. g (get_or b i e)) (g e) n l₀ → length l₀ ≡ n → length b ≡ n → ◌≡◌ {A = ℕ → C} (λ i. h (get_or l i (g e))) (λ i. h (g (get_or b i e)))
filled_reads g e h n l₀ l b d p q =
    changed_reads h (λ i x. g (get_or b i e)) (g e) n l₀ l (λ i. h (g (get_or b i e))) d p (λ i k. refl)
    (λ i k. ap (λ x. h (g x)) (sym (get_or-eq_default b e {n = i} (omega arith))))
