-- Lists: members, and a list sorted by a key, which its members determine.
use Prim.Native.Nat.{ℕ, zero, suc, ◌<◌}
use native.Mathlib.Decide.{ℕ_discrete}
use native.Mathlib.Nat.{not-suc-le-zero}
use native.Mathlib.Omega.{arith}
use mathlib.Core.Bool.{Bool, true, false, So, false≢true}
use mathlib.Core.List.{List, ◌∷◌, map, []}
use mathlib.Core.Logic.{◌⊎◌, inl, inr, ⊎_elim}
use mathlib.Core.Path.{◌≡◌, refl, sym, ◌∙◌, ap, ap₂, subst}
use borrow.Author.Tests.{eqb-true, eqb-false, ltb-true, ltb-false}
use lib.Dec.{eqb, ltb}
use Rattle.table.specs.Tests.{ascending, insert, some_of, only}

-- ---- the ends of a list

abbrev tail : {A : Type 0} → List A → List A
tail [] = []
tail (x ∷ xs) = xs

abbrev head : {A : Type 0} → A → List A → A
head d [] = d
head d (x ∷ xs) = x

abbrev full : {A : Type 0} → List A → Type 0
full [] = ⊥
full (x ∷ xs) = Unit {0}

pub heads_equal : {A : Type 0} (x y : A) (xs ys : List A) → x ∷ xs ≡ y ∷ ys → x ≡ y
heads_equal x y xs ys e = ap (head x) e

pub tails_equal : {A : Type 0} (x y : A) (xs ys : List A) → x ∷ xs ≡ y ∷ ys → xs ≡ ys
tails_equal x y xs ys e = ap tail e

pub not_empty : {A : Type 0} (x : A) (xs : List A) → x ∷ xs ≡ [] → ⊥
not_empty x xs e = subst full e tt

-- ---- members

abbrev pub In : {A : Type 0} → A → List A → Type 0
In x [] = ⊥
In x (y ∷ l) = (x ≡ y) ⊎ In x l

pub in_map : {A B : Type 0} (f : A → B) (x : A) (l : List A) → In x l → In (f x) (map f l)
in_map f x [] h = h
in_map f x (y ∷ l) (inl e) = inl (ap f e)
in_map f x (y ∷ l) (inr h) = inr (in_map f x l h)

pub map_in : {A B : Type 0} (f : A → B) (z : B) (l : List A) → In z (map f l) → (x : A) × In x l × (z ≡ f x)
map_in f z [] h = absurd h
map_in f z (y ∷ l) (inl e) = (y, inl refl, e)
map_in f z (y ∷ l) (inr h) = let (x, m, e) = map_in f z l h in (x, inr m, e)

pub insert_new : (f : ℕ → ℕ) (i : ℕ) (l : List ℕ) → In i (insert f i l)
unfolding insert
insert_new f i [] = inl refl
insert_new f i (j ∷ js) = go (ltb (f i) (f j)) (insert_new f i js)
  where
    go : (b : Bool) → In i (insert f i js) → In i (elim b [ true ↦ i ∷ j ∷ js | false ↦ j ∷ insert f i js ])
    go true h = inl refl
    go false h = inr h

pub insert_old : (f : ℕ → ℕ) (i x : ℕ) (l : List ℕ) → In x l → In x (insert f i l)
unfolding insert
insert_old f i x [] h = absurd h
insert_old f i x (j ∷ js) h = go (ltb (f i) (f j)) (λ m. insert_old f i x js m) h
  where
    go : (b : Bool) → (In x js → In x (insert f i js)) → In x (j ∷ js) → In x (elim b [ true ↦ i ∷ j ∷ js | false ↦ j ∷ insert f i js ])
    go true r h = inr h
    go false r (inl e) = inl e
    go false r (inr m) = inr (r m)

-- an insertion adds that one
pub in_insert : (f : ℕ → ℕ) (i x : ℕ) (l : List ℕ) → In x (insert f i l) → (x ≡ i) ⊎ In x l
unfolding insert
in_insert f i x [] h = h
in_insert f i x (j ∷ js) h = go (ltb (f i) (f j)) (λ m. in_insert f i x js m) h
  where
    go : (b : Bool) → (In x (insert f i js) → (x ≡ i) ⊎ In x js) → In x (elim b [ true ↦ i ∷ j ∷ js | false ↦ j ∷ insert f i js ]) → (x ≡ i) ⊎ In x (j ∷ js)
    go true r h = h
    go false r (inl e) = inr (inl e)
    go false r (inr m) = ⊎_elim (λ e. inl e) (λ k. inr (inr k)) (r m)

-- a sorted list has those of which the test holds
pub in_ascending : (p : ℕ → Bool) (f : ℕ → ℕ) (n i : ℕ) → i < n → So (p i) → In i (ascending p f n)
unfolding ascending
in_ascending p f zero i l h = absurd (not-suc-le-zero l)
in_ascending p f (suc n) i l h = go (p n) refl (λ m. in_ascending p f n i m h) (ℕ_discrete i n)
  where
    go : (b : Bool) → p n ≡ b → (i < n → In i (ascending p f n)) → Dec (i ≡ n) → In i (elim b [ true ↦ insert f n (ascending p f n) | false ↦ ascending p f n ])
    go true e r (yes q) = subst (λ k. In k (insert f n (ascending p f n))) (sym q) (insert_new f n (ascending p f n))
    go true e r (no q) = insert_old f n i (ascending p f n) (r (omega arith))
    go false e r (yes q) = absurd (false≢true (sym e ∙ ap p (sym q) ∙ h))
    go false e r (no q) = r (omega arith)

pub ascending_in : (p : ℕ → Bool) (f : ℕ → ℕ) (n i : ℕ) → In i (ascending p f n) → (i < n) × So (p i)
unfolding ascending
ascending_in p f zero i h = absurd h
ascending_in p f (suc n) i h = go (p n) refl (λ m. ascending_in p f n i m) h
  where
    go : (b : Bool) → p n ≡ b → (In i (ascending p f n) → (i < n) × So (p i)) → In i (elim b [ true ↦ insert f n (ascending p f n) | false ↦ ascending p f n ]) → (i < suc n) × So (p i)
    go true e r h = ⊎_elim (λ q. (omega (arith, q), ap p q ∙ e)) (λ m. let (l, k) = r m in (omega arith, k)) (in_insert f n i (ascending p f n) h)
    go false e r h = let (l, k) = r h in (omega arith, k)

-- ---- sorted by a key

abbrev pub Sorted : {A : Type 0} → (A → ℕ) → List A → Type 0
Sorted f [] = Unit {0}
Sorted {A} f (x ∷ l) = ((y : A) → In y l → f x < f y) × Sorted f l

insert_sorted : (f : ℕ → ℕ) (i : ℕ) (l : List ℕ) → ((j : ℕ) → In j l → f j ≡ f i → ⊥) → Sorted f l → Sorted f (insert f i l)
unfolding insert
insert_sorted f i [] d s = ((λ y h. absurd h), tt)
insert_sorted f i (j ∷ js) d s = go (ltb (f i) (f j)) refl (insert_sorted f i js (λ k m. d k (inr m)) s.1)
  where
    go : (b : Bool) → ltb (f i) (f j) ≡ b → Sorted f (insert f i js) → Sorted f (elim b [ true ↦ i ∷ j ∷ js | false ↦ j ∷ insert f i js ])
    go true e r = ((λ y. elim [ inl q ↦ omega (arith, ltb-true (f i) (f j) e, ap f q) | inr m ↦ omega (arith, ltb-true (f i) (f j) e, s.0 y m) ]), s)
    go false e r = ((λ y h. ⊎_elim (λ q. omega (arith, ltb-false (f i) (f j) e, ap f q, d j (inl refl))) (λ m. s.0 y m) (in_insert f i y js h)), r)

-- and it is sorted
pub ascending_sorted : (p : ℕ → Bool) (f : ℕ → ℕ) (n : ℕ) → ((i j : ℕ) → i < n → j < i → So (p i) → So (p j) → f i ≡ f j → ⊥) → Sorted f (ascending p f n)
unfolding ascending
ascending_sorted p f zero d = tt
ascending_sorted p f (suc n) d = go (p n) refl (ascending_sorted p f n (λ i j l m. d i j (omega arith) m))
  where
    go : (b : Bool) → p n ≡ b → Sorted f (ascending p f n) → Sorted f (elim b [ true ↦ insert f n (ascending p f n) | false ↦ ascending p f n ])
    go true e s = insert_sorted f n (ascending p f n) (λ j m q. let (l, k) = ascending_in p f n j m in d n j (omega arith) l e k (sym q)) s
    go false e s = s

pub map_sorted : {A : Type 0} (g : ℕ → A) (f : ℕ → ℕ) (k : A → ℕ) (l : List ℕ) → ((i : ℕ) → In i l → k (g i) ≡ f i) → Sorted f l → Sorted k (map g l)
map_sorted g f k [] e s = tt
map_sorted g f k (x ∷ l) e s =
    ((λ y h. let (i, m, q) = map_in g y l h in omega (arith, ap k q, e i (inr m), e x (inl refl), s.0 i m)), map_sorted g f k l (λ i m. e i (inr m)) s.1)

-- A sorted list is determined by its members.
pub sorted_unique : {A : Type 0} (f : A → ℕ) (xs ys : List A) → Sorted f xs → Sorted f ys → ((x : A) → In x xs → In x ys) → ((y : A) → In y ys → In y xs) → xs ≡ ys
sorted_unique f [] [] s r h k = refl
sorted_unique f [] (y ∷ ys) s r h k = absurd (k y (inl refl))
sorted_unique f (x ∷ xs) [] s r h k = absurd (h x (inl refl))
sorted_unique {A} f (x ∷ xs) (y ∷ ys) s r h k =
    ap₂ ◌∷◌ same (sorted_unique f xs ys s.1 r.1 (λ z m. ⊎_elim (λ e. absurd (apart z (e ∙ sym same) (s.0 z m))) (λ n. n) (h z (inr m))) (λ z m. ⊎_elim (λ e. absurd (apart' z (e ∙ same) (r.0 z m))) (λ n. n) (k z (inr m))))
  where
    same : x ≡ y
    same = ⊎_elim (λ e. e) (λ m. ⊎_elim (λ e. sym e) (λ n. absurd (omega (arith, r.0 x m, s.0 y n))) (k y (inl refl))) (h x (inl refl))

    apart : (z : A) → z ≡ x → f x < f z → ⊥
    apart z e l = omega (arith, ap f e)

    apart' : (z : A) → z ≡ y → f y < f z → ⊥
    apart' z e l = omega (arith, ap f e)

-- none of a list: not the first, and none of the others
pub some_of_false : (p : ℕ → Bool) (x : ℕ) (xs : List ℕ) → some_of p (x ∷ xs) ≡ false → (p x ≡ false) × (some_of p xs ≡ false)
unfolding some_of
some_of_false p x xs = go (p x)
  where
    go : (b : Bool) → elim b [ true ↦ true | false ↦ some_of p xs ] ≡ false → (b ≡ false) × (some_of p xs ≡ false)
    go true h = absurd (false≢true (sym h))
    go false h = (refl, h)

-- the list has it, as a test and as a statement
pub some_of_in : (i : ℕ) (l : List ℕ) → So (some_of (eqb i) l) → In i l
unfolding some_of
some_of_in i [] h = absurd (false≢true h)
some_of_in i (x ∷ xs) h = go (eqb i x) refl (λ k. some_of_in i xs k) h
  where
    go : (b : Bool) → eqb i x ≡ b → (So (some_of (eqb i) xs) → In i xs) → So (elim b [ true ↦ true | false ↦ some_of (eqb i) xs ]) → In i (x ∷ xs)
    go true e r k = inl (eqb-true i x e)
    go false e r k = inr (r k)

pub in_some_of : (i : ℕ) (l : List ℕ) → In i l → So (some_of (eqb i) l)
unfolding some_of
in_some_of i [] h = absurd h
in_some_of i (x ∷ xs) h = go (eqb i x) refl (λ k. in_some_of i xs k) h
  where
    go : (b : Bool) → eqb i x ≡ b → (In i xs → So (some_of (eqb i) xs)) → In i (x ∷ xs) → So (elim b [ true ↦ true | false ↦ some_of (eqb i) xs ])
    go true e r k = refl
    go false e r (inl q) = absurd (eqb-false i x e q)
    go false e r (inr k) = r k

-- those of a list of which a test holds
pub only_in : (p : ℕ → Bool) (i : ℕ) (l : List ℕ) → In i (only p l) → In i l × So (p i)
unfolding only
only_in p i [] h = absurd h
only_in p i (x ∷ xs) h = go (p x) refl (λ k. let (a, b) = only_in p i xs k in (inr a, b)) h
  where
    go : (b : Bool) → p x ≡ b → (In i (only p xs) → In i (x ∷ xs) × So (p i)) → In i (elim b [ true ↦ x ∷ only p xs | false ↦ only p xs ]) → In i (x ∷ xs) × So (p i)
    go true e r (inl q) = (inl q, ap p q ∙ e)
    go true e r (inr k) = r k
    go false e r k = r k

pub in_only : (p : ℕ → Bool) (i : ℕ) (l : List ℕ) → In i l → So (p i) → In i (only p l)
unfolding only
in_only p i [] h k = absurd h
in_only p i (x ∷ xs) h k = go (p x) refl (λ m. in_only p i xs m k) h
  where
    go : (b : Bool) → p x ≡ b → (In i xs → In i (only p xs)) → In i (x ∷ xs) → In i (elim b [ true ↦ x ∷ only p xs | false ↦ only p xs ])
    go true e r (inl q) = inl q
    go true e r (inr m) = inr (r m)
    go false e r (inl q) = absurd (false≢true (sym e ∙ ap p (sym q) ∙ k))
    go false e r (inr m) = r m

-- ---- each once

abbrev pub Distinct : {A : Type 0} → List A → Type 0
Distinct [] = Unit {0}
Distinct (x ∷ l) = (In x l → ⊥) × Distinct l

pub sorted_distinct : {A : Type 0} (f : A → ℕ) (l : List A) → Sorted f l → Distinct l
sorted_distinct f [] s = tt
sorted_distinct f (x ∷ l) s = (λ h. omega (arith, s.0 x h), sorted_distinct f l s.1)

pub only_distinct : (p : ℕ → Bool) (l : List ℕ) → Distinct l → Distinct (only p l)
unfolding only
only_distinct p [] d = tt
only_distinct p (x ∷ xs) d = go (p x) (only_distinct p xs d.1)
  where
    go : (b : Bool) → Distinct (only p xs) → Distinct {A = ℕ} (elim b [ true ↦ x ∷ only p xs | false ↦ only p xs ])
    go true e = (λ h. d.0 (only_in p x xs h).0, e)
    go false e = e
