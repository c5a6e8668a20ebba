-- Lists of values in a row, and the names of what a process holds, by their index.
use Prim.Native.Nat.{ℕ, zero, suc, ◌<◌, ◌≤◌, ◌+◌}
use native.Mathlib.Omega.{arith}
use mathlib.Core.List.{◌∷◌, []}
use mathlib.Core.Path.{◌≡◌, refl, sym, ◌∙◌, ap, ap₂}
use lib.ListN.{get_or}
use Rattle.rules.proofs.Laws.Holds.{each_index}
use Rattle.rules.specs.Read.{View, children}
use Rattle.sameness.specs.Sheet.{Row, name, no_name, row}
use Rattle.table.specs.Limits.{hold_slots}
use Rattle.table.specs.Tests.{values}

-- the same values, the same list; and back
pub values_same : {A : Type 0} (f g : ℕ → A) (n k : ℕ) → ((l : ℕ) → k ≤ l → l < k + n → f l ≡ g l) → values f n k ≡ values g n k
unfolding values
values_same f g zero k h = refl
values_same f g (suc n) k h = ap₂ ◌∷◌ (h k (omega arith) (omega arith)) (values_same f g n (suc k) (λ l a b. h l (omega arith) (omega arith)))

pub getD_values : {A : Type 0} (f : ℕ → A) (d : A) (n k j : ℕ) → j < n → get_or (values f n k) j d ≡ f (k + j)
unfolding values
getD_values f d zero k j l = absurd (omega arith)
getD_values f d (suc n) k zero l = let e : k ≡ k + 0 = omega arith in ap f e
getD_values f d (suc n) k (suc j) l = let e : suc k + j ≡ k + suc j = omega arith in getD_values f d n (suc k) j (omega arith) ∙ ap f e

from_first : {A : Type 0} (f : ℕ → A) (d : A) (n k : ℕ) → k < n → get_or (values f n 0) k d ≡ f k
from_first f d n k l = let e : 0 + k ≡ k = omega arith in getD_values f d n 0 k l ∙ ap f e

-- a row names the children's namespace, as document 01 has it, and no other that is held
pub row_names : (v : View) (s i : ℕ) → (row v s i).holds ≡ name v s (children v i) ∷ []
unfolding row values
row_names v s i = refl

-- what two processes hold is named alike
abbrev pub Named : View → View → ℕ → ℕ → ℕ → ℕ → Type 0
Named v u s r i j = (k : ℕ) → k < hold_slots → name v s (v.hold i k) ≡ name u r (u.hold j k)

-- so it is where their rows are the same, and such names make the same list
pub named_rows : (v u : View) (s r i j : ℕ) → row v s i ≡ row u r j → Named v u s r i j
unfolding row
named_rows v u s r i j e k l =
    sym (from_first (λ k. name v s (v.hold i k)) no_name hold_slots k l)
    ∙ ap (λ (o : Row). get_or o.holds k no_name) e
    ∙ from_first (λ k. name u r (u.hold j k)) no_name hold_slots k l

pub names_alike : (v u : View) (s r i j : ℕ) → Named v u s r i j → values (λ k. name v s (v.hold i k)) hold_slots 0 ≡ values (λ k. name u r (u.hold j k)) hold_slots 0
names_alike v u s r i j h = values_same _ _ hold_slots 0 (λ k a b. h k (omega arith))

-- the children's alone, while nothing else is held
pub children_named : (v u : View) (s r i j : ℕ) → name v s (v.hold i 0) ≡ name u r (u.hold j 0) → Named v u s r i j
children_named v u s r i j h = each_index (λ k. name v s (v.hold i k) ≡ name u r (u.hold j k)) h
