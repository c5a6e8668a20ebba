-- For a loop over candidates c, from `from` up to g, that leaves with the first c at which f holds; and with c, past g,
-- where there is none. The invariant is `Seeking f g from c`: the lowest number from `from` on is the lowest from c on.
-- Where the candidate is tried by a loop over slots, f c is `not (any ..)`: that loop's facts are those of AnyLoops.
use Prim.Native.Nat.{ℕ, suc, ◌<◌, ◌≤◌, ◌+◌, ◌-◌}
use mathlib.Core.Bool.{Bool, true, false, not}
use mathlib.Core.Path.{◌≡◌, refl, sym, ap, ◌∙◌}
use native.Mathlib.Omega.{arith}
use Rattle.table.proofs.Chains.{not_no, not_yes}
use Rattle.table.proofs.FirstLoops.{lowest_here, lowest_on, lowest_end}
use Rattle.table.specs.Tests.{any, lowest}

pub record Seeking (f : ℕ → Bool) (g from c : ℕ) : Type 0 where
  pub rest : lowest f (suc g - from) from ≡ lowest f (suc g - c) c

pub seek_starts : (f : ℕ → Bool) (g from : ℕ) → Seeking f g from from
seek_starts f g from = record { rest = refl }

-- c is the candidate as the loop over slots leaves it: still the c₀ that the turn began with
module _ (f : ℕ → Bool) (g from c₀ c : ℕ) (s : Seeking f g from c₀) (still : c ≡ c₀) (h : c₀ ≤ g) where
  rest : lowest f (suc g - from) from ≡ lowest f (suc g - c) c
  rest = s.rest ∙ ap (λ k. lowest f (suc g - k) k) (sym still)

  pub seek_again : f c ≡ false → Seeking f g from (c + 1)
  seek_again e = record { rest = rest ∙ lowest_on f (suc g) c (omega arith) e }

  -- (In a contract `suc g` may have been computed to a number, e.)
  pub seek_found : (e : ℕ) → suc g ≡ e → f c ≡ true → c ≡ lowest f (e - from) from
  seek_found e q t = sym (ap (λ k. lowest f (k - from) from) (sym q) ∙ rest ∙ lowest_here f (suc g) c (omega arith) t)

pub seek_past : (f : ℕ → Bool) (g e from c : ℕ) → Seeking f g from c → suc g ≡ e → g < c → c ≡ lowest f (e - from) from
seek_past f g e from c s q h =
    sym (ap (λ k. lowest f (k - from) from) (sym q) ∙ s.rest ∙ lowest_end f (suc g) c (omega arith))

-- a candidate that some slot holds, and one that none holds
pub held : (n : ℕ) (h : ℕ → Bool) → any n h ≡ true → not (any n h) ≡ false
held n h e = not_yes (any n h) e

pub unheld : (n : ℕ) (h : ℕ → Bool) → any n h ≡ false → not (any n h) ≡ true
unheld n h e = not_no (any n h) e

pub ruleset seek_loops = (seek_starts, seek_again, seek_found, seek_past, held, unheld)
