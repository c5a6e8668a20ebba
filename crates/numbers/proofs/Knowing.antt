-- What is known of the climbs c: read, and kept.
use Prim.Native.Nat.{ℕ, ◌<◌, ◌-◌}
use native.Mathlib.Decide.{dec_lt}
use native.Mathlib.Omega.{arith}
use mathlib.Core.Bool.{Bool, true, false, false≢true}
use mathlib.Core.Path.{◌≡◌, sym, subst, ◌∙◌}
use lib.Dec.{eqb}
use lib.ListN.{get_or, replicate, length-replicate, get_or-replicate}
use Rattle.rules.specs.Read.{climb}
use Rattle.table.proofs.Slots.{array_past}
use Rattle.table.specs.Limits.{namespace_slots}
use Rattle.tree.proofs.Climbs.{climb_on}
use Rattle.tree.specs.declared.Tree.{Tree}
use Rattle.numbers.specs.Climbs.{up_in, Known}

module _ (c : Tree × ℕ) where
  pub nothing_known : Known c (replicate namespace_slots false)
  nothing_known = record { comes = λ a h. absurd (false≢true (sym (none a (dec_lt a namespace_slots)) ∙ h)) }
    where
      none : (a : ℕ) → Dec (a < namespace_slots) → get_or (replicate namespace_slots false) a false ≡ false
      none a (yes l) = get_or-replicate namespace_slots a false false l
      none a (no o) = sym (array_past (replicate namespace_slots false) false namespace_slots a (length-replicate namespace_slots false) (omega arith))

-- r is true since `knows` is, and so is what it tells
pub known_is : (r k x : Bool) → r ≡ k → k ≡ true → (k ≡ true → x ≡ true) → r ≡ x
known_is r k x e q h = e ∙ q ∙ sym (h q)

-- one step up, of a that is not n: m is its parent. The fields of the climbs are read as d.
pub climbs_on : (c d : Tree × ℕ) (a k m : ℕ) (r : Bool) → d ≡ c → eqb a d.1 ≡ false → (k ≡ 0 → ⊥) → m ≡ up_in d a → r ≡ climb (up_in c) (k - 1) m c.1 → r ≡ climb (up_in c) k a c.1
climbs_on c d a k m r e o z p q =
    climb_on (up_in c) a c.1 k m r (subst (λ x. eqb a x.1 ≡ false) e o) z (subst (λ x. m ≡ up_in x a) e p) q
