-- The choice between the two searches. s is the namespace at n, and a what the search above its last number gave.
use Prim.Native.Nat.{ℕ, suc, ◌<◌, ◌≤◌, ◌+◌, ◌-◌}
use mathlib.Core.Path.{◌≡◌, refl, sym, ap, ◌∙◌}
use native.Mathlib.Numerals.{add-one}
use native.Mathlib.Omega.{arith}
use borrow.Author.Tests.{le-leb, lt-leb}
use Rattle.table.proofs.Chains.{pick_yes, pick_no}
use Rattle.table.proofs.FirstLoops.{lowest_end}
use Rattle.table.specs.Limits.{greatest_pid, restart_pid}
use Rattle.rules.specs.Pids.{free_pid, next_pid}
use Rattle.table.specs.Slots.{namespace}
use Rattle.rules.specs.Read.{View, view}
use Rattle.table.specs.Tests.{lowest}
use Rattle.table.specs.declared.Namespace.{Namespace}
use Rattle.table.specs.declared.Table.{Table}

-- the search above a number, and the search that starts again
abbrev above : View → ℕ → ℕ → ℕ
above v n k = lowest (free_pid v n) (suc greatest_pid - k) k

abbrev again : View → ℕ → ℕ
again v n = above v n restart_pid

module _ (v : View) (n : ℕ) where
  abbrev low : ℕ
  low = lowest (free_pid v n) (greatest_pid - v.last n) (suc (v.last n))

  first : low ≤ greatest_pid → low ≡ next_pid v n
  unfolding next_pid
  first h = sym (pick_yes _ low (again v n) (le-leb low greatest_pid h))

  second : greatest_pid < low → again v n ≡ next_pid v n
  unfolding next_pid
  second h = sym (pick_no _ low (again v n) (lt-leb low greatest_pid h))

  searched : (k : ℕ) → k ≡ v.last n → above v n (k + 1) ≡ low
  searched k e =
      let q : suc greatest_pid - suc (v.last n) ≡ greatest_pid - v.last n = omega arith in
      rw (e, add-one, q)

module _ (t : Table) (n : ℕ) (s : Namespace) (e : s ≡ namespace t n) where
  last_is : s.last.0 ≡ (view t).last n
  last_is = ap (λ x. x.last.0) e

  pub found_above : (a : ℕ) → a ≡ above (view t) n (s.last.0 + 1) → a ≤ greatest_pid → a ≡ next_pid (view t) n
  found_above a q h =
      let z : a ≡ low (view t) n = q ∙ searched (view t) n s.last.0 last_is in
      z ∙ first (view t) n (omega arith)

  pub none_above : (a r : ℕ) → a ≡ above (view t) n (s.last.0 + 1) → greatest_pid < a → r ≡ again (view t) n → r ≡ next_pid (view t) n
  none_above a r q h p =
      let z : a ≡ low (view t) n = q ∙ searched (view t) n s.last.0 last_is in
      p ∙ second (view t) n (omega arith)

  pub past_greatest : (r : ℕ) → greatest_pid ≤ s.last.0 → r ≡ again (view t) n → r ≡ next_pid (view t) n
  past_greatest r h p =
      let l = last_is in
      let z : low (view t) n ≡ suc ((view t).last n) = sym (searched (view t) n ((view t).last n) refl) ∙ lowest_end (free_pid (view t) n) (suc greatest_pid) ((view t).last n + 1) (omega arith) ∙ add-one ((view t).last n) in
      p ∙ second (view t) n (omega arith)
