-- The searches of `pid_by_marks`, by what they gave: a above `last`, and b from 300 on. Each saw the same climbs.
use Prim.Native.Nat.{ℕ, ◌<◌, ◌≤◌, ◌-◌}
use mathlib.Core.Bool.{Bool, true, false, not, true≢false, false≢true}
use mathlib.Core.List.{List}
use mathlib.Core.Path.{◌≡◌, sym, ap, ◌∙◌}
use native.Mathlib.Omega.{arith}
use borrow.Author.Tests.{eq-eqb, ne_eqb, le-leb, lt-leb}
use lib.Dec.{eqb}
use Rattle.std.specs.Option.{is_some}
use Rattle.std.specs.Prelude.{Option, Some, None, IfSome}
use Rattle.table.proofs.Chains.{pick_yes, pick_no}
use Rattle.table.specs.Limits.{greatest_pid, restart_pid}
use Rattle.table.specs.declared.Pid.{Pid}
use Rattle.tree.specs.declared.Tree.{Tree}
use Rattle.numbers.specs.Climbs.{below_in}
use Rattle.numbers.specs.Holders.{unheld_in}
use Rattle.numbers.specs.declared.Holder.{Holder}
use Rattle.numbers.specs.Marks.{first_of, by_marks, place_from, pid_found}

-- the same climbs place a holder alike
pub placed_same : (m last x a k : ℕ) (c d : Tree × ℕ) → d ≡ c → k ≡ place_from m last x (below_in d a) → k ≡ place_from m last x (below_in c a)
placed_same m last x a k c d e q = q ∙ ap (λ y. place_from m last x (below_in y a)) e

module _ (m last : ℕ) (hs : List Holder) (c d : Tree × ℕ) (e : d ≡ c) where
  abbrev free : ℕ → Bool
  free = unheld_in c hs

  same : (k r : ℕ) → r ≡ first_of m (unheld_in d hs) k → r ≡ first_of m free k
  same k r q = q ∙ ap (λ y. first_of m (unheld_in y hs) k) e

  -- there was none above `last`
  none : (a : Option Pid) → pid_found a ≡ first_of m (unheld_in d hs) last → is_some a ≡ false → eqb (first_of m free last) 0 ≡ true
  none None q t = eq-eqb _ 0 (sym (same last 0 q))
  none (Some p) q t = absurd (true≢false t)

  pub found_above : (a : Option Pid) → pid_found a ≡ first_of m (unheld_in d hs) last → IfSome a (λ p. 0 < p.0) → is_some a ≡ true → pid_found a ≡ by_marks m free last
  unfolding by_marks
  found_above None q h t = absurd (false≢true t)
  found_above (Some p) q h t =
      same last p.0 q ∙ sym (pick_yes _ _ _ (ap not (ne_eqb _ 0 (λ (z : first_of m free last ≡ 0). let y : p.0 ≡ first_of m free last = same last p.0 q in omega arith))))

  pub found_again : (a b : Option Pid) → pid_found a ≡ first_of m (unheld_in d hs) last → is_some a ≡ false → greatest_pid - m ≤ last → pid_found b ≡ first_of m (unheld_in d hs) (restart_pid - 1) → pid_found b ≡ by_marks m free last
  unfolding by_marks
  found_again a b q t h p =
      same (restart_pid - 1) (pid_found b) p ∙ sym (pick_no _ _ _ (ap not (none a q t)) ∙ pick_yes _ _ _ (le-leb (greatest_pid - m) last h))

  pub marks_out : (a : Option Pid) → pid_found a ≡ first_of m (unheld_in d hs) last → is_some a ≡ false → last < greatest_pid - m → 0 ≡ by_marks m free last
  unfolding by_marks
  marks_out a q t h = sym (pick_no _ _ _ (ap not (none a q t)) ∙ pick_no _ _ _ (lt-leb (greatest_pid - m) last h))
