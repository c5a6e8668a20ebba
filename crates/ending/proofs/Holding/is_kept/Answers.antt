-- `is_kept` looks for a marked namespace below n, by the law of a chain that ends in `any`.
use Prim.Native.Nat.{ℕ}
use mathlib.Core.Bool.{true, false}
use mathlib.Core.Path.{◌≡◌, refl}
use borrow.Author.Rules.{rules}
use borrow.Author.Tests.{tests}
use Rattle.std.proofs.lemmas.Iterator.{cases_from_any, YieldsList-from_range}
use Rattle.table.proofs.Chains.{chains, or_goes}
use Rattle.table.specs.Limits.{namespace_slots}
use Rattle.tree.specs.Tree.{slot_in, level_in}
use Rattle.ending.proofs.Marks.{any_of_range}
use Rattle.ending.specs.Holding.{mark_at, keeps, kept_for}
use Rattle.ending.proofs.Holding.is_kept.Goals as goal

pub returns-then-n-eq0 : goal.returns-then-n-eq0
unfolding kept_for
returns-then-n-eq0 c = search chains

pub returns-else-n-eq0 : goal.returns-else-n-eq0
unfolding kept_for
returns-else-n-eq0 c =
    let k : ℕ → _ = keeps (slot_in c.args.self.now.tree.parents) (level_in c.args.self.now.tree.levels) (mark_at c.args.self.now.marks) c.args.n.0 in
    or_goes _ _ _ (search chains)
    (any_of_range namespace_slots k _
    (cases_from_any _ _ _ (λ i. k i ≡ true) (λ i. k i ≡ false) c.any.ensures.ran (YieldsList-from_range 0 namespace_slots namespace_slots refl refl) (λ x q w. search (rules, tests)) (λ x q w. search (rules, tests))))
