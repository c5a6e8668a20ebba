-- "Level 31 may clone new, level 32 gets -28" (W-206), once for any table and any level.
use Prim.Native.Nat.{ℕ}
use mathlib.Core.Bool.{false, not, So}
use mathlib.Core.Path.{◌≡◌, ap}
use borrow.Author.Tests.{eq-eqb, ne_eqb}
use lib.Dec.{eqb, leb}
use Rattle.rules.proofs.Laws.Below.{deepest_home, deepest_only}
use Rattle.rules.proofs.Laws.Facts.{facts, lives_taken}
use Rattle.rules.proofs.Laws.Steps.{runs_lives}
use Rattle.rules.specs.Answers.{refused}
use Rattle.rules.specs.Calls.{own_level, elsewhere, processes_full, namespaces_full, clone_new, born, new_namespace, unshare}
use Rattle.rules.specs.Births.{birth}
use Rattle.table.specs.Limits.{deepest}
use Rattle.rules.specs.Pids.{free_namespace_slot}
use Rattle.rules.specs.Read.{view}
use Rattle.rules.specs.Sound.{SoundTable}
use Rattle.rules.specs.Step.{step, make, runs}
use Rattle.table.specs.Tests.{◌or◌}
use Rattle.table.specs.declared.Call.TheVariants.{CloneNew, Unshare}
use Rattle.table.specs.declared.Refusal.TheVariants.{Enospc}
use Rattle.table.specs.declared.Table.{Table}

module _ (t : Table) (c : ℕ) (h : SoundTable t) (r : So (runs (view t) c)) where
  -- On the deepest level nobody meets -22, though it comes before -28: the children's namespace is the own one there.
  pub deepest_at_home : own_level (view t) c ≡ deepest → elsewhere (view t) c ≡ false
  deepest_at_home e =
      let l = runs_lives t c r in
      ap not (eq-eqb _ _ (deepest_home (view t) (facts t h) c (lives_taken (view t) c l) l e))

  -- its test is whether the level is that one
  at_deepest : leb deepest (own_level (view t) c) ≡ eqb (own_level (view t) c) deepest
  at_deepest =
      let f = facts t h in
      deepest_only (view t) f _ (f.members c (lives_taken (view t) c (runs_lives t c r))).0.0

  -- There clone new and unshare are refused.
  pub clone_too_deep : own_level (view t) c ≡ deepest → step t c CloneNew ≡ refused t Enospc
  unfolding step make clone_new
  clone_too_deep e = rw (h.rules, r, deepest_at_home e, at_deepest, eq-eqb (own_level (view t) c) deepest e)

  pub unshare_too_deep : own_level (view t) c ≡ deepest → step t c Unshare ≡ refused t Enospc
  unfolding step make unshare
  unshare_too_deep e = rw (h.rules, r, deepest_at_home e, at_deepest, eq-eqb (own_level (view t) c) deepest e)

  -- On any other clone new is granted, where the children's namespace is the own one and there is room.
  pub clone_deeper :
      elsewhere (view t) c ≡ false → (own_level (view t) c ≡ deepest → ⊥) → processes_full (view t) ≡ false
      → namespaces_full (view t) ≡ false
      → step t c CloneNew ≡ born t c (birth (new_namespace t c) c (free_namespace_slot (view t)))
  unfolding step make clone_new ◌or◌
  clone_deeper m e p n = rw (h.rules, r, m, at_deepest, ne_eqb (own_level (view t) c) deepest e, p, n)
