-- One turn of the loop over levels: the namespaces above at the next level, and the keys there.
use Prim.Native.Nat.{ℕ, suc, ◌-◌}
use mathlib.Core.Bool.{Bool}
use mathlib.Core.Path.{◌≡◌, ap, ◌∙◌}
use Rattle.table.specs.Limits.{deepest}
use Rattle.rules.specs.Read.{View}
use Rattle.sound.specs.Quick.{process_at, raised, top, pid_key, pid_keys, differ}

module _ (v : View) (k : ℕ) (next : ℕ → ℕ) where
  pub next_top :
      (up level tops : ℕ → ℕ) → up ≡ v.up → level ≡ v.level → tops ≡ top v.up v.level k
      → next ≡ raised up level (deepest - k) tops → next ≡ top v.up v.level (suc k)
  unfolding top
  next_top up level tops a b c e =
      e ∙ ap (λ u. raised u level (deepest - k) tops) a ∙ ap (λ u. raised v.up u (deepest - k) tops) b
      ∙ ap (λ u. raised v.up v.level (deepest - k) u) c

  pub next_differs :
      (keys : ℕ → ℕ) (r : Bool) → next ≡ top v.up v.level (suc k)
      → keys ≡ (λ i. pid_key next (deepest - k) (process_at v i)) → r ≡ differ keys → r ≡ differ (pid_keys v k)
  next_differs keys r a b e =
      let at : (ℕ → ℕ) → ℕ → ℕ = λ n i. pid_key n (deepest - k) (process_at v i) in
      e ∙ ap differ (b ∙ ap at a)
