-- What the declared types give: a table that a function is passed has the shape that the theorems assume, and no number
-- of a process is past what 16 bits hold.
use Prim.Native.Nat.{ℕ, zero, suc, ◌<◌, ◌≤◌, ◌^◌}
use native.Mathlib.Omega.{arith}
use mathlib.Core.Bool.{So}
use mathlib.Core.List.{List, [], ◌∷◌}
use mathlib.Core.Path.{◌≡◌}
use base.Fml.{Fml}
use borrow.Author.Tests.{eq-eqb, lt-ltb}
use denote.Array.{each}
use denote.Laws.{Is}
use denote.Shadow.{shadow}
use lib.Dec.{eqb}
use lib.ListN.{get_or, length}
use mir.Val.{Val}
use Rattle.rules.proofs.Laws.Facts.{Facts, facts}
use Rattle.rules.proofs.Laws.Tests.{both, all_intro}
use Rattle.table.specs.contracts.Pid as K
use Rattle.table.specs.contracts.Process as P
use Rattle.table.specs.contracts.Table as T
use Rattle.table.specs.contracts.Traits as X
use Rattle.table.specs.Limits.{process_slots, namespace_slots, levels, pid_values, signals}
use Rattle.table.specs.Slots.{no_pid, no_process, process, pid_at}
use Rattle.rules.specs.Read.{view}
use Rattle.rules.specs.Sound.{SoundTable, shaped, sound}
use Rattle.table.specs.Tests.{◌and◌}
use Rattle.table.specs.declared.Pid.{Pid}
use Rattle.table.specs.declared.Process.{Process}
use Rattle.table.specs.declared.Table.{Table}
use Rattle.table.specs.Traits.{traits_shaped}
use Rattle.table.specs.declared.Traits.{Traits}

-- what holds of each element of an array, and of what lies past its end, holds at every place
each_gives : {X : Type 0} (f : X → List Val → Fml) (Q : X → Type 0) → ((x : X) (u : Val) → shadow (f x (u ∷ [])) → Q x) → (d : X) (xs : List X) (us : List Val) → shadow (each X f xs us) → (i : ℕ) → (length xs ≤ i → Q d) → Q (get_or xs i d)
each_gives f Q g d [] us s i q = q (omega arith)
each_gives f Q g d (x ∷ xs) [] s i q = absurd s
each_gives f Q g d (x ∷ xs) (u ∷ us) s zero q = g x u s.0
each_gives f Q g d (x ∷ xs) (u ∷ us) s (suc i) q = each_gives f Q g d xs us s.1 i (λ h. q (omega arith))

-- ---- a process

abbrev Fit : Process → Type 0
Fit p = (l : ℕ) → pid_at p l < pid_values

abbrev Shaped : Process → Type 0
Shaped p = So (eqb (length p.pids) levels and traits_shaped p.traits)

traits_fit : (x : Traits) (us : List Val) → shadow ((X.the_field).row.own_val ((X.the_field).into x) us) → So (traits_shaped x)
unfolding traits_shaped
traits_fit x us s = both _ _ (lt-ltb _ (2 ^ signals) s.1.1.0.1) (lt-ltb _ (2 ^ signals) s.1.1.1.0.1)

module _ (p : Process) (u : Val) (s : shadow ((P.the_row).own_val p (u ∷ []))) where
  pids_fit : Fit p
  pids_fit l =
      each_gives (K.the_row).own_val (λ (k : Pid). k.0 < pid_values) (λ k v a. a.1.1.0.1) no_pid p.pids _
      s.1.1.1.1.1.1.1.0.1.1 l (λ h. omega arith)

  process_shaped : Shaped p
  process_shaped =
      both _ _ (eq-eqb _ levels s.1.1.1.1.1.1.1.0.1.0.1)
      (traits_fit p.traits _ s.1.1.1.1.1.1.0)

-- ---- a table: `is` is what a function knows of one that it is passed

module _ (t : Table) (vs : List Val) (is : Is T.the_row t vs) where
  pub pid_fits : (i l : ℕ) → pid_at (process t i) l < pid_values
  pid_fits i =
      each_gives (P.the_row).own_val Fit pids_fit no_process t.processes _ is.1.1.0.1.1 i (λ h l. omega arith)

  processes_long : length t.processes ≡ process_slots
  processes_long = is.1.1.0.1.0.1

  namespaces_long : length t.namespaces ≡ namespace_slots
  namespaces_long = is.1.1.1.0.1.0.1

  pub shape_of : So (shaped t)
  unfolding shaped
  shape_of =
      both _ _ (both _ _ (eq-eqb _ process_slots processes_long) (eq-eqb _ namespace_slots namespaces_long))
      (all_intro process_slots _ (λ i h. each_gives (P.the_row).own_val Shaped process_shaped no_process t.processes _ is.1.1.0.1.1 i (λ o. absurd (omega (arith, processes_long)))))

  pub sound_table : So (sound t) → SoundTable t
  sound_table h = record { shape = shape_of; rules = h }

  pub facts_of : So (sound t) → Facts (view t)
  facts_of h = facts t (sound_table h)
