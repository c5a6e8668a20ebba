-- The changes of one slot, as tables.
use Prim.Native.Nat.{ℕ, suc, ◌<◌}
use native.Mathlib.Decide.{dec_lt}
use native.Mathlib.Omega.{arith}
use mathlib.Core.Bool.{false, So, false≢true}
use mathlib.Core.Path.{◌≡◌, refl, sym, ◌∙◌, ap, subst}
use lib.Dec.{eqb}
use lib.ListN.{get_or-eq_default}
use Rattle.rules.proofs.Keeps.Changed.{get_d_replicate, view_put, shaped_put, shape_at, pick, pick_same, process_count, view_put_namespace, shaped_put_namespace}
use Rattle.rules.proofs.Keeps.Lights.{with_lights, MayHold, holds_still, lights_facts}
use Rattle.rules.proofs.Keeps.NewNamespace.{with_namespace}
use Rattle.rules.proofs.Keeps.Reap.{without, reaped_facts}
use Rattle.rules.proofs.Laws.Facts.{Facts, Lives, lives_taken, not_ended, Sane}
use Rattle.rules.proofs.Laws.Holds.{turned_holds}
use Rattle.rules.proofs.Laws.Tests.{isnt_so, left, both, right}
use Rattle.rules.specs.Calls.{new_namespace}
use Rattle.table.specs.Fresh.{empty_process}
use Rattle.table.specs.Limits.{levels, namespace_slots, process_slots}
use Rattle.rules.specs.Pids.{free_namespace_slot}
use Rattle.table.specs.Slots.{is_ended, namespace, no_pid, no_process, pid_at, process, put, hold_at}
use Rattle.rules.specs.Read.{view, children}
use Rattle.rules.specs.Sound.{kept_end, shaped}
use Rattle.rules.proofs.Laws.Traits.{Fine, none_shaped}
use Rattle.table.specs.Tests.{when◌then◌else◌}
use Rattle.table.specs.declared.Life.TheVariants.{Unborn}
use Rattle.table.specs.declared.Namespace.{Namespace}
use Rattle.table.specs.declared.Process.{Process}
use Rattle.table.specs.declared.State.{State}
use Rattle.table.specs.declared.Table.{Table}
use Rattle.table.specs.Records.{to_pid, with_children, with_traits, with_state}
use Rattle.table.specs.declared.Traits.{Traits}

-- ---- one process's state, traits and children's namespace

abbrev pub with_all : Process → State → Traits → ℕ → Process
with_all p s x m = with_children (with_traits (with_state p s) x) m

module _ (t : Table) (sane : Sane t) (c : ℕ) (c_lives : Lives (view t) c) (s : State) (runs : is_ended s ≡ false) (x : Traits) (m : ℕ) where
  abbrev y : Process
  y = with_all (process t c) s x m

  low_c : c < process_slots
  low_c = sane.facts.in_range c (lives_taken (view t) c c_lives)

  -- what is read then
  pub lights_view : view (put t c y) ≡ with_lights (view t) c s x m
  lights_view =
      view_put t sane.shape_of c y low_c
      ∙ (λ j. record {
        own = λ i. pick_same t sane.shape_of c (λ p. p.own.0) y refl i j;
        hold = λ i k. (pick (λ p. hold_at p k) (eqb i c) y (process t i) ∙ ap (λ z. when eqb i c then z else (view t).hold i k) (turned_holds (process t c) s x m k)) j;
        parent = λ i. pick_same t sane.shape_of c (λ p. p.parent.0) y refl i j;
        state = λ i. pick (λ p. p.state) (eqb i c) y (process t i) j;
        ended = λ i. pick_same t sane.shape_of c (λ p. is_ended p.state) y (runs ∙ sym (isnt_so (not_ended (view t) c c_lives))) i j;
        traits = λ i. pick (λ p. p.traits) (eqb i c) y (process t i) j;
        pid = λ i l. pick_same t sane.shape_of c (λ p. pid_at p l) y refl i j;
        up = (view t).up;
        level = (view t).level;
        last = (view t).last;
        life = (view t).life;
      })

  pub lights_sane : So (kept_end s) → Fine x → MayHold (view t) c m → Sane (put t c y)
  lights_sane a b hold =
      record {
        shape_of = shaped_put t sane.shape_of c y low_c (both _ _ (left _ _ (shape_at t sane.shape_of c low_c)) b.shape);
        facts = subst Facts (sym lights_view) (lights_facts (view t) sane.facts c s x m c_lives runs a b.ok hold);
      }

-- the traits of a living process
pub its_traits : (t : Table) → Sane t → (i : ℕ) → Lives (view t) i → Fine ((view t).traits i)
its_traits t s i l =
    let x = lives_taken (view t) i l in
    record { ok = s.facts.traits i x; shape = right _ _ (shape_at t s.shape_of i (s.facts.in_range i x)) }

-- other traits and another state, and another children's namespace
pub altered_sane : (t : Table) (s : Sane t) (c : ℕ) → Lives (view t) c → (x : State) → is_ended x ≡ false → (y : Traits) → So (kept_end x) → Fine y → Sane (put t c (with_all (process t c) x y (children (view t) c)))
altered_sane t s c l x o y k fine = lights_sane t s c l x o y (children (view t) c) k fine (holds_still (view t) s.facts c l)

pub set_children_sane : (t : Table) (s : Sane t) (c m : ℕ) → Lives (view t) c → MayHold (view t) c m → Sane (put t c (with_children (process t c) m))
set_children_sane t s c m l hold =
    lights_sane t s c l ((view t).state c) (isnt_so (not_ended (view t) c l)) ((view t).traits c) m (s.facts.ends_kept c (lives_taken (view t) c l)) (its_traits t s c l) hold

-- ---- removal

pub ended_low : (t : Table) → So (shaped t) → (d : ℕ) → So ((view t).ended d) → d < process_slots
ended_low t g d h = go (dec_lt d process_slots)
  where
    go : Dec (d < process_slots) → d < process_slots
    go (yes l) = l
    go (no o) = absurd (false≢true (sym (ap (λ p. is_ended p.state) (get_or-eq_default t.processes no_process (omega (arith, process_count t g)))) ∙ h))

module _ (t : Table) (sane : Sane t) (d : ℕ) (over : So ((view t).ended d)) where
  low_d : d < process_slots
  low_d = ended_low t sane.shape_of d over

  -- what is read then
  pub reaped_view : view (put t d empty_process) ≡ without (view t) d
  reaped_view =
      view_put t sane.shape_of d empty_process low_d
      ∙ (λ j. record {
        own = λ i. pick (λ p. p.own.0) (eqb i d) empty_process (process t i) j;
        hold = λ i k. pick (λ p. hold_at p k) (eqb i d) empty_process (process t i) j;
        parent = λ i. pick (λ p. p.parent.0) (eqb i d) empty_process (process t i) j;
        state = λ i. pick (λ p. p.state) (eqb i d) empty_process (process t i) j;
        ended = λ i. pick (λ p. is_ended p.state) (eqb i d) empty_process (process t i) j;
        traits = λ i. pick (λ p. p.traits) (eqb i d) empty_process (process t i) j;
        pid = λ i l. (pick (λ p. pid_at p l) (eqb i d) empty_process (process t i) ∙ ap (λ z. when eqb i d then z else (view t).pid i l) (ap (λ p. p.0) (get_d_replicate no_pid levels l))) j;
        up = (view t).up;
        level = (view t).level;
        last = (view t).last;
        life = (view t).life;
      })

  pub reaped_sane : Sane (put t d empty_process)
  reaped_sane = record { shape_of = shaped_put t sane.shape_of d empty_process low_d (both _ _ refl none_shaped); facts = subst Facts (sym reaped_view) (reaped_facts (view t) sane.facts d over) }

-- ---- a new namespace

module _ (t : Table) (g : So (shaped t)) (c : ℕ) (low : free_namespace_slot (view t) < namespace_slots) where
  abbrev j : ℕ
  j = free_namespace_slot (view t)

  abbrev z : Namespace
  z = record { parent = record { 0 = (view t).own c }; level = suc ((view t).level ((view t).own c)); last = to_pid 0; life = Unborn }

  -- what is read then
  pub new_namespace_view : view (new_namespace t c) ≡ with_namespace (view t) ((view t).own c) j
  unfolding new_namespace
  new_namespace_view =
      view_put_namespace t g j z low
      ∙ (λ r. record {
        own = (view t).own;
        hold = (view t).hold;
        parent = (view t).parent;
        state = (view t).state;
        ended = (view t).ended;
        traits = (view t).traits;
        pid = (view t).pid;
        up = λ m. pick (λ s. s.parent.0) (eqb m j) z (namespace t m) r;
        level = λ m. pick (λ s. s.level) (eqb m j) z (namespace t m) r;
        last = λ m. pick (λ s. s.last.0) (eqb m j) z (namespace t m) r;
        life = λ m. pick (λ s. s.life) (eqb m j) z (namespace t m) r;
      })

  pub new_namespace_shape : So (shaped (new_namespace t c))
  unfolding new_namespace
  new_namespace_shape = shaped_put_namespace t g j z
