-- A changed table, slot by slot.
use Prim.Native.Nat.{ℕ, zero, suc, ◌<◌, ◌≤◌}
use native.Mathlib.Decide.{ℕ_discrete, dec_lt}
use native.Mathlib.Omega.{arith}
use mathlib.Core.Bool.{Bool, true, false, So}
use mathlib.Core.List.{List}
use mathlib.Core.Path.{◌≡◌, refl, sym, ◌∙◌, ap, ap₂, subst, fun_ext}
use borrow.Author.Tests.{eq-eqb, ne_eqb, eqb-true}
use lib.Dec.{eqb}
use lib.ListN.{get_or, set, replicate, length, length-set, get_or-eq_default}
use lib.Seq.{get_or-set_same, get_or-set_other}
use Rattle.rules.proofs.Laws.Tests.{left, right, both, all_elim, all_intro}
use Rattle.table.specs.Limits.{levels, namespace_slots, process_slots}
use Rattle.table.specs.Slots.{is_ended, namespace, no_namespace, no_process, pid_at, process, changed, put, put_namespace, hold_at}
use Rattle.rules.specs.Read.{View, view}
use Rattle.rules.specs.Sound.{shaped}
use Rattle.rules.proofs.Laws.Traits.{none_shaped}
use Rattle.table.specs.Tests.{◌and◌, changed_to, when◌then◌else◌}
use Rattle.table.specs.declared.Namespace.{Namespace}
use Rattle.table.specs.declared.Process.{Process}
use Rattle.table.specs.declared.Table.{Table}
use Rattle.table.specs.Traits.{traits_shaped}

module _ {A : Type 0} (f : ℕ → A → A) (d : A) where
  pub length_changed : (n : ℕ) (l : List A) → length (changed_to f d n l) ≡ length l
  unfolding changed_to
  length_changed zero l = refl
  length_changed (suc n) l = length-set (changed_to f d n l) n _ ∙ length_changed n l

  pub changed_out : (n : ℕ) (l : List A) (i : ℕ) → n ≤ i → get_or (changed_to f d n l) i d ≡ get_or l i d
  unfolding changed_to
  changed_out zero l i h = refl
  changed_out (suc n) l i h = get_or-set_other (changed_to f d n l) n i _ d (λ e. omega arith) ∙ changed_out n l i (omega arith)

  pub changed_in : (n : ℕ) (l : List A) → n ≤ length l → (i : ℕ) → i < n → get_or (changed_to f d n l) i d ≡ f i (get_or l i d)
  unfolding changed_to
  changed_in zero l b i h = absurd (omega arith)
  changed_in (suc n) l b i h = go (ℕ_discrete i n) (λ k. changed_in n l (omega arith) i k)
    where
      go : Dec (i ≡ n) → (i < n → get_or (changed_to f d n l) i d ≡ f i (get_or l i d)) → get_or (set (changed_to f d n l) n (f n (get_or l n d))) i d ≡ f i (get_or l i d)
      go (yes e) r = rw e (get_or-set_same (changed_to f d n l) n _ d (omega (arith, length_changed n l)))
      go (no o) r = get_or-set_other (changed_to f d n l) n i _ d o ∙ r (omega arith)

  -- each element of a changed list
  pub changed_at : (n : ℕ) (l : List A) → length l ≡ n → ((i : ℕ) → n ≤ i → f i d ≡ d) → (i : ℕ) → get_or (changed_to f d n l) i d ≡ f i (get_or l i d)
  changed_at n l e out i = go (dec_lt i n)
    where
      go : Dec (i < n) → get_or (changed_to f d n l) i d ≡ f i (get_or l i d)
      go (yes h) = changed_in n l (omega arith) i h
      go (no h) = changed_out n l i (omega arith) ∙ past ∙ sym (out i (omega arith)) ∙ ap (f i) (sym past)
        where
          past : get_or l i d ≡ d
          past = get_or-eq_default l d (omega arith)

pub get_d_replicate : {A : Type 0} (d : A) (n i : ℕ) → get_or (replicate n d) i d ≡ d
get_d_replicate d zero i = refl
get_d_replicate d (suc n) zero = refl
get_d_replicate d (suc n) (suc i) = get_d_replicate d n i

-- what is read of the two arrays
abbrev pub view_of : (ℕ → Process) → (ℕ → Namespace) → View
view_of ps ss =
    record {
      own = λ i. (ps i).own.0;
      hold = λ i k. hold_at (ps i) k;
      parent = λ i. (ps i).parent.0;
      state = λ i. (ps i).state;
      ended = λ i. is_ended (ps i).state;
      traits = λ i. (ps i).traits;
      pid = λ i l. pid_at (ps i) l;
      up = λ n. (ss n).parent.0;
      level = λ n. (ss n).level;
      last = λ n. (ss n).last.0;
      life = λ n. (ss n).life;
    }

pub process_count : (t : Table) → So (shaped t) → length t.processes ≡ process_slots
unfolding shaped
process_count t h = eqb-true _ _ (left _ _ (left _ _ h))

pub namespace_count : (t : Table) → So (shaped t) → length t.namespaces ≡ namespace_slots
unfolding shaped
namespace_count t h = eqb-true _ _ (right _ _ (left _ _ h))

abbrev pub process_shaped : Process → Bool
process_shaped p = eqb (length p.pids) levels and traits_shaped p.traits

module _ (t : Table) (f : ℕ → Process → Process) (g : ℕ → Namespace → Namespace) (h : So (shaped t)) where
  -- what is read of a changed table
  pub view_changed : ((i : ℕ) → process_slots ≤ i → f i no_process ≡ no_process) → ((n : ℕ) → namespace_slots ≤ n → g n no_namespace ≡ no_namespace)
      → view (changed t f g) ≡ view_of (λ i. f i (process t i)) (λ n. g n (namespace t n))
  view_changed out namespace_out =
      ap₂ view_of (fun_ext (changed_at f no_process process_slots t.processes (process_count t h) out)) (fun_ext (changed_at g no_namespace namespace_slots t.namespaces (namespace_count t h) namespace_out))

  pub shaped_changed : ((i : ℕ) (p : Process) → So (process_shaped p) → So (process_shaped (f i p))) → So (shaped (changed t f g))
  unfolding shaped
  shaped_changed k =
      both _ _
      (both _ _ (eq-eqb _ _ (length_changed f no_process process_slots t.processes ∙ process_count t h)) (eq-eqb _ _ (length_changed g no_namespace namespace_slots t.namespaces ∙ namespace_count t h)))
      (all_intro _ _ (λ i l. subst (λ p. So (process_shaped p)) (sym (changed_in f no_process process_slots t.processes (omega (arith, process_count t h)) i l)) (k i _ (all_elim _ _ (right _ _ h) i l))))

-- ---- one slot

pub pick : {A B : Type 0} (r : A → B) (b : Bool) (x y : A) → r (when b then x else y) ≡ (when b then r x else r y)
pick r true x y = refl
pick r false x y = refl

pub stored : {A : Type 0} (l : List A) (k : ℕ) (x d : A) → k < length l → (i : ℕ) → get_or (set l k x) i d ≡ (when eqb i k then x else get_or l i d)
stored l k x d h i = go (ℕ_discrete i k)
  where
    go : Dec (i ≡ k) → get_or (set l k x) i d ≡ (when eqb i k then x else get_or l i d)
    go (yes e) = rw (eq-eqb i k e, e) (get_or-set_same l k x d h)
    go (no o) = rw (ne_eqb i k o) (get_or-set_other l k i x d o)

module _ (t : Table) (h : So (shaped t)) (k : ℕ) where
  -- what is read of a table with one record put
  pub view_put : (x : Process) → k < process_slots → view (put t k x) ≡ view_of (λ i. when eqb i k then x else process t i) (namespace t)
  view_put x l = ap₂ view_of (fun_ext (stored t.processes k x no_process (omega (arith, process_count t h)))) refl

  pub shaped_put : (x : Process) → k < process_slots → So (process_shaped x) → So (shaped (put t k x))
  unfolding shaped
  shaped_put x l s =
      both _ _ (both _ _ (eq-eqb _ _ (length-set t.processes k x ∙ process_count t h)) (right _ _ (left _ _ h)))
      (all_intro _ _ (λ i b. subst (λ p. So (process_shaped p)) (sym (stored t.processes k x no_process (omega (arith, process_count t h)) i)) (go i (eqb i k) (all_elim _ _ (right _ _ h) i b))))
    where
      go : (i : ℕ) (b : Bool) → So (process_shaped (process t i)) → So (process_shaped (when b then x else process t i))
      go i true g = s
      go i false g = g

  pub view_put_namespace : (x : Namespace) → k < namespace_slots → view (put_namespace t k x) ≡ view_of (process t) (λ n. when eqb n k then x else namespace t n)
  view_put_namespace x l = ap (view_of (process t)) (fun_ext (stored t.namespaces k x no_namespace (omega (arith, namespace_count t h))))

  pub shaped_put_namespace : (x : Namespace) → So (shaped (put_namespace t k x))
  unfolding shaped
  shaped_put_namespace x = both _ _ (both _ _ (left _ _ (left _ _ h)) (eq-eqb _ _ (length-set t.namespaces k x ∙ namespace_count t h))) (right _ _ h)

  pub shape_at : k < process_slots → So (process_shaped (process t k))
  unfolding shaped
  shape_at l = all_elim _ _ (right _ _ h) k l

  -- of any slot, also past the last
  pub traits_shape : So (traits_shaped (process t k).traits)
  traits_shape = go (dec_lt k process_slots)
    where
      go : Dec (k < process_slots) → So (traits_shaped (process t k).traits)
      go (yes l) = right _ _ (shape_at l)
      go (no o) = subst (λ (p : Process). So (traits_shaped p.traits)) (sym (get_or-eq_default t.processes no_process (omega (arith, process_count t h)))) none_shaped

  -- what is read alike of the stored and of the old is unchanged
  pub pick_same : {B : Type 0} (r : Process → B) (x : Process) → r x ≡ r (process t k) → (i : ℕ) → r (when eqb i k then x else process t i) ≡ r (process t i)
  pick_same r x e i = go (ℕ_discrete i k)
    where
      go : Dec (i ≡ k) → r (when eqb i k then x else process t i) ≡ r (process t i)
      go (yes q) = rw (eq-eqb i k q) (e ∙ ap (λ j. r (process t j)) (sym q))
      go (no o) = rw (ne_eqb i k o)
