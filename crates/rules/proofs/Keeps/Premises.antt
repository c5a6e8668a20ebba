-- What a call needs of a sound table: free slots, whom a number names, when a child may be born.
use Prim.Native.Nat.{ℕ, ◌<◌, ◌≤◌}
use native.Mathlib.Omega.{arith}
use mathlib.Core.Bool.{not, So, false≢true}
use mathlib.Core.Logic.{◌⊎◌}
use mathlib.Core.Path.{◌≡◌, refl, sym, ◌∙◌, ap, subst}
use borrow.Author.Tests.{leb-true, ltb-true}
use lib.IntN.{ℤ, pos, negsuc}
use Rattle.rules.proofs.Keeps.Birth.{born_facts, born_held, birth_view, birth_shape}
use Rattle.rules.proofs.Keeps.Deliver.{Safe, each_of}
use Rattle.rules.proofs.Keeps.Lights.{lights_held, holds_still}
use Rattle.rules.proofs.Keeps.NewNamespace.{Ready, ready, with_namespace}
use Rattle.rules.proofs.Keeps.Puts.{new_namespace_view, lights_view, altered_sane}
use Rattle.rules.proofs.Laws.Below.{shallow_below, level_deepest}
use Rattle.rules.proofs.Laws.Facts.{Holder, Facts, Held, Taken, Stands, Lives, Below, Seen, lives_taken, not_ended, seen_below, facts, held_in, sound_from, sane, Holds}
use Rattle.rules.proofs.Laws.Find.{lowest_is, targets_seen}
use Rattle.rules.proofs.Laws.Steps.{runs_lives}
use Rattle.rules.proofs.Laws.Tests.{no_so, isnt_so, isnt_not, left, right}
use Rattle.rules.specs.Births.{birth}
use Rattle.rules.specs.Calls.{natural, new_namespace, targets, within}
use Rattle.table.specs.Limits.{deepest, namespace_slots, process_slots, signals}
use Rattle.rules.specs.Pids.{free_namespace_slot, free_slot}
use Rattle.table.specs.Slots.{process, put}
use Rattle.rules.specs.Read.{View, dead, namespace_taken, taken, unborn, view, children}
use Rattle.rules.specs.Sound.{SoundTable, shaped}
use Rattle.rules.specs.Step.{runs}
use Rattle.rules.proofs.Laws.Traits.{Fine}
use Rattle.table.specs.Tests.{lowest}
use Rattle.table.specs.declared.Table.{Table}
use Rattle.table.specs.declared.Traits.{Traits}
use Rattle.table.specs.Records.{with_traits}

-- ---- free slots

-- a slot that is found free is in range and empty
pub free_slot_is : (v : View) → (free_slot v ≡ process_slots → ⊥) → (free_slot v < process_slots) × (Taken v (free_slot v) → ⊥)
unfolding free_slot
free_slot_is v o = let r = lowest_is (λ i. not (taken v i)) process_slots 0 in let l : lowest (λ i. not (taken v i)) process_slots 0 < process_slots = omega (arith, r.upto) in (l, λ t. no_so (ap not t) (r.holds (omega arith)))

-- and each one below it is taken
pub free_slot_lowest : (v : View) (j : ℕ) → j < free_slot v → Taken v j
unfolding free_slot
free_slot_lowest v j l = isnt_not _ ((lowest_is (λ i. not (taken v i)) process_slots 0).none_before j (omega arith) l)

pub free_namespace_lowest : (v : View) (j : ℕ) → j < free_namespace_slot v → Stands v j
unfolding free_namespace_slot
free_namespace_lowest v j l = isnt_not _ ((lowest_is (λ n. not (namespace_taken v n)) namespace_slots 0).none_before j (omega arith) l)

pub free_namespace_is : (v : View) → (free_namespace_slot v ≡ namespace_slots → ⊥) → (free_namespace_slot v < namespace_slots) × (Stands v (free_namespace_slot v) → ⊥)
unfolding free_namespace_slot
free_namespace_is v o = let r = lowest_is (λ i. not (namespace_taken v i)) namespace_slots 0 in let l : lowest (λ i. not (namespace_taken v i)) namespace_slots 0 < namespace_slots = omega (arith, r.upto) in (l, λ t. no_so (ap not t) (r.holds (omega arith)))

-- ---- whom a number names

pub safe_seen : (v : View) → Facts v → (n i : ℕ) → Seen v n i → i ≡ 0 → n ≡ 0
safe_seen v f n i h z = sym (shallow_below v 0 n f.root_level (subst (λ m. Below v m n) (ap v.own z ∙ f.root_own) (seen_below v n i h)))

-- the root init is found from the root alone
pub targets_safe : (v : View) → Facts v → (c : ℕ) (n : ℤ) → Safe (v.own c) (targets v c n)
targets_safe v f c n = each_of _ (targets v c n) (λ i m. safe_seen v f (v.own c) i (targets_seen v c n i m))

pub natural_low : (s : ℤ) → So (within 0 signals s) → natural s < signals
natural_low (pos k) h = omega (arith, ltb-true k signals (right _ _ h))
natural_low (negsuc k) h = absurd (false≢true h)

-- a birth where it may be makes a sound table
pub birth_sound : (t : Table) (g : So (shaped t)) (f : Facts (view t)) (c n : ℕ) → Lives (view t) c → Stands (view t) n → Below (view t) n ((view t).own c) → (So (dead (view t) n) → ⊥) → free_slot (view t) < process_slots → (Taken (view t) (free_slot (view t)) → ⊥) → (So (unborn (view t) n) → (view t).own c ≡ (view t).up n)
    → ((m : ℕ) → Stands (view t) m → So (unborn (view t) m) → (m ≡ n → ⊥) → (i : ℕ) × Taken (view t) i × Holds (view t) i m) → ((m : ℕ) → Stands (view t) m → (m ≡ n) ⊎ Holder (view t) m) → SoundTable (birth t c n)
birth_sound t g f c n l s b d low free u x y =
    let e = birth_view t g f c n s low in
    sound_from (birth t c n) (birth_shape t g f c n s low) (subst Facts (sym e) (born_facts (view t) f c n _ l s b d low free u)) (subst Held (sym e) (born_held (view t) f c n _ l s b d low free u x y))

pub natural_within : (s : ℤ) → So (within 1 signals s) → (1 ≤ natural s) × (natural s < signals)
natural_within (pos k) h = (leb-true 1 k (left _ _ h), omega (arith, ltb-true k signals (right _ _ h)))
natural_within (negsuc k) h = absurd (false≢true h)

pub altered_sound : (t : Table) (c : ℕ) (h : SoundTable t) → Lives (view t) c → (x : Traits) → Fine x → SoundTable (put t c (with_traits (process t c) x))
altered_sound t c h lives x fine =
    let o = isnt_so (not_ended (view t) c lives) in
    let k = (facts t h).ends_kept c (lives_taken (view t) c lives) in
    let s = altered_sane t (sane t h) c lives ((view t).state c) o x k fine in
    sound_from _ s.shape_of s.facts (subst Held (sym (lights_view t (sane t h) c lives ((view t).state c) o x (children (view t) c))) (lights_held (view t) (facts t h) c ((view t).state c) x (children (view t) c) lives o k fine.ok (holds_still (view t) (facts t h) c lives) refl (held_in t h)))

module _ (t : Table) (c : ℕ) (h : SoundTable t) (r : So (runs (view t) c)) where
  abbrev v : View
  v = view t

  pub f : Facts v
  f = facts t h

  pub lives : Lives v c
  lives = runs_lives t c r

  pub here : Taken v c
  here = lives_taken v c lives

  -- ---- with a new namespace

  module _ (deep : v.level (v.own c) ≡ deepest → ⊥) (room : free_namespace_slot v ≡ namespace_slots → ⊥) where
    abbrev j : ℕ
    j = free_namespace_slot v

    abbrev a : ℕ
    a = v.own c

    abbrev w : View
    w = with_namespace v a j

    a_namespace : Stands v a
    a_namespace = (f.members c here).0.0

    pub j_low : j < namespace_slots
    j_low = (free_namespace_is v room).0

    j_free : Stands v j → ⊥
    j_free = (free_namespace_is v room).1

    low : v.level a < deepest
    low = omega (arith, level_deepest v f a a_namespace)

    not_dead : So (dead v a) → ⊥
    not_dead d = not_ended v c lives ((f.members c here).0.1 d)

    next : Table
    next = new_namespace t c

    -- a new namespace is ready for a child or a holder
    pub ready_next : Ready (view (new_namespace t c)) c j (free_slot v)
    ready_next = subst (λ u. Ready u c j (free_slot v)) (sym (new_namespace_view t h.shape c j_low)) (ready v f a j a_namespace low not_dead (f.members c here).1 j_low j_free c lives refl (held_in t h))
