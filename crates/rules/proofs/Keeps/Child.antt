-- A birth: the child's number, its record, and the others'.
use Prim.Native.Nat.{ℕ, ◌<◌}
use native.Mathlib.Decide.{dec_lt}
use native.Mathlib.Omega.{arith}
use mathlib.Core.Bool.{So}
use mathlib.Core.Logic.{⊎_elim}
use mathlib.Core.Path.{◌≡◌, refl, sym, ◌∙◌, ap, subst}
use borrow.Author.Tests.{eq-eqb, ne_eqb}
use lib.Dec.{eqb}
use lib.ListN.{length-set}
use Rattle.rules.proofs.Keeps.Birth.{with_born, birth_view, k_taken}
use Rattle.rules.proofs.Keeps.Changed.{changed_at, process_count, stored}
use Rattle.rules.proofs.Keeps.Changes.{MayBear}
use Rattle.rules.proofs.Keeps.Premises as K
use Rattle.rules.proofs.Laws.Facts.{Below, Taken, Sane}
use Rattle.rules.proofs.Laws.Tree.{below_refl}
use Rattle.rules.specs.Births.{birth, newborn}
use Rattle.rules.specs.Claims.{Born, NextNumber}
use Rattle.rules.specs.Pids.{free_slot}
use Rattle.rules.specs.Read.{View, alive, below, init, pid_seen, unborn, view}
use Rattle.rules.proofs.Laws.Traits.{born_signals}
use Rattle.table.specs.Limits.{process_slots}
use Rattle.table.specs.Slots.{no_process, process, put}
use Rattle.table.specs.Tests.{when◌then◌else◌}
use Rattle.table.specs.declared.Process.{Process}
use Rattle.table.specs.declared.Table.{Table}

-- ---- the rule of a number names one

next_below : (v : View) (n a b : ℕ) → NextNumber v n a → NextNumber v n b → a < b → ⊥
next_below v n a b x y l =
    ⊎_elim
    (λ (p, q). ⊎_elim (λ (r, s). q a r l x.unused) (λ (r, s, o). r b p y.within.1 y.unused) x.lowest)
    (λ (p, q, m). ⊎_elim (λ (r, s). p a r x.within.1 x.unused) (λ (r, s, o). m a s l x.unused) x.lowest)
    y.lowest

pub next_unique : (v : View) (n a b : ℕ) → NextNumber v n a → NextNumber v n b → a ≡ b
next_unique v n a b x y = go (dec_lt a b) (dec_lt b a)
  where
    go : Dec (a < b) → Dec (b < a) → a ≡ b
    go (yes l) d = absurd (next_below v n a b x y l)
    go (no o) (yes l) = absurd (next_below v n b a y x l)
    go (no o) (no p) = omega arith

-- ---- a birth

module _ (t : Table) (s : Sane t) (c n : ℕ) (m : MayBear (view t) c n) where
  abbrev v : View
  v = view t

  abbrev k : ℕ
  k = free_slot v

  low : k < process_slots
  low = (K.free_slot_is v m.room).0

  pub free : Taken v k → ⊥
  free = (K.free_slot_is v m.room).1

  read : view (birth t c n) ≡ with_born v c n k
  read = birth_view t s.shape_of s.facts c n m.namespace low

  pub there : Taken (view (birth t c n)) k
  there = subst (λ u. Taken u k) (sym read) (k_taken v s.facts c n k m.lives m.namespace m.below m.not_dead low free m.up_own)

  -- each record
  at : (i : ℕ) → process (birth t c n) i ≡ (when eqb i k then newborn v c n else process t i)
  unfolding birth
  at i =
      changed_at (λ i p. p) no_process process_slots (put t k (newborn v c n)).processes (length-set t.processes k (newborn v c n) ∙ process_count t s.shape_of) (λ i l. refl) i
      ∙ stored t.processes k (newborn v c n) no_process (omega (arith, process_count t s.shape_of, low)) i

  self : process (birth t c n) k ≡ newborn v c n
  self = at k ∙ rw (eq-eqb k k refl)

  -- the place of the child is below the caller's
  place : Below (view (birth t c n)) n (v.own c)
  unfolding below
  place = subst (λ (u : View). Below u n (v.own c)) (sym read) m.below

  init_of_new : So (unborn v n) → So (alive (view (birth t c n)) n) × (init (view (birth t c n)) n ≡ k)
  init_of_new b = subst (λ (u : View). So (alive u n) × (init u n ≡ k)) (sym read) (rw (below_refl v n, b) (refl, refl))

  -- the child, but for the answer
  pub born_child : (a : ℕ) → a ≡ pid_seen (view (birth t c n)) (v.own c) k → Born t (birth t c n) c k n a
  unfolding newborn
  born_child a e =
      record {
        new = free;
        lowest = K.free_slot_lowest v;
        here = there;
        kin = (ap (λ (p : Process). p.parent.0) self, ap (λ (p : Process). p.own.0) self, ap (λ (p : Process). p.children.0) self);
        bare = (ap (λ (p : Process). p.state) self, ap (λ (p : Process). p.traits.handled) self ∙ (born_signals _).0, ap (λ (p : Process). p.traits.pending) self ∙ (born_signals _).1);
        first = init_of_new;
        answer = e;
        others = λ i o. at i ∙ rw (ne_eqb i k o);
      }

  pub born_place : Below (view (birth t c n)) ((view (birth t c n)).own k) (v.own c)
  unfolding newborn
  born_place = subst (λ x. Below (view (birth t c n)) x (v.own c)) (sym (ap (λ (p : Process). p.own.0) self)) place
