-- A newborn process has at each level the next number, which nobody had.
use Prim.Native.Nat.{ℕ, suc, ◌<◌, ◌≤◌, ◌-◌}
use native.Mathlib.Decide.{dec_lt}
use native.Mathlib.Omega.{arith}
use mathlib.Core.Bool.{Bool, true, false, So}
use mathlib.Core.Logic.{◌⊎◌, inl, inr, ⊎_elim}
use mathlib.Core.Path.{◌≡◌, refl, sym, ◌∙◌, ap, subst}
use borrow.Author.Tests.{eq-eqb, le-leb}
use lib.Dec.{eqb, leb}
use Rattle.rules.proofs.Keeps.Birth.{with_born, birth_view, free_is, is_free, next_fresh, low, again}
use Rattle.rules.proofs.Keeps.Changes.{alters, change_sane, run_sane, MayBear, Made, nothing_done, freed_after, altered, born, born_in_new, call_made}
use Rattle.rules.proofs.Keeps.Fixed.{change_shrinks, run_shrinks, freed_shrinks}
use Rattle.rules.proofs.Keeps.NewNamespace as N
use Rattle.rules.proofs.Keeps.NewNamespace.{with_namespace}
use Rattle.rules.proofs.Keeps.Premises as K
use Rattle.rules.proofs.Keeps.Puts.{new_namespace_view}
use Rattle.rules.proofs.Laws.Below.{above_same, below_level, deep_namespace}
use Rattle.rules.proofs.Laws.Facts.{Facts, Taken, Stands, Lives, Below, Seen, lives_taken, not_ended, seen_taken, seen_below, is_seen, root_namespace, facts, Sane, sane}
use Rattle.rules.proofs.Laws.Find.{Lowest, lowest_is}
use Rattle.rules.proofs.Laws.Steps.{made_or_refused}
use Rattle.rules.proofs.Laws.Tests.{no_so, isnt_so, same_or, tests}
use Rattle.rules.specs.Births.{birth}
use Rattle.rules.specs.Calls.{new_namespace}
use Rattle.rules.specs.Claims.{NumberFresh, NextNumber, Unused}
use Rattle.table.specs.Limits.{deepest, namespace_slots, greatest_pid, restart_pid}
use Rattle.rules.specs.Pids.{free_pid, free_namespace_slot, free_slot, next_pid}
use Rattle.rules.specs.Read.{View, below, dead, living, pid_seen, seen, taken, unborn, view}
use Rattle.rules.specs.Sound.{SoundTable, zero_namespace}
use Rattle.table.specs.Tests.{when◌then◌else◌}
use Rattle.table.specs.declared.Table.{Table}

-- ---- the number that the search gives

pub next_rule : (v : View) → Facts v → (n : ℕ) → NextNumber v n (next_pid v n)
unfolding Unused next_pid
next_rule v f n =
    let a = next_fresh v n in
    record { unused = free_is v f n _ a.free; within = (a.above, a.within); lowest = go (leb (low v n) greatest_pid) refl }
  where
    r : Lowest (free_pid v n) (greatest_pid - v.last n) (suc (v.last n)) (low v n)
    r = lowest_is _ _ _

    q : Lowest (free_pid v n) (suc greatest_pid - restart_pid) restart_pid (again v n)
    q = lowest_is _ _ _

    held : (j : ℕ) → free_pid v n j ≡ false → Unused v n j → ⊥
    held j e u = no_so e (is_free v n j u)

    Rule : ℕ → Type 0
    Rule k =
        ((v.last n < k) × ((j : ℕ) → v.last n < j → j < k → Unused v n j → ⊥))
        ⊎ (((j : ℕ) → v.last n < j → j ≤ greatest_pid → Unused v n j → ⊥) × (restart_pid ≤ k) × ((j : ℕ) → restart_pid ≤ j → j < k → Unused v n j → ⊥))

    beyond : leb (low v n) greatest_pid ≡ false → Dec (greatest_pid < low v n) → greatest_pid < low v n
    beyond e (yes l) = l
    beyond e (no o) = absurd (no_so e (le-leb (low v n) greatest_pid (omega arith)))

    go : (b : Bool) → leb (low v n) greatest_pid ≡ b → Rule (when b then low v n else again v n)
    go true e = inl (omega (arith, r.from), λ j x y. held j (r.none_before j (omega arith) y))
    go false e = let l = beyond e (dec_lt greatest_pid (low v n)) in inr (λ j x y. held j (r.none_before j (omega arith) (omega arith)), q.from, λ j x y. held j (q.none_before j x y))

-- ---- a birth

-- the newborn of u have v's next numbers
abbrev Numbered : View → View → Type 0
Numbered v u = (i : ℕ) → (Taken v i → ⊥) → Taken u i → (b : ℕ) → Below u (u.own i) b → NextNumber v b (pid_seen u b i) × (u.last b ≡ pid_seen u b i)

born_numbered : (v : View) → Facts v → (c n k : ℕ) → Numbered v (with_born v c n k)
unfolding taken below pid_seen
born_numbered v f c n k i o t b h = ⊎_elim (λ x. go (eq-eqb i k x)) (λ e. absurd (o (rw e at t))) (same_or i k)
  where
    go : eqb i k ≡ true → NextNumber v b (pid_seen (with_born v c n k) b i) × ((with_born v c n k).last b ≡ pid_seen (with_born v c n k) b i)
    go e =
        let d : Below v n b = rw e at h in
        let q : pid_seen (with_born v c n k) b i ≡ next_pid v b = rw (e, le-leb (v.level b) (v.level n) (below_level v f n b d)) (ap (next_pid v) (above_same v f n b d)) in
        let l : (with_born v c n k).last b ≡ next_pid v b = rw d in
        (subst (NextNumber v b) (sym q) (next_rule v f b), l ∙ sym q)

pub birth_numbered : (t : Table) → Sane t → (c n : ℕ) → MayBear (view t) c n → Numbered (view t) (view (birth t c n))
birth_numbered t s c n m =
    let (room, free) = K.free_slot_is (view t) m.room in
    subst (Numbered (view t)) (sym (birth_view t s.shape_of s.facts c n m.namespace room)) (born_numbered (view t) s.facts c n (free_slot (view t)))

-- ---- a birth in a new namespace

module _ (v : View) (f : Facts v) (a j : ℕ) (a_namespace : Stands v a) (low : v.level a < deepest) (not_dead : So (dead v a) → ⊥) (not_unborn : So (unborn v a) → ⊥) (j_low : j < namespace_slots) (j_free : Stands v j → ⊥) where
  abbrev w : View
  w = with_namespace v a j

  seen_too : (m i : ℕ) → Seen v m i → Seen w m i
  unfolding seen taken
  seen_too m i h = let x = seen_taken v m i h in is_seen w m i x (N.below_old v f a j a_namespace low not_dead not_unborn j_low j_free (v.own i) m (f.members i x).0.0 ∙ seen_below v m i h)

  none_in : (m i : ℕ) → m ≡ j → Seen v m i → ⊥
  none_in m i e h = N.none_seen v f a j a_namespace low not_dead not_unborn j_low j_free m i e (seen_too m i h)

  unused_there : (m k : ℕ) → Unused w m k → Unused v m k
  unfolding Unused
  unused_there m k h i s e = ⊎_elim (λ x. none_in m i x s) (λ o. h i (seen_too m i s) (N.same_pid v f a j a_namespace low not_dead not_unborn j_low j_free m i o ∙ e)) (same_or m j)

  unused_back : (m k : ℕ) → Unused v m k → Unused w m k
  unfolding Unused
  unused_back m k h i s e =
      let z = N.was_seen v f a j a_namespace low not_dead not_unborn j_low j_free m i s in
      ⊎_elim (λ x. none_in m i x z) (λ o. h i z (sym (N.same_pid v f a j a_namespace low not_dead not_unborn j_low j_free m i o) ∙ e)) (same_or m j)

  same_last : (m : ℕ) → w.last m ≡ v.last m
  unfolding zero_namespace
  same_last m = ⊎_elim (λ x. rw (eq-eqb m j x) (sym (simp tests at (f.empty_namespace m (λ s. j_free (subst (Stands v) x s)))).0.1)) (λ o. rw o) (same_or m j)

  pub number_back : (m k : ℕ) → NextNumber w m k → NextNumber v m k
  number_back m k h =
      record {
        unused = unused_there m k h.unused;
        within = h.within;
        lowest =
            ⊎_elim
            (λ (x, y). inl (omega (arith, x, same_last m), λ j p q u. y j (omega (arith, p, same_last m)) q (unused_back m j u)))
            (λ (x, y, z). inr (λ j p q u. x j (omega (arith, p, same_last m)) q (unused_back m j u), y, λ j p q u. z j p q (unused_back m j u)))
            h.lowest;
      }

-- ---- each call

pub new_numbered : (t : Table) → Sane t → (c n : ℕ) → Sane (new_namespace t c) → free_namespace_slot (view t) < namespace_slots → MayBear (view (new_namespace t c)) c n → Numbered (view t) (view (birth (new_namespace t c) c n))
unfolding taken living new_namespace
new_numbered t s c n g room m i o x b h =
    let (p, q) = birth_numbered (new_namespace t c) g c n m i o x b h in
    (back _ (subst (λ u. NextNumber u b (pid_seen (view (birth (new_namespace t c) c n)) b i)) e p), q)
  where
    e : view (new_namespace t c) ≡ with_namespace (view t) ((view t).own c) (free_namespace_slot (view t))
    e = new_namespace_view t s.shape_of c room

    free : Stands (view t) (free_namespace_slot (view t)) → ⊥
    free = (K.free_namespace_is (view t) (λ z. omega (arith, room, z))).1

    deep : (view t).level ((view t).own c) < deepest
    deep =
        let self = eq-eqb (free_namespace_slot (view t)) (free_namespace_slot (view t)) refl in
        let f : Facts (with_namespace (view t) ((view t).own c) (free_namespace_slot (view t))) = subst Facts e g.facts in
        let there = deep_namespace (with_namespace (view t) ((view t).own c) (free_namespace_slot (view t))) (free_namespace_slot (view t)) ((view t).level ((view t).own c)) (rw self) in
        rw self at (f.tree (free_namespace_slot (view t)) there (λ z. free (root_namespace (view t) _ z))).1

    back : (k : ℕ) → NextNumber (with_namespace (view t) ((view t).own c) (free_namespace_slot (view t))) b k → NextNumber (view t) b k
    back k z =
        let l : Lives (view t) c = m.lives in
        let y = s.facts.members c (lives_taken (view t) c l) in
        number_back (view t) s.facts ((view t).own c) (free_namespace_slot (view t)) y.0.0 deep (λ d. not_ended (view t) c l (y.0.1 d)) y.1 room free b k z

made_numbered : (t u : Table) → SoundTable t → Made t u → Numbered (view t) (view u)
made_numbered t u h nothing_done i o x = absurd (o x)
made_numbered t u h (freed_after y r) i o x = absurd (o (run_shrinks t y (sane t h) r i (freed_shrinks y (run_sane t y (sane t h) r) i x).0).0)
made_numbered t u h (altered c l z fine) i o x = absurd (o (change_shrinks t u (sane t h) (alters c l ((view t).state c) (isnt_so (not_ended (view t) c l)) ((facts t h).ends_kept c (lives_taken (view t) c l)) z fine) i x).0)
made_numbered t u h (born c n m) i o x = birth_numbered t (sane t h) c n m i o x
made_numbered t u h (born_in_new c n k room m) i o x = new_numbered t (sane t h) c n (change_sane t (new_namespace t c) (sane t h) k) room m i o x

pub number_fresh : NumberFresh
unfolding NumberFresh
number_fresh t c i call h o = made_or_refused (λ u. Taken (view u) i → (n : ℕ) → Below (view u) ((view u).own i) n → NextNumber (view t) n (pid_seen (view u) n i) × ((view u).last n ≡ pid_seen (view u) n i)) t c call h (λ x. absurd (o x)) (λ r. made_numbered t _ h (call_made t c h r call) i o)
