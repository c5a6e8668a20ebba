-- Promise 3: one induction over the two lists of calls, from what single calls do; and its corollary that people will
-- quote, that nothing is learnt inside of what stands outside.
use Prim.Native.Nat.{ℕ}
use native.Mathlib.Omega.{arith}
use mathlib.Core.Bool.{Bool, true, false, So, false≢true, true≢false}
use mathlib.Core.List.{List, ◌∷◌, []}
use mathlib.Core.Logic.{◌⊎◌, inl, inr, ⊎_elim}
use mathlib.Core.Option.{Option, none, some}
use mathlib.Core.Path.{◌≡◌, refl, sym, ◌∙◌, ap, subst}
use borrow.Author.Tests.{eq-eqb, ne_eqb, not-true}
use Rattle.rules.proofs.Keeps.Changes.{keeps_sound, make_sound}
use Rattle.rules.proofs.Laws.Facts.{facts, seen_below}
use Rattle.rules.proofs.Laws.Judged.{alike, all_alike}
use Rattle.rules.proofs.Laws.Lists.{heads_equal, tails_equal, not_empty}
use Rattle.rules.proofs.Laws.Slots.{alive_taken, living_own_alive, alive_above, pid_unique}
use Rattle.rules.proofs.Laws.Steps.{step_made, step_refused, runs_lives}
use Rattle.rules.proofs.Laws.Tests.{left, right}
use Rattle.sameness.proofs.Cases.{by_test}
use Rattle.sameness.proofs.Clone.{clone_alike, clone_new_alike, unshare_alike, clone_same, clone_new_same, unshare_same, clone_leaves, clone_new_leaves, unshare_leaves}
use Rattle.sameness.proofs.Calls.{Kept, PlaceStands, follow_self, refused_same, getpid_leaves, getppid_leaves, handle_leaves, poll_leaves, as_it_was, getpid_same, getppid_same, handle_same, poll_same, TestsAlike, GivesSame, GivesLeaves, made_same, made_leaves}
use Rattle.sameness.proofs.EndLeaves.{exit_leaves}
use Rattle.sameness.proofs.ExitSame.{exit_alike, exit_same}
use Rattle.sameness.proofs.Kill.{kill_alike, kill_same}
use Rattle.sameness.proofs.KillLeaves.{kill_leaves}
use Rattle.sameness.proofs.Readers.{find_same, find_none}
use Rattle.sameness.proofs.Same.{same_of_sheets, level_lt, row_pid}
use Rattle.sameness.proofs.Twins.{Pair, Twin, taken_v, taken_u}
use Rattle.sameness.proofs.Setns.{setns_alike, setns_same, setns_leaves}
use Rattle.sameness.proofs.Wait.{wait_alike, wait_leaves, wait_same}
use Rattle.rules.specs.Answers.{is_no_room, refused, shown}
use Rattle.rules.specs.Claims.{KeepsSound}
use Rattle.sameness.specs.Claims.{Agree, Observed, OutsideLeaves, Sameness, observations, observe, lacks_room, NothingLearnt, roomy}
use Rattle.sameness.specs.Events.{Event, Place, answer_of, at, follow, gone, happens, inside, inside_calls, next_place, next_table, outside, sheet_of, slot_of, table_after}
use Rattle.table.specs.Limits.{process_slots}
use Rattle.table.specs.Slots.{is_running}
use Rattle.rules.specs.Read.{View, find, namespace_taken, seen, view, alive}
use Rattle.sameness.specs.Sheet.{sheet, Row, row}
use Rattle.rules.specs.Sound.{SoundTable}
use Rattle.rules.specs.Step.{step, runs}
use Rattle.table.specs.Tests.{◌or◌, when◌then◌else◌, ◌and◌}
use Rattle.sameness.specs.Touches.{allowed, untouched}
use Rattle.table.specs.declared.Call.TheVariants.{Getpid, Getppid, Handle, Poll, Clone, CloneNew, Unshare, Setns, Kill, Exit, Wait}
use Rattle.table.specs.declared.Call.{Call}
use Rattle.table.specs.declared.Outcome.{Outcome}
use Rattle.table.specs.declared.Refusal.TheVariants.{NotRunning}
use Rattle.table.specs.declared.Table.{Table}
use Rattle.table.proofs.Chains.{or_false}

-- ---- each call

-- by two callers with the same number in S, and by an outsider
each : (c : Call) → TestsAlike c × GivesSame c × GivesLeaves c
each Clone = (clone_alike, clone_same, clone_leaves)
each CloneNew = (clone_new_alike, clone_new_same, clone_new_leaves)
each Unshare = (unshare_alike, unshare_same, unshare_leaves)
each (Setns n) = (setns_alike n, setns_same n, setns_leaves n)
each (Kill n s) = (kill_alike n s, kill_same n s, kill_leaves n s)
each (Exit s) = (exit_alike s, exit_same s, exit_leaves s)
each Wait = (wait_alike, wait_same, wait_leaves)
each Getpid = (λ t u s r i j w. all_alike, getpid_same, getpid_leaves)
each Getppid = (λ t u s r i j w. all_alike, getppid_same, getppid_leaves)
each (Handle s on) = (λ t u s r i j w. alike refl all_alike, handle_same s on, handle_leaves s on)
each Poll = (λ t u s r i j w. all_alike, poll_same, poll_leaves)

-- an outside call that makes no touch leaves the sheet
pub outside_leaves : OutsideLeaves
unfolding OutsideLeaves happens table_after refused
outside_leaves t s i c h hs a =
    by_test (runs (view t) i) (λ k. rw (step_made t i c h k) (made_leaves c (each c).2 t s i h hs k a (make_sound t i c h k)))
    (λ k. rw (step_refused t i c h k) (as_it_was t s hs))

runs_alive : {t : Table} (s i : ℕ) → SoundTable t → So (seen (view t) s i) → So (runs (view t) i) → So (alive (view t) s)
runs_alive {t} s i h k a =
    alive_above (view t) (facts t h) ((view t).own i) s (living_own_alive (view t) (facts t h) i (runs_lives t i a)) (seen_below (view t) s i k)

runs_same : {v u : View} {s r i j : ℕ} → Twin v u s r i j → row v s i ≡ row u r j → runs v i ≡ runs u j
unfolding runs row
runs_same k e = rw (taken_v k, taken_u k) (ap (λ (q : Row). true and is_running q.state) e)

-- An inside call, by the same number in S on both tables: no room on one, or the same answer and the same sheet.
inside_same : {t u : Table} {s r i j : ℕ} (c : Call) → SoundTable t → SoundTable u → So (namespace_taken (view t) s) → So (namespace_taken (view u) r) → sheet (view t) s ≡ sheet (view u) r → Twin (view t) (view u) s r i j → Kept t u s r (step t i c) (step u j c)
inside_same {t} {u} {s} {r} {i} {j} c h g hs hr e m =
    let w = same_of_sheets (facts t h) (facts u g) e in
    let (x, n, q) = w.there i m.seen_v in
    let rows : row (view t) s i ≡ row (view u) r j =
    q ∙ ap (row (view u) r) (pid_unique (view u) (facts u g) r x j hr n m.seen_u (sym (row_pid (view t) (view u) s r i x (level_lt (facts t h) s hs) (level_lt (facts u g) r hr) q) ∙ m.pids)) in
    let both_run = runs_same m rows in
    by_test (runs (view t) i)
    (λ k.
    let l : So (runs (view u) j) = sym both_run ∙ k in
    let p : Pair (view t) (view u) s r = record { facts_v = facts t h; facts_u = facts u g; alive_v = runs_alive s i h m.seen_v k; alive_u = runs_alive r j g m.seen_u l; same = w } in
    rw (step_made t i c h k, step_made u j c g l)
    (made_same c (each c).0 (each c).1 t u s r i j (record { sound_t = h; sound_u = g; pair = p; twin = m; runs_t = k; runs_u = l }) (make_sound t i c h k) (make_sound u j c g l)))
    (λ k. rw (step_refused t i c h k, step_refused u j c g (sym both_run ∙ k)) (refused_same t u s r NotRunning hs hr e))

-- ---- the relation that every call keeps

record Alike (t : Table) (p : Place) (u : Table) (q : Place) : Type 0 where
  sound_t : SoundTable t
  sound_u : SoundTable u
  stands_t : PlaceStands t p
  stands_u : PlaceStands u q
  sheets : sheet_of t p ≡ sheet_of u q

follow_stands : (t u : Table) (p : Place) → PlaceStands u (follow t u p)
unfolding follow
follow_stands t u (gone l) = tt
follow_stands t u (at s) = go (namespace_taken (view u) s) refl
  where
    go : (b : Bool) → namespace_taken (view u) s ≡ b → PlaceStands u (when b then at s else gone ((view t).level s))
    go true e = e
    go false e = tt

-- ---- outside calls

outside_sheet : {t : Table} (p : Place) (i : ℕ) (c : Call) → SoundTable t → PlaceStands t p → So (allowed t p (outside i c)) → sheet_of (next_table t p (outside i c)) (next_place t p (outside i c)) ≡ sheet_of t p
unfolding OutsideLeaves sheet_of follow
outside_sheet {t} (at s) i c h k a = outside_leaves t s i c h k a
outside_sheet (gone l) i c h k a = refl

outside_sound : {t : Table} (p : Place) (i : ℕ) (c : Call) → SoundTable t → SoundTable (next_table t p (outside i c))
unfolding happens table_after KeepsSound
outside_sound {t} p i c h = keeps_sound t i c h

left_step : {t u : Table} {p q : Place} (i : ℕ) (c : Call) → Alike t p u q → So (allowed t p (outside i c)) → Alike (next_table t p (outside i c)) (next_place t p (outside i c)) u q
left_step {t} {p} i c w a =
    record {
      sound_t = outside_sound p i c w.sound_t;
      sound_u = w.sound_u;
      stands_t = follow_stands t (next_table t p (outside i c)) p;
      stands_u = w.stands_u;
      sheets = outside_sheet p i c w.sound_t w.stands_t a ∙ w.sheets;
    }

flip_alike : {t u : Table} {p q : Place} → Alike t p u q → Alike u q t p
flip_alike w = record { sound_t = w.sound_u; sound_u = w.sound_t; stands_t = w.stands_u; stands_u = w.stands_t; sheets = sym w.sheets }

right_step : {t u : Table} {p q : Place} (i : ℕ) (c : Call) → Alike t p u q → So (allowed u q (outside i c)) → Alike t p (next_table u q (outside i c)) (next_place u q (outside i c))
right_step i c w a = flip_alike (left_step i c (flip_alike w) a)

-- ---- inside calls

-- nobody is named
nobody : (t : Table) (p : Place) (k : ℕ) (c : Call) → slot_of t p k ≡ process_slots → happens t p (inside k c) ≡ none
unfolding happens
nobody t p k c e = rw (eq-eqb (slot_of t p k) process_slots e)

-- somebody is
somebody : (t : Table) (s k : ℕ) (c : Call) → (find (view t) s k ≡ process_slots → ⊥) → happens t (at s) (inside k c) ≡ some (step t (find (view t) s k) c)
unfolding happens slot_of
somebody t s k c e = rw (ne_eqb (find (view t) s k) process_slots e)

-- the outcome is "no room"
abbrev full : Option Outcome → Bool
full x = elim (answer_of x) [ none ↦ false | some a ↦ is_no_room a ]

-- the two outcomes, and what they make of the relation
abbrev Between : Table → Place → Table → Place → Option Outcome → Option Outcome → Type 0
Between t p u q x y =
    So (full x or full y)
    ⊎ ((answer_of x ≡ answer_of y) × Alike (table_after t x) (follow t (table_after t x) p) (table_after u y) (follow u (table_after u y) q))

-- nobody: all stays
stay : {t u : Table} {p q : Place} → Alike t p u q → Between t p u q none none
unfolding table_after
stay {t} {u} {p} {q} w =
    inr
    (refl, record { sound_t = w.sound_t; sound_u = w.sound_u; stands_t = rw (follow_self t p w.stands_t) w.stands_t; stands_u = rw (follow_self u q w.stands_u) w.stands_u; sheets = rw (follow_self t p w.stands_t, follow_self u q w.stands_u) w.sheets })

none_named : {t u : Table} {p q : Place} (k : ℕ) (c : Call) → Alike t p u q → slot_of t p k ≡ process_slots → slot_of u q k ≡ process_slots → Between t p u q (happens t p (inside k c)) (happens u q (inside k c))
none_named {t} {u} {p} {q} k c w e d = rw (nobody t p k c e, nobody u q k c d) (stay w)

one_named : {t u : Table} {s r i j : ℕ} (c : Call) → Alike t (at s) u (at r) → Twin (view t) (view u) s r i j → Between t (at s) u (at r) (some (step t i c)) (some (step u j c))
unfolding table_after answer_of sheet_of KeepsSound
one_named {t} {u} {s} {r} {i} {j} c w n =
    ⊎_elim (λ x. inl x)
    (λ x. inr (ap (λ a. some (shown a)) x.0, record { sound_t = keeps_sound t i c w.sound_t; sound_u = keeps_sound u j c w.sound_u; stands_t = follow_stands t (step t i c).table (at s); stands_u = follow_stands u (step u j c).table (at r); sheets = x.1 }))
    (inside_same c w.sound_t w.sound_u w.stands_t w.stands_u w.sheets n)

inside_step : {t u : Table} (p q : Place) (k : ℕ) (c : Call) → Alike t p u q → Between t p u q (happens t p (inside k c)) (happens u q (inside k c))
unfolding slot_of sheet_of
inside_step {t} {u} (at s) (at r) k c w =
    ⊎_elim (λ x. none_named k c w x.0 x.1)
    (λ n. rw (somebody t s k c (λ e. omega (arith, (facts t w.sound_t).in_range _ (taken_v n), e)), somebody u r k c (λ e. omega (arith, (facts u w.sound_u).in_range _ (taken_u n), e))) (one_named c w n))
    (find_same s r k (facts t w.sound_t) (facts u w.sound_u) w.stands_t w.stands_u w.sheets)
inside_step {t} (at s) (gone l) k c w = none_named k c w (find_none s k (facts t w.sound_t) (ap (λ x. x.rows) w.sheets)) refl
inside_step {u} (gone l) (at r) k c w = none_named k c w refl (find_none r k (facts u w.sound_u) (ap (λ x. x.rows) (sym w.sheets)))
inside_step (gone l) (gone m) k c w = none_named k c w refl refl

-- ---- the two lists

abbrev Goal : Table → Place → List Event → Table → Place → List Event → Type 0
Goal t p es u q fs =
    Alike t p u q → inside_calls es ≡ inside_calls fs → So (untouched t p es) → So (untouched u q fs) → Agree (observations t p es) (observations u q fs)

-- the first list is at its end
last : (t u : Table) (p q : Place) (fs : List Event) → Goal t p [] u q fs
unfolding inside_calls untouched observations observe Agree ◌or◌ lacks_room
last t u p q [] w e a b = ((λ i. record { answer = none; sheet = w.sheets i }), tt)
last t u p q (inside k c ∷ fs) w e a b = absurd (not_empty (k, c) (inside_calls fs) (sym e))
last t u p q (outside i c ∷ fs) w e a b =
    last t (next_table u q (outside i c)) p (next_place u q (outside i c)) fs (right_step i c w (left _ _ b)) e a (right _ _ b)

-- both begin with an inside call
both_inside : (k : ℕ) (c : Call) (es fs : List Event) → ((t u : Table) (p q : Place) (fs : List Event) → Goal t p es u q fs) → (t u : Table) (p q : Place) → Goal t p (inside k c ∷ es) u q (inside k c ∷ fs)
unfolding inside_calls untouched observations observe Agree lacks_room
both_inside k c es fs rest t u p q w e a b = go (full x or full y) refl (inside_step p q k c w)
  where
    x : Option Outcome
    x = happens t p (inside k c)

    y : Option Outcome
    y = happens u q (inside k c)

    go : (z : Bool) → full x or full y ≡ z → Between t p u q x y → (when z then Unit {0} else (◌≡◌ {A = Observed} (record { answer = answer_of x; sheet = sheet_of (table_after t x) (follow t (table_after t x) p) }) (record { answer = answer_of y; sheet = sheet_of (table_after u y) (follow u (table_after u y) q) }) × Agree (observations (table_after t x) (follow t (table_after t x) p) es) (observations (table_after u y) (follow u (table_after u y) q) fs)))
    go true r h = tt
    go false r (inl h) = absurd (false≢true (sym r ∙ h))
    go false r (inr (h, n)) =
        ((λ i. record { answer = h i; sheet = n.sheets i }), rest (table_after t x) (table_after u y) (follow t (table_after t x) p) (follow u (table_after u y) q) fs n (tails_equal (k, c) (k, c) (inside_calls es) (inside_calls fs) e) (right _ _ a) (right _ _ b))

-- the first list begins with an inside call
first : (k : ℕ) (c : Call) (es : List Event) → ((t u : Table) (p q : Place) (fs : List Event) → Goal t p es u q fs) → (t u : Table) (p q : Place) (fs : List Event) → Goal t p (inside k c ∷ es) u q fs
unfolding inside_calls untouched observations observe Agree lacks_room
first k c es rest t u p q [] w e a b = absurd (not_empty (k, c) (inside_calls es) e)
first k c es rest t u p q (inside l d ∷ fs) w e a b =
    subst (λ x. Goal t p (inside k c ∷ es) u q (inside x.0 x.1 ∷ fs)) (heads_equal (k, c) (l, d) (inside_calls es) (inside_calls fs) e)
    (both_inside k c es fs rest t u p q) w e a b
first k c es rest t u p q (outside i d ∷ fs) w e a b =
    first k c es rest t (next_table u q (outside i d)) p (next_place u q (outside i d)) fs (right_step i d w (left _ _ b)) e a (right _ _ b)

-- it begins with an outside one
outside_first : (t u : Table) (p q : Place) (i : ℕ) (c : Call) (es fs : List Event) → Goal (next_table t p (outside i c)) (next_place t p (outside i c)) es u q fs → Goal t p (outside i c ∷ es) u q fs
unfolding inside_calls untouched observations observe
outside_first t u p q i c es fs rest w e a b = rest (left_step i c w (left _ _ a)) e (right _ _ a) b

both_lists : (es fs : List Event) (t u : Table) (p q : Place) → Goal t p es u q fs
both_lists [] fs t u p q = last t u p q fs
both_lists (inside k c ∷ es) fs t u p q = first k c es (λ t' u' p' q' gs. both_lists es gs t' u' p' q') t u p q fs
both_lists (outside i c ∷ es) fs t u p q =
    outside_first t u p q i c es fs (both_lists es fs (next_table t p (outside i c)) u (next_place t p (outside i c)) q)

-- promise 3
pub sameness : Sameness
unfolding Sameness sheet_of
sameness t u s r h g a b e es fs i x y =
    both_lists es fs t u (at s) (at r) (record { sound_t = h; sound_u = g; stands_t = alive_taken (view t) (facts t h) s a; stands_u = alive_taken (view u) (facts u g) r b; sheets = e }) i x y

-- ---- nothing is learnt

-- what agrees up to the first "no room" is the same where there is none
agreed : (os qs : List Observed) → Agree os qs → So (roomy os) → So (roomy qs) → os ≡ qs
unfolding Agree roomy
agreed [] [] a h k = refl
agreed [] (q ∷ qs) a h k = absurd a
agreed (o ∷ os) [] a h k = absurd a
agreed (o ∷ os) (q ∷ qs) a h k =
    let none : (lacks_room o or lacks_room q) ≡ false =
    or_false (lacks_room o) (lacks_room q) (not-true (lacks_room o) (left _ _ h)) (not-true (lacks_room q) (left _ _ k)) in
    go (lacks_room o or lacks_room q) none a (λ b. agreed os qs b (right _ _ h) (right _ _ k))
  where
    go : (b : Bool) → b ≡ false → (when b then Unit {0} else ((o ≡ q) × Agree os qs)) → (Agree os qs → os ≡ qs) → ◌≡◌ {A = List Observed} (o ∷ os) (q ∷ qs)
    go true e a f = absurd (true≢false e)
    go false e a f = ap (λ x. x ∷ os) a.0 ∙ ap (λ x. q ∷ x) (f a.1)

pub nothing_learnt : NothingLearnt
unfolding NothingLearnt Sameness
nothing_learnt t u s r a b c d e es fs i j k h g = agreed _ _ (sameness t u s r a b c d e es fs i j k) h g
