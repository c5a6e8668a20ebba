-- What is to prove of each call, made by two running callers with the same number in S and by an outsider; and the
-- calls that leave who is where: getpid, getppid, handle, poll.
use Prim.Native.Nat.{ℕ}
use mathlib.Core.Bool.{So, Bool, true, false, not, false≢true}
use mathlib.Core.Logic.{◌⊎◌, inl, inr}
use mathlib.Core.Path.{◌≡◌, refl, sym, subst, subst₂, ◌∙◌, ap}
use lib.Dec.{eqb}
use lib.IntN.{ℤ}
use Rattle.rules.proofs.Laws.Facts.{facts}
use Rattle.rules.proofs.Laws.Judged.{Alike, None, gives, gives_granted, judged_twins, made, made_is, not_refused, refusals}
use Rattle.rules.proofs.Laws.Steps.{step_made, runs_lives}
use Rattle.rules.proofs.Laws.Tests.{left, isnt, or_true, right}
use Rattle.rules.proofs.Laws.Slots.{living_own_alive, alive_taken}
use Rattle.sameness.proofs.Freeing.{after}
use Rattle.sameness.proofs.Same.{Same, sheets_of_same}
use Rattle.sameness.proofs.Twins.{Pair, Twin, Twins, twin_rows, owns, pid_twins}
use Rattle.sameness.proofs.Cases.{by_test}
use Rattle.sameness.proofs.Still.{same_still, put_still}
use Rattle.sameness.proofs.Light.{shown, same_put, shown_as}
use Rattle.sameness.proofs.Readers.{parent_pid}
use Rattle.rules.specs.Answers.{is_no_room, shown as ShownOf, number_of, refusal_number, refused, answers, granted, is_refused}
use Rattle.sameness.specs.Events.{at, follow, sheet_of, Place, gone, is_inside, outside}
use Rattle.rules.specs.Read.{namespace_taken, view, seen, alive}
use Rattle.sameness.specs.Sheet.{sheet, row}
use Rattle.rules.specs.Sound.{SoundTable}
use Rattle.rules.specs.Step.{make, runs}
use Rattle.table.specs.Tests.{◌or◌, ◌and◌}
use Rattle.table.specs.declared.Call.{Call}
use Rattle.table.specs.declared.Outcome.{Outcome}
use Rattle.table.specs.declared.Refusal.{Refusal}
use Rattle.table.specs.declared.Table.{Table}
use Rattle.rules.specs.Calls.{getpid, getppid, handle_off, handle_on, natural, poll, taken_up}
use Rattle.table.specs.Limits.{signals}
use Rattle.table.specs.Slots.{process, put}
use Rattle.table.specs.SignalSets.{lowest_signal, with_signal, without_signal}
use Rattle.sameness.specs.Touches.{allowed, touches, touched}
use Rattle.table.specs.declared.Call.TheVariants.{Getpid, Getppid, Handle, Poll}
use Rattle.table.specs.declared.Answer.TheVariants.{Number}
use Rattle.table.specs.declared.Refusal.TheVariants.{Eagain}
use Rattle.table.specs.Traits.{with_signals}
use Rattle.table.specs.declared.Traits.{Traits}
use Rattle.table.specs.Records.{with_traits}

-- ---- by two running callers with the same number in S

-- S stands at its place, or it was freed
abbrev pub PlaceStands : Table → Place → Type 0
PlaceStands t (at s) = So (namespace_taken (view t) s)
PlaceStands t (gone l) = Unit {0}

-- a call that nobody makes leaves S where it is
pub follow_self : (t : Table) (p : Place) → PlaceStands t p → follow t t p ≡ p
unfolding follow
follow_self t (gone l) h = refl
follow_self t (at s) h = rw h

-- no room on one table, or the same answer and the same sheet
abbrev pub Kept : Table → Table → ℕ → ℕ → Outcome → Outcome → Type 0
Kept t u s r x y =
    So (is_no_room (ShownOf x.reply.answer) or is_no_room (ShownOf y.reply.answer))
    ⊎ ((x.reply.answer ≡ y.reply.answer) × (after t s x.table ≡ after u r y.table))

-- two tables, S alive in both, and two callers, running, with the same number there
pub record Ready (t u : Table) (s r i j : ℕ) : Type 0 where
  pub sound_t : SoundTable t
  pub sound_u : SoundTable u
  pub pair : Pair (view t) (view u) s r
  pub twin : Twin (view t) (view u) s r i j
  pub runs_t : So (runs (view t) i)
  pub runs_u : So (runs (view u) j)

-- what is to prove of a call
abbrev pub MadeSame : Call → Type 0
MadeSame c = (t u : Table) (s r i j : ℕ) → Ready t u s r i j → SoundTable (make t i c).table → SoundTable (make u j c).table → Kept t u s r (make t i c) (make u j c)

-- first that the callers' tests agree, but for those of -11
abbrev pub TestsAlike : Call → Type 0
TestsAlike c = (t u : Table) (s r i j : ℕ) → Ready t u s r i j → Alike (refusals (view t) i c) (refusals (view u) j c)

-- and then of what the call gives where neither is refused
abbrev pub GivesSame : Call → Type 0
GivesSame c =
    (t u : Table) (s r i j : ℕ) → Ready t u s r i j → None (refusals (view t) i c) → None (refusals (view u) j c) → SoundTable (gives t i c tt).table → SoundTable (gives u j c tt).table
    → Kept t u s r (gives t i c tt) (gives u j c tt)

-- a refusal by both
pub refused_same : (t u : Table) (s r : ℕ) (e : Refusal) → So (namespace_taken (view t) s) → So (namespace_taken (view u) r) → sheet (view t) s ≡ sheet (view u) r → Kept t u s r (refused t e) (refused u e)
unfolding refused sheet_of
refused_same t u s r e hs hr q = inr (refl, rw (follow_self t (at s) hs, follow_self u (at r) hr) q)

-- no room on one of the tables
no_room_left : (t u : Table) (s r : ℕ) (y : Outcome) → Kept t u s r (refused t Eagain) y
unfolding refused is_no_room number_of refusal_number ◌or◌
no_room_left t u s r y = inl refl

no_room_right : (t u : Table) (s r : ℕ) (x : Outcome) → Kept t u s r x (refused u Eagain)
unfolding refused is_no_room number_of refusal_number
no_room_right t u s r x = inl (or_true (is_no_room (ShownOf x.reply.answer)))

-- S stands after the call, and the tables are the same to it
pub stands_same : (t u : Table) {t' u' : Table} {s r : ℕ} → SoundTable t' → SoundTable u' → So (namespace_taken (view t') s) → So (namespace_taken (view u') r) → Same (view t') (view u') s r → after t s t' ≡ after u r u'
unfolding follow sheet_of
stands_same t u {t'} {u'} h g hs hr w = rw (hs, hr) (sheets_of_same (facts t' h) (facts u' g) hs hr w)

-- ---- by a running outsider

-- what is to prove of a call made by a running outsider
abbrev pub MadeLeaves : Call → Type 0
MadeLeaves c =
    (t : Table) (s i : ℕ) → SoundTable t → So (namespace_taken (view t) s) → So (runs (view t) i) → So (allowed t (at s) (outside i c)) → SoundTable (make t i c).table
    → after t s (make t i c).table ≡ sheet (view t) s

-- and of what it gives where the caller is not refused
abbrev pub GivesLeaves : Call → Type 0
GivesLeaves c =
    (t : Table) (s i : ℕ) → SoundTable t → So (namespace_taken (view t) s) → So (runs (view t) i) → None (refusals (view t) i c)
    → seen (view t) s i ≡ false → touched t (gives t i c tt).table (at s) i c ≡ false → SoundTable (gives t i c tt).table
    → after t s (gives t i c tt).table ≡ sheet (view t) s

-- the table as it was
pub as_it_was : (t : Table) (s : ℕ) → So (namespace_taken (view t) s) → after t s t ≡ sheet (view t) s
unfolding sheet_of
as_it_was t s h = rw (follow_self t (at s) h)

-- the caller is not of the subtree
outsider : (t : Table) (s i : ℕ) (c : Call) → So (allowed t (at s) (outside i c)) → seen (view t) s i ≡ false
unfolding allowed is_inside
outsider t s i c a = isnt _ (left _ _ a)

-- a granted call that is allowed makes no touch
granted_not : (r b : Bool) → r ≡ false → So (not (not r and b)) → b ≡ false
unfolding ◌and◌
granted_not true b e h = absurd (false≢true (sym e))
granted_not false b e h = isnt b h

untouched_made : {t : Table} (s i : ℕ) (c : Call) → SoundTable t → So (runs (view t) i) → So (allowed t (at s) (outside i c)) → (o : Outcome) → make t i c ≡ o → is_refused o.reply.answer ≡ false → touched t o.table (at s) i c ≡ false
unfolding allowed touches
untouched_made {t} s i c h k a o q e =
    granted_not (is_refused o.reply.answer) (touched t o.table (at s) i c) e
    (subst (λ (y : Outcome). So (not (not (is_refused y.reply.answer) and touched t y.table (at s) i c))) (step_made t i c h k ∙ q) (right _ _ a))

pub made_leaves : (c : Call) → GivesLeaves c → MadeLeaves c
unfolding refused
made_leaves c g t s i h hs k a =
    made_is (λ o. SoundTable o.table → after t s o.table ≡ sheet (view t) s) t i c (λ e m. as_it_was t s hs)
    (λ n q. g t s i h hs k n (outsider t s i c a) (untouched_made s i c h k a (gives t i c tt) q (not_refused (gives t i c tt) (gives_granted t i c))))

-- S stands, and each row that was there is there, and no other
pub stands_leaves : {t t' : Table} {s : ℕ} → SoundTable t → SoundTable t' → So (namespace_taken (view t) s) → So (namespace_taken (view t') s) → Same (view t') (view t) s s → after t s t' ≡ sheet (view t) s
unfolding follow sheet_of
stands_leaves {t} {t'} h h' k k' w = rw k' (sheets_of_same (facts t' h') (facts t h) k' k w)

-- other traits of an outsider
traits_leave : {t : Table} (s i : ℕ) (x : Traits) → SoundTable t → SoundTable (put t i (with_traits (process t i) x)) → So (namespace_taken (view t) s) → seen (view t) s i ≡ false → after t s (put t i (with_traits (process t i) x)) ≡ sheet (view t) s
unfolding namespace_taken
traits_leave {t} s i x h g hs o = stands_leaves h g hs hs (same_still (facts t h) (put_still t (facts t h) i (with_traits (process t i) x) (refl, refl, refl) s o))

pub getpid_leaves : GivesLeaves Getpid
unfolding getpid answers granted
getpid_leaves t s i h hs k n o x g = as_it_was t s hs

pub getppid_leaves : GivesLeaves Getppid
unfolding getppid answers granted
getppid_leaves t s i h hs k n o x g = as_it_was t s hs

-- handle, and poll
pub handle_leaves : (z : ℤ) (on : Bool) → GivesLeaves (Handle z on)
unfolding handle_on handle_off answers granted
handle_leaves z true t s i h hs k n o x g = traits_leave s i _ h g hs o
handle_leaves z false t s i h hs k n o x g = traits_leave s i _ h g hs o

pub poll_leaves : GivesLeaves Poll
unfolding poll taken_up answers granted
poll_leaves t s i h hs k n o x g =
    by_test (eqb (lowest_signal (process t i).traits.pending) signals) (λ e. rw (e, poll) (as_it_was t s hs))
    (λ e. rw (e, poll) (traits_leave s i _ h (rw (e, poll) at g) hs o))

-- ---- what twin callers have in common

module _ {t u : Table} {s r i j : ℕ} (w : Ready t u s r i j) where
  pub taken_s : So (namespace_taken (view t) s)
  taken_s = alive_taken (view t) (facts t w.sound_t) s w.pair.alive_v

  pub taken_r : So (namespace_taken (view u) r)
  taken_r = alive_taken (view u) (facts u w.sound_u) r w.pair.alive_u

  pub before : sheet (view t) s ≡ sheet (view u) r
  before = sheets_of_same (facts t w.sound_t) (facts u w.sound_u) taken_s taken_r w.pair.same

  -- both refuse alike
  both_refuse : (e : Refusal) → Kept t u s r (refused t e) (refused u e)
  both_refuse e = refused_same t u s r e taken_s taken_r before

  -- both answer alike and leave the table
  pub both_tell : (k l : ℕ) → k ≡ l → Kept t u s r (answers t k) (answers u l)
  unfolding answers granted sheet_of
  both_tell k l e = inr (ap Number e, rw (follow_self t (at s) taken_s, follow_self u (at r) taken_r) before)

  -- both answer alike, and the new tables are the same to S
  pub both_change : {t' u' : Table} (k l : ℕ) → k ≡ l → SoundTable t' → SoundTable u' → So (namespace_taken (view t') s) → So (namespace_taken (view u') r) → Same (view t') (view u') s r → Kept t u s r (answers t' k) (answers u' l)
  unfolding answers granted
  both_change k l e h g hs hr q = inr (ap Number e, stands_same t u h g hs hr q)

  -- the callers' own namespaces live
  pub own_lives : So (alive (view t) ((view t).own i))
  own_lives = living_own_alive (view t) (facts t w.sound_t) i (runs_lives t i w.runs_t)

  -- the callers' own namespaces correspond
  pub owns_twins : Twins (view t) (view u) s r ((view t).own i) ((view u).own j)
  owns_twins = owns w.pair w.twin own_lives

  pub the_rows : row (view t) s i ≡ row (view u) r j
  the_rows = twin_rows w.pair w.twin

-- a call by twin callers: both are refused alike, one lacks room, or neither is refused
pub made_same : (c : Call) → TestsAlike c → GivesSame c → MadeSame c
made_same c a g t u s r i j w h k =
    subst₂ (Kept t u s r) (sym (made t i c)) (sym (made u j c))
    (judged_twins (λ x y. make t i c ≡ x → make u j c ≡ y → Kept t u s r x y) t u (λ e p q. both_refuse w e) (λ y p q. no_room_left t u s r y) (λ x p q. no_room_right t u s r x)
    (gives t i c) (gives u j c) _ _ (a t u s r i j w)
    (λ n m p q. g t u s r i j w n m (subst (λ (o : Outcome). SoundTable o.table) p h) (subst (λ (o : Outcome). SoundTable o.table) q k))
    (made t i c) (made u j c))

-- ---- getpid, getppid

pub getpid_same : GivesSame Getpid
unfolding getpid
getpid_same t u s r i j w n m h g = both_tell w _ _ (pid_twins w.pair w.twin (owns_twins w))

pub getppid_same : GivesSame Getppid
unfolding getppid
getppid_same t u s r i j w n m h g = both_tell w _ _ (parent_pid w.pair w.twin (owns_twins w))

-- ---- handle, poll

module _ {t u : Table} {s r i j : ℕ} (w : Ready t u s r i j) where
  -- both change their traits alike
  traits_kept : (x y : Traits) (k l : ℕ) → x ≡ y → k ≡ l → SoundTable (put t i (with_traits (process t i) x)) → SoundTable (put u j (with_traits (process u j) y)) → Kept t u s r (answers (put t i (with_traits (process t i) x)) k) (answers (put u j (with_traits (process u j) y)) l)
  unfolding namespace_taken
  traits_kept x y k l q e h g =
      let z = shown t u w.pair w.twin in
      both_change w k l e h g (taken_s w) (taken_r w)
      (same_put t u w.pair w.twin w.sound_t.shape w.sound_u.shape (shown_as z z.states q) (refl, refl, refl) (refl, refl, refl))

-- handle, and poll
pub handle_same : (z : ℤ) (on : Bool) → GivesSame (Handle z on)
unfolding handle_on handle_off answers granted
handle_same z true t u s r i j w n m h g =
    let y = shown t u w.pair w.twin in
    traits_kept w _ _ 0 0 (ap (λ (x : Traits). with_signals x (with_signal x.handled (natural z)) x.pending) y.traitss) refl h g
handle_same z false t u s r i j w n m h g =
    let y = shown t u w.pair w.twin in
    traits_kept w _ _ 0 0 (ap (λ (x : Traits). with_signals x (without_signal x.handled (natural z)) (without_signal x.pending (natural z))) y.traitss) refl h g

pub poll_same : GivesSame Poll
unfolding poll taken_up answers granted
poll_same t u s r i j w n m h g =
    let y = shown t u w.pair w.twin in
    let lows = ap (λ (x : Traits). lowest_signal x.pending) y.traitss in
    by_test (eqb (lowest_signal (process t i).traits.pending) signals) (λ e. rw (e, sym (ap (λ x. eqb x signals) lows) ∙ e, poll) (both_tell w 0 0 refl))
    (λ e. rw (e, sym (ap (λ x. eqb x signals) lows) ∙ e, poll)
    (traits_kept w _ _ _ _ (ap (λ (x : Traits). with_signals x x.handled (without_signal x.pending (lowest_signal x.pending))) y.traitss) lows (rw (e, poll) at h) (rw (sym (ap (λ x. eqb x signals) lows) ∙ e, poll) at g)))
