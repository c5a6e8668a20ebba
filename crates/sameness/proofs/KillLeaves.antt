-- kill by an outsider: a signal to nobody of S, and no end of an init above S.
use Prim.Native.Nat.{ℕ, ◌<◌}
use mathlib.Core.Bool.{Bool, true, false, not, So, false≢true}
use mathlib.Core.List.{List, ◌∷◌, []}
use mathlib.Core.Path.{◌≡◌, refl, sym, ◌∙◌, ap, subst}
use lib.Dec.{eqb}
use lib.IntN.{ℤ}
use Rattle.table.specs.declared.Refusal.TheVariants.{Einval}
use Rattle.rules.proofs.Keeps.Changes.{deliver_sane, deliver_all_sane}
use Rattle.rules.proofs.Keeps.Deliver.{Safe, Good, action_good}
use Rattle.rules.proofs.Keeps.End.{end_view}
use Rattle.rules.proofs.Keeps.Premises.{natural_low, targets_safe}
use Rattle.rules.proofs.Laws.Facts.{Facts, facts, Sane, sane, lives_taken}
use Rattle.rules.proofs.Laws.Lists.{some_of_false}
use Rattle.rules.proofs.Laws.Tests.{isnt_so, both, or_false_left, or_false_right, isnt_not}
use Rattle.sameness.proofs.Cases.{by_test}
use Rattle.sameness.proofs.EndLeaves.{Above, end_still, end_back, lives_freed, lives_on}
use Rattle.sameness.proofs.EndSame.{ended_end}
use Rattle.sameness.proofs.Freeing.{after, freed_leaves}
use Rattle.sameness.proofs.Kill.{not_living_put, resumed_placed, action_none}
use Rattle.sameness.proofs.Light.{Placed}
use Rattle.sameness.proofs.Calls.{GivesLeaves}
use Rattle.sameness.proofs.Same.{Same, same_trans}
use Rattle.sameness.proofs.Still.{Still, same_still, stands_still, above_still, put_still}
use Rattle.rules.specs.Answers.{answers, granted}
use Rattle.rules.specs.Calls.{natural, targets}
use Rattle.rules.proofs.Laws.Judged.{place}
use Rattle.rules.specs.Delivery.{act, action_on, deliver, deliver_all, with_pending}
use Rattle.rules.specs.Ends.{end}
use Rattle.sameness.specs.Events.{at, is_inside}
use Rattle.rules.specs.Freeing.{freed}
use Rattle.table.specs.Limits.{signals}
use Rattle.table.specs.Slots.{process, put}
use Rattle.rules.specs.Read.{View, alive, below, living, namespace_taken, seen, view}
use Rattle.sameness.specs.Sheet.{sheet}
use Rattle.table.specs.Tests.{◌and◌, ◌or◌, some_of}
use Rattle.sameness.specs.Touches.{signals_into, touched}
use Rattle.table.specs.declared.Action.TheVariants.{Finish, Nothing, Pend, Resume, Stop}
use Rattle.table.specs.declared.Action.{Action}
use Rattle.table.specs.declared.Call.TheVariants.{Kill}
use Rattle.table.specs.declared.End.TheVariants.{Signaled}
use Rattle.table.specs.declared.Process.{Process}
use Rattle.table.specs.declared.State.TheVariants.{Stopped}
use Rattle.table.specs.declared.Table.{Table}
use Rattle.table.specs.Records.{with_state}

-- in the middle of the deliveries: S is as it was, and what lives lived before
record Going (t₀ t : Table) (s : ℕ) : Type 0 where
  sane_now : Sane t
  same : Same (view t) (view t₀) s s
  stands : So (namespace_taken (view t) s)
  seens : (i : ℕ) → seen (view t) s i ≡ seen (view t₀) s i
  aboves : (n : ℕ) → below (view t) s n ≡ below (view t₀) s n
  backs : (n : ℕ) → So (alive (view t) n) → So (alive (view t₀) n)
  ended : (i : ℕ) → living (view t₀) i ≡ false → living (view t) i ≡ false

start : {t : Table} {s : ℕ} → Sane t → So (namespace_taken (view t) s) → Going t t s
start w h =
    record {
      sane_now = w;
      same = record { levels = refl; there = λ i k. (i, k, refl); back = λ i k. (i, k, refl) };
      stands = h;
      seens = λ i. refl;
      aboves = λ n. refl;
      backs = λ n k. k;
      ended = λ i k. k;
    }

onward : {t₀ t t' : Table} {s : ℕ} → Going t₀ t s → Sane t' → Still (view t) (view t') s → ((n : ℕ) → So (alive (view t') n) → So (alive (view t) n)) → ((i : ℕ) → living (view t) i ≡ false → living (view t') i ≡ false) → Going t₀ t' s
onward {s} g w d b z =
    record {
      sane_now = w;
      same = same_trans (same_still g.sane_now.facts d) g.same;
      stands = stands_still g.sane_now.facts d g.stands;
      seens = λ i. d.seens i ∙ g.seens i;
      aboves = λ n. above_still g.sane_now.facts d n ∙ g.aboves n;
      backs = λ n k. g.backs n (b n k);
      ended = λ i k. z i (g.ended i k);
    }

-- a delivery to one that does not live does nothing
deliver_nothing : (t : Table) (f x n : ℕ) → living (view t) x ≡ false → deliver t f x n ≡ t
unfolding deliver act
deliver_nothing t f x n h = ap (act t x n) (action_none (view t) f x n h)

action_zero : (v : View) (f x n : ℕ) → eqb n 0 ≡ true → action_on v f x n ≡ Nothing
unfolding action_on ◌or◌
action_zero v f x n e = rw (e, action_on) refl

-- ---- deliveries

module _ {t₀ t : Table} {s : ℕ} (x n : ℕ) (g : Going t₀ t s) (o : seen (view t) s x ≡ false) (l : So (living (view t) x)) where
  f : Facts (view t)
  f = g.sane_now.facts

  light : (p : Process) → Placed p (process t x) → Sane (put t x p) → Going t₀ (put t x p) s
  light p k w = onward g w (put_still t f x p k s o) (λ j h. h) (not_living_put t x p l)

  finished : Sane (end t x (Signaled n)) → Above t₀ s (end t x (Signaled n)) → Going t₀ (end t x (Signaled n)) s
  finished w h =
      let tx = lives_taken (view t) x l in
      onward g w (end_still g.sane_now x (Signaled n) l s o (λ m low c b a. h m low c (sym (g.aboves m) ∙ b) (g.backs m a))) (end_back g.sane_now x (Signaled n) tx)
      (λ i. subst (λ u. living (view t) i ≡ false → living u i ≡ false) (sym (end_view t g.sane_now x (Signaled n) tx)) (ended_end (view t) x (Signaled n) i))

  applied : (e : Action) → Sane (act t x n e) → Above t₀ s (act t x n e) → Going t₀ (act t x n e) s
  unfolding act with_pending
  applied Nothing w h = g
  applied Resume w h = light _ (resumed_placed (process t x)) w
  applied Stop w h = light (with_state (process t x) Stopped) (refl, refl, refl) w
  applied Finish w h = finished w h
  applied Pend w h = light (with_pending (process t x) n) (refl, refl, refl) w

module _ (from n : ℕ) (low : n < signals) where
  -- what lives after deliveries lived before
  act_back : {t : Table} → Sane t → (x : ℕ) (e : Action) → Good (view t) x n e → (m : ℕ) → So (alive (view (act t x n e)) m) → So (alive (view t) m)
  unfolding act
  act_back w x Nothing g m k = k
  act_back w x Resume g m k = k
  act_back w x Stop g m k = k
  act_back {t} w x Finish g m k = end_back w x (Signaled n) (lives_taken (view t) x g.0) m k
  act_back w x Pend g m k = k

  all_back : (xs : List ℕ) {t : Table} → Sane t → Safe from xs → (m : ℕ) → So (alive (view (deliver_all t from xs n)) m) → So (alive (view t) m)
  unfolding deliver_all deliver
  all_back [] w safe m k = k
  all_back (x ∷ xs) {t} w safe m k = act_back w x (action_on (view t) from x n) (action_good (view t) x n from w.facts safe.0) m (all_back xs (deliver_sane t w x n low from safe.0) safe.1 m k)

  -- a target outside S, or one that has ended
  deliver_going : {t₀ t : Table} {s : ℕ} (x : ℕ) → (x ≡ 0 → from ≡ 0) → Going t₀ t s → seen (view t₀) s x and living (view t₀) x ≡ false → Above t₀ s (deliver t from x n) → Going t₀ (deliver t from x n) s
  unfolding deliver
  deliver_going {t₀} {t} {s} x safe g o h =
      by_test (living (view t) x)
      (λ l. applied x n g (isnt_so (λ k. false≢true (sym o ∙ both _ _ (sym (g.seens x) ∙ k) (lived l (living (view t₀) x) refl)))) l (action_on (view t) from x n)
      (deliver_sane t g.sane_now x n low from safe) h)
      (λ l. subst (λ u. Going t₀ u s) (sym (deliver_nothing t from x n l)) g)
    where
      lived : So (living (view t) x) → (b : Bool) → living (view t₀) x ≡ b → So (living (view t₀) x)
      lived l true q = q
      lived l false q = absurd (false≢true (sym (g.ended x q) ∙ l))

  all_going : (xs : List ℕ) {t₀ t : Table} {s : ℕ} → Safe from xs → Going t₀ t s → some_of (λ i. is_inside t₀ (at s) i and living (view t₀) i) xs ≡ false → Above t₀ s (deliver_all t from xs n) → Going t₀ (deliver_all t from xs n) s
  unfolding deliver_all is_inside
  all_going [] safe g o h = g
  all_going (x ∷ xs) {t} safe g o h =
      all_going xs safe.1
      (deliver_going x safe.0 g (some_of_false _ x xs o).0 (λ m l a b c k. h m l a b c (isnt_so (λ y. false≢true (sym k ∙ all_back xs (deliver_sane t g.sane_now x n low from safe.0) safe.1 m y)))))
      (some_of_false _ x xs o).1 h

-- signal 0 does nothing
all_zero : (xs : List ℕ) (t : Table) (from n : ℕ) → eqb n 0 ≡ true → deliver_all t from xs n ≡ t
unfolding deliver_all deliver act
all_zero [] t from n e = refl
all_zero (x ∷ xs) t from n e = ap (λ y. deliver_all y from xs n) (ap (act t x n) (action_zero (view t) from x n e)) ∙ all_zero xs t from n e

sent : (a b : Bool) → a ≡ false → not a and b ≡ false → b ≡ false
unfolding ◌and◌
sent true b e h = absurd (false≢true (sym e))
sent false b e h = h

-- kill by an outsider
pub kill_leaves : (z n : ℤ) → GivesLeaves (Kill z n)
unfolding place answers granted touched signals_into
kill_leaves z n t s i h hs k a o x g = done (natural_low n (isnt_not _ (a Einval))) x
  where
    xs : List ℕ
    xs = targets (view t) i z

    t₁ : Table
    t₁ = deliver_all t ((view t).own i) xs (natural n)

    done : natural n < signals → touched t (freed t₁) (at s) i (Kill z n) ≡ false → after t s (freed t₁) ≡ sheet (view t) s
    done low o =
        by_test (eqb (natural n) 0)
        (λ e. subst (λ y. after t s (freed y) ≡ sheet (view t) s) (sym (all_zero xs t ((view t).own i) (natural n) e)) (freed_leaves h (sane t h) hs hs (start (sane t h) hs).same))
        (λ e.
        let safe = targets_safe (view t) (facts t h) i z in
        let w₁ = deliver_all_sane t (sane t h) ((view t).own i) (natural n) low xs safe in
        let w : Going t t₁ s =
        all_going ((view t).own i) (natural n) low xs safe (start (sane t h) hs) (sent (eqb (natural n) 0) (some_of (λ j. is_inside t (at s) j and living (view t) j) xs) e (or_false_left _ _ o))
        (lives_freed t s w₁ (lives_on t (freed t₁) s (or_false_right _ _ o))) in
        freed_leaves h w.sane_now hs w.stands w.same)
