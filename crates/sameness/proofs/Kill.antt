-- kill, by twin callers: the same targets in the same order, and the same to each.
use Prim.Native.Nat.{ℕ, suc, ◌<◌, ◌≤◌}
use native.Mathlib.Omega.{arith}
use mathlib.Core.Bool.{Bool, true, false, not, So, false≢true}
use mathlib.Core.List.{List, ◌∷◌, map, []}
use mathlib.Core.Logic.{inl, inr}
use mathlib.Core.Path.{◌≡◌, refl, sym, ◌∙◌, ap, ap₂, subst}
use borrow.Author.Tests.{eq-eqb, eqb-true, le-leb, lt-ltb}
use lib.Dec.{eqb}
use lib.IntN.{ℤ, pos, negsuc}
use lib.ListN.{length}
use Rattle.rules.proofs.Keeps.Changes.{act_sane}
use Rattle.rules.proofs.Keeps.Deliver.{Good, action_good}
use Rattle.rules.proofs.Keeps.Premises.{natural_low}
use Rattle.rules.proofs.Laws.Below.{below_taken, below_level}
use Rattle.rules.proofs.Laws.Facts.{Facts, Sane}
use Rattle.rules.proofs.Laws.Find.{targets_seen}
use Rattle.rules.proofs.Laws.Judged.{alike, all_alike, place}
use Rattle.rules.proofs.Laws.Lists.{In, in_map, map_in, ascending_sorted, Sorted, map_sorted, sorted_unique, heads_equal, tails_equal, not_empty}
use Rattle.rules.proofs.Laws.Slots.{pid_unique, alive_taken, living_own_alive, root_only, own_taken}
use Rattle.rules.proofs.Laws.Tests.{choose, left, right, both, or_true, bool_ext, isnt_not}
use Rattle.sameness.proofs.Cases.{by_test, by_equal}
use Rattle.sameness.proofs.Calls.{Ready, owns_twins, TestsAlike, GivesSame}
use Rattle.sameness.proofs.EndSame.{midway, end_same, pair_of, Midway, Onward, Target, from_after, targets_after}
use Rattle.sameness.proofs.Freeing.{freed_alike}
use Rattle.sameness.proofs.Light.{Placed, Shown, shown, same_put, put_other, put_remain, shown_as}
use Rattle.sameness.proofs.Readers.{NobodyOrTwins, slot_v, twin_of_pid, seen_above, twin_eqb, is_init_twins, living_twins}
use Rattle.sameness.proofs.Same.{seen_listed, listed_seen}
use Rattle.sameness.proofs.Setns.{named_twins}
use Rattle.sameness.proofs.Twins.{flip_twin, Pair, Twin, Twins, flip_pair, flip_twins, twin_there, seen_twins, pid_twins, owns, twins_unique}
use Rattle.rules.specs.Answers.{answers, granted}
use Rattle.rules.specs.Calls.{named, others, targets, natural}
use Rattle.rules.specs.Delivery.{act, action_on, deliver, deliver_all, resumed, with_pending}
use Rattle.table.specs.Limits.{process_slots, signals, sigcont, sigkill, sigstop}
use Rattle.table.specs.Slots.{is_ended, pid_at, process, put}
use Rattle.rules.specs.Read.{View, alive, all_seen, pid_seen, seen, view, below, is_init, living, taken}
use Rattle.table.specs.SignalSets.{has, with_signal}
use Rattle.table.specs.Tests.{◌and◌, when◌then◌else◌, only, ◌or◌}
use Rattle.table.specs.declared.Action.TheVariants.{Finish, Nothing, Pend, Resume, Stop}
use Rattle.table.specs.declared.Action.{Action}
use Rattle.table.specs.declared.Call.TheVariants.{Kill}
use Rattle.table.specs.declared.End.TheVariants.{Signaled}
use Rattle.table.specs.declared.Process.{Process}
use Rattle.table.specs.declared.Refusal.TheVariants.{Einval}
use Rattle.table.specs.declared.State.TheVariants.{Running}
use Rattle.table.specs.declared.Table.{Table}
use Rattle.table.specs.Records.{with_state}
use Rattle.table.specs.Traits.{with_signals}
use Rattle.table.specs.declared.Traits.{Traits}

-- ---- whom a kill finds: pairs of twins, in the same order

-- two lists, related place by place
data Along (R : ℕ → ℕ → Type 0) : List ℕ → List ℕ → Type 0 where
  end_along : Along R [] []
  more : {x y : ℕ} {xs ys : List ℕ} → R x y → Along R xs ys → Along R (x ∷ xs) (y ∷ ys)

along_length : {R : ℕ → ℕ → Type 0} {xs ys : List ℕ} → Along R xs ys → length xs ≡ length ys
along_length end_along = refl
along_length (more r h) = ap suc (along_length h)

along_only : {R : ℕ → ℕ → Type 0} (p q : ℕ → Bool) → ((x y : ℕ) → R x y → p x ≡ q y) → {xs ys : List ℕ} → Along R xs ys → Along R (only p xs) (only q ys)
unfolding only
along_only p q e end_along = end_along
along_only p q e (more {x = x} {y = y} r h) =
    by_test (p x) (λ a. rw (a, sym (e x y r) ∙ a, only) (more r (along_only p q e h))) (λ a. rw (a, sym (e x y r) ∙ a, only) (along_only p q e h))

along_with : {R S : ℕ → ℕ → Type 0} (xs : List ℕ) {ys : List ℕ} → ((x y : ℕ) → In x xs → R x y → S x y) → Along R xs ys → Along S xs ys
along_with [] h end_along = end_along
along_with (x ∷ xs) h (more r k) = more (h _ _ (inl refl) r) (along_with xs (λ a b m r. h a b (inr m) r) k)

-- lists with the same numbers, place by place
along_pids : (R : ℕ → ℕ → Type 0) (f g : ℕ → ℕ) (xs ys : List ℕ) → ((x y : ℕ) → In x xs → In y ys → f x ≡ g y → R x y) → map f xs ≡ map g ys → Along R xs ys
along_pids R f g [] [] h e = end_along
along_pids R f g [] (y ∷ ys) h e = absurd (not_empty (g y) (map g ys) (sym e))
along_pids R f g (x ∷ xs) [] h e = absurd (not_empty (f x) (map f xs) e)
along_pids R f g (x ∷ xs) (y ∷ ys) h e =
    more (h x y (inl refl) (inl refl) (heads_equal _ _ _ _ e)) (along_pids R f g xs ys (λ a b m k. h a b (inr m) (inr k)) (tails_equal _ _ _ _ e))

pids_sorted : {v : View} (f : Facts v) (n : ℕ) → So (alive v n) → Sorted (λ k. k) (map (pid_seen v n) (all_seen v n))
unfolding all_seen
pids_sorted {v} f n a =
    map_sorted (pid_seen v n) (pid_seen v n) (λ k. k) (all_seen v n) (λ i m. refl)
    (ascending_sorted (seen v n) (pid_seen v n) process_slots (λ i j l m p q e. omega (arith, pid_unique v f n i j (alive_taken v f n a) p q e)))

pids_in : {v u : View} {s r : ℕ} (w : Pair v u s r) {n m : ℕ} → Twins v u s r n m → (k : ℕ) → In k (map (pid_seen v n) (all_seen v n)) → In k (map (pid_seen u m) (all_seen u m))
pids_in {v} {u} {s} w {n} {m} l k h =
    let (i, a, e) = map_in (pid_seen v n) k (all_seen v n) h in
    let (j, p) = twin_there w i (seen_above w.facts_v n s i l.below_v (listed_seen v n i a)) in
    subst (λ x. In x (map (pid_seen u m) (all_seen u m))) (sym (e ∙ pid_twins w p l))
    (in_map (pid_seen u m) j (all_seen u m) (seen_listed w.facts_u m j (sym (seen_twins w p l) ∙ listed_seen v n i a)))

module _ {v u : View} {s r : ℕ} (w : Pair v u s r) where
  all_seen_twins : {n m : ℕ} → Twins v u s r n m → Along (Twin v u s r) (all_seen v n) (all_seen u m)
  all_seen_twins {n} {m} l =
      along_pids (Twin v u s r) (pid_seen v n) (pid_seen u m) (all_seen v n) (all_seen u m)
      (λ i j a b e. twin_of_pid w l (listed_seen v n i a) (listed_seen u m j b) e)
      (sorted_unique (λ k. k) _ _ (pids_sorted w.facts_v n l.lives_v) (pids_sorted w.facts_u m l.lives_u) (pids_in w l) (pids_in (flip_pair w) (flip_twins l)))

-- the targets are pairs of twins
targets_twins : {t u : Table} {s r i j : ℕ} → Ready t u s r i j → (z : ℤ) → Along (Twin (view t) (view u) s r) (targets (view t) i z) (targets (view u) j z)
unfolding targets others
targets_twins {t} {u} {s} {r} w (negsuc k) =
    along_only _ _
    (λ x y p. ap₂ (λ (a b : Bool). not a and not b) (twin_eqb w.pair p w.twin) (ap (λ n. eqb n 1) (pid_twins w.pair p (owns_twins w))))
    (all_seen_twins w.pair (owns_twins w))
targets_twins {t} {u} {s} {r} {i} {j} w (pos k) = go (named_twins w (pos k))
  where
    go : NobodyOrTwins (view t) (view u) s r (named (view t) i (pos k)) (named (view u) j (pos k)) → Along (Twin (view t) (view u) s r) (when eqb (named (view t) i (pos k)) process_slots then [] else named (view t) i (pos k) ∷ []) (when eqb (named (view u) j (pos k)) process_slots then [] else named (view u) j (pos k) ∷ [])
    go (inl (e, d)) = rw (eq-eqb _ _ e, eq-eqb _ _ d) end_along
    go (inr p) = rw (slot_v w.pair p, slot_v (flip_pair w.pair) (flip_twin p)) (more p end_along)

-- ---- what a signal does

twins_eqb : {v u : View} {s r : ℕ} (w : Pair v u s r) {a b n m : ℕ} → Twins v u s r a b → Twins v u s r n m → eqb a n ≡ eqb b m
twins_eqb w {a} {b} {n} {m} j k =
    bool_ext _ _ (λ e. eq-eqb b m (twins_unique w j k (eqb-true a n e)))
    (λ e. eq-eqb a n (twins_unique (flip_pair w) (flip_twins j) (flip_twins k) (eqb-true b m e)))

pub action_none : (v : View) (f x n : ℕ) → living v x ≡ false → action_on v f x n ≡ Nothing
unfolding action_on
action_none v f x n e = rw (e, or_true (eqb n 0), action_on) refl

-- a signal does the same to two twins
pub action_twins : {t u : Table} {s r f g : ℕ} → Midway t u s r f g → {x y : ℕ} (n : ℕ) → Twin (view t) (view u) s r x y → action_on (view t) f x n ≡ action_on (view u) g y n
unfolding action_on
action_twins {t} {u} {s} {r} {f} {g} w {x} {y} n k =
    let p = pair_of w in
    by_test (living (view t) x)
    (λ e. rw (living_twins p k, is_init_twins p k (living_own_alive (view t) w.sane_t.facts x e), twins_eqb p (owns p k (living_own_alive (view t) w.sane_t.facts x e)) w.from, ap (λ (x : Traits). x.handled) (shown t u p k).traitss, action_on)
    refl)
    (λ e. action_none (view t) f x n e ∙ sym (action_none (view u) g y n (sym (living_twins p k) ∙ e)))

-- ---- a change that keeps places

pub not_living_put : (t : Table) (c : ℕ) (p : Process) → So (living (view t) c) → (x : ℕ) → living (view t) x ≡ false → living (view (put t c p)) x ≡ false
unfolding living taken
not_living_put t c p h x e =
    ap (λ (y : Process). not (eqb (pid_at y 0) 0) and not (is_ended y.state)) (put_other t c p x (λ q. false≢true (sym (ap (living (view t)) (sym q) ∙ e) ∙ h))) ∙ e

module _ {t u : Table} {s r f g : ℕ} (w : Midway t u s r f g) {x y : ℕ} (k : Twin (view t) (view u) s r x y) (lx : So (living (view t) x)) where
  ly : So (living (view u) y)
  ly = sym (living_twins (pair_of w) k) ∙ lx

  -- of two twins
  pub light_onward : {p q : Process} → Shown t u s r p q → Placed p (process t x) → Placed q (process u y) → Sane (put t x p) → Sane (put u y q) → Onward t u s r f g (put t x p) (put u y q)
  light_onward {p} {q} h a b ft fu =
      let pt = (put_remain t x p a).places in
      let pu = (put_remain u y q b).places in (
        record {
          sane_t = ft;
          sane_u = fu;
          alive_s = w.alive_s;
          alive_r = w.alive_r;
          same = same_put t u (pair_of w) k w.sane_t.shape_of w.sane_u.shape_of h a b;
          from = from_after (pair_of w) w.from pt pu (λ i j m. refl) refl refl refl refl;
        },
        targets_after (pair_of w) w.from pt pu (λ i j m. refl) (not_living_put t x p lx) (not_living_put u y q ly),
      )

-- ---- delivery

abbrev is_finish : Action → Bool
is_finish Nothing = false
is_finish Resume = false
is_finish Stop = false
is_finish Finish = true
is_finish Pend = false

-- nobody ends the init of the namespace that it sends from
finish_own : (v : View) (f x n : ℕ) → action_on v f x n ≡ Finish → So (is_init v x) → v.own x ≡ f → ⊥
unfolding action_on ◌and◌
finish_own v f x n e h q =
    let no_finish : is_finish (action_on v f x n) ≡ false = rw (h, eq-eqb (v.own x) f q, action_on) (go (eqb n 0 or not (living v x)) (eqb n sigcont) (eqb n sigkill or eqb n sigstop) (has (v.traits x).handled n)) in
    false≢true (sym no_finish ∙ ap is_finish e)
  where
    go : (a b c d : Bool) → is_finish (when a then Nothing else (when b then Resume else (when c then Nothing else (when d then Pend else Nothing)))) ≡ false
    go true b c d = refl
    go false true c d = refl
    go false false true d = refl
    go false false false true = refl
    go false false false false = refl

pub resumed_placed : (p : Process) → Placed (resumed p) p
unfolding resumed with_pending
resumed_placed p = choose (λ q. Placed q p) (has p.traits.handled sigcont) (λ a. (refl, refl, refl)) (λ a. (refl, refl, refl))

resumed_shown : {t u : Table} {s r : ℕ} {p q : Process} → Shown t u s r p q → Shown t u s r (resumed p) (resumed q)
unfolding resumed with_pending
resumed_shown {t} {u} {s} {r} {p} {q} z = subst (λ b. Shown t u s r (resumed p) (when b then with_pending (with_state q Running) sigcont else with_state q Running)) (ap (λ (x : Traits). has x.handled sigcont) z.traitss) (go (has p.traits.handled sigcont))
  where
    go : (b : Bool) → Shown t u s r (when b then with_pending (with_state p Running) sigcont else with_state p Running) (when b then with_pending (with_state q Running) sigcont else with_state q Running)
    go true = shown_as z refl (ap (λ (x : Traits). with_signals x x.handled (with_signal x.pending sigcont)) z.traitss)
    go false = shown_as z refl z.traitss

-- signal 0 ends nobody
finish_pos : (v : View) (f x n : ℕ) → action_on v f x n ≡ Finish → 1 ≤ n
unfolding action_on ◌or◌
finish_pos v f x n e =
    by_equal n 0 (λ z. absurd (false≢true (ap is_finish (sym (ap (action_on v f x) z) ∙ e))))
    (λ o. omega arith)

-- the root init is seen from the root only
root_safe : {v : View} (h : Facts v) (f x : ℕ) → So (seen v f x) → x ≡ 0 → f ≡ 0
unfolding seen taken
root_safe {v} h f x k z =
    let b : So (below v (v.own x) f) = right _ _ k in
    root_only v h f (below_taken v h (v.own x) f (own_taken v h x (left _ _ k)) b) (omega (arith, below_level v h (v.own x) f b, ap v.level (ap v.own z ∙ h.root_own), h.root_level))

module _ {t u : Table} {s r f g : ℕ} (w : Midway t u s r f g) {x y : ℕ} (n : ℕ) (low : n < signals) (k : Twin (view t) (view u) s r x y) (hx : So (seen (view t) f x)) (lx : So (living (view t) x)) where
  z : Shown t u s r (process t x) (process u y)
  z = shown t u (pair_of w) k

  acted_t : (e : Action) → Good (view t) x n e → Sane (act t x n e)
  acted_t e a = act_sane t w.sane_t x n low e a

  acted_u : (e : Action) → Good (view u) y n e → Sane (act u y n e)
  acted_u e a = act_sane u w.sane_u y n low e a

  action_onward : (e : Action) → action_on (view t) f x n ≡ e → Onward t u s r f g (act t x n e) (act u y n e)
  unfolding act with_pending
  action_onward Nothing e = (w, λ a b h. h)
  action_onward Resume e = light_onward w k lx (resumed_shown z) (resumed_placed (process t x)) (resumed_placed (process u y)) (acted_t Resume lx) (acted_u Resume (ly w k lx))
  action_onward Stop e =
      light_onward w k lx (shown_as z refl z.traitss)
      (refl, refl, refl) (refl, refl, refl) (acted_t Stop lx) (acted_u Stop (ly w k lx))
  action_onward Finish e = end_same (Signaled n) w k hx lx (both _ _ (le-leb 1 n (finish_pos (view t) f x n e)) (lt-ltb n signals low)) (finish_own (view t) f x n e)
  action_onward Pend e =
      let a = subst (Good (view t) x n) e (action_good (view t) x n f w.sane_t.facts (root_safe w.sane_t.facts f x hx)) in
      light_onward w k lx (shown_as z z.states (ap (λ (x : Traits). with_signals x x.handled (with_signal x.pending n)) z.traitss))
      (refl, refl, refl) (refl, refl, refl) (acted_t Pend a) (acted_u Pend (ly w k lx, subst (λ (x : Traits). So (has x.handled n)) z.traitss a.1))

module _ (n : ℕ) (low : n < signals) where
  deliver_onward : {t u : Table} {s r f g : ℕ} → Midway t u s r f g → (x y : ℕ) → Target (view t) (view u) s r f x y → Onward t u s r f g (deliver t f x n) (deliver u g y n)
  unfolding deliver act
  deliver_onward {t} {u} {f} {g} w x y (inr e) = rw (action_none (view t) f x n e.0, action_none (view u) g y n e.1) (w, λ a b h. h)
  deliver_onward {t} {u} {s} {r} {f} {g} w x y (inl (k, h)) =
      by_test (living (view t) x) (λ l. rw (← action_twins w n k) (action_onward w n low k h l (action_on (view t) f x n) refl))
      (λ l. rw (action_none (view t) f x n l, action_none (view u) g y n (sym (living_twins (pair_of w) k) ∙ l)) (w, λ a b h. h))

  -- all deliveries
  deliver_all_held : (xs : List ℕ) {ys : List ℕ} {t u : Table} {s r f g : ℕ} → Midway t u s r f g → Along (Target (view t) (view u) s r f) xs ys → Midway (deliver_all t f xs n) (deliver_all u g ys n) s r f g
  unfolding deliver_all
  deliver_all_held [] w end_along = w
  deliver_all_held (x ∷ xs) w (more r h) =
      let (w', move) = deliver_onward w _ _ r in
      deliver_all_held xs w' (along_with xs (λ a b m k. move a b k) h)

-- ---- kill, by twin callers, from what an end does

module _ {t u : Table} {s r i j : ℕ} (w : Ready t u s r i j) where
  kill_after : (z : ℤ) (n : ℕ) → n < signals → Midway (deliver_all t ((view t).own i) (targets (view t) i z) n) (deliver_all u ((view u).own j) (targets (view u) j z) n) s r ((view t).own i) ((view u).own j)
  kill_after z n low = deliver_all_held n low (targets (view t) i z) (midway w (owns_twins w))
      (along_with (targets (view t) i z) (λ x y m k. inl (k, targets_seen (view t) i z x m)) (targets_twins w z))

-- kill by twin callers
pub kill_alike : (z n : ℤ) → TestsAlike (Kill z n)
kill_alike z n t u s r i j w = alike refl (alike refl (alike (ap (λ x. eqb x 0) (along_length (targets_twins w z))) all_alike))

pub kill_same : (z n : ℤ) → GivesSame (Kill z n)
unfolding place answers granted
kill_same z n t u s r i j w a b h g =
    let d = kill_after w z (natural n) (natural_low n (isnt_not _ (a Einval))) in
    inr (refl, freed_alike t u d.sane_t d.sane_u d.alive_s d.alive_r d.same)
