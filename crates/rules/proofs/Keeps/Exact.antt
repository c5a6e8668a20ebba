-- What the end of an init removes, ends and leaves.
use Prim.Native.Nat.{ℕ, ◌<◌}
use native.Mathlib.Omega.{arith}
use mathlib.Core.Bool.{false, not, So, false≢true}
use mathlib.Core.List.{◌∷◌, []}
use mathlib.Core.Logic.{◌↔◌, ⊎_elim}
use mathlib.Core.Path.{◌≡◌, refl, sym, ◌∙◌, ap, subst}
use borrow.Author.Tests.{ne_eqb, le-leb, lt-ltb}
use lib.Dec.{eqb}
use lib.IntN.{ℤ, pos}
use Rattle.rules.proofs.Keeps.End.{end_view, end_sane, init_ended_at}
use Rattle.rules.proofs.Keeps.Finds.{counted, meant_named, freed_leaves}
use Rattle.rules.proofs.Keeps.Freed.{freed_view}
use Rattle.rules.proofs.Keeps.InitEnds.{gone, subtree_gone}
use Rattle.rules.proofs.Keeps.Premises as K
use Rattle.rules.proofs.Laws.Facts.{seen_taken, Facts, Taken, Lives, Seen, Other, lives_taken, Sane, sane, facts}
use Rattle.rules.proofs.Laws.Steps.{step_made, runs_lives, remainder}
use Rattle.rules.proofs.Laws.Tests.{yes_or_no, isnt_so, no_so, choose, left, right, both, and_not}
use Rattle.rules.specs.Answers.{answers, granted}
use Rattle.rules.specs.Calls.{exit, kill, kill_gives, named, pid_to, status, targets, within}
use Rattle.rules.specs.Claims.{EndsExactly, EndExact}
use Rattle.rules.specs.Delivery.{act, action_on, default_action, deliver, deliver_all}
use Rattle.rules.specs.Ends.{end, init_ends}
use Rattle.rules.specs.Freeing.{freed}
use Rattle.table.specs.Limits.{process_slots, signals, sigkill}
use Rattle.rules.specs.Read.{View, is_init, seen, taken, view}
use Rattle.table.specs.Slots.{process}
use Rattle.rules.specs.Sound.{SoundTable, kept_end}
use Rattle.rules.specs.Step.{make, runs, step}
use Rattle.table.specs.Tests.{◌and◌, ◌or◌, when◌then◌else◌}
use Rattle.table.specs.declared.Action.TheVariants.{Finish}
use Rattle.table.specs.declared.Call.TheVariants.{Exit, Kill}
use Rattle.table.specs.declared.End.TheVariants.{Exited, Signaled}
use Rattle.table.specs.declared.End.{End}
use Rattle.table.specs.declared.Outcome.{Outcome}
use Rattle.table.specs.declared.State.TheVariants.{Ended}
use Rattle.table.specs.declared.Table.{Table}

-- what is read of u where the init of n, at c, has ended in v
abbrev Fallen : View → ℕ → ℕ → End → View → Type 0
Fallen v n c e u =
    ((i : ℕ) → Taken v i → (Taken u i → ⊥) ↔ (Seen v n i × Seen v n (v.parent i)))
    × ((i : ℕ) → Seen v n i → (Seen v n (v.parent i) → ⊥) → u.state i ≡ (when eqb i c then Ended e else (when v.ended i then v.state i else Ended (Signaled sigkill))))

gone_removed : (v : View) (n c : ℕ) (e : End) → Fallen v n c e (subtree_gone v n c e)
unfolding taken gone
gone_removed v n c e = (λ i t. (removed i t, λ (a, b) x. false≢true (rw (both _ _ a b) at x)), λ i s o. let g : seen v n i and seen v n (v.parent i) ≡ false = and_not (seen v n i) (isnt_so o) in rw (g, s))
  where
    removed : (i : ℕ) → Taken v i → (Taken (subtree_gone v n c e) i → ⊥) → Seen v n i × Seen v n (v.parent i)
    removed i t o = ⊎_elim (λ g. (left _ _ g, right _ _ g)) (λ g. absurd (o (rw g t))) (yes_or_no (gone v n i))

pub ends_exactly : (t : Table) → Sane t → (c : ℕ) (e : End) → Lives (view t) c → Other c → So (kept_end (Ended e)) → So (is_init (view t) c) → EndsExactly t (freed (end t c e)) c e
unfolding taken init_ends
ends_exactly t s c e l o k z =
    let shape = (end_sane t s c e l o k).shape_of in
    let x = subst (Fallen v n c e) (sym (freed_view (end t c e) shape)) fallen in
    record {
      removed = x.0;
      left = x.1;
      outside = λ i a. freed_leaves (end t c e) shape i ∙ outside i (isnt_so a);
    }
  where
    v : View
    v = view t

    n : ℕ
    n = (view t).own c

    outside : (i : ℕ) → seen v n i ≡ false → process (end t c e) i ≡ process t i
    outside i o = init_ended_at t s c e (lives_taken v c l) z i ∙ rw o

    fallen : Fallen v n c e (view (end t c e))
    fallen = subst (Fallen v n c e) (sym (end_view t s c e (lives_taken v c l))) (choose (Fallen v n c e) (is_init v c) (λ i. gone_removed v n c e) (λ i. absurd (no_so i z)))

pub exit_made : (t : Table) (c : ℕ) (s : ℤ) → SoundTable t → So (runs (view t) c) → Other c → (step t c (Exit s)).table ≡ freed (end t c (Exited (status s)))
unfolding make exit answers granted
exit_made t c s h r o = ap (λ (x : Outcome). x.table) (step_made t c (Exit s) h r) ∙ rw (ne_eqb c 0 o, exit)

by_exit : (t : Table) (c : ℕ) (s : ℤ) → SoundTable t → So (runs (view t) c) → So (is_init (view t) c) → (c ≡ 0 → ⊥) → EndsExactly t (step t c (Exit s)).table c (Exited (status s))
by_exit t c s h r z o =
    subst (λ x. EndsExactly t x c (Exited (status s))) (sym (exit_made t c s h r o))
    (ends_exactly t (sane t h) c (Exited (status s)) (runs_lives t c r) o (remainder s) z)

-- ---- by a signal

pub kill_acts : (v : View) (i from : ℕ) → Lives v i → (v.own i ≡ from → ⊥) → action_on v from i sigkill ≡ Finish
unfolding action_on default_action ◌or◌ ◌and◌
kill_acts v i from l o = rw (l, and_not (is_init v i) (ne_eqb (v.own i) from o))

module _ (t : Table) (c i : ℕ) (h : SoundTable t) (r : So (runs (view t) c)) (seen_i : Seen (view t) ((view t).own c) i) where
  abbrev v : View
  v = view t

  f : Facts v
  f = facts t h

  here : Taken v c
  here = lives_taken v c (runs_lives t c r)

  k : ℕ
  k = pid_to v c i

  found : targets v c (pos k) ≡ i ∷ []
  unfolding targets k
  found =
      let e : named v c (pos k) ≡ i = meant_named v f c here k i seen_i refl in
      let l = f.in_range i (seen_taken v (v.own c) i seen_i) in
      rw (e, ne_eqb i process_slots (λ q. omega (arith, q, l)))

  kill_made : (s : ℕ) → s < signals → make t c (Kill (pos k) (pos s)) ≡ answers (freed (deliver t (v.own c) i s)) 0
  unfolding make kill ◌and◌ deliver_all k
  kill_made s l =
      let z : eqb k 0 ≡ false = ne_eqb k 0 (counted v f c here i seen_i) in
      let a : not (within 0 signals (pos s)) ≡ false = ap not (both _ _ (le-leb 0 s (omega arith)) (lt-ltb s signals l)) in
      rw (a, z, found, kill, kill_gives)

  -- a signal by number
  pub kill_answers : (s : ℕ) → s < signals → step t c (Kill (pos (pid_to v c i)) (pos s)) ≡ answers (freed (deliver t (v.own c) i s)) 0
  unfolding k
  kill_answers s l = step_made t c (Kill (pos k) (pos s)) h r ∙ kill_made s l

  -- one that ends its target
  pub finish_made : (s : ℕ) → s < signals → action_on v (v.own c) i s ≡ Finish → (step t c (Kill (pos (pid_to v c i)) (pos s))).table ≡ freed (end t i (Signaled s))
  unfolding deliver act answers granted
  finish_made s l e = ap (λ (o : Outcome). o.table) (kill_answers s l) ∙ ap (λ a. freed (act t i s a)) e

by_signal : (t : Table) (c i : ℕ) → SoundTable t → So (runs (view t) c) → Lives (view t) i → So (is_init (view t) i) → Seen (view t) ((view t).own c) i → ((view t).own i ≡ (view t).own c → ⊥) → EndsExactly t (step t c (Kill (pos (pid_to (view t) c i)) (pos sigkill))).table i (Signaled sigkill)
unfolding ◌and◌
by_signal t c i h r l z s o =
    subst (λ x. EndsExactly t x i (Signaled sigkill)) (sym (finish_made t c i h r s sigkill (omega arith) (kill_acts (view t) i ((view t).own c) l o)))
    (ends_exactly t (sane t h) i (Signaled sigkill) l other refl z)
  where
    other : i ≡ 0 → ⊥
    other x = o (ap (view t).own x ∙ (facts t h).root_own ∙ sym (K.safe_seen (view t) (facts t h) ((view t).own c) i s x))

pub end_exact : EndExact
end_exact = record { by_exit = by_exit; by_signal = by_signal }
