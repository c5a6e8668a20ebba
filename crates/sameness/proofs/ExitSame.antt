-- exit, by twin callers: also by the init of S itself.
use Prim.Native.Nat.{ℕ, suc, pred, ◌<◌}
use native.Mathlib.Decide.{ℕ_discrete}
use native.Mathlib.Omega.{arith}
use mathlib.Core.Bool.{Bool, true, false, not, So, false≢true}
use mathlib.Core.Logic.{inr}
use mathlib.Core.Path.{◌≡◌, refl, sym, ◌∙◌, ap, ap₂, subst, subst₂}
use borrow.Author.Tests.{eqb-true, eqb-false, eq-eqb}
use lib.Dec.{eqb}
use lib.IntN.{ℤ}
use Rattle.rules.proofs.Keeps.End.{end_sane, end_tree, end_view}
use Rattle.rules.proofs.Laws.Below.{below_level, up_level}
use Rattle.rules.proofs.Laws.Facts.{Facts, Sane, sane, seen_below}
use Rattle.rules.proofs.Laws.Judged.{alike, all_alike, place}
use Rattle.rules.proofs.Laws.Slots.{alive_taken, init_own, root_only, pid_unique, alive_up, init_seen}
use Rattle.rules.proofs.Laws.Steps.{remainder, runs_lives}
use Rattle.rules.proofs.Laws.Tests.{isnt_so, right, bool_ext}
use Rattle.rules.proofs.Laws.Tree.{below_refl}
use Rattle.sameness.proofs.Cases.{by_equal}
use Rattle.sameness.proofs.Calls.{Kept, Ready, owns_twins, own_lives, taken_s, taken_r, TestsAlike, GivesSame}
use Rattle.sameness.proofs.EndSame.{midway, ended_init, end_same}
use Rattle.sameness.proofs.Freeing.{freed_alike, freed_sheets}
use Rattle.sameness.proofs.Ends.{init_same}
use Rattle.sameness.proofs.Readers.{is_init_twins}
use Rattle.sameness.proofs.Same.{Same}
use Rattle.sameness.proofs.Twins.{pid_in_unseen, top_twins, Pair, Twin, flip_pair, flip_twin, twins_unique, taken_v, taken_u}
use Rattle.rules.specs.Answers.{answers, granted}
use Rattle.rules.specs.Calls.{status}
use Rattle.rules.specs.Ends.{end}
use Rattle.rules.specs.Freeing.{freed}
use Rattle.rules.specs.Read.{View, alive, init, is_init, namespace_taken, pid_in, pid_seen, seen, view, taken}
use Rattle.rules.specs.Sound.{SoundTable, kept_end}
use Rattle.table.specs.Tests.{◌or◌}
use Rattle.table.specs.declared.Call.TheVariants.{Exit}
use Rattle.table.specs.declared.End.TheVariants.{Exited}
use Rattle.table.specs.declared.End.{End}
use Rattle.table.specs.declared.Refusal.TheVariants.{Ebusy}
use Rattle.table.specs.declared.State.TheVariants.{Ended}
use Rattle.table.specs.declared.Table.{Table}

-- the root init calls inside S only if S is the root
zero_there : {v u : View} {s r : ℕ} (w : Pair v u s r) {i j : ℕ} → Twin v u s r i j → i ≡ 0 → j ≡ 0
unfolding pid_seen
zero_there {v} {u} {s} {r} w {i} {j} k z =
    let level_s : v.level s ≡ 0 = omega (arith, below_level v w.facts_v (v.own i) s (seen_below v s i k.seen_v), ap (λ x. v.level (v.own x)) z ∙ ap v.level w.facts_v.root_own ∙ w.facts_v.root_level) in
    let r_root : r ≡ 0 = root_only u w.facts_u r (alive_taken u w.facts_u r w.alive_u) (omega (arith, w.same.levels, level_s)) in
    let one = ap₂ (λ x y. v.pid x y) z level_s ∙ w.facts_v.root_pid in
    let one' = ap (λ x. u.pid 0 x) (ap u.level r_root ∙ w.facts_u.root_level) ∙ w.facts_u.root_pid in
    let zero_seen = subst₂ (λ x y. So (seen u x y)) (sym r_root) w.facts_u.root_init (init_seen u w.facts_u 0 0 (subst (λ x. So (alive u x)) r_root w.alive_u) (below_refl u 0)) in
    pid_unique u w.facts_u r j 0 (alive_taken u w.facts_u r w.alive_u) k.seen_u zero_seen (sym k.pids ∙ one ∙ sym one')

-- the init of the namespace above S is not seen from S
above_zero : {v : View} (f : Facts v) (s n : ℕ) → So (alive v s) → 0 < v.level s → n ≡ s → pid_in v s (init v (v.up n)) ≡ 0
unfolding seen taken
above_zero {v} f s n a l q =
    let e : v.level s ≡ suc (pred (v.level s)) = omega arith in
    ap (λ x. pid_in v s (init v (v.up x))) q
    ∙ pid_in_unseen f s (init v (v.up s)) (isnt_so (λ h. omega (arith, below_level v f _ s (right _ _ h), ap v.level (init_own v f (v.up s) (alive_up v f s _ a e)), up_level v f s _ e)))

-- an init that is not the root's is of a namespace below the root
init_positive : {v : View} (f : Facts v) (c s : ℕ) → So (is_init v c) → v.own c ≡ s → (c ≡ 0 → ⊥) → So (namespace_taken v s) → 0 < v.level s
unfolding is_init
init_positive {v} f c s i o n h =
    by_equal (v.level s) 0 (λ z. absurd (n (sym (eqb-true _ _ i) ∙ ap (init v) (o ∙ root_only v f s h z) ∙ f.root_init))) (λ z. omega arith)

-- an end leaves the levels, so a namespace that stood stands
end_level : {t : Table} (f : Sane t) (x n : ℕ) (e : End) → So (taken (view t) x) → (view (end t x e)).level n ≡ (view t).level n
end_level {t} f x n e h = ap (λ (l : ℕ → ℕ). l n) (end_tree t f x e h).1

end_stands : {t : Table} (f : Sane t) (x n : ℕ) (e : End) → So (taken (view t) x) → So (namespace_taken (view t) n) → So (namespace_taken (view (end t x e)) n)
unfolding namespace_taken
end_stands f x n e h k = ap (λ l. eqb n 0 or not (eqb l 0)) (end_level f x n e h) ∙ k

module _ {t u : Table} {s r c d : ℕ} (w : Ready t u s r c d) (e : End) (ok : So (kept_end (Ended e))) where
  -- S lives on
  lives_on : (So (is_init (view t) c) → (view t).own c ≡ s → ⊥) → SoundTable (freed (end t c e)) → SoundTable (freed (end u d e)) → Kept t u s r (answers (freed (end t c e)) 0) (answers (freed (end u d e)) 0)
  unfolding answers granted
  lives_on other h g =
      let (x, move) = end_same e (midway w (top_twins w.pair)) w.twin w.twin.seen_v (runs_lives t c w.runs_t) ok other in
      inr (refl, freed_alike t u x.sane_t x.sane_u x.alive_s x.alive_r x.same)

  -- S's init ends
  dies : So (is_init (view t) c) → (view t).own c ≡ s → (c ≡ 0 → ⊥) → (d ≡ 0 → ⊥) → SoundTable (freed (end t c e)) → SoundTable (freed (end u d e)) → Kept t u s r (answers (freed (end t c e)) 0) (answers (freed (end u d e)) 0)
  unfolding answers granted
  dies ic oc nc nd h g =
      let p = w.pair in
      let tc = taken_v w.twin in
      let td = taken_u w.twin in
      let ft = sane t w.sound_t in
      let fu = sane u w.sound_u in
      let id : So (is_init (view u) d) = sym (is_init_twins p w.twin (own_lives w)) ∙ ic in
      let od = twins_unique p (owns_twins w) (top_twins p) oc in
      let ls = init_positive p.facts_v c s ic oc nc (taken_s w) in
      let lr : 0 < (view u).level r = omega (arith, ls, p.same.levels) in
      let lc : 0 < (view t).level ((view t).own c) = omega (arith, ls, ap (view t).level oc) in
      let same : Same (view (end t c e)) (view (end u d e)) s r =
      subst₂ (λ (a b : View). Same a b s r) (sym (end_view t ft c e tc ∙ ended_init (view t) c e ic)) (sym (end_view u fu d e td ∙ ended_init (view u) d e id))
      (init_same p e w.twin (own_lives w) lc (above_zero p.facts_v s ((view t).own c) p.alive_v ls oc ∙ sym (above_zero p.facts_u r ((view u).own d) p.alive_u lr od))) in
      inr (
        refl,
        freed_sheets t u (end_sane t ft c e (runs_lives t c w.runs_t) nc ok) (end_sane u fu d e (runs_lives u d w.runs_u) nd ok)
            (end_stands ft c s e tc (taken_s w)) (end_stands fu d r e td (taken_r w)) (λ k. end_level ft c s e tc) (λ k. end_level fu d r e td) same,
      )

-- exit by twin callers: the root init is its own twin
zeros : {t u : Table} {s r c d : ℕ} → Ready t u s r c d → eqb c 0 ≡ eqb d 0
zeros {c} {d} w =
    bool_ext _ _ (λ e. eq-eqb d 0 (zero_there w.pair w.twin (eqb-true c 0 e)))
    (λ e. eq-eqb c 0 (zero_there (flip_pair w.pair) (flip_twin w.twin) (eqb-true d 0 e)))

pub exit_alike : (z : ℤ) → TestsAlike (Exit z)
exit_alike z t u s r c d w = alike (zeros w) all_alike

pub exit_same : (z : ℤ) → GivesSame (Exit z)
unfolding place answers granted
exit_same z t u s r c d w n m h g = ends (ℕ_discrete ((view t).own c) s) (is_init (view t) c) refl
  where
    e : End
    e = Exited (status z)

    ends : Dec ((view t).own c ≡ s) → (b : Bool) → is_init (view t) c ≡ b → Kept t u s r (answers (freed (end t c e)) 0) (answers (freed (end u d e)) 0)
    ends (yes o) true i = dies w e (remainder z) i o (eqb-false c 0 (n Ebusy)) (eqb-false d 0 (m Ebusy)) h g
    ends (yes o) false i = lives_on w e (remainder z) (λ j q. false≢true (sym i ∙ j)) h g
    ends (no o) b i = lives_on w e (remainder z) (λ j q. o q) h g
