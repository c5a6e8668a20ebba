-- kill 1 9 by an init on itself: nothing is delivered, and of a sound table nothing is freed.
use Prim.Native.Nat.{ℕ, zero, suc, ◌≤◌, ◌+◌}
use native.Mathlib.Omega.{arith}
use mathlib.Core.Bool.{Bool, true, false, So}
use mathlib.Core.Logic.{⊎_elim}
use mathlib.Core.Path.{◌≡◌, refl, sym, ◌∙◌, ap, subst}
use borrow.Author.Tests.{eq-eqb, eqb-true}
use lib.IntN.{pos}
use lib.Seq.{ext_get_or}
use Rattle.rules.proofs.Keeps.Changed.{length_changed}
use Rattle.rules.proofs.Keeps.Exact.{kill_answers}
use Rattle.rules.proofs.Keeps.Finds.{freed_leaves}
use Rattle.rules.proofs.Keeps.Freed.{freed_space, kept_hold, kept_own, kept_root, kept_up}
use Rattle.rules.proofs.Laws.Below.{level_deepest}
use Rattle.rules.proofs.Laws.Facts.{Facts, Holder, root, member, holder, child, Lives, Other, Stands, is_seen, lives_taken, facts, held_in}
use Rattle.rules.proofs.Laws.Slots.{init_pid, living_own_alive}
use Rattle.rules.proofs.Laws.Steps.{runs_lives}
use Rattle.rules.proofs.Laws.Tests.{left, no_so, right, yes_or_no}
use Rattle.rules.proofs.Laws.Tree.{below_refl}
use Rattle.rules.specs.Answers.{answers, granted, number_of}
use Rattle.rules.specs.Calls.{pid_to}
use Rattle.rules.specs.Claims.{InitSpared}
use Rattle.rules.specs.Delivery.{act, action_on, deliver}
use Rattle.rules.specs.Freeing.{freed, kept}
use Rattle.rules.specs.Read.{View, is_init, namespace_taken, view}
use Rattle.rules.specs.Sound.{SoundTable, zero_namespace}
use Rattle.rules.specs.Step.{runs, step}
use Rattle.table.specs.Fresh.{empty_namespace}
use Rattle.table.specs.Limits.{deepest, namespace_slots, process_slots, sigkill}
use Rattle.table.specs.Slots.{is_unborn, namespace, no_namespace, no_process}
use Rattle.table.specs.Tests.{◌and◌, ◌or◌, when◌then◌else◌}
use Rattle.table.specs.declared.Action.TheVariants.{Nothing}
use Rattle.table.specs.declared.Call.TheVariants.{Kill}
use Rattle.table.specs.declared.Life.TheVariants.{Unborn, Alive, Dead}
use Rattle.table.specs.declared.Life.{Life}
use Rattle.table.specs.declared.Namespace.{Namespace}
use Rattle.table.specs.declared.Outcome.{Outcome}
use Rattle.table.specs.declared.Table.{Table}

-- ---- of a sound table nothing is freed

-- an empty slot
blank : (s : Namespace) → s.parent.0 ≡ 0 → s.level ≡ 0 → s.last.0 ≡ 0 → So (is_unborn s.life) → s ≡ empty_namespace
blank s p l k u = λ i. record { parent = record { 0 = p i }; level = l i; last = record { 0 = k i }; life = unborn_is s.life u i }
  where
    unborn_is : (x : Life) → So (is_unborn x) → x ≡ Unborn
    unborn_is Unborn h = refl
    unborn_is (Alive i) h = absurd (no_so refl h)
    unborn_is Dead h = absurd (no_so refl h)

module _ (t : Table) (h : SoundTable t) where
  abbrev v : View
  v = view t

  f : Facts v
  f = facts t h

  -- a namespace is kept if those right below it are
  held_kept : (n : ℕ) → Holder v n → ((m : ℕ) → Stands v m → Other m → v.up m ≡ n → So (kept v m)) → So (kept v n)
  held_kept n (root e) lower = subst (λ m. So (kept v m)) (sym e) (kept_root v f)
  held_kept n (member i x e) lower = subst (λ m. So (kept v m)) e (kept_own v f i x)
  held_kept n (holder i x (j, b, e)) lower = subst (λ m. So (kept v m)) e (kept_hold v f i x j b)
  held_kept n (child m x o e) lower = subst (λ j. So (kept v j)) e (kept_up v f m x o (lower m x o e))

  -- and so each is, with at most k levels below it
  stays : (k n : ℕ) → deepest ≤ v.level n + k → Stands v n → So (kept v n)
  stays zero n l s =
      held_kept n ((held_in t h).held_by n s) (λ m x o e. absurd (omega (arith, (f.tree m x o).0.1, ap v.level e, level_deepest v f m x)))
  stays (suc k) n l s =
      held_kept n ((held_in t h).held_by n s) (λ m x o e. stays k m (omega (arith, (f.tree m x o).0.1, ap v.level e)) x)

  unfreed : (n : ℕ) → (when kept v n then namespace t n else empty_namespace) ≡ namespace t n
  unfolding zero_namespace
  unfreed n = ⊎_elim taken free (yes_or_no (namespace_taken v n))
    where
      taken : Stands v n → (when kept v n then namespace t n else empty_namespace) ≡ namespace t n
      taken s = rw (stays deepest n (omega arith) s)

      either : (b : Bool) (x y : Namespace) → x ≡ y → (when b then x else y) ≡ x
      either true x y e = refl
      either false x y e = sym e

      free : namespace_taken v n ≡ false → (when kept v n then namespace t n else empty_namespace) ≡ namespace t n
      free o =
          let z = f.empty_namespace n (no_so o) in
          let a = left _ _ z in
          let b = left _ _ a in
          either (kept v n) (namespace t n) empty_namespace
          (blank (namespace t n) (eqb-true _ 0 (left _ _ b)) (eqb-true _ 0 (right _ _ b)) (eqb-true _ 0 (right _ _ a)) (right _ _ z))

  pub freed_none : freed t ≡ t
  unfolding freed
  freed_none = λ i. record { processes = same_processes i; namespaces = same_namespaces i }
    where
      same_processes : (freed t).processes ≡ t.processes
      same_processes =
          ext_get_or no_process _ _ (length_changed (λ i p. p) no_process process_slots t.processes) (λ i l. freed_leaves t h.shape i)

      same_namespaces : (freed t).namespaces ≡ t.namespaces
      same_namespaces =
          ext_get_or no_namespace _ _ (length_changed (λ n s. when kept v n then s else empty_namespace) no_namespace namespace_slots t.namespaces)
          (λ n l. freed_space t h.shape n ∙ unfreed n)

-- ---- an init and its own signal 9

module _ (t : Table) (c : ℕ) (h : SoundTable t) (r : So (runs (view t) c)) (z : So (is_init (view t) c)) where
  lives : Lives (view t) c
  lives = runs_lives t c r

  first : pid_to (view t) c c ≡ 1
  unfolding is_init
  first =
      subst (λ i. pid_to (view t) c i ≡ 1) (eqb-true _ c z)
      (init_pid (view t) (facts t h) ((view t).own c) (living_own_alive (view t) (facts t h) c lives))

  nothing : action_on (view t) ((view t).own c) c sigkill ≡ Nothing
  unfolding action_on ◌or◌ ◌and◌
  nothing = rw (lives, z, eq-eqb ((view t).own c) ((view t).own c) refl)

  unmoved : step t c (Kill (pos 1) (pos sigkill)) ≡ answers t 0
  unfolding deliver act
  unmoved =
      subst (λ k. step t c (Kill (pos k) (pos sigkill)) ≡ answers t 0) first
      (kill_answers t c c h r (is_seen (view t) _ c (lives_taken (view t) c lives) (below_refl (view t) _)) sigkill (omega arith)
      ∙ ap (λ a. answers (freed (act t c sigkill a)) 0) nothing
      ∙ ap (λ u. answers u 0) (freed_none t h))

pub init_spared : InitSpared
unfolding InitSpared answers granted number_of
init_spared t c h r z = let e = unmoved t c h r z in (ap (λ (o : Outcome). number_of o.reply.answer) e, ap (λ (o : Outcome). o.table) e)
