-- Another state, not ended, other traits or another children's namespace of one living process keep all facts but those
-- that freeing restores.
use Prim.Native.Nat.{ℕ}
use mathlib.Core.Bool.{So, false}
use mathlib.Core.Logic.{⊎_elim, ◌⊎◌, inl, inr}
use mathlib.Core.Path.{sym, subst, ◌≡◌, ap, ap₂, ◌∙◌}
use borrow.Author.Tests.{eq-eqb, ne_eqb}
use lib.Dec.{eqb}
use Rattle.rules.proofs.Laws.Facts.{Holder, root, member, holder, child, Facts, Held, Holds, holds_children, Taken, Lives, lives_taken, not_ended, Stands, Below}
use Rattle.rules.proofs.Laws.Holds.{with_hold}
use Rattle.rules.proofs.Laws.Tests.{same_or, isnt_so}
use Rattle.table.specs.Slots.{is_ended}
use Rattle.rules.specs.Read.{View, below, living, namespace_taken, pid_seen, seen, taken, unborn, children}
use Rattle.rules.specs.Sound.{kept_end, zero_namespace, zero_process}
use Rattle.table.specs.Tests.{when◌then◌else◌}
use Rattle.table.specs.declared.State.{State}
use Rattle.table.specs.Traits.{traits_ok}
use Rattle.table.specs.declared.Traits.{Traits}

-- the view with these of the process at c
abbrev pub with_lights : View → ℕ → State → Traits → ℕ → View
with_lights v c s x m =
    record {
      own = v.own;
      hold = λ i k. when eqb i c then with_hold (v.hold c) 0 m k else v.hold i k;
      parent = v.parent;
      state = λ i. when eqb i c then s else v.state i;
      ended = v.ended;
      traits = λ i. when eqb i c then x else v.traits i;
      pid = v.pid;
      up = v.up;
      level = v.level;
      last = v.last;
      life = v.life;
    }

-- c may hold m for its children: m lies in the subtree of c's own namespace, and an unborn one is held by c alone
pub record MayHold (v : View) (c m : ℕ) : Type 0 where
  pub here : Stands v m
  pub below : Below v m (v.own c)
  pub alone : So (unborn v m) → (v.own c ≡ v.up m) × ((i : ℕ) → Taken v i → Holds v i m → i ≡ c)

-- what it holds it may hold
pub holds_still : (v : View) → Facts v → (c : ℕ) → Lives v c → MayHold v c (children v c)
holds_still v f c l =
    let t = lives_taken v c l in
    let (s, b) = f.children c t l in
    record { here = s; below = b; alone = λ u. (f.unborn_own _ s u c t (holds_children v c), λ i k h. f.unborn_one _ s u i c k h t (holds_children v c)) }

module _ (v : View) (f : Facts v) (c : ℕ) (s : State) (x : Traits) (m : ℕ) (c_lives : Lives v c) (runs : is_ended s ≡ false) (ok : So (kept_end s)) (fine : So (traits_ok x)) (hold : MayHold v c m) where
  abbrev w : View
  w = with_lights v c s x m

  -- who holds an unborn one holds it as before, or is c
  holder_w : (n i : ℕ) → Holds w i n → ((i ≡ c) × (m ≡ n)) ⊎ Holds v i n
  holder_w n i (k, l, e) =
      ⊎_elim
      (λ x. let e' : with_hold (v.hold c) 0 m k ≡ n = rw (eq-eqb i c x) at e in
      ⊎_elim (λ z. inl (x, rw (eq-eqb k 0 z) at e')) (λ z. inr (k, l, ap (λ j. v.hold j k) x ∙ (rw z at e'))) (same_or k 0))
      (λ y. inr (k, l, rw y at e)) (same_or i c)

  still : (i : ℕ) → So (v.ended i) → i ≡ c → ⊥
  still i e x = not_ended v c c_lives (subst (λ j. So (v.ended j)) x e)

  unborn_at : (n : ℕ) → m ≡ n → So (unborn v n) → So (unborn v m)
  unborn_at n e u = subst (λ x. So (unborn v x)) (sym e) u

  empty_w : (i : ℕ) → (Taken v i → ⊥) → So (zero_process w i)
  unfolding zero_process
  empty_w i o = rw (ne_eqb i c (λ x. o (subst (Taken v) (sym x) (lives_taken v c c_lives)))) (f.empty_process i o)

  -- the facts then
  pub lights_facts : Facts w
  unfolding taken living namespace_taken below seen pid_seen zero_namespace
  lights_facts =
      record {
        ended_is = λ i. ⊎_elim (λ x. rw (eq-eqb i c x) (ap v.ended x ∙ isnt_so (not_ended v c c_lives) ∙ sym runs)) (λ y. rw y (f.ended_is i)) (same_or i c);
        in_range = f.in_range;
        in_namespace = f.in_namespace;
        root_init = f.root_init;
        root_lives = f.root_lives;
        root_own = f.root_own;
        root_pid = f.root_pid;
        root_parent = f.root_parent;
        root_alive = f.root_alive;
        root_level = f.root_level;
        root_up = f.root_up;
        inits = f.inits;
        empty_process = empty_w;
        empty_namespace = f.empty_namespace;
        tree = f.tree;
        below_dead = f.below_dead;
        unborn_last = f.unborn_last;
        unborn_empty = f.unborn_empty;
        unborn_leaf = f.unborn_leaf;
        unborn_own = λ n s u i t e. ⊎_elim (λ (x, y). ap v.own x ∙ (hold.alone (unborn_at n y u)).0 ∙ ap v.up y) (f.unborn_own n s u i t) (holder_w n i e);
        unborn_one = λ n s u i j t e t' e'.
            ⊎_elim
            (λ (x, y). ⊎_elim (λ (p, q). x ∙ sym p) (λ q. x ∙ sym ((hold.alone (unborn_at n y u)).1 j t' (subst (Holds v j) (sym y) q))) (holder_w n j e'))
            (λ x. ⊎_elim (λ (p, q). (hold.alone (unborn_at n q u)).1 i t (subst (Holds v i) (sym q) x) ∙ sym p) (λ q. f.unborn_one n s u i j t x t' q) (holder_w n j e'))
            (holder_w n i e);
        last_pids = f.last_pids;
        pid_range = f.pid_range;
        differ = f.differ;
        first = f.first;
        members = f.members;
        parents = f.parents;
        first_parents = f.first_parents;
        children = λ i t h. ⊎_elim (λ x. rw (eq-eqb i c x) (hold.here, subst (λ j. Below v m (v.own j)) (sym x) hold.below)) (λ y. rw y (f.children i t h)) (same_or i c);
        traits = λ i t. ⊎_elim (λ x. rw (eq-eqb i c x) fine) (λ y. rw y (f.traits i t)) (same_or i c);
        ended_holds = λ i t e. ⊎_elim (λ x. absurd (still i e x)) (λ y. rw y (f.ended_holds i t e)) (same_or i c);
        ended_traits = λ i t e. ⊎_elim (λ x. absurd (still i e x)) (λ y. rw y (f.ended_traits i t e)) (same_or i c);
        ends_kept = λ i t. ⊎_elim (λ x. rw (eq-eqb i c x) ok) (λ y. rw y (f.ends_kept i t)) (same_or i c);
      }

  -- with the same children's namespace nothing is to free
  pub lights_held : m ≡ children v c → Held v → Held w
  unfolding taken namespace_taken
  lights_held e k = record { holder = λ n s u. let (i, t, q) = k.holder n s u in (i, t, held_w n i q); held_by = λ n s. same n (k.held_by n s) }
    where
      as_before : (i k : ℕ) → w.hold i k ≡ v.hold i k
      as_before i k =
          ⊎_elim
          (λ x. rw (eq-eqb i c x)
          (⊎_elim (λ z. rw (eq-eqb k 0 z) (e ∙ ap₂ v.hold (sym x) (sym z))) (λ z. rw z (ap (λ j. v.hold j k) (sym x))) (same_or k 0)))
          (λ y. rw y) (same_or i c)

      held_w : (n i : ℕ) → Holds v i n → Holds w i n
      held_w n i (k, l, q) = (k, l, as_before i k ∙ q)

      same : (n : ℕ) → Holder v n → Holder w n
      same n (root z) = root z
      same n (member i t e) = member i t e
      same n (holder i t h) = holder i t (held_w n i h)
      same n (child m s o e) = child m s o e
