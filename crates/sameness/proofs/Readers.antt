-- What else reads the same of twins: parents, children, who is found by a number, the namespaces for children.
use Prim.Native.Nat.{ℕ, ◌<◌}
use native.Mathlib.Omega.{arith}
use mathlib.Core.Bool.{Bool, false, So, false≢true, not}
use mathlib.Core.List.{[]}
use mathlib.Core.Logic.{◌⊎◌, inl, inr}
use mathlib.Core.Path.{◌≡◌, sym, ◌∙◌, ap, ap₂, subst}
use borrow.Author.Tests.{eq-eqb, ne_eqb, eqb-true}
use lib.Dec.{eqb}
use Rattle.rules.proofs.Laws.Below.{below_trans}
use Rattle.rules.proofs.Laws.Facts.{seen_taken, Facts, seen_below, lives_taken, holds_children}
use Rattle.rules.proofs.Laws.Find.{Found, find_cases}
use Rattle.rules.proofs.Laws.Lists.{In, in_map}
use Rattle.rules.proofs.Laws.Slots.{alive_taken, pid_unique, alive_not_unborn, own_not_unborn}
use Rattle.rules.proofs.Laws.Tests.{isnt_so, no_so, left, right, both, bool_ext}
use Rattle.sameness.proofs.Anchor.{below_up, name_unborn, is_unborn_name}
use Rattle.sameness.proofs.Cases.{by_test}
use Rattle.sameness.proofs.Same.{same_of_sheets, row_pid, level_lt, seen_listed}
use Rattle.sameness.proofs.Twins.{Namesakes, parent_seen, parent_twin, taken_v, taken_u, twin_pid_in, Pair, Twin, Twins, flip_pair, flip_twin, twin_rows, twin_there, twin_unique, seen_twins, pid_twins, inits_twin, owns, own_names, alive_named, twins_named, twins_unique, twins_up}
use Rattle.table.specs.Limits.{process_slots}
use Rattle.table.specs.Slots.{is_ended}
use Rattle.rules.specs.Read.{pid_seen, View, all_seen, alive, below, child_of, find, is_init, pid_in, seen, living, init, namespace_taken, unborn, children, taken}
use Rattle.sameness.specs.Sheet.{Row, row, sheet}
use Rattle.sameness.proofs.Names.{named_rows}
use Rattle.rules.specs.Sound as S
use Rattle.table.specs.Tests.{◌and◌, when◌then◌else◌}

-- nobody on both tables, or twins
abbrev pub NobodyOrTwins : View → View → ℕ → ℕ → ℕ → ℕ → Type 0
NobodyOrTwins v u s r x y = ((x ≡ process_slots) × (y ≡ process_slots)) ⊎ Twin v u s r x y

-- seen from one is seen from all above
pub seen_above : {v : View} (f : Facts v) (n m i : ℕ) → So (below v n m) → So (seen v n i) → So (seen v m i)
unfolding seen taken
seen_above {v} f n m i h k = both _ _ (left _ _ k) (below_trans v f _ n m (right _ _ k) h)

unseen_below : {v : View} (f : Facts v) (n m i : ℕ) → So (below v n m) → seen v m i ≡ false → seen v n i ≡ false
unseen_below f n m i h e = isnt_so (λ k. no_so e (seen_above f n m i h k))

module _ {v u : View} {s r : ℕ} (w : Pair v u s r) where
  -- the parents of twins as seen from twin namespaces
  pub parent_in_twins : {i j n m : ℕ} → Twin v u s r i j → Twins v u s r n m → seen v n (v.parent i) ≡ seen u m (u.parent j)
  parent_in_twins {i} {j} {n} {m} k l =
      by_test (seen v s (v.parent i)) (λ e. seen_twins w (parent_twin w k e) l)
      (λ e. unseen_below w.facts_v n s _ l.below_v e ∙ sym (unseen_below w.facts_u m r _ l.below_u (sym (parent_seen w k) ∙ e)))

  pub parent_pid : {i j n m : ℕ} → Twin v u s r i j → Twins v u s r n m → pid_in v n (v.parent i) ≡ pid_in u m (u.parent j)
  unfolding pid_in
  parent_pid {i} {j} {n} {m} k l =
      by_test (seen v s (v.parent i)) (λ e. ap₂ (λ (b : Bool) (y : ℕ). when b then y else 0) (parent_in_twins k l) (pid_twins w (parent_twin w k e) l))
      (λ e. let d = unseen_below w.facts_v n s _ l.below_v e in rw (d, sym (parent_in_twins k l) ∙ d))

  -- two pairs of twins are of the same slots on one table as on the other
  pub twin_eqb : {i j c d : ℕ} → Twin v u s r i j → Twin v u s r c d → eqb i c ≡ eqb j d
  twin_eqb {i} {j} {c} {d} a b =
      bool_ext _ _ (λ e. eq-eqb j d (twin_unique w a b (eqb-true i c e)))
      (λ e. eq-eqb i c (twin_unique (flip_pair w) (flip_twin a) (flip_twin b) (eqb-true j d e)))

  -- two that are seen from twin namespaces with the same number there
  pub twin_of_pid : {n m i j : ℕ} → Twins v u s r n m → So (seen v n i) → So (seen u m j) → pid_seen v n i ≡ pid_seen u m j → Twin v u s r i j
  twin_of_pid {n} {m} {i} {j} l a b e =
      let (x, p) = twin_there w i (seen_above w.facts_v n s i l.below_v a) in
      subst (λ y. Twin v u s r i y)
      (pid_unique u w.facts_u m x j (alive_taken u w.facts_u m l.lives_u) (sym (seen_twins w p l) ∙ a) b (sym (pid_twins w p l) ∙ e)) p

  -- a number finds nobody on both, or twins
  pub find_twins : {n m : ℕ} (k : ℕ) → Twins v u s r n m → NobodyOrTwins v u s r (find v n k) (find u m k)
  find_twins {n} {m} k l = go (find_cases v n k) (find_cases u m k)
    where
      go : Found v n k (find v n k) → Found u m k (find u m k) → NobodyOrTwins v u s r (find v n k) (find u m k)
      go (inl (a, b, c)) (inl (x, y, z)) = inr (twin_of_pid l a x (b ∙ sym y))
      go (inl (a, b, c)) (inr (x, y)) =
          let (j, p) = twin_there w (find v n k) (seen_above w.facts_v n s _ l.below_v a) in
          absurd (y j (w.facts_u.in_range j (taken_u p)) (sym (seen_twins w p l) ∙ a) (sym (pid_twins w p l) ∙ b))
      go (inr (a, b)) (inl (x, y, z)) =
          let (i, p) = twin_there (flip_pair w) (find u m k) (seen_above w.facts_u m r _ l.below_u x) in
          let q = flip_twin p in
          absurd (b i (w.facts_v.in_range i (taken_v q)) (seen_twins w q l ∙ x) (pid_twins w q l ∙ y))
      go (inr (a, b)) (inr (x, y)) = inl (a, x)

  pub slot_v : {i j : ℕ} → Twin v u s r i j → eqb i process_slots ≡ false
  slot_v {i} k = ne_eqb i process_slots (λ e. omega (arith, e, w.facts_v.in_range i (taken_v k)))

  -- whether a process is the init of its namespace, where that lives
  pub is_init_twins : {i j : ℕ} → Twin v u s r i j → So (alive v (v.own i)) → is_init v i ≡ is_init u j
  unfolding is_init
  is_init_twins k a = twin_eqb (inits_twin w (owns w k a)) k

  -- the child of a twin is a child of its twin
  pub child_twins : {i j c d : ℕ} → Twin v u s r i j → Twin v u s r c d → child_of v c i ≡ child_of u d j
  unfolding child_of
  child_twins {i} {j} {c} {d} k l =
      ap₂ ◌and◌ (taken_v k ∙ sym (taken_u k))
      (by_test (seen v s (v.parent i)) (λ e. twin_eqb (parent_twin w k e) l)
      (λ e. other v s c _ l.seen_v e ∙ sym (other u r d _ l.seen_u (sym (parent_seen w k) ∙ e))))
    where
      other : (x : View) (a b p : ℕ) → So (seen x a b) → seen x a p ≡ false → eqb p b ≡ false
      other x a b p h e = ne_eqb p b (λ q. false≢true (sym e ∙ ap (seen x a) q ∙ h))

  pub ended_twins : {i j : ℕ} → Twin v u s r i j → v.ended i ≡ u.ended j
  unfolding row
  ended_twins {i} {j} k = w.facts_v.ended_is i ∙ ap (λ (o : Row). is_ended o.state) (twin_rows w k) ∙ sym (w.facts_u.ended_is j)

  pub living_twins : {i j : ℕ} → Twin v u s r i j → living v i ≡ living u j
  unfolding living
  living_twins {i} {j} k = ap₂ (λ (a b : Bool). a and not b) (taken_v k ∙ sym (taken_u k)) (ended_twins k)

  -- the number in S of the init above a living namespace that is not S
  pub above_pid : {n m : ℕ} → Twins v u s r n m → v.level s < v.level n → pid_in v s (init v (v.up n)) ≡ pid_in u r (init u (u.up m))
  above_pid l h = twin_pid_in (inits_twin w (twins_up w l h))

-- ---- who has a number in S, whether S lives or not

-- a number finds the same row, or nobody
pub find_same : {v u : View} (s r k : ℕ) → Facts v → Facts u → So (namespace_taken v s) → So (namespace_taken u r) → sheet v s ≡ sheet u r → NobodyOrTwins v u s r (find v s k) (find u r k)
find_same {v} {u} s r k h g hs hr e = go (find_cases v s k) (find_cases u r k)
  where
    go : Found v s k (find v s k) → Found u r k (find u r k) → NobodyOrTwins v u s r (find v s k) (find u r k)
    go (inl (a, b, c)) (inl (x, y, z)) = inr (record { seen_v = a; seen_u = x; pids = b ∙ sym y })
    go (inl (a, b, c)) (inr (x, y)) = let (j, m, q) = (same_of_sheets h g e).there _ a in absurd (y j (g.in_range j (seen_taken u r j m)) m (sym (row_pid v u s r _ j (level_lt h s hs) (level_lt g r hr) q) ∙ b))
    go (inr (a, b)) (inl (x, y, z)) = let (i, m, q) = (same_of_sheets h g e).back _ x in absurd (b i (h.in_range i (seen_taken v s i m)) m (row_pid v u s r i _ (level_lt h s hs) (level_lt g r hr) q ∙ y))
    go (inr (a, b)) (inr (x, y)) = inl (a, x)

-- A sheet with no rows has nobody to find.
pub find_none : {v : View} (s k : ℕ) → Facts v → (sheet v s).rows ≡ [] → find v s k ≡ process_slots
unfolding sheet
find_none {v} s k h e = go (find_cases v s k)
  where
    go : Found v s k (find v s k) → find v s k ≡ process_slots
    go (inl (a, b, c)) = absurd (subst (In (row v s (find v s k))) e (in_map (row v s) _ (all_seen v s) (seen_listed h s _ a)))
    go (inr (a, b)) = a

-- ---- the namespaces that twins hold for their children

module _ {v : View} (f : Facts v) where
  pub children_taken : (i : ℕ) → So (living v i) → So (namespace_taken v (children v i))
  unfolding S.children_namespaces
  children_taken i h = (f.children i (lives_taken v i h) h).0

  pub children_below : (i : ℕ) → So (living v i) → So (below v (children v i) (v.own i))
  unfolding S.children_namespaces
  children_below i h = (f.children i (lives_taken v i h) h).1

  -- an unborn one lies below a living one only if its holder is seen from there
  pub unborn_outside : (top i : ℕ) → So (living v i) → So (unborn v (children v i)) → So (alive v top) → seen v top i ≡ false → below v (children v i) top ≡ false
  unfolding seen taken
  unborn_outside top i h n a o =
      isnt_so
      (λ b. no_so o
      (both _ _ (lives_taken v i h)
      (subst (λ x. So (below v x top)) (sym (f.unborn_own (children v i) (children_taken i h) n i (lives_taken v i h) (holds_children v i)))
      (below_up f (children v i) top b (λ e. no_so (alive_not_unborn (v.life top) a) (subst (λ x. So (unborn v x)) e n))))))

module _ {v u : View} {s r : ℕ} (w : Pair v u s r) {i j : ℕ} (k : Twin v u s r i j) (li : So (living v i)) where
  lj : So (living u j)
  lj = sym (living_twins w k) ∙ li

  pub children_unborn : unborn v (children v i) ≡ unborn u (children u j)
  unfolding row
  children_unborn = sym (name_unborn w.facts_v s _ (children_taken w.facts_v i li)) ∙ ap is_unborn_name (named_rows v u s r i j (twin_rows w k) 0 (omega arith)) ∙ name_unborn w.facts_u r _ (children_taken w.facts_u j lj)

  pub children_names : unborn v (children v i) ≡ false → Namesakes v u s r (children v i) (children u j)
  unfolding row
  children_names h =
      record {
        names = named_rows v u s r i j (twin_rows w k) 0 (omega arith);
        stands_v = children_taken w.facts_v i li;
        stands_u = children_taken w.facts_u j lj;
        below_v = below_trans v w.facts_v _ _ s (children_below w.facts_v i li) (seen_below v s i k.seen_v);
        below_u = below_trans u w.facts_u _ _ r (children_below w.facts_u j lj) (seen_below u r j k.seen_u);
        born_v = h;
        born_u = sym children_unborn ∙ h;
      }

-- a twin that holds its own namespace for its children has a twin that does
home_there : {v u : View} {s r : ℕ} (w : Pair v u s r) {i j : ℕ} (k : Twin v u s r i j) → So (living v i) → So (alive v (v.own i)) → children v i ≡ v.own i → children u j ≡ u.own j
home_there {v} w {i} k l a e =
    twins_unique w
    (twins_named w (children_names w k l (subst (λ n. unborn v n ≡ false) (sym e) (own_not_unborn v w.facts_v i (taken_v k)))) (subst (λ n. So (alive v n)) (sym e) a))
    (owns w k a) e

pub home_twins : {v u : View} {s r : ℕ} (w : Pair v u s r) {i j : ℕ} (k : Twin v u s r i j) → So (living v i) → So (alive v (v.own i)) → eqb (children v i) (v.own i) ≡ eqb (children u j) (u.own j)
home_twins w k l a =
    bool_ext _ _
    (λ h. eq-eqb _ _ (home_there w k l a (eqb-true _ _ h)))
    (λ h. eq-eqb _ _ (home_there (flip_pair w) (flip_twin k) (sym (living_twins w k) ∙ l) (sym (alive_named w (own_names w k)) ∙ a) (eqb-true _ _ h)))
