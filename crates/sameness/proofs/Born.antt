-- A birth on one table: what is read of the child and of the others. On two tables: the next number is the same.
use Prim.Native.Nat.{ℕ, suc, ◌-◌, pred, ◌<◌, ◌≤◌}
use native.Mathlib.Omega.{arith}
use mathlib.Core.Bool.{Bool, not, So, true, false, false≢true}
use mathlib.Core.Logic.{◌⊎◌, inl, inr, ⊎_elim}
use mathlib.Core.Path.{◌≡◌, refl, sym, ◌∙◌, ap, ap₂, fun_ext, subst}
use borrow.Author.Tests.{eq-eqb, eqb-true, ne_eqb, le-leb}
use lib.Dec.{eqb, leb}
use Rattle.rules.proofs.Keeps.Birth.{with_born, next_fresh}
use Rattle.rules.proofs.Laws.Below.{below_level, below_trans, deep_namespace}
use Rattle.rules.proofs.Laws.Facts.{Facts, seen_taken, seen_below}
use Rattle.rules.proofs.Laws.Slots.{alive_taken, init_own, below_same, below_up_by, up_by_level, up_by_end, init_taken, none_below_unborn, own_not_unborn}
use Rattle.rules.proofs.Laws.Tests.{no_so, isnt_so, left, right, both, any_elim, any_intro, isnt, bool_ext}
use Rattle.rules.proofs.Laws.Tree.{below_refl}
use Rattle.sameness.proofs.Cases.{by_equal}
use Rattle.sameness.proofs.Readers.{seen_above}
use Rattle.sameness.proofs.Anchor.{init_or_none, up_below}
use Rattle.sameness.proofs.Remain.{Tree, name_stays}
use Rattle.sameness.proofs.Twins.{Pair, Twins, flip_pair, flip_twins, twin_there, twin_rows, seen_twins, pid_twins, inits_twin, pid_in_seen, twins_level, twins_up_by, taken_u}
use Rattle.table.specs.Limits.{greatest_pid, process_slots, restart_pid, no_slot}
use Rattle.rules.specs.Pids.{free_pid, next_pid}
use Rattle.table.specs.Slots.{is_unborn}
use Rattle.rules.specs.Read.{View, alive, init, is_init, pid_seen, seen, above_at, below, namespace_taken, pid_in, taken, unborn, up_by}
use Rattle.sameness.specs.Sheet.{Row, row, by_init, name, name_by, unborn_name}
use Rattle.table.specs.Tests.{◌and◌, any, when◌then◌else◌, lowest}
use Rattle.table.specs.declared.Life.TheVariants.{Unborn, Alive, Dead}
use Rattle.table.specs.declared.Life.{Life}

-- ---- the next number in two twin namespaces is the same

held_there : {v u : View} {s r : ℕ} (w : Pair v u s r) {n m : ℕ} (k : ℕ) → Twins v u s r n m → So (any process_slots (λ i. seen v n i and eqb (pid_seen v n i) k)) → So (any process_slots (λ j. seen u m j and eqb (pid_seen u m j) k))
held_there {u} {s} {r} w {n} k l h =
    let (i, b, g) = any_elim _ _ h in
    let (j, p) = twin_there w i (seen_above w.facts_v n s i l.below_v (left _ _ g)) in
    any_intro _ _ j (w.facts_u.in_range j (taken_u p))
    (both _ _ (sym (seen_twins w p l) ∙ left _ _ g) (eq-eqb _ _ (sym (pid_twins w p l) ∙ eqb-true _ _ (right _ _ g))))

-- it is where the same numbers are free and the last was the same
next_same : (v u : View) (n m : ℕ) → ((k : ℕ) → free_pid v n k ≡ free_pid u m k) → v.last n ≡ u.last m → next_pid v n ≡ next_pid u m
unfolding next_pid
next_same v u n m h e =
    ap₂ (λ (f : ℕ → Bool) (a : ℕ). let k = lowest f (greatest_pid - a) (suc a) in let q = lowest f (suc greatest_pid - restart_pid) restart_pid in when leb k greatest_pid then k else q) (fun_ext h) e

module _ {v u : View} {s r : ℕ} (w : Pair v u s r) {n m : ℕ} (l : Twins v u s r n m) where
  pub free_twins : (k : ℕ) → free_pid v n k ≡ free_pid u m k
  unfolding free_pid
  free_twins k = ap not (bool_ext _ _ (held_there w k l) (held_there (flip_pair w) k (flip_twins l)))

  -- the last number, from the init's row
  pub last_twins : v.last n ≡ u.last m
  unfolding row is_init
  last_twins = sym (shows v w.facts_v n l.lives_v) ∙ ap (λ (q : Row). q.last) (twin_rows w (inits_twin w l)) ∙ shows u w.facts_u m l.lives_u
    where
      shows : (x : View) (f : Facts x) (a : ℕ) → So (alive x a) → (when eqb (init x (x.own (init x a))) (init x a) then x.last (x.own (init x a)) else 0) ≡ x.last a
      shows x f a h =
          ap (λ (y : ℕ). when eqb (init x y) (init x a) then x.last y else 0) (init_own x f a h)
          ∙ ap (λ (b : Bool). when b then x.last a else 0) (eq-eqb (init x a) (init x a) refl)

  -- the next number is the same
  pub next_twins : next_pid v n ≡ next_pid u m
  next_twins = next_same v u n m free_twins last_twins

-- ---- a birth, on one table: what is read of the others is what it was

-- nothing lies below an unborn namespace but itself
pub bottom : {v : View} (f : Facts v) (a m : ℕ) → So (below v a m) → So (unborn v m) → a ≡ m
bottom {v} f a m b h =
    by_equal (v.level a) (v.level m) (λ e. below_same v f a m b e)
    (λ e.
    let d = pred (v.level a - v.level m) in
    let l = below_level v f a m b in
    let q : suc d ≡ v.level a - v.level m = omega arith in
    absurd (none_below_unborn v f m (up_by v.up d a) (v.level m) h (omega (arith, up_by_level v f d a (omega arith))) (sym (up_by_end v f d a) ∙ ap (λ x. up_by v.up x a) q ∙ below_up_by v f a m b)))

-- an empty slot k, and a namespace n
pub record Room (v : View) (n k : ℕ) : Type 0 where
  pub facts : Facts v
  pub slot : k < process_slots
  pub empty : taken v k ≡ false
  pub stands : So (namespace_taken v n)

-- a child of c is born there
module _ {v : View} {n k : ℕ} (room : Room v n k) (c : ℕ) where
  f : Facts v
  f = room.facts

  abbrev v' : View
  v' = with_born v c n k

  pub below_grown : (a b : ℕ) → below v' a b ≡ below v a b
  unfolding below
  below_grown a b = refl

  -- one in the table is not the new one
  pub old : (i : ℕ) → So (taken v i) → i ≡ k → ⊥
  old i h e = no_so room.empty (subst (λ j. So (taken v j)) e h)

  -- the others are seen as before, with the same numbers
  pub seen_grown : (m i : ℕ) → (i ≡ k → ⊥) → seen v' m i ≡ seen v m i
  unfolding seen taken below
  seen_grown m i o = rw (ne_eqb i k o)

  pub pid_grown : (m i : ℕ) → (i ≡ k → ⊥) → pid_seen v' m i ≡ pid_seen v m i
  unfolding pid_seen
  pid_grown m i o = rw (ne_eqb i k o)

  pub pid_in_grown : (m i : ℕ) → (i ≡ k → ⊥) → pid_in v' m i ≡ pid_in v m i
  unfolding pid_in
  pid_in_grown m i o = ap₂ (λ (b : Bool) (x : ℕ). when b then x else 0) (seen_grown m i o) (pid_grown m i o)

  -- the child
  child_taken : So (taken v' k)
  unfolding taken
  child_taken = rw (eq-eqb k k refl, le-leb 0 (v.level n) (omega arith)) (ap not (ne_eqb (next_pid v (above_at v n 0)) 0 (λ z. omega (arith, z, (next_fresh v (above_at v n 0)).above))))

  pub child_seen : (m : ℕ) → So (below v n m) → So (seen v' m k)
  unfolding seen taken below
  child_seen m h = both _ _ child_taken (rw (eq-eqb k k refl) h)

  pub child_pid_in : (m : ℕ) → So (below v n m) → pid_seen v' m k ≡ next_pid v m
  unfolding pid_seen above_at
  child_pid_in m h = rw (eq-eqb k k refl, le-leb (v.level m) (v.level n) (below_level v f n m h)) (ap (next_pid v) (below_up_by v f n m h))

  -- ---- lives

  pub life_born : (m : ℕ) → unborn v m ≡ false → v'.life m ≡ v.life m
  life_born m h = ap (λ (b : Bool). when below v n m then (when b then Alive (record { 0 = k }) else v.life m) else v.life m) h ∙ either (below v n m)
    where
      either : (b : Bool) → (when b then v.life m else v.life m) ≡ v.life m
      either true = refl
      either false = refl

  pub life_other : (m : ℕ) → So (unborn v m) → (n ≡ m → ⊥) → v'.life m ≡ v.life m
  life_other m h o =
      let not_above : below v n m ≡ false = isnt_so (λ b. o (bottom f n m b h)) in
      ap (λ (b : Bool). when b then (when is_unborn (v.life m) then Alive (record { 0 = k }) else v.life m) else v.life m) not_above

  pub life_new : So (unborn v n) → v'.life n ≡ Alive (record { 0 = k })
  life_new h = ap₂ (λ (a b : Bool). when a then (when b then Alive (record { 0 = k }) else v.life n) else v.life n) (below_refl v n) h

  -- ---- names

  abbrev born : ℕ → Bool
  born m = not (unborn v m)

  born_tree : Tree v v' born
  born_tree = record { ups = λ m h. refl; levels = λ m h. refl; up_kept = λ m j h e. ap not (isnt_so (λ q. none_below_unborn v f (v.up m) m j q e refl)) }

  -- no init is the child
  init_old : (m : ℕ) → init v m ≡ k → ⊥
  init_old m e = ⊎_elim (λ a. old _ (init_taken v f m a) e) (λ q. omega (arith, q, e, room.slot)) (init_or_none v m)

  -- a namespace that was born keeps its name, an unborn one keeps it or is born
  pub name_born : (s m : ℕ) → unborn v m ≡ false → name v' s m ≡ name v s m
  name_born s m h = name_stays f born_tree (λ a k. life_born a (isnt (unborn v a) k)) s (λ a k. pid_in_grown s (init v a) (init_old a)) m (ap not h)

  pub name_other : (s m : ℕ) → So (namespace_taken v m) → So (unborn v m) → (n ≡ m → ⊥) → name v' s m ≡ unborn_name
  unfolding name name_by
  name_other s m ht h o = rw (ne_eqb m no_slot (λ e. omega (arith, f.in_namespace m ht)), life_other m h o, is_unborn_life (v.life m) h) refl
    where
      is_unborn_life : (l : Life) → So (is_unborn l) → l ≡ Unborn
      is_unborn_life Unborn z = refl
      is_unborn_life (Alive i) z = absurd (false≢true z)
      is_unborn_life Dead z = absurd (false≢true z)

  pub name_new : (s : ℕ) → So (unborn v n) → So (below v n s) → name v' s n ≡ by_init (next_pid v s)
  unfolding name name_by
  name_new s h b =
      rw (ne_eqb n no_slot (λ e. omega (arith, f.in_namespace n room.stands)), life_new h)
      (ap by_init (pid_in_seen v' s k (child_seen s b) ∙ child_pid_in s b))

-- ---- the numbers that two newborns get from S's level down are the same

-- nobody is seen from an unborn namespace
unborn_unseen : {v : View} (f : Facts v) (n i : ℕ) → So (unborn v n) → So (seen v n i) → ⊥
unborn_unseen {v} f n i h k = no_so (own_not_unborn v f i (seen_taken v n i k)) (subst (λ m. So (unborn v m)) (sym (bottom f (v.own i) n (seen_below v n i k) h)) h)

unborn_free : {v : View} (f : Facts v) (n k : ℕ) → So (unborn v n) → So (free_pid v n k)
unfolding free_pid
unborn_free {v} f n k h =
    let held = any process_slots (λ i. seen v n i and eqb (pid_seen v n i) k) in
    ap not (bool_ext held false (λ a. let (i, l, g) = any_elim _ _ a in absurd (unborn_unseen f n i h (left _ _ g))) (λ a. absurd (false≢true a)))

pub next_unborn : {v u : View} (f : Facts v) (g : Facts u) (n m : ℕ) → So (unborn v n) → So (unborn u m) → v.last n ≡ u.last m → next_pid v n ≡ next_pid u m
next_unborn {v} {u} f g n m h k e = next_same v u n m (λ i. unborn_free f n i h ∙ sym (unborn_free g m i k)) e

-- where two children are born: in twin namespaces, or in unborn ones below twin namespaces
pub record Unborns (v u : View) (s r n m : ℕ) : Type 0 where
  pub unborn_v : So (unborn v n)
  pub unborn_u : So (unborn u m)
  pub lasts : v.last n ≡ u.last m
  pub ups : Twins v u s r (v.up n) (u.up m)
  pub level_v : v.level n ≡ suc (v.level (v.up n))
  pub level_u : u.level m ≡ suc (u.level (u.up m))

abbrev pub Cradles : View → View → ℕ → ℕ → ℕ → ℕ → Type 0
Cradles v u s r n m = Twins v u s r n m ⊎ Unborns v u s r n m

-- they lie below S, and stand
pub cradle_below : {v u : View} {s r n m : ℕ} (w : Pair v u s r) → Cradles v u s r n m → So (below v n s) × So (below u m r)
cradle_below w (inl k) = (k.below_v, k.below_u)
cradle_below {v} {u} {n} {m} w (inr k) = (below_trans v w.facts_v n (v.up n) _ (up_below w.facts_v n _ k.level_v) k.ups.below_v, below_trans u w.facts_u m (u.up m) _ (up_below w.facts_u m _ k.level_u) k.ups.below_u)

pub cradle_stands : {v u : View} {s r n m : ℕ} (w : Pair v u s r) → Cradles v u s r n m → So (namespace_taken v n) × So (namespace_taken u m)
cradle_stands {v} {u} {n} {m} w (inl k) = (alive_taken v w.facts_v n k.lives_v, alive_taken u w.facts_u m k.lives_u)
cradle_stands {v} {u} {n} {m} w (inr k) = (deep_namespace v n _ k.level_v, deep_namespace u m _ k.level_u)

-- the numbers that two newborns get from S's level down are the same
pub cradle_next : {v u : View} {s r : ℕ} (w : Pair v u s r) (n m l : ℕ) → Cradles v u s r n m → v.level s ≤ l → l ≤ v.level n → next_pid v (above_at v n l) ≡ next_pid u (above_at u m l)
unfolding above_at up_by
cradle_next {v} {u} {s} {r} w n m l (inl k) a b =
    next_twins w
    (subst (λ x. Twins v u s r (up_by v.up (v.level n - l) n) (up_by u.up (x - l) m)) (twins_level w k) (twins_up_by w (v.level n - l) k (omega arith)))
cradle_next {v} {u} w n m l (inr k) a b =
    let levels : v.level n ≡ u.level m = omega (arith, k.level_v, k.level_u, twins_level w k.ups) in
    by_equal l (v.level n)
    (λ e.
    let x : v.level n - l ≡ 0 = omega arith in
    let y : u.level m - l ≡ 0 = omega (arith, levels) in
    ap (λ z. next_pid v (up_by v.up z n)) x ∙ next_unborn w.facts_v w.facts_u n m k.unborn_v k.unborn_u k.lasts ∙ sym (ap (λ z. next_pid u (up_by u.up z m)) y))
    (λ e.
    let x : v.level n - l ≡ suc (v.level (v.up n) - l) = omega (arith, k.level_v) in
    let y : u.level m - l ≡ suc (v.level (v.up n) - l) = omega (arith, levels, k.level_v) in
    ap (λ z. next_pid v (up_by v.up z n)) x
    ∙ next_twins w (twins_up_by w (v.level (v.up n) - l) k.ups (omega arith))
    ∙ sym (ap (λ z. next_pid u (up_by u.up z m)) y))
