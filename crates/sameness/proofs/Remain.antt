-- A change that leaves places: some namespaces, with all above them, and some processes stand as they stood, and the
-- other processes are gone. So "below", numbers and names stay, and two tables that change so stay the same to S.
use mathlib.Core.List.{List}
use Prim.Native.Nat.{ℕ, zero, suc, ◌-◌}
use mathlib.Core.Bool.{Bool, true, false, not, So}
use mathlib.Core.Path.{◌≡◌, refl, sym, ◌∙◌, ap, ap₂, fun_ext, subst}
use lib.Dec.{eqb}
use Rattle.rules.proofs.Laws.Below.{up_level}
use Rattle.rules.proofs.Laws.Facts.{Facts}
use Rattle.rules.proofs.Laws.Tests.{isnt_so, no_so, and_false, choose}
use Rattle.sameness.proofs.Cases.{by_test}
use Rattle.sameness.proofs.Anchor.{anchor}
use Rattle.sameness.proofs.Same.{Same}
use Rattle.sameness.proofs.Twins.{Pair, Twin, flip_pair, flip_twin, twin_rows, twin_there, taken_v, taken_u}
use Rattle.table.specs.Limits.{levels, no_slot, hold_slots}
use Rattle.table.specs.Slots.{init_of, is_alive}
use Rattle.rules.specs.Read.{View, below, climb, init, is_init, namespace_taken, pid_in, pid_seen, seen, taken}
use Rattle.sameness.specs.Sheet.{Name, Row, by_init, dead_at, name, name_by, nearest, no_name, row}
use Rattle.sameness.proofs.Names.{Named, names_alike}
use Rattle.table.specs.Tests.{◌and◌, ◌or◌, when◌then◌else◌, values}
use Rattle.table.specs.declared.Life.TheVariants.{Unborn, Alive, Dead}
use Rattle.table.specs.declared.Life.{Life}
use Rattle.table.specs.declared.State.{State}
use Rattle.table.specs.declared.Traits.{Traits}

abbrev pub everyone : ℕ → Bool
everyone i = true

-- ---- namespaces

-- those of K, which with each has its parent, keep parent and level
pub record Tree (v v' : View) (K : ℕ → Bool) : Type 0 where
  pub ups : (n : ℕ) → So (K n) → v'.up n ≡ v.up n
  pub levels : (n : ℕ) → So (K n) → v'.level n ≡ v.level n
  pub up_kept : (n k : ℕ) → So (K n) → v.level n ≡ suc k → So (K (v.up n))

module _ {v v' : View} {K : ℕ → Bool} (f : Facts v) (w : Tree v v' K) where
  climb_stays : (k a b : ℕ) → So (K a) → v.level a ≡ k → climb v'.up k a b ≡ climb v.up k a b
  unfolding climb
  climb_stays zero a b h e = refl
  climb_stays (suc k) a b h e =
      ap (λ (x : Bool). elim (eqb a b) [ true ↦ true | false ↦ x ])
      (ap (λ x. climb v'.up k x b) (w.ups a h) ∙ climb_stays k (v.up a) b (w.up_kept a k h e) (up_level v f a k e))

  -- "below" stays
  pub below_stays : (a b : ℕ) → So (K a) → below v' a b ≡ below v a b
  unfolding below
  below_stays a b h = ap (λ k. climb v'.up k a b) (w.levels a h) ∙ climb_stays (v.level a) a b h refl

  -- a namespace of K stands
  pub stands : (n : ℕ) → So (K n) → So (namespace_taken v n) → So (namespace_taken v' n)
  unfolding namespace_taken
  stands n h k = ap (λ x. eqb n 0 or not (eqb x 0)) (w.levels n h) ∙ k

  -- their names, where they keep their lives and the inits that names rest on their numbers
  module _ (lives : (n : ℕ) → So (K n) → v'.life n ≡ v.life n) (s : ℕ) (inits : (m : ℕ) → So (K m) → pid_in v' s (init v m) ≡ pid_in v s (init v m)) where
    near_stays : (k n : ℕ) → So (K n) → v.level n ≡ k → nearest v'.life v'.up k n ≡ nearest v.life v.up k n
    unfolding nearest
    near_stays zero n h e = refl
    near_stays (suc k) n h e =
        ap₂ (λ (b : Bool) (x : ℕ). elim b [ true ↦ n | false ↦ x ]) (ap is_alive (lives n h))
        (ap (λ x. nearest v'.life v'.up k x) (w.ups n h) ∙ near_stays k (v.up n) (w.up_kept n k h e) (up_level v f n k e))

    near_kept : (k n : ℕ) → So (K n) → v.level n ≡ k → So (K (nearest v.life v.up k n))
    unfolding nearest
    near_kept zero n h e = h
    near_kept (suc k) n h e = choose (λ m. So (K m)) (is_alive (v.life n)) (λ a. h) (λ a. near_kept k (v.up n) (w.up_kept n k h e) (up_level v f n k e))

    by_stays : (n : ℕ) → So (K n) → (l : Life) → v.life n ≡ l → name_by v' s n l ≡ name_by v s n l
    unfolding name_by
    by_stays n hn Unborn e = refl
    by_stays n hn (Alive i) e = ap by_init (subst (λ x. pid_in v' s x ≡ pid_in v s x) (ap init_of e) (inits n hn))
    by_stays n hn Dead e =
        let near = ap (λ k. nearest v'.life v'.up k n) (w.levels n hn) ∙ near_stays (v.level n) n hn refl in
        let kept = near_kept (v.level n) n hn refl in
        ap₂ dead_at (w.levels n hn) (ap (pid_in v' s) (ap init_of (ap v'.life near ∙ lives (anchor v n) kept)) ∙ inits (anchor v n) kept)

    pub name_stays : (n : ℕ) → So (K n) → name v' s n ≡ name v s n
    unfolding name
    name_stays n hn = ap (λ y. when eqb n no_slot then no_name else y) (ap (name_by v' s n) (lives n hn) ∙ by_stays n hn (v.life n) refl)

-- ---- processes

-- the processes of Q keep own namespace and numbers, the others are gone; the namespaces of K keep their places
pub record Places (v v' : View) (K Q : ℕ → Bool) : Type 0 where
  pub tree : Tree v v' K
  pub owns : (i : ℕ) → So (Q i) → v'.own i ≡ v.own i
  pub pids : (i l : ℕ) → So (Q i) → v'.pid i l ≡ v.pid i l
  pub gone : (i : ℕ) → Q i ≡ false → taken v' i ≡ false
  pub own_kept : (i : ℕ) → So (Q i) → So (taken v i) → So (K (v.own i))

module _ {v v' : View} {K Q : ℕ → Bool} (f : Facts v) (w : Places v v' K Q) where
  -- who remains is seen as before
  pub seen_remain : (n i : ℕ) → So (Q i) → seen v' n i ≡ seen v n i
  unfolding seen taken
  seen_remain n i h =
      let kept = ap (λ x. not (eqb x 0)) (w.pids i 0 h) in
      by_test (taken v i) (λ e. ap₂ ◌and◌ kept (ap (λ x. below v' x n) (w.owns i h) ∙ below_stays f w.tree (v.own i) n (w.own_kept i h e)))
      (λ e. rw (kept ∙ e, e) (and_false (below v' (v'.own i) n) ∙ sym (and_false (below v (v.own i) n))))

  seen_gone : (n i : ℕ) → Q i ≡ false → seen v' n i ≡ false
  unfolding seen taken
  seen_gone n i h = rw (w.gone i h) (and_false (below v' (v'.own i) n))

  -- all whom S sees remaining, it sees the same
  pub seen_same : (s : ℕ) → ((i : ℕ) → So (seen v s i) → So (Q i)) → (i : ℕ) → seen v' s i ≡ seen v s i
  seen_same s h i = by_test (Q i) (seen_remain s i) (λ q. seen_gone s i q ∙ sym (isnt_so (λ k. no_so q (h i k))))

  -- who is seen then, remains
  remains : (n i : ℕ) → So (seen v' n i) → So (Q i)
  remains n i h = by_test (Q i) (λ q. q) (λ q. absurd (no_so (seen_gone n i q) h))

  pub pid_remain : (n i : ℕ) → So (K n) → So (Q i) → pid_seen v' n i ≡ pid_seen v n i
  unfolding pid_seen
  pid_remain n i k h = ap (v'.pid i) (w.tree.levels n k) ∙ w.pids i (v.level n) h

  pub pid_in_remain : (n i : ℕ) → So (K n) → So (Q i) → pid_in v' n i ≡ pid_in v n i
  unfolding pid_in
  pid_in_remain n i k h = ap₂ (λ (b : Bool) (x : ℕ). when b then x else 0) (seen_remain n i h) (pid_remain n i k h)

  -- the numbers that a row shows
  pub pids_remain : (s i : ℕ) → So (K s) → So (Q i) → values (v'.pid i) (levels - v'.level s) (v'.level s) ≡ values (v.pid i) (levels - v.level s) (v.level s)
  pids_remain s i k h = ap₂ (λ (p : ℕ → ℕ) (l : ℕ). values p (levels - l) l) (fun_ext (λ l. w.pids i l h)) (w.tree.levels s k)

-- two tables, of twins both remaining or none
module _ {v u v' u' : View} {s r : ℕ} (w : Pair v u s r) {K Q K' Q' : ℕ → Bool} (a : Places v v' K Q) (b : Places u u' K' Q') (hs : So (K s)) (hr : So (K' r)) (alike : (i j : ℕ) → Twin v u s r i j → Q i ≡ Q' j) where
  pub twin_remain : {i j : ℕ} → Twin v u s r i j → So (Q i) → Twin v' u' s r i j
  twin_remain {i} {j} k q =
      let q' = sym (alike i j k) ∙ q in
      record {
        seen_v = seen_remain w.facts_v a s i q ∙ k.seen_v;
        seen_u = seen_remain w.facts_u b r j q' ∙ k.seen_u;
        pids = pid_remain w.facts_v a s i hs q ∙ k.pids ∙ sym (pid_remain w.facts_u b r j hr q');
      }

  -- they stay the same to S if the rows of who remains do
  pub same_rows : ((i j : ℕ) → Twin v u s r i j → So (Q i) → row v' s i ≡ row u' r j) → Same v' u' s r
  same_rows rows =
      record {
        levels = a.tree.levels s hs ∙ w.same.levels ∙ sym (b.tree.levels r hr);
        there =
            λ i k.
            let q = remains w.facts_v a s i k in
            let (j, p) = twin_there w i (sym (seen_remain w.facts_v a s i q) ∙ k) in
            (j, (twin_remain p q).seen_u, rows i j p q);
        back =
            λ j k.
            let q' = remains w.facts_u b r j k in
            let (i, p) = twin_there (flip_pair w) j (sym (seen_remain w.facts_u b r j q') ∙ k) in
            let q = alike i j (flip_twin p) ∙ q' in
            (i, (twin_remain (flip_twin p) q).seen_v, rows i j (flip_twin p) q);
      }

-- ---- rows

-- the namespaces of K keep their lives too, and their inits remain
pub record Remain (v v' : View) (K Q : ℕ → Bool) : Type 0 where
  pub places : Places v v' K Q
  pub lives : (n : ℕ) → So (K n) → v'.life n ≡ v.life n
  pub inits : (n : ℕ) → So (K n) → So (Q (init v n))

-- a row by what may change
abbrev pub lit : View → ℕ → ℕ → State → Traits → ℕ → List Name → ℕ → Row
lit v s i st x p c z = record { pids = values (v.pid i) (levels - v.level s) (v.level s); state = st; traits = x; parent = p; own = name v s (v.own i); holds = c; last = z }

module _ {v v' : View} {K Q : ℕ → Bool} (f : Facts v) (w : Remain v v' K Q) where
  pub name_remain : (s n : ℕ) → So (K s) → So (K n) → name v' s n ≡ name v s n
  name_remain s n hs = name_stays f w.places.tree w.lives s (λ m k. pid_in_remain f w.places s (init v m) hs (w.inits m k)) n

  -- the row of one that remains, but for what may change
  pub row_remain : (s i : ℕ) → So (K s) → So (Q i) → So (taken v i) → row v' s i ≡ lit v s i (v'.state i) (v'.traits i) (pid_in v' s (v'.parent i)) (values (λ k. name v' s (v'.hold i k)) hold_slots 0) (when is_init v i then v'.last (v.own i) else 0)
  unfolding row is_init
  row_remain s i hs h ht =
      let own = w.places.owns i h in
      let kept = w.places.own_kept i h ht in
      λ k. record {
        pids = pids_remain f w.places s i hs h k;
        state = v'.state i;
        traits = v'.traits i;
        parent = pid_in v' s (v'.parent i);
        own = (ap (name v' s) own ∙ name_remain s (v.own i) hs kept) k;
        holds = values (λ k. name v' s (v'.hold i k)) hold_slots 0;
        last = (ap (λ (n : ℕ). when eqb (init v' n) i then v'.last n else 0) own ∙ ap (λ (x : Life). when eqb (init_of x) i then v'.last (v.own i) else 0) (w.lives (v.own i) kept)) k;
      }

-- what may change is the same for a pair of twins that remain
pub record Lit (v u v' u' : View) (s r i j : ℕ) : Type 0 where
  pub states : v'.state i ≡ u'.state j
  pub traitss : v'.traits i ≡ u'.traits j
  pub parents : pid_in v' s (v'.parent i) ≡ pid_in u' r (u'.parent j)
  pub holds : Named v' u' s r i j
  pub lasts : (when is_init v i then v'.last (v.own i) else 0) ≡ (when is_init u j then u'.last (u.own j) else 0)

-- two tables that were the same to S still are, if what may change is the same
pub same_remain : {v u v' u' : View} {s r : ℕ} (w : Pair v u s r) {K Q K' Q' : ℕ → Bool} (a : Remain v v' K Q) (b : Remain u u' K' Q') → So (K s) → So (K' r) → ((i j : ℕ) → Twin v u s r i j → Q i ≡ Q' j) → ((i j : ℕ) → Twin v u s r i j → So (Q i) → Lit v u v' u' s r i j) → Same v' u' s r
unfolding row
same_remain {v} {u} {s} {r} w a b hs hr alike h =
    same_rows w a.places b.places hs hr alike
    (λ i j k q.
    let e = twin_rows w k in
    let l = h i j k q in
    row_remain w.facts_v a s i hs q (taken_v k)
    ∙ (λ z. record { pids = (e z).pids; state = l.states z; traits = l.traitss z; parent = l.parents z; own = (e z).own; holds = names_alike _ _ s r i j l.holds z; last = l.lasts z })
    ∙ sym (row_remain w.facts_u b r j hr (sym (alike i j k) ∙ q) (taken_u k)))
