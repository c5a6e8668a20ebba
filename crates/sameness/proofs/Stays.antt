-- The end of S: its processes are refused, and it stays in its slot while nobody touches it.
use Prim.Native.Nat.{ℕ, ◌<◌, ◌≤◌, ◌-◌, ◌+◌}
use native.Mathlib.Decide.{dec_lt}
use native.Mathlib.Omega.{arith}
use mathlib.Core.Bool.{Bool, true, false, not, So}
use mathlib.Core.List.{List, [], ◌∷◌}
use mathlib.Core.Logic.{◌⊎◌, inl, inr, ⊎_elim}
use mathlib.Core.Option.{Option, none, some}
use mathlib.Core.Path.{◌≡◌, refl, sym, ◌∙◌, ap, subst}
use borrow.Author.Tests.{eq-eqb, eqb-true, ne_eqb}
use lib.Dec.{eqb}
use lib.IntN.{ℤ, pos, negsuc}
use lib.ListN.{get_or}
use Rattle.rules.proofs.Keeps.Finds.{meant_seen}
use Rattle.rules.proofs.Laws.Below.{below_level, below_trans, shallow_below, up_not_below}
use Rattle.rules.proofs.Laws.Facts.{Below, Facts, Other, Seen, Stands, Taken, facts, is_seen, seen_below, seen_taken}
use Rattle.rules.proofs.Laws.Find.{find_cases, finds}
use Rattle.rules.proofs.Laws.Judged.{none_refused}
use Rattle.rules.proofs.Laws.Slots.{alive_above, alive_otherwise, below_same, init_own, init_pid, init_taken, own_dead_ended, own_not_unborn, own_taken, pid_pos, pid_zero}
use Rattle.rules.proofs.Laws.Steps.{made_or_refused, step_refused}
use Rattle.rules.proofs.Laws.Tests.{isnt_so, left, no_so, right, yes_or_no}
use Rattle.rules.proofs.Laws.Tree.{below_refl}
use Rattle.rules.proofs.Promises.{children_turn, clone_tells, end_exact, keeps_sound, member_end_exact, namespaces_kept, numbers_kept, refusal_leaves, signal_exact, signals_only, wait_exact}
use Rattle.sameness.proofs.Cases.{by_equal}
use Rattle.sameness.proofs.Promise3.{outside_leaves}
use Rattle.sameness.proofs.Names.{getD_values}
use Rattle.sameness.proofs.Readers.{find_none}
use Rattle.sameness.proofs.Same.{level_lt, row_pid, same_of_sheets}
use Rattle.rules.specs.Answers.{answers, end_of, granted, number_of, refused, refusal_number}
use Rattle.rules.specs.Calls.{getpid, getppid}
use Rattle.rules.specs.Claims.{KeepsSound, NamespacesKept, NumbersKept, RefusalLeaves, SignalExact, after, ends_init}
use Rattle.rules.specs.Read.{View, child_of, dead, find, init, is_init, namespace_taken, pid_seen, seen, taken, view}
use Rattle.rules.specs.Sound.{SoundTable, zero_namespace}
use Rattle.rules.specs.Step.{make, runs, step}
use Rattle.sameness.specs.Claims.{EndedRefuses, NeverFreed, OutsideLeaves, place_after}
use Rattle.sameness.specs.Events.{Event, answer_of, at, follow, gone, happens, inside, next_table, outside, sheet_of, slot_of, table_after}
use Rattle.sameness.specs.Sheet.{Row, Sheet, row, sheet}
use Rattle.sameness.specs.Touches.{allowed, untouched}
use Rattle.table.specs.Limits.{levels, process_slots}
use Rattle.table.specs.Slots.{is_alive, is_dead, is_ended, is_running, is_unborn, no_pid, pid_at, process}
use Rattle.table.specs.Tests.{◌or◌, when◌then◌else◌}
use Rattle.table.specs.declared.Call.TheVariants.{Clone, CloneNew, Unshare, Setns, Kill, Exit, Wait, Getpid, Getppid, Handle, Poll}
use Rattle.table.specs.declared.Call.{Call}
use Rattle.table.specs.declared.End.{End}
use Rattle.table.specs.declared.Life.TheVariants.{Unborn, Alive, Dead}
use Rattle.table.specs.declared.Life.{Life}
use Rattle.table.specs.declared.Outcome.{Outcome}
use Rattle.table.specs.declared.Process.{Process}
use Rattle.table.specs.declared.Refusal.TheVariants.{NotRunning}
use Rattle.table.specs.declared.State.TheVariants.{Running, Stopped, Ended}
use Rattle.table.specs.declared.State.{State}
use Rattle.table.specs.declared.Table.{Table}

-- ---- S ended

-- whoever is seen from a dead namespace has ended
ended_too : (v : View) (f : Facts v) (s i : ℕ) → So (dead v s) → Seen v s i → So (v.ended i)
ended_too v f s i d k =
    let x = seen_taken v s i k in
    own_dead_ended v f i x (by_life (yes_or_no (dead v (v.own i))))
  where
    by_life : So (dead v (v.own i)) ⊎ (dead v (v.own i) ≡ false) → So (dead v (v.own i))
    by_life (inl h) = h
    by_life (inr o) =
        let a = alive_otherwise (v.life (v.own i)) o (own_not_unborn v f i (seen_taken v s i k)) in
        absurd (never (v.life s) d (alive_above v f (v.own i) s a (seen_below v s i k)))
      where
        never : (l : Life) → So (is_dead l) → So (is_alive l) → ⊥
        never Unborn a b = no_so refl a
        never (Alive j) a b = no_so refl a
        never Dead a b = no_so refl b

dead_stands : (v : View) (f : Facts v) (s : ℕ) → So (dead v s) → Stands v s
unfolding zero_namespace
dead_stands v f s d = ⊎_elim (λ h. h) (λ o. absurd (both_ways (v.life s) d (right _ _ (f.empty_namespace s (no_so o))))) (yes_or_no (namespace_taken v s))
  where
    both_ways : (l : Life) → So (is_dead l) → So (is_unborn l) → ⊥
    both_ways Unborn a b = no_so refl a
    both_ways (Alive j) a b = no_so refl a
    both_ways Dead a b = no_so refl b

-- an ended process does not run
not_running : (v : View) (i : ℕ) → So (is_ended (v.state i)) → runs v i ≡ false
unfolding runs
not_running v i e = isnt_so (λ r. over (v.state i) e (right _ _ r))
  where
    over : (s : State) → So (is_ended s) → So (is_running s) → ⊥
    over Running a b = no_so refl a
    over Stopped a b = no_so refl a
    over (Ended x) a b = no_so refl b

pub ended_refuses : EndedRefuses
unfolding EndedRefuses happens slot_of answer_of refused number_of refusal_number end_of
ended_refuses t s i c h d k =
    let f = facts t h in
    let e = finds (view t) f s i (dead_stands (view t) f s d) k in
    let l = f.in_range i (seen_taken (view t) s i k) in
    rw (e, ne_eqb i process_slots (λ q. omega (arith, q, l)), step_refused t i c h (not_running (view t) i (ended_too (view t) f s i d k))) refl

-- ---- S stays: whoever has number 1 in it and belongs to it keeps it, since the parent is outside

record Anchor (v : View) (s i : ℕ) : Type 0 where
  here : Taken v i
  own : v.own i ≡ s
  first : pid_seen v s i ≡ 1

-- a process that has the same numbers in the table is there
there : (t u : Table) (i : ℕ) (p : Process) → process u i ≡ p → p.pids ≡ (process t i).pids → Taken (view t) i → Taken (view u) i
unfolding taken
there t u i p e q h = ap (λ (x : Process). not (eqb (pid_at x 0) 0)) e ∙ ap (λ l. not (eqb (get_or l 0 no_pid).0 0)) q ∙ h

module _ (t : Table) (h : SoundTable t) (s i : ℕ) (other : Other s) (a : Anchor (view t) s i) where
  abbrev v : View
  v = view t

  f : Facts v
  f = facts t h

  stands : Stands v s
  stands = subst (Stands v) a.own (own_taken v f i a.here)

  seen_i : Seen v s i
  seen_i = is_seen v s i a.here (subst (λ n. Below v n s) (sym a.own) (below_refl v s))

  not_root : Other i
  not_root z = other (sym a.own ∙ ap v.own z ∙ f.root_own)

  -- its parent is outside
  outside_parent : Seen v s (v.parent i) → ⊥
  outside_parent k =
      let e = f.first_parents i a.here not_root (subst (λ n. pid_seen v n i ≡ 1) (sym a.own) a.first) ∙ ap v.up a.own in
      up_not_below v f s stands other (subst (λ n. Below v n s) e (seen_below v s _ k))

  -- so nobody of S can take its parent down with it
  no_fall : (n : ℕ) → Below v n s → Seen v n (v.parent i) → ⊥
  no_fall n b k = outside_parent (is_seen v s _ (seen_taken v n _ k) (below_trans v f _ n s (seen_below v n _ k) b))

  -- ---- after an inside call

  module _ (c : ℕ) (k : Seen v s c) where
    abbrev Stays : Table → Type 0
    Stays u = Taken (view u) i

    inside_c : Below v (v.own c) s
    inside_c = seen_below v s c k

    -- the table is as it was, or the call was granted
    same_or : (call : Call) → ((b : ℕ) → number_of (step t c call).reply.answer ≡ pos b → Stays (after t c call)) → Stays (after t c call)
    unfolding RefusalLeaves
    same_or call g = go (number_of (step t c call).reply.answer) refl
      where
        go : (z : ℤ) → number_of (step t c call).reply.answer ≡ z → Stays (after t c call)
        go (pos b) e = g b e
        go (negsuc b) e = subst Stays (sym (refusal_leaves t c b call e).0) a.here

    runs_c : (call : Call) (b : ℕ) → number_of (step t c call).reply.answer ≡ pos b → So (runs v c)
    runs_c call b e =
        ⊎_elim (λ r. r) (λ o. absurd (none_refused t NotRunning b (ap (λ (x : Outcome). number_of x.reply.answer) (sym (step_refused t c call h o)) ∙ e)))
        (yes_or_no (runs v c))

    taken_or : (u : Table) → ((taken (view u) i ≡ false) → ⊥) → Stays u
    taken_or u o = ⊎_elim (λ x. x) (λ x. absurd (o x)) (yes_or_no (taken (view u) i))

    -- the caller's record and the others'
    by_caller : (u : Table) (p : Process) → process u c ≡ p → p.pids ≡ (process t c).pids → ((j : ℕ) → (j ≡ c → ⊥) → process u j ≡ process t j) → Stays u
    by_caller u p e q rest =
        by_equal i c
        (λ z. subst (Taken (view u)) (sym z) (there t u c p e q (subst (Taken v) z a.here)))
        (λ o. there t u i (process t i) (rest i o) refl a.here)

    by_kill : (n z : ℤ) (b : ℕ) → number_of (step t c (Kill n z)).reply.answer ≡ pos b → Stays (after t c (Kill n z))
    unfolding SignalExact ends_init
    by_kill n z b e =
        let done = (signal_exact t c b n z h e).1 in
        taken_or (after t c (Kill n z)) (λ o.
        let (j, d, x, y) = (done.removed i a.here).0 (no_so o) in
        let m = meant_seen v c n j (left _ _ (left _ _ (left _ _ (left _ _ d)))) in
        no_fall (v.own j) (below_trans v f _ _ s (seen_below v _ j m) inside_c) y)

    by_exit : (z : ℤ) (b : ℕ) → number_of (step t c (Exit z)).reply.answer ≡ pos b → Stays (after t c (Exit z))
    by_exit z b e = go (yes_or_no (is_init v c))
      where
        r : So (runs v c)
        r = runs_c (Exit z) b e

        not_zero : c ≡ 0 → ⊥
        not_zero q = other (sym (shallow_below v 0 s f.root_level (subst (λ n. Below v n s) (ap v.own q ∙ f.root_own) inside_c)))

        go : So (is_init v c) ⊎ (is_init v c ≡ false) → Stays (after t c (Exit z))
        go (inl x) = taken_or (after t c (Exit z)) (λ o. no_fall (v.own c) inside_c (((end_exact.by_exit t c z h r x not_zero).removed i a.here).0 (no_so o)).1)
        go (inr x) =
            let ends = member_end_exact.by_exit t c z h r (no_so x) in
            by_equal i c
            (λ q. subst (Taken (view (after t c (Exit z)))) (sym q) (there t (after t c (Exit z)) c _ ends.itself refl (subst (Taken v) q a.here)))
            (λ q. ⊎_elim
            (λ y. there t (after t c (Exit z)) i _ (ends.children i y) refl a.here)
            (λ y. there t (after t c (Exit z)) i _ (ends.others i q (no_so y)) refl a.here)
            (yes_or_no (child_of v c i)))

    by_wait : (b : ℕ) → number_of (step t c Wait).reply.answer ≡ pos b → Stays (after t c Wait)
    unfolding child_of
    by_wait b e = go (end_of (step t c Wait).reply.answer) refl
      where
        go : (x : Option End) → end_of (step t c Wait).reply.answer ≡ x → Stays (after t c Wait)
        go none q = subst Stays (sym (wait_exact.none_ended t c b h e q).1) a.here
        go (some x) q =
            let (d, m, n, w) = wait_exact.removes t c b x h e q in
            by_equal i d
            (λ y. absurd (outside_parent (subst (Seen v s) (sym (ap v.parent y ∙ eqb-true _ c (right _ _ (left _ _ m.child)))) k)))
            (λ y. there t (after t c Wait) i _ (m.others i y) refl a.here)

    stays : (call : Call) → Stays (after t c call)
    unfolding make getpid getppid answers granted
    stays Clone =
        same_or Clone (λ b e. let x = clone_tells.plain t c b h e in there t (after t c Clone) i _ (x.others i (λ q. x.new (subst (Taken v) q a.here))) refl a.here)
    stays CloneNew =
        same_or CloneNew (λ b e. let (n, x, y) = clone_tells.in_new t c b h e in there t (after t c CloneNew) i _ (x.others i (λ q. x.new (subst (Taken v) q a.here))) refl a.here)
    stays Unshare = same_or Unshare (λ b e. let (z, n, x, y, w) = children_turn.by_unshare t c b h e in by_caller (after t c Unshare) _ x.caller refl x.others)
    stays (Setns n) = same_or (Setns n) (λ b e. let (z, j, x, y, w) = children_turn.by_setns t c b n h e in by_caller (after t c (Setns n)) _ y.caller refl y.others)
    stays (Kill n z) = same_or (Kill n z) (by_kill n z)
    stays (Exit z) = same_or (Exit z) (by_exit z)
    stays Wait = same_or Wait by_wait
    stays Getpid = made_or_refused Stays t c Getpid h a.here (λ r. a.here)
    stays Getppid = made_or_refused Stays t c Getppid h a.here (λ r. a.here)
    stays (Handle z on) = let x = signals_only.by_handle t c z on h in by_caller (after t c (Handle z on)) _ x.caller refl x.others
    stays Poll = let x = signals_only.by_poll t c h in by_caller (after t c Poll) _ x.caller refl x.others

    -- and is as it was
    anchor_kept : (call : Call) → Anchor (view (after t c call)) s i
    unfolding KeepsSound NumbersKept NamespacesKept pid_seen
    anchor_kept call =
        let x = stays call in
        let (pids, own) = numbers_kept t c i call h a.here x in
        let g = facts (after t c call) (keeps_sound t c call h) in
        let e = own ∙ a.own in
        let stood = subst (Stands (view (after t c call))) e (own_taken (view (after t c call)) g i x) in
        let same = (namespaces_kept t c s call h stands stood).1 in
        record { here = x; own = e; first = ap ((view (after t c call)).pid i) same ∙ pids (v.level s) ∙ a.first }

-- ---- after an outside call without a touch: the sheet is the same, and so is the row

-- the number of a row j levels below S
row_number : (v : View) (s i j : ℕ) → v.level s + j < levels → get_or (row v s i).pids j 0 ≡ v.pid i (v.level s + j)
unfolding row
row_number v s i j l = getD_values (v.pid i) 0 (levels - v.level s) (v.level s) j (omega arith)

module _ (t u : Table) (h : SoundTable t) (g : SoundTable u) (s i : ℕ) (other : Other s) (a : Anchor (view t) s i) (hu : Stands (view u) s) (e : sheet (view u) s ≡ sheet (view t) s) where
  found : (j : ℕ) × So (seen (view u) s j) × (row (view u) s j ≡ row (view t) s i)
  found = (same_of_sheets (facts u g) (facts t h) e).back i (seen_i t h s i other a)

  abbrev x : ℕ
  x = found.0

  here_x : Taken (view u) x
  here_x = seen_taken (view u) s x found.1

  abbrev deep : ℕ
  deep = (view u).level ((view u).own x)

  -- it has no number below S, as i has none
  not_deeper : deep ≤ (view u).level s
  not_deeper = go (dec_lt ((view u).level s) deep)
    where
      go : Dec ((view u).level s < deep) → deep ≤ (view u).level s
      go (no o) = omega arith
      go (yes m) =
          let levels_same = (same_of_sheets (facts u g) (facts t h) e).levels in
          let low = level_lt (facts u g) ((view u).own x) (own_taken (view u) (facts u g) x here_x) in
          let own_i = ap (view t).level a.own in
          let p = pid_pos (view u) (facts u g) x ((view u).level s + 1) here_x (omega arith) in
          let z = pid_zero (view t) (facts t h) i ((view t).level s + 1) a.here (omega arith) (omega arith) in
          let q = sym (row_number (view u) s x 1 (omega arith)) ∙ ap (λ (r : Row). get_or r.pids 1 0) found.2 ∙ row_number (view t) s i 1 (omega arith) in
          absurd (omega arith)

  anchor_found : Anchor (view u) s x
  anchor_found =
      let b = seen_below (view u) s x found.1 in
      let l = below_level (view u) (facts u g) _ s b in
      let d = not_deeper in
      record {
        here = here_x;
        own = below_same (view u) (facts u g) ((view u).own x) s b (omega arith);
        first = row_pid (view u) (view t) s s x i (level_lt (facts u g) s hu) (level_lt (facts t h) s (stands t h s i other a)) found.2 ∙ a.first;
      }

-- ---- a whole list

-- what holds from call to call
abbrev HoldsOn : Table → ℕ → Type 0
HoldsOn t s = (s ≡ 0) ⊎ (Other s × ((i : ℕ) × Anchor (view t) s i))

still : (t : Table) (h : SoundTable t) (s : ℕ) → HoldsOn t s → Stands (view t) s
unfolding namespace_taken ◌or◌
still t h s (inl z) = subst (Stands (view t)) (sym z) refl
still t h s (inr (o, (i, a))) = stands t h s i o a

follows : (t u : Table) (s : ℕ) → Stands (view u) s → follow t u (at s) ≡ at s
unfolding follow
follows t u s k = rw k

-- one event
module _ (t : Table) (h : SoundTable t) (s : ℕ) (w : HoldsOn t s) where
  inside_step : (k : ℕ) (c : Call) → HoldsOn (next_table t (at s) (inside k c)) s
  unfolding happens slot_of table_after
  inside_step k c = ⊎_elim (λ x. ⊎_elim (λ z. inl z) (λ (o, (i, a)). inr (o, (i, named i o a x))) w) (λ x. rw (eq-eqb _ process_slots x.0) w) (find_cases (view t) s k)
    where
      named : (i : ℕ) (o : Other s) (a : Anchor (view t) s i) → So (seen (view t) s (find (view t) s k)) × (pid_seen (view t) s (find (view t) s k) ≡ k) × (find (view t) s k < process_slots) → Anchor (view (next_table t (at s) (inside k c))) s i
      named i o a (x, p, l) = rw (ne_eqb (find (view t) s k) process_slots (λ q. omega (arith, q, l))) (anchor_kept t h s i o a (find (view t) s k) x c)

  sound_inside : (k : ℕ) (c : Call) → SoundTable (next_table t (at s) (inside k c))
  unfolding happens table_after KeepsSound
  sound_inside k c = go (eqb (slot_of t (at s) k) process_slots)
    where
      go : (b : Bool) → SoundTable (table_after t (when b then none else some (step t (slot_of t (at s) k) c)))
      go true = h
      go false = keeps_sound t (slot_of t (at s) k) c h

  outside_step : (j : ℕ) (c : Call) → So (allowed t (at s) (outside j c)) → HoldsOn (step t j c).table s
  unfolding OutsideLeaves KeepsSound happens table_after sheet_of follow
  outside_step j c b = ⊎_elim (λ z. inl z) (λ (o, (i, a)). inr (o, at_slot o i a (yes_or_no (namespace_taken (view (step t j c).table) s)))) w
    where
      at_slot : (o : Other s) (i : ℕ) (a : Anchor (view t) s i) → Stands (view (step t j c).table) s ⊎ (namespace_taken (view (step t j c).table) s ≡ false) → (x : ℕ) × Anchor (view (step t j c).table) s x
      at_slot o i a (inl k) =
          let e = ap (sheet_of (step t j c).table) (sym (follows t (step t j c).table s k)) ∙ outside_leaves t s j c h (still t h s w) b in
          (_, anchor_found t (step t j c).table h (keeps_sound t j c h) s i o a k e)
      at_slot o i a (inr k) =
          let e : follow t (step t j c).table (at s) ≡ gone ((view t).level s) = left_at k in
          let r = ap (λ (y : Sheet). y.rows) (sym (outside_leaves t s j c h (still t h s w) b) ∙ ap (sheet_of (step t j c).table) e) in
          let n = find_none s (pid_seen (view t) s i) (facts t h) r in
          absurd (omega (arith, n, sym (finds (view t) (facts t h) s i (still t h s w) (seen_i t h s i o a)), (facts t h).in_range i a.here))
        where
          left_at : namespace_taken (view (step t j c).table) s ≡ false → follow t (step t j c).table (at s) ≡ gone ((view t).level s)
          left_at q = rw q

-- a list of events
lasts : (es : List Event) (t : Table) (s : ℕ) → SoundTable t → HoldsOn t s → So (untouched t (at s) es) → place_after t (at s) es ≡ at s
unfolding place_after untouched KeepsSound happens table_after
lasts [] t s h w b = refl
lasts (e ∷ es) t s h w b =
    let (g, n) = go e (left _ _ b) in
    let stays_at = follows t (next_table t (at s) e) s (still _ g s n) in
    ap (λ p. place_after (next_table t (at s) e) p es) stays_at
    ∙ lasts es (next_table t (at s) e) s g n (subst (λ p. So (untouched (next_table t (at s) e) p es)) stays_at (right _ _ b))
  where
    go : (e : Event) → So (allowed t (at s) e) → SoundTable (next_table t (at s) e) × HoldsOn (next_table t (at s) e) s
    go (inside k c) b = (sound_inside t h s w k c, inside_step t h s w k c)
    go (outside j c) b = (keeps_sound t j c h, outside_step t h s w j c b)

pub never_freed : NeverFreed
unfolding NeverFreed
never_freed t s es h a b =
    lasts es t s h
    (by_equal s 0 (λ z. inl z) (λ o.
    let f = facts t h in
    inr (o, (init (view t) s, record { here = init_taken (view t) f s a; own = init_own (view t) f s a; first = init_pid (view t) f s a })))) b
