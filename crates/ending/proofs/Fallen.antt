-- The end of a process as the code brings it about is the end of the definitions, in a table of which the facts hold.
use Prim.Native.Nat.{ℕ, ◌<◌}
use mathlib.Core.Bool.{Bool, true, false, not, So}
use mathlib.Core.Logic.{⊎_elim}
use mathlib.Core.Path.{◌≡◌, refl, sym, ap, ap₂, subst, fun_ext, ◌∙◌}
use native.Mathlib.Decide.{ℕ_discrete, dec_lt}
use native.Mathlib.Omega.{arith}
use borrow.Author.Tests.{eq-eqb, ne_eqb}
use lib.Dec.{eqb}
use lib.ListN.{length, get_or, length-set, get_or-eq_default}
use lib.Seq.{get_or-set_same, get_or-set_other, ext_get_or}
use Rattle.table.proofs.Chains.{by_bool, pick_yes, pick_no, and_true, and_false, and_false_later}
use Rattle.rules.proofs.Laws.Tests.{no_so}
use Rattle.rules.proofs.Laws.Facts.{Facts, Stands, Lives, Below, Seen, lives_taken, is_seen}
use Rattle.rules.proofs.Laws.Tree.{below_refl}
use Rattle.table.proofs.MapLoops.{changed_length, changed_at, changed_same, changed_none}
use Rattle.table.proofs.Slots.{field_within}
use Rattle.rules.proofs.Laws.ReadAt.{read_at}
use Rattle.rules.specs.Ends.{member_ends, init_ends, namespace_dies, end}
use Rattle.table.specs.Fresh.{empty_process}
use Rattle.table.specs.Limits.{deepest, namespace_slots, process_slots}
use Rattle.table.specs.Slots.{process, namespace, pid_at, no_process, no_namespace, is_ended, is_dead, init_of, put, changed}
use Rattle.rules.specs.Read.{View, view, init, is_init, taken, child_of, seen, below, climb}
use Rattle.table.specs.Tests.{◌and◌, when◌then◌else◌, changed_to}
use Rattle.table.specs.declared.End.{End}
use Rattle.table.specs.declared.Life.TheVariants.{Dead}
use Rattle.table.specs.declared.Namespace.{Namespace}
use Rattle.table.specs.declared.Process.{Process}
use Rattle.table.specs.declared.Table.{Table}
use Rattle.table.specs.Records.{as_ended, with_life}
use Rattle.ending.proofs.Falling.{Step, Down, namespace_falls, ended_stays, dead_stays, killed_keeps}
use Rattle.ending.specs.Ending.{killed, end_namespace, once_swept, swept, end_init, once_handed, handed_over, end_process, Ends}

-- ---- a table that a subtree has gone down in, by its slots

module _ (v : View) (n : ℕ) (t u : Table) (s : Step v n t u) (d : Down v n u) where
  pub fallen_process : (i : ℕ) → i < process_slots → process u i ≡ (when seen v n i then killed (process t i) else process t i)
  fallen_process i h =
      ⊎_elim
      (λ (q : process u i ≡ process t i).
      by_bool (seen v n i)
      (λ e. q ∙ sym (pick_yes (seen v n i) _ (process t i) e ∙ ended_stays (process t i) (subst (λ x. So (is_ended x.state)) q (d.ended i h e))))
      (λ e. q ∙ sym (pick_no (seen v n i) (killed (process t i)) (process t i) e)))
      (λ (q : Seen v n i × (process u i ≡ killed (process t i))). q.1 ∙ sym (pick_yes (seen v n i) (killed (process t i)) (process t i) q.0))
      (s.processes i h)

  pub fallen_namespace : (m : ℕ) → m < namespace_slots → namespace u m ≡ (when below v m n then with_life (namespace t m) Dead else namespace t m)
  fallen_namespace m h =
      ⊎_elim
      (λ (q : namespace u m ≡ namespace t m).
      by_bool (below v m n)
      (λ e. q ∙ sym (pick_yes (below v m n) _ (namespace t m) e ∙ dead_stays (namespace t m) (subst (λ x. So (is_dead x.life)) q (d.dead m h e))))
      (λ e. q ∙ sym (pick_no (below v m n) (with_life (namespace t m) Dead) (namespace t m) e)))
      (λ (q : Below v m n × (namespace u m ≡ with_life (namespace t m) Dead)). q.1 ∙ sym (pick_yes (below v m n) (with_life (namespace t m) Dead) (namespace t m) q.0))
      (s.namespaces m h)

-- ---- the end of a namespace, at one go

-- every process of the subtree not yet ended is ended by signal 9, and every namespace of it is dead
abbrev pub fallen : Table → ℕ → Table
fallen t n = changed t (λ i q. when seen (view t) n i then killed q else q) (namespace_dies (view t) n)

pub namespace_end_is : (t : Table) → length t.processes ≡ process_slots → length t.namespaces ≡ namespace_slots → Facts (view t) → (n : ℕ) → Stands (view t) n → end_namespace deepest t n ≡ fallen t n
unfolding namespace_dies
namespace_end_is t count namespace_count f n stands =
    let (s, d) = namespace_falls t count namespace_count f n stands in
    ap₂ (λ a b. record { processes = a; namespaces = b })
    (ext_get_or no_process _ _ (s.count ∙ sym (changed_length ends no_process process_slots t.processes))
    (λ i h.
    let k : i < process_slots = omega (arith, s.count, count) in
    fallen_process (view t) n t _ s d i k ∙ sym (changed_at ends no_process process_slots i t.processes k (omega arith))))
    (ext_get_or no_namespace _ _ (s.namespace_count ∙ sym (changed_length (namespace_dies (view t) n) no_namespace namespace_slots t.namespaces))
    (λ m h.
    let k : m < namespace_slots = omega (arith, s.namespace_count, namespace_count) in
    fallen_namespace (view t) n t _ s d m k ∙ sym (changed_at (namespace_dies (view t) n) no_namespace namespace_slots m t.namespaces k (omega arith))))
  where
    ends : ℕ → Process → Process
    ends i q = when seen (view t) n i then killed q else q

-- ---- the end of an init

module _ (t : Table) (count : length t.processes ≡ process_slots) (namespace_count : length t.namespaces ≡ namespace_slots) (f : Facts (view t)) (p : ℕ) (e : End) (lives : Lives (view t) p) where
  abbrev v : View
  v = view t

  abbrev n : ℕ
  n = v.own p

  low : p < process_slots
  low = f.in_range p (lives_taken v p lives)

  stands : Stands v n
  stands = (f.members p (lives_taken v p lives)).0.0

  p_seen : Seen v n p
  p_seen = is_seen v n p (lives_taken v p lives) (below_refl v n)

  -- the table once the namespace has ended, and then with the init's own reason
  abbrev u : Table
  u = end_namespace deepest t n

  abbrev w : Table
  w = put u p (as_ended (process t p) e)

  step : Step v n t u
  step = (namespace_falls t count namespace_count f n stands).0

  down : Down v n u
  down = (namespace_falls t count namespace_count f n stands).1

  w_count : length w.processes ≡ process_slots
  w_count = length-set u.processes p (as_ended (process t p) e) ∙ step.count ∙ count

  at_init : process w p ≡ as_ended (process t p) e
  at_init = get_or-set_same u.processes p (as_ended (process t p) e) no_process (omega (arith, step.count, count, low))

  at_other : (i : ℕ) → i < process_slots → (i ≡ p → ⊥) → process w i ≡ (when seen v n i then killed (process t i) else process t i)
  at_other i h o = get_or-set_other u.processes p i (as_ended (process t p) e) no_process o ∙ fallen_process v n t u step down i h

  -- what no end changes reads as before
  reads : {B : Type 0} (r : Process → B) → ((x : Process) (y : End) → r (as_ended x y) ≡ r x) → (i : ℕ) → r (process w i) ≡ r (process t i)
  reads r k i = go (dec_lt i process_slots) (ℕ_discrete i p)
    where
      go : Dec (i < process_slots) → Dec (i ≡ p) → r (process w i) ≡ r (process t i)
      go (yes h) (yes q) = subst (λ j. r (process w j) ≡ r (process t j)) (sym q) (ap r at_init ∙ k (process t p) e)
      go (yes h) (no q) =
          by_bool (seen v n i)
          (λ b. ap r (at_other i h q ∙ pick_yes (seen v n i) (killed (process t i)) (process t i) b) ∙ killed_keeps r (process t i) (k (process t i)))
          (λ b. ap r (at_other i h q ∙ pick_no (seen v n i) (killed (process t i)) (process t i) b))
      go (no h) q =
          ap r (get_or-eq_default w.processes no_process {n = i} (omega (arith, w_count)) ∙ sym (get_or-eq_default t.processes no_process {n = i} (omega arith)))

  reads_namespace : {B : Type 0} (r : Namespace → B) → ((x : Namespace) → r (with_life x Dead) ≡ r x) → (m : ℕ) → r (namespace w m) ≡ r (namespace t m)
  reads_namespace r k m = go (dec_lt m namespace_slots)
    where
      go : Dec (m < namespace_slots) → r (namespace u m) ≡ r (namespace t m)
      go (yes h) =
          by_bool (below v m n)
          (λ b. ap r (fallen_namespace v n t u step down m h ∙ pick_yes (below v m n) (with_life (namespace t m) Dead) (namespace t m) b) ∙ k (namespace t m))
          (λ b. ap r (fallen_namespace v n t u step down m h ∙ pick_no (below v m n) (with_life (namespace t m) Dead) (namespace t m) b))
      go (no h) =
          ap r (get_or-eq_default u.namespaces no_namespace {n = m} (omega (arith, step.namespace_count, namespace_count)) ∙ sym (get_or-eq_default t.namespaces no_namespace {n = m} (omega arith)))

  -- so the same processes are seen
  same_seen : seen (view w) n ≡ seen v n
  unfolding seen taken below
  same_seen =
      fun_ext
      (λ i. ap₂ (λ (a b : Bool). a and b) (reads (λ x. not (eqb (pid_at x 0) 0)) (λ x y. refl) i)
      (ap (λ (a : ℕ). climb (view w).up ((view w).level a) a n) (reads (λ x. x.own.0) (λ x y. refl) i)
      ∙ ap₂ (λ (g h : ℕ → ℕ). climb g (h (v.own i)) (v.own i) n) (fun_ext (reads_namespace (λ x. x.parent.0) (λ x. refl))) (fun_ext (reads_namespace (λ x. x.level) (λ x. refl)))))

  same_parent : (i : ℕ) → (process w i).parent.0 ≡ v.parent i
  same_parent = reads (λ x. x.parent.0) (λ x y. refl)

  swept_at : (i : ℕ) → i < process_slots → once_swept (seen v n) i (process w i) ≡ init_ends v p e i (process t i)
  unfolding once_swept init_ends killed
  swept_at i h =
      by_bool (seen v n i)
      (λ a. by_bool (seen v n (v.parent i))
      (λ b. pick_yes (seen v n i and seen v n (process w i).parent.0) empty_process (process w i) (and_true _ _ a (ap (seen v n) (same_parent i) ∙ b)) ∙ sym (rw (a, b)))
      (λ b. pick_no (seen v n i and seen v n (process w i).parent.0) empty_process (process w i) (and_false_later _ _ (ap (seen v n) (same_parent i) ∙ b)) ∙ stays a b (ℕ_discrete i p)))
      (λ a. pick_no (seen v n i and seen v n (process w i).parent.0) empty_process (process w i) (and_false _ _ a)
      ∙ at_other i h (λ (q : i ≡ p). no_so a (subst (Seen v n) (sym q) p_seen)) ∙ pick_no (seen v n i) (killed (process t i)) (process t i) a ∙ sym (rw a))
    where
      -- with a parent outside
      stays : So (seen v n i) → seen v n (v.parent i) ≡ false → Dec (i ≡ p) → process w i ≡ init_ends v p e i (process t i)
      stays a b (yes q) = subst (λ j. process w j ≡ as_ended (process t j) e) (sym q) at_init ∙ sym (rw (a, b, eq-eqb i p q))
      stays a b (no q) = at_other i h q ∙ pick_yes (seen v n i) (killed (process t i)) (process t i) a ∙ sym (rw (a, b, ne_eqb i p q))

  swept_all : swept w n ≡ changed t (init_ends v p e) (namespace_dies v n)
  unfolding swept
  swept_all =
      ap₂ (λ a b. record { processes = a; namespaces = b })
      (ext_get_or no_process _ _ (swept_length ∙ w_count ∙ sym (changed_length (init_ends v p e) no_process process_slots t.processes ∙ count))
      (λ i h.
      let k : i < process_slots = omega (arith, swept_length, w_count) in
      changed_at (once_swept (seen (view w) n)) no_process process_slots i w.processes k (omega (arith, w_count))
      ∙ ap (λ g. once_swept g i (process w i)) same_seen ∙ swept_at i k
      ∙ sym (changed_at (init_ends v p e) no_process process_slots i t.processes k (omega arith))))
      (ap (λ x. x.namespaces) (namespace_end_is t count namespace_count f n stands))
    where
      swept_length : length (changed_to (once_swept (seen (view w) n)) no_process process_slots w.processes) ≡ length w.processes
      swept_length = changed_length (once_swept (seen (view w) n)) no_process process_slots w.processes

  process_there : get_or t.processes p empty_process ≡ process t p
  process_there =
      field_within t.processes empty_process no_process process_slots p count low

  pub init_end_is : So (is_init v p) → end_init t p e ≡ end t p e
  unfolding end_init end
  init_end_is its =
      ap (λ (q : Process). swept (put (end_namespace deepest t q.own.0) p (as_ended q e)) q.own.0) process_there
      ∙ swept_all ∙ sym (pick_yes (is_init v p) _ _ its)

-- ---- the end of another process

pub member_end_is : (t : Table) (p : ℕ) (e : End) (k : ℕ) → k ≡ init (view t) ((view t).own p) → is_init (view t) p ≡ false → handed_over t p e k ≡ end t p e
unfolding handed_over once_handed member_ends child_of taken end
member_end_is t p e k i o =
    ap₂ (λ a b. record { processes = a; namespaces = b })
    (changed_same (once_handed p e k) (member_ends (view t) p e) no_process process_slots t.processes (λ j h. rw i))
    (sym (changed_none no_namespace namespace_slots t.namespaces))
    ∙ sym (pick_no (is_init (view t) p) _ _ o)

-- ---- as the code has it: q is the process at p, s its own namespace, k the init of that

module _ (t : Table) (p : ℕ) (q : Process) (s : Namespace) (k : ℕ) (e : End) (r : Table) (at : q ≡ get_or t.processes p empty_process) (own : s ≡ namespace t q.own.0) (has : k ≡ init_of s.life) where
  found : k ≡ init_of (namespace t (get_or t.processes p empty_process).own.0).life
  found = has ∙ ap (λ x. init_of x.life) own ∙ ap (λ (x : Process). init_of (namespace t x.own.0).life) at

  its_init : k ≡ init (view t) ((view t).own p)
  its_init = has ∙ ap (λ x. init_of x.life) own ∙ ap (λ a. init_of (namespace t a).life) (read_at t p q at).own

  pub end_of_init : length t.processes ≡ process_slots → length t.namespaces ≡ namespace_slots → eqb k p ≡ true → r ≡ end_init t p e → Ends t p e r
  unfolding is_init end_process
  end_of_init count namespace_count c d =
      record {
        always = d ∙ sym (pick_yes (eqb _ p) (end_init t p e) _ (ap (λ m. eqb m p) (sym found) ∙ c));
        as_defined = λ f lives. d ∙ init_end_is t count namespace_count f p e lives (ap (λ m. eqb m p) (sym its_init) ∙ c);
      }

  pub end_of_member : eqb k p ≡ false → r ≡ handed_over t p e k → Ends t p e r
  unfolding is_init end_process
  end_of_member c d =
      record {
        always = d ∙ ap (handed_over t p e) found ∙ sym (pick_no (eqb _ p) (end_init t p e) _ (ap (λ m. eqb m p) (sym found) ∙ c));
        as_defined = λ f lives. d ∙ member_end_is t p e k its_init (ap (λ m. eqb m p) (sym its_init) ∙ c);
      }
