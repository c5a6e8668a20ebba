-- A process put at its slot with its place kept: own namespace, parent and numbers. Its state, its signals
-- and its children's namespace may change; two tables on which twins change alike stay the same to S.
use Prim.Native.Nat.{ℕ, zero, suc, ◌<◌}
use native.Mathlib.Omega.{arith}
use mathlib.Core.Bool.{So, false≢true}
use mathlib.Core.List.{List, ◌∷◌, []}
use mathlib.Core.Path.{◌≡◌, refl, sym, ◌∙◌, ap, subst₂}
use lib.Dec.{eqb}
use lib.ListN.{get_or, set}
use lib.Seq.{get_or-set_same, get_or-set_other}
use Rattle.rules.proofs.Keeps.Changed.{process_count}
use Rattle.rules.proofs.Laws.Facts.{Facts}
use Rattle.rules.proofs.Laws.Holds.{light_holds, turned_holds}
use Rattle.sameness.proofs.Cases.{by_equal, by_test}
use Rattle.sameness.proofs.Remain.{Remain, everyone, name_remain, pid_in_remain, same_remain}
use Rattle.sameness.proofs.Same.{Same}
use Rattle.sameness.proofs.Twins.{Pair, Twin, flip_pair, flip_twin, twin_rows, twin_unique, taken_v, taken_u}
use Rattle.table.specs.Slots.{no_pid, no_process, pid_at, process, put, hold_at}
use Rattle.rules.specs.Read.{pid_in, taken, view}
use Rattle.rules.specs.Sound.{shaped}
use Rattle.sameness.specs.Sheet.{Row, name, row}
use Rattle.sameness.proofs.Names.{named_rows}
use Rattle.table.specs.declared.Process.{Process}
use Rattle.table.specs.declared.Table.{Table}
use Rattle.table.specs.Limits.{hold_slots}
use Rattle.table.specs.Records.{with_children, with_state, with_traits}
use Rattle.table.specs.declared.State.{State}
use Rattle.table.specs.declared.Traits.{Traits}

-- what is read of an element, if it is read of the stored one as of the old, is unchanged everywhere
read_set : {A B : Type 0} (g : A → B) (d : A) (l : List A) (c : ℕ) (x : A) → g x ≡ g (get_or l c d) → (i : ℕ) → g (get_or (set l c x) i d) ≡ g (get_or l i d)
read_set g d [] c x e i = refl
read_set g d (y ∷ l) zero x e zero = e
read_set g d (y ∷ l) zero x e (suc i) = refl
read_set g d (y ∷ l) (suc c) x e zero = refl
read_set g d (y ∷ l) (suc c) x e (suc i) = read_set g d l c x e i

-- the same place
abbrev pub Placed : Process → Process → Type 0
Placed p q = (p.own ≡ q.own) × (p.parent ≡ q.parent) × (p.pids ≡ q.pids)

module _ (t : Table) (c : ℕ) (p : Process) (k : Placed p (process t c)) where
  -- everybody and all namespaces stand
  pub put_remain : Remain (view t) (view (put t c p)) everyone everyone
  put_remain =
      record {
        places =
            record {
              tree = record { ups = λ n h. refl; levels = λ n h. refl; up_kept = λ n k h e. refl };
              owns = λ i q. read_set (λ q. q.own.0) no_process t.processes c p (ap (λ o. o.0) k.0) i;
              pids = λ i l q. read_set (λ q. pid_at q l) no_process t.processes c p (ap (λ o. (get_or o l no_pid).0) k.2) i;
              gone = λ i q. absurd (false≢true (sym q));
              own_kept = λ i q h. refl;
            };
        lives = λ n h. refl;
        inits = λ n h. refl;
      }

  parent_kept : (i : ℕ) → (view (put t c p)).parent i ≡ (view t).parent i
  parent_kept = read_set (λ q. q.parent.0) no_process t.processes c p (ap (λ o. o.0) k.1)

  pub parent_pid_kept : Facts (view t) → (s i : ℕ) → pid_in (view (put t c p)) s ((view (put t c p)).parent i) ≡ pid_in (view t) s ((view t).parent i)
  parent_pid_kept f s i = pid_in_remain f put_remain.places s _ refl refl ∙ ap (pid_in (view t) s) (parent_kept i)

put_same : (t : Table) (c : ℕ) (p : Process) → Facts (view t) → So (shaped t) → So (taken (view t) c) → process (put t c p) c ≡ p
put_same t c p f g h = get_or-set_same t.processes c p no_process (omega (arith, process_count t g, f.in_range c h))

pub put_other : (t : Table) (c : ℕ) (p : Process) (i : ℕ) → (i ≡ c → ⊥) → process (put t c p) i ≡ process t i
put_other t c p i n = get_or-set_other t.processes c i p no_process n

-- ---- two tables

-- what two processes show of themselves besides their places
pub record Shown (t u : Table) (s r : ℕ) (p q : Process) : Type 0 where
  pub states : p.state ≡ q.state
  pub traitss : p.traits ≡ q.traits
  pub holds : (k : ℕ) → k < hold_slots → name (view t) s (hold_at p k) ≡ name (view u) r (hold_at q k)

pub shown : (t u : Table) {s r : ℕ} (w : Pair (view t) (view u) s r) {i j : ℕ} → Twin (view t) (view u) s r i j → Shown t u s r (process t i) (process u j)
unfolding row
shown t u w k =
    let e = twin_rows w k in
    record {
      states = ap (λ (q : Row). q.state) e;
      traitss = ap (λ (q : Row). q.traits) e;
      holds = named_rows _ _ _ _ _ _ e;
    }

-- so also with another state and other traits, the same on both,
pub shown_as : {t u : Table} {s r : ℕ} {p q : Process} → Shown t u s r p q → {a b : State} → a ≡ b → {x y : Traits} → x ≡ y → Shown t u s r (with_traits (with_state p a) x) (with_traits (with_state q b) y)
shown_as {t} {u} {s} {r} {p} {q} z {a} {b} e {x} {y} d =
    record {
      states = e;
      traitss = d;
      holds = λ k l. ap (name (view t) s) (light_holds p a x k) ∙ z.holds k l ∙ sym (ap (name (view u) r) (light_holds q b y k));
    }

-- and with another namespace for children, named alike
pub shown_to : {t u : Table} {s r : ℕ} {p q : Process} → Shown t u s r p q → {n m : ℕ} → name (view t) s n ≡ name (view u) r m → Shown t u s r (with_children p n) (with_children q m)
shown_to {t} {u} {s} {r} {p} {q} z {n} {m} e =
    record {
      states = z.states;
      traitss = z.traitss;
      holds = λ k l.
          ap (name (view t) s) (turned_holds p p.state p.traits n k)
          ∙ by_test (eqb k 0) (λ h. rw h e) (λ h. rw h (z.holds k l))
          ∙ sym (ap (name (view u) r) (turned_holds q q.state q.traits m k));
    }

module _ (t u : Table) {s r c d : ℕ} (w : Pair (view t) (view u) s r) (k : Twin (view t) (view u) s r c d) (gt : So (shaped t)) (gu : So (shaped u)) {p q : Process} (h : Shown t u s r p q) (a : Placed p (process t c)) (b : Placed q (process u d)) where
  shown_put : {i j : ℕ} → Twin (view t) (view u) s r i j → Shown t u s r (process (put t c p) i) (process (put u d q) j)
  shown_put {i} {j} l =
      by_equal i c
      (λ e. by_equal j d
      (λ f. subst₂ (Shown t u s r) (sym (ap (process (put t c p)) e ∙ put_same t c p w.facts_v gt (taken_v k))) (sym (ap (process (put u d q)) f ∙ put_same u d q w.facts_u gu (taken_u k))) h)
      (λ f. absurd (f (twin_unique w l k e))))
      (λ e. by_equal j d
      (λ f. absurd (e (twin_unique (flip_pair w) (flip_twin l) (flip_twin k) f)))
      (λ f. subst₂ (Shown t u s r) (sym (put_other t c p i e)) (sym (put_other u d q j f)) (shown t u w l)))

  -- the tables stay the same to S
  pub same_put : Same (view (put t c p)) (view (put u d q)) s r
  unfolding row
  same_put =
      same_remain w (put_remain t c p a) (put_remain u d q b) refl refl (λ i j l. refl)
      (λ i j l x.
      let e = twin_rows w l in
      let z = shown_put l in
      record {
        states = z.states;
        traitss = z.traitss;
        parents = parent_pid_kept t c p a w.facts_v s i ∙ ap (λ (o : Row). o.parent) e ∙ sym (parent_pid_kept u d q b w.facts_u r j);
        holds = λ k b'. name_remain w.facts_v (put_remain t c p a) s _ refl refl ∙ z.holds k b' ∙ sym (name_remain w.facts_u (put_remain u d q b) r _ refl refl);
        lasts = ap (λ (o : Row). o.last) e;
      })
