-- What `Table::process` gives, against the view: an empty slot and what lies past the end read alike.
use Prim.Native.Nat.{ℕ, zero, suc}
use mathlib.Core.Bool.{not}
use mathlib.Core.List.{List, [], ◌∷◌}
use mathlib.Core.Path.{◌≡◌, refl, ap, ◌∙◌}
use lib.Dec.{eqb}
use lib.ListN.{get_or, replicate}
use Rattle.table.specs.Fresh.{empty_process}
use Rattle.table.specs.Limits.{levels}
use Rattle.table.specs.Slots.{no_pid, no_process, pid_at, is_ended}
use Rattle.rules.specs.Read.{View, view, taken, children}
use Rattle.table.specs.declared.Process.{Process}
use Rattle.table.specs.declared.Table.{Table}

-- p reads as the process at slot i
pub record ReadAt (v : View) (i : ℕ) (p : Process) : Type 0 where
  pub own : p.own.0 ≡ v.own i
  pub children : p.children.0 ≡ children v i
  pub parent : p.parent.0 ≡ v.parent i
  pub state : p.state ≡ v.state i
  pub ended : is_ended p.state ≡ v.ended i
  pub traits : p.traits ≡ v.traits i
  pub pid : (l : ℕ) → pid_at p l ≡ v.pid i l
  pub taken : not (eqb (pid_at p 0) 0) ≡ taken v i

-- an empty slot and what lies past the end read alike
same_pids : (n l : ℕ) → (get_or (replicate n no_pid) l no_pid).0 ≡ 0
same_pids zero l = refl
same_pids (suc n) zero = refl
same_pids (suc n) (suc l) = same_pids n l

-- a field that reads alike in both
alike : {X : Type 0} (f : Process → X) → f empty_process ≡ f no_process → (l : List Process) (i : ℕ) → f (get_or l i empty_process) ≡ f (get_or l i no_process)
alike f e [] i = e
alike f e (p ∷ l) zero = refl
alike f e (p ∷ l) (suc i) = alike f e l i

pub read_at : (t : Table) (i : ℕ) (p : Process) → p ≡ get_or t.processes i empty_process → ReadAt (view t) i p
unfolding taken
read_at t i p e =
    let pid : (l : ℕ) → pid_at p l ≡ (view t).pid i l =
    λ l. ap (λ q. pid_at q l) e ∙ alike (λ q. pid_at q l) (same_pids levels l) t.processes i in
    record {
      own = ap (λ q. q.own.0) e ∙ alike (λ q. q.own.0) refl t.processes i;
      children = ap (λ q. q.children.0) e ∙ alike (λ q. q.children.0) refl t.processes i;
      parent = ap (λ q. q.parent.0) e ∙ alike (λ q. q.parent.0) refl t.processes i;
      state = ap (λ q. q.state) e ∙ alike (λ q. q.state) refl t.processes i;
      ended = ap (λ q. is_ended q.state) e ∙ alike (λ q. is_ended q.state) refl t.processes i;
      traits = ap (λ q. q.traits) e ∙ alike (λ q. q.traits) refl t.processes i;
      pid = pid;
      taken = ap (λ k. not (eqb k 0)) (pid 0);
    }
