-- The way in which the code decides whether a table is sound: each process once with the namespaces and the parent that
-- it names, each namespace once with its parent and its init, and the numbers by one key for each process and level.
-- proofs/Same.antt shows that it says what specs/Sound.antt of `rules` says.
use Rattle.std.specs.Prelude.{ℕ, zero, suc, ◌+◌, ◌*◌, ◌-◌, Bool, true, not, List, eqb, leb, ltb, get_or, set}
use Rattle.table.specs.Limits.{process_slots, namespace_slots, levels, deepest, greatest_pid, pid_values, no_slot}
use Rattle.table.specs.Slots.{no_namespace, pid_at, is_running, is_ended, is_unborn, is_alive, is_dead, init_of}
use Rattle.rules.specs.Read.{View, taken, namespace_taken, climb, children}
use Rattle.rules.specs.Sound.{root_process, root_namespace, reaches_root, kept_end, holds, held}
use Rattle.table.specs.Tests.{◌and◌, ◌or◌, ◌implies◌, agree, when◌then◌else◌, all, any}
use Rattle.table.specs.declared.Life.{Life}
use Rattle.table.specs.declared.Namespace.{Namespace}
use Rattle.table.specs.declared.ProcSlot.{ProcSlot}
use Rattle.table.specs.declared.Process.{Process}
use Rattle.table.specs.declared.State.{State}
use Rattle.table.specs.declared.Traits.{Traits}
use Rattle.table.specs.Traits.{blank_traits, bare_traits, traits_ok}
use Rattle.tree.specs.Tree.{is_blank_namespace}

-- ---- one slot: of a view, and of what the code has read

pub record ProcessRow : Type 0 where
  pub taken : Bool
  pub own : ℕ
  pub children : ℕ
  pub parent : ℕ
  pub state : State
  pub ended : Bool
  pub traits : Traits
  pub pid : ℕ → ℕ

pub record NamespaceRow : Type 0 where
  pub taken : Bool
  pub up : ℕ
  pub level : ℕ
  pub last : ℕ
  pub life : Life

abbrev pub process_at : View → ℕ → ProcessRow
process_at v i =
    record {
      taken = taken v i;
      own = v.own i;
      children = children v i;
      parent = v.parent i;
      state = v.state i;
      ended = v.ended i;
      traits = v.traits i;
      pid = v.pid i;
    }

abbrev pub process_row : Process → ProcessRow
process_row p =
    record {
      taken = not (eqb (pid_at p 0) 0);
      own = p.own.0;
      children = p.children.0;
      parent = p.parent.0;
      state = p.state;
      ended = is_ended p.state;
      traits = p.traits;
      pid = pid_at p;
    }

abbrev pub namespace_at : View → ℕ → NamespaceRow
namespace_at v n = record { taken = namespace_taken v n; up = v.up n; level = v.level n; last = v.last n; life = v.life n }

abbrev pub namespace_row : ℕ → Namespace → NamespaceRow
namespace_row n s =
    record { taken = eqb n 0 or not (eqb s.level 0); up = s.parent.0; level = s.level; last = s.last.0; life = s.life }

-- ---- a process by itself

-- what an ended process has left
unfoldable pub ended_ok : ProcessRow → Bool
ended_ok p = eqb p.children no_slot and bare_traits p.traits

-- what a living one may have for its children; an unborn namespace only right below its own
unfoldable pub living_ok : (ℕ → ℕ) → ProcessRow → NamespaceRow → NamespaceRow → Bool
living_ok up p home inner =
    not (is_dead home.life) and inner.taken and climb up inner.level p.children p.own
    and (is_unborn inner.life implies eqb p.own inner.up)

unfoldable pub state_ok : (ℕ → ℕ) → ProcessRow → NamespaceRow → NamespaceRow → Bool
state_ok up p home inner = (p.ended implies ended_ok p) and (p.ended or living_ok up p home inner)

-- numbers up to the own level, and none beyond
abbrev pub pid_ok : ℕ → ℕ → ℕ → Bool
pid_ok pid l level = when leb l level then leb 1 pid and leb pid greatest_pid else eqb pid 0

unfoldable pub pids_ok : (ℕ → ℕ) → ℕ → Bool
pids_ok pid level = all levels (λ l. pid_ok (pid l) l level)

unfoldable pub member_ok : (ℕ → ℕ) → ProcessRow → NamespaceRow → NamespaceRow → Bool
member_ok up p home inner =
    home.taken and not (is_unborn home.life) and kept_end p.state and traits_ok p.traits
    and pids_ok p.pid home.level and state_ok up p home inner

-- ---- a process and its parent

unfoldable pub parent_ok : (ℕ → ℕ) → ProcessRow → NamespaceRow → ProcessRow → Bool
parent_ok up p home parent =
    parent.taken and not parent.ended and climb up home.level p.own parent.own
    and (eqb (p.pid home.level) 1 implies eqb parent.own home.up)

-- an empty slot
unfoldable pub blank : ProcessRow → Bool
blank p =
    eqb p.own 0 and eqb p.children 0 and eqb p.parent 0 and is_running p.state and blank_traits p.traits
    and all levels (λ l. eqb (p.pid l) 0)

unfoldable pub process_ok : (ℕ → ℕ) → ℕ → ProcessRow → NamespaceRow → NamespaceRow → ProcessRow → Bool
process_ok up i p home inner parent =
    (p.taken implies member_ok up p home inner and (eqb i 0 or parent_ok up p home parent)) and (p.taken or blank p)

unfoldable pub processes_ok : View → Bool
processes_ok v =
    all process_slots
    (λ i. process_ok v.up i (process_at v i) (namespace_at v (v.own i)) (namespace_at v (children v i)) (process_at v (v.parent i)))

abbrev pub process_in : List ProcSlot → ℕ → ℕ
process_in slots i = (get_or slots i (record { 0 = 0 })).0

-- An empty slot has slot 0 for its parent, so it reaches slot 0 too. As many steps as there are slots are enough: a
-- longer chain comes to a slot twice.
unfoldable pub reach_ok : (ℕ → ℕ) → Bool
reach_ok parent = all process_slots (reaches_root parent process_slots)

-- ---- a namespace

unfoldable pub init_ok : ℕ → NamespaceRow → ProcessRow → Bool
init_ok n s init = init.taken and not init.ended and eqb init.own n and eqb (init.pid s.level) 1

unfoldable pub life_ok : ℕ → NamespaceRow → ProcessRow → Bool
life_ok n s init =
    (is_alive s.life implies init_ok n s init) and (is_alive s.life or (is_unborn s.life implies eqb s.last 0))

-- its place below its parent
unfoldable pub place_ok : NamespaceRow → NamespaceRow → Bool
place_ok s above =
    above.taken and eqb s.level (suc above.level) and leb s.level deepest and not (is_unborn above.life)
    and (is_dead above.life implies is_dead s.life)

-- an empty slot
unfoldable pub blank_namespace : NamespaceRow → Bool
blank_namespace s =
    is_blank_namespace (record { parent = record { 0 = s.up }; level = s.level; last = record { 0 = s.last }; life = s.life })

unfoldable pub filled_ok : ℕ → NamespaceRow → NamespaceRow → ProcessRow → Bool
filled_ok n s above init =
    (s.taken implies life_ok n s init and (eqb n 0 or place_ok s above)) and (s.taken or blank_namespace s)

-- h says whether something holds it
unfoldable pub namespace_ok : ℕ → Bool → NamespaceRow → NamespaceRow → ProcessRow → Bool
namespace_ok n h s above init = leb s.last greatest_pid and agree s.taken h and filled_ok n s above init

unfoldable pub namespaces_ok : View → Bool
namespaces_ok v =
    all namespace_slots
    (λ n. namespace_ok n (held v n) (namespace_at v n) (namespace_at v (v.up n)) (process_at v (init_of (v.life n))))

-- ---- which namespaces something holds, as marks

abbrev pub mark_namespace : List Bool → ℕ → NamespaceRow → List Bool
mark_namespace m n s = when not (eqb n 0) and s.taken then set m s.up true else m

-- the root is held, and what a process has as its own namespace or for its children
unfoldable pub held_by_processes : View → ℕ → Bool
held_by_processes v n =
    eqb n 0 or any process_slots (λ i. taken v i and eqb (v.own i) n) or any process_slots (holds v n)

-- and what is the parent of a namespace but the root
unfoldable pub held_by_children : List Namespace → ℕ → Bool
held_by_children s n =
    any namespace_slots
    (λ m. not (eqb m 0) and (namespace_row m (get_or s m no_namespace)).taken and eqb (get_or s m no_namespace).parent.0 n)

-- ---- keys, one for each process, of which no two may be equal but where they are 0

abbrev pub key_in : List ℕ → ℕ → ℕ
key_in keys i = get_or keys i 0

abbrev pub differs_at : (ℕ → ℕ) → ℕ → Bool
differs_at key i = eqb (key i) 0 or all i (λ j. not (eqb (key j) (key i)))

unfoldable pub differ : (ℕ → ℕ) → Bool
differ key = all process_slots (differs_at key)

-- the unborn namespace that a process holds
unfoldable pub unborn_key : ProcessRow → NamespaceRow → ℕ
unborn_key p inner = when p.taken and inner.taken and is_unborn inner.life then p.children else 0

abbrev pub unborn_keys : View → ℕ → ℕ
unborn_keys v i = unborn_key (process_at v i) (namespace_at v (children v i))

-- each namespace itself, and those below a level one up
unfoldable pub itself : ℕ → ℕ
itself n = when ltb n namespace_slots then n else 0

unfoldable pub raised : (ℕ → ℕ) → (ℕ → ℕ) → ℕ → (ℕ → ℕ) → ℕ → ℕ
raised up level l top n = when ltb l (level n) then up (top n) else top n

-- The namespace at the level levels - k that is n or above it, where n is at most at the deepest level: at each turn
-- those below the next level go one up.
unfoldable pub top : (ℕ → ℕ) → (ℕ → ℕ) → ℕ → ℕ → ℕ
top up level zero = itself
top up level (suc k) = raised up level (deepest - k) (top up level k)

-- the namespace at a level and the number there as one key
unfoldable pub pid_key : (ℕ → ℕ) → ℕ → ProcessRow → ℕ
pid_key top l p = when eqb (p.pid l) 0 then 0 else top p.own * pid_values + p.pid l

abbrev pub pid_keys : View → ℕ → ℕ → ℕ
pid_keys v k i = pid_key (top v.up v.level (suc k)) (deepest - k) (process_at v i)

-- ---- all of it

unfoldable pub quick : View → Bool
quick v =
    root_process v and root_namespace v and processes_ok v and namespaces_ok v and reach_ok v.parent
    and differ (unborn_keys v) and all levels (λ k. differ (pid_keys v k))
