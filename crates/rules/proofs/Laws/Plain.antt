-- Two sentences of soundness in document 01's words for processes alone: that the definitions, which are ready for
-- more, say the same. (Those over what a process holds: `OneHold`.)
use mathlib.Core.Bool.{Bool, not}
use mathlib.Core.Path.{◌≡◌, refl}
use lib.Dec.{eqb}
use Rattle.rules.proofs.Laws.Tests.{bool_ext, all_intro, all_elim, assume, given, left, right, both}
use Rattle.rules.specs.Read.{View, seen, pid_seen}
use Rattle.rules.specs.Sound.{each_process, each_namespace, pids_differ, process_traits}
use Rattle.table.specs.Limits.{process_slots}
use Rattle.table.specs.Tests.{◌and◌, ◌implies◌, all}
use Rattle.table.specs.Traits.{handled_ok, pending_ok, traits_ok}

-- no two processes share a number in the same namespace
abbrev differ : View → Bool
differ v =
    each_namespace v
    (λ n. all process_slots
    (λ i. seen v n i implies all i (λ j. seen v n j implies not (eqb (pid_seen v n i) (pid_seen v n j)))))

pub differ_plain : (v : View) → pids_differ v ≡ differ v
unfolding pids_differ seen pid_seen
differ_plain v = refl

-- handled signals, and pending ones among them
pub traits_plain : (v : View) → process_traits v ≡ (each_process v (λ i. handled_ok (v.traits i)) and each_process v (λ i. pending_ok (v.traits i)))
unfolding process_traits traits_ok
traits_plain v =
    bool_ext _ _
    (λ h. both _ _ (all_intro process_slots _ (λ i l. assume _ _ (λ t. left _ _ (given _ _ (all_elim process_slots _ h i l) t))))
    (all_intro process_slots _ (λ i l. assume _ _ (λ t. right _ _ (given _ _ (all_elim process_slots _ h i l) t)))))
    (λ h. all_intro process_slots _ (λ i l. assume _ _ (λ t.
    both _ _ (given _ _ (all_elim process_slots _ (left _ _ h) i l) t) (given _ _ (all_elim process_slots _ (right _ _ h) i l) t))))
