-- Bytes that a writer makes and bytes that none makes, one after the other, computed.
use Prim.Native.Nat.{ℕ}
use mathlib.Core.Bool.{true, false}
use mathlib.Core.List.{[], ◌∷◌}
use mathlib.Core.Path.{◌≡◌, refl}
use Rattle.table.specs.Slots.{no_pid}
use Rattle.table.specs.Tests.{◌and◌}
use Rattle.mirror.specs.Mirror.{state_from, life_from, is_process_row, is_namespace_row}
use Rattle.mirror.specs.declared.NamespaceRow.{NamespaceRow}
use Rattle.mirror.specs.declared.ProcessRow.{ProcessRow}

-- a process row with these bytes for its state, its end and the byte that nothing needs
abbrev process_bytes : ℕ → ℕ → ℕ → ProcessRow
process_bytes s e r =
    record {
      own = record { 0 = 3 };
      children = record { 0 = 3 };
      parent = record { 0 = 1 };
      state = s;
      end = e;
      reserved = r;
      pids = [];
      handled = 0;
      pending = 0;
    }

-- a namespace row with these bytes for its condition and its init
abbrev namespace_bytes : ℕ → ℕ → NamespaceRow
namespace_bytes l i = record { parent = record { 0 = 0 }; level = 1; life = l; init = i; last = no_pid }

-- each of the four states passes, and an end beside the last two alone
pub states_pass : (is_process_row (process_bytes 0 0 0) ∷ is_process_row (process_bytes 1 0 0) ∷ is_process_row (process_bytes 2 255 0) ∷ is_process_row (process_bytes 3 9 0) ∷ []) ≡ (true ∷ true ∷ true ∷ true ∷ [])
unfolding is_process_row state_from ◌and◌
states_pass = refl

pub ends_refused : (is_process_row (process_bytes 0 9 0) ∷ is_process_row (process_bytes 1 255 0) ∷ []) ≡ (false ∷ false ∷ [])
unfolding is_process_row state_from ◌and◌
ends_refused = refl

-- no state is above 3
pub states_refused : (is_process_row (process_bytes 4 0 0) ∷ is_process_row (process_bytes 255 9 0) ∷ []) ≡ (false ∷ false ∷ [])
unfolding is_process_row state_from ◌and◌
states_refused = refl

pub reserved_refused : (is_process_row (process_bytes 0 0 1) ∷ is_process_row (process_bytes 3 9 128) ∷ []) ≡ (false ∷ false ∷ [])
unfolding is_process_row state_from ◌and◌
reserved_refused = refl

-- each of the three conditions passes, and an init beside a living one alone
pub lives_pass : (is_namespace_row (namespace_bytes 0 0) ∷ is_namespace_row (namespace_bytes 1 63) ∷ is_namespace_row (namespace_bytes 2 0) ∷ []) ≡ (true ∷ true ∷ true ∷ [])
unfolding is_namespace_row life_from ◌and◌
lives_pass = refl

pub inits_refused : (is_namespace_row (namespace_bytes 0 1) ∷ is_namespace_row (namespace_bytes 2 63) ∷ []) ≡ (false ∷ false ∷ [])
unfolding is_namespace_row life_from ◌and◌
inits_refused = refl

-- no condition is above 2
pub lives_refused : (is_namespace_row (namespace_bytes 3 0) ∷ is_namespace_row (namespace_bytes 255 0) ∷ []) ≡ (false ∷ false ∷ [])
unfolding is_namespace_row life_from ◌and◌
lives_refused = refl
