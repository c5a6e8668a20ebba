-- Where the fields lie in memory, in bytes, as the code is compiled: what a C header has to say with sizeof and offsetof.
-- No byte lies between two fields or after the last one.
use Prim.Native.Nat.{ℕ}
use mathlib.Core.List.{List, [], ◌∷◌, map}
use mathlib.Core.Option.{Option, none, some}
use mathlib.Core.Path.{◌≡◌, refl}
use mir.Syntax.{Ty}
use prog.Memory.{size, align, field_of}
use Rattle.mirror.proofs.Mirror.TheLaws as Table
use Rattle.mirror.proofs.NamespaceRow.TheLaws as Namespace
use Rattle.mirror.proofs.ProcessRow.TheLaws as Process
use Rattle.requests.proofs.Request.TheLaws as Request
use Rattle.requests.proofs.Told.TheLaws as Reply

-- the offset of each of a struct's fields, by their places
abbrev offset : Ty → ℕ → Option ℕ
offset τ k = elim (field_of τ k) [ none ↦ none | some f ↦ some f.1 ]

abbrev offsets : Ty → List ℕ → List (Option ℕ)
offsets τ ks = map (offset τ) ks

-- own, children, parent, state, end, reserved, pids, handled, pending, and no more
pub process_bytes : size Process.mir ≡ 80
process_bytes = refl

pub process_offsets : offsets Process.mir (0 ∷ 1 ∷ 2 ∷ 3 ∷ 4 ∷ 5 ∷ 6 ∷ 7 ∷ 8 ∷ 9 ∷ []) ≡ (some 0 ∷ some 1 ∷ some 2 ∷ some 3 ∷ some 4 ∷ some 5 ∷ some 6 ∷ some 72 ∷ some 76 ∷ none ∷ [])
process_offsets = refl

-- parent, level, life, init, last
pub namespace_bytes : size Namespace.mir ≡ 6
namespace_bytes = refl

pub namespace_offsets : offsets Namespace.mir (0 ∷ 1 ∷ 2 ∷ 3 ∷ 4 ∷ 5 ∷ []) ≡ (some 0 ∷ some 1 ∷ some 2 ∷ some 3 ∷ some 4 ∷ none ∷ [])
namespace_offsets = refl

-- processes, namespaces
pub table_bytes : size Table.mir ≡ 5408
table_bytes = refl

pub table_offsets : offsets Table.mir (0 ∷ 1 ∷ 2 ∷ []) ≡ (some 0 ∷ some 5120 ∷ none ∷ [])
table_offsets = refl

pub table_align : align Table.mir ≡ 4
table_align = refl

-- call, a, b, c
pub request_bytes : size Request.mir ≡ 16
request_bytes = refl

pub request_offsets : offsets Request.mir (0 ∷ 1 ∷ 2 ∷ 3 ∷ 4 ∷ []) ≡ (some 0 ∷ some 4 ∷ some 8 ∷ some 12 ∷ none ∷ [])
request_offsets = refl

-- answer, child, state, end, and one byte that nobody reads
pub reply_bytes : size Reply.mir ≡ 8
reply_bytes = refl

pub reply_offsets : offsets Reply.mir (0 ∷ 1 ∷ 2 ∷ 3 ∷ 4 ∷ []) ≡ (some 0 ∷ some 4 ∷ some 5 ∷ some 6 ∷ none ∷ [])
reply_offsets = refl
