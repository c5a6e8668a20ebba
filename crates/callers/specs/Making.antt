-- Whether a namespace may be made.
use Rattle.std.specs.Prelude.{ℕ, Bool, List, [], ◌∷◌, leb}
use Rattle.rules.specs.Calls.{elsewhere}
use Rattle.rules.specs.Read.{View}
use Rattle.table.specs.Limits.{deepest}
use Rattle.table.specs.declared.Refusal.{Refusal}
use Rattle.table.specs.declared.Refusal.TheVariants.{Einval, Enospc, Eagain}

-- the refusals of clone new and of unshare to a caller at a level: where it is the caller's own, the definition's
abbrev pub refusals_at : View → ℕ → ℕ → Bool → List (Refusal × Bool)
refusals_at v c level no_room =
    (Einval, elsewhere v c)
    ∷ (Enospc, leb deepest level)
    ∷ (Eagain, no_room)
    ∷ []
