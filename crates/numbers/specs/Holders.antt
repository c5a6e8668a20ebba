-- The holders of numbers, as functions of the place: their own namespaces, and their numbers.
use Rattle.std.specs.Prelude.{ℕ, Bool, List, get_or}
use Rattle.tree.specs.declared.Tree.{Tree}
use Rattle.numbers.specs.Climbs.{up_in, level_in}
use Rattle.numbers.specs.Marks.{unheld}
use Rattle.numbers.specs.declared.Holder.{Holder}

-- what lies past the last place
abbrev pub nobody : Holder
nobody = record { own = record { 0 = 0 }; pid = record { 0 = 0 } }

abbrev pub own_in : List Holder → ℕ → ℕ
own_in hs i = (get_or hs i nobody).own.0

abbrev pub pid_in : List Holder → ℕ → ℕ
pid_in hs i = (get_or hs i nobody).pid.0

-- nobody of them below the namespace of the climbs has the number
abbrev pub unheld_in : Tree × ℕ → List Holder → ℕ → Bool
unheld_in c hs = unheld (up_in c) (level_in c) (own_in hs) (pid_in hs) c.1
