-- The climbs of one search: those of a tree to one namespace n.
use Rattle.std.specs.Prelude.{ℕ, Bool, true, false, List, ◌≡◌, get_or}
use Rattle.rules.specs.Read.{climb}
use Rattle.tree.specs.Tree as of_tree
use Rattle.tree.specs.declared.Tree.{Tree}

-- their tree's parents and levels
abbrev pub up_in : Tree × ℕ → ℕ → ℕ
up_in c = of_tree.slot_in c.0.parents

abbrev pub level_in : Tree × ℕ → ℕ → ℕ
level_in c = of_tree.level_in c.0.levels

-- a is in the subtree of n, as `below` in a table says
abbrev pub below_in : Tree × ℕ → ℕ → Bool
below_in c a = climb (up_in c) (level_in c a) a c.1

-- What is known of the climbs to n: from a namespace with a mark they come there, in as many steps as its level.
pub record Known (c : Tree × ℕ) (known : List Bool) : Type 0 where
  pub comes : (a : ℕ) → get_or known a false ≡ true → below_in c a ≡ true
