-- The steps fall at each call.
use Rattle.tree.proofs.Tree.+below.Given as goal

abbrev pub decreases-below : goal.decreases-below
decreases-below l = l.steps
