-- `set_children` puts the caller back with another namespace for its children, and frees what nobody holds.
use Rattle.namespaces.proofs.Children.{children_set}
use Rattle.namespaces.proofs.set_children.Goals as goal

pub returns : goal.returns
returns c = search children_set
