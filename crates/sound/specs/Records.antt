-- The rows of the records that the code has read.
use Rattle.sound.specs.Quick.{ProcessRow, NamespaceRow, process_row, namespace_row}
use Rattle.sound.specs.declared.namespaces.Place.{Place}
use Rattle.sound.specs.declared.processes.Member.{Member}

-- ---- of a namespace slot: what stands there, and the parent

abbrev pub place_row : Place → NamespaceRow
place_row p = namespace_row p.slot.0 p.namespace

abbrev pub above_row : Place → NamespaceRow
above_row p = namespace_row p.namespace.parent.0 p.above

-- ---- of a process: it, its own namespace, and the one for its children

abbrev pub member_row : Member → ProcessRow
member_row m = process_row m.process.now

abbrev pub home_row : Member → NamespaceRow
home_row m = namespace_row m.process.now.own.0 m.home

abbrev pub inner_row : Member → NamespaceRow
inner_row m = namespace_row m.process.now.children.0 m.inner
