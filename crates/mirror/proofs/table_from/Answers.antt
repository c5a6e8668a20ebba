use Rattle.mirror.specs.Mirror.{process_from, namespace_from, no_process_row, no_namespace_row}
use Rattle.mirror.proofs.Fills.{mapped}
use Rattle.mirror.proofs.Rows.{read_empty, read_whole}
use Rattle.table.specs.Limits.{process_slots, namespace_slots}
use borrow.Author.Rules.{rules}
use Rattle.mirror.proofs.table_from.Goals as goal

pub returns-then-not-is_written : goal.returns-then-not-is_written
returns-then-not-is_written c = search read_empty

pub returns : goal.returns
returns c =
    read_whole _ _ _ _ c.is_written.ensures c.if-not-is_written.false
    (mapped _ _ process_from no_process_row c.args.m.processes _ process_slots c.from_fn.ensures.items (search rules) (λ k y q w. search rules))
    (mapped _ _ namespace_from no_namespace_row c.args.m.namespaces _ namespace_slots c.from_fn-2.ensures.items (search rules) (λ k y q w. search rules))
