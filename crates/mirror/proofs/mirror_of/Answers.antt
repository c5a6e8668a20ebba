use Rattle.mirror.specs.Mirror.{process_row, namespace_row, mirror_of}
use Rattle.mirror.proofs.Fills.{mapped}
use Rattle.table.specs.Slots.{no_process, no_namespace}
use Rattle.table.specs.Limits.{process_slots, namespace_slots}
use borrow.Author.Rules.{rules}
use mathlib.Core.Path.{ap₂}
use Rattle.mirror.proofs.mirror_of.Goals as goal

pub returns : goal.returns
unfolding mirror_of
returns c =
    ap₂ (λ ps ns. record { processes = ps; namespaces = ns })
    (mapped _ _ process_row no_process c.args.t.processes _ process_slots c.from_fn.ensures.items (search rules) (λ k y q w. search rules))
    (mapped _ _ namespace_row no_namespace c.args.t.namespaces _ namespace_slots c.from_fn-2.ensures.items (search rules) (λ k y q w. search rules))
