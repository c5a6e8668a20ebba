-- `others` gathers all that the caller sees beside itself, by the laws of that loop.
use mathlib.Core.Path.{refl}
use Rattle.delivery.proofs.Gathers.{gather_loops, gathers_one, gathers_none}
use Rattle.delivery.proofs.others.Goals as goal
use Rattle.delivery.proofs.others.Goals.{else-is_other, then-is_other}

pub loop-i-init : goal.loop-i-init
loop-i-init c = search gather_loops

pub insert-requires : goal.insert-requires
insert-requires c = search gather_loops

pub loop-i-preserved : goal.loop-i-preserved
loop-i-preserved c =
    let low = c.loop-i-test.true in
    let test = c.is_other in
    elim c.if-is_other.branch [ then-is_other w ↦ gathers_one _ _ _ _ _ _ _ _ c.loop-i.invariant _ test.result w.insert.new.found _ low refl test.ensures w.if-is_other.true w.insert.ensures.len w.insert.ensures.list w.found-is | else-is_other w ↦ gathers_none _ _ _ _ _ _ _ _ c.loop-i.invariant _ test.result _ low refl test.ensures w.if-is_other.false w.found-is ]

pub returns : goal.returns
returns c = search gather_loops
