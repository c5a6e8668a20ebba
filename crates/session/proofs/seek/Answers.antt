-- `seek` answers the lines that are no calls one by one, up to a call or to the end of the chunk.
use mathlib.Core.Path.{◌∙◌}
use Rattle.session.proofs.Seeking.{seek_loop}
use Rattle.session.proofs.seek.Goals as goal

pub loop-taken-init : goal.loop-taken-init
loop-taken-init c = search seek_loop

pub returns-then-is_some : goal.returns-then-is_some
returns-then-is_some c = search seek_loop

pub loop-taken-smaller : goal.loop-taken-smaller
loop-taken-smaller c = search seek_loop

pub loop-taken-preserved : goal.loop-taken-preserved
loop-taken-preserved c = search (seek_loop, c.as_bytes.ensures.value ∙ c.deref.ensures.0)

pub returns : goal.returns
returns c = search seek_loop
