-- Each write goes on where the one before ended.
use Rattle.std.proofs.Common.{◌++◌, take}
use Rattle.std.proofs.KnownBytes.{Appends-kept, Appends-trans}
use Rattle.recorder.proofs.Writing.{first_part, moves_on}
use Rattle.recorder.proofs.faults.write_out.Goals as goal

pub loop-preserved : goal.loop-preserved
loop-preserved g c =
    let (done, split, appended) = c.loop.invariant in
    let rest = c.loop.rest.now in
    let n = c.in_ok-n.n in
    (done ++ take n rest, moves_on _ done rest n split, Appends-trans _ _ _ _ _ appended c.in_ok-n.ensures.bytes)

pub returns-in_err-n-clause-first : goal.returns-in_err-n-clause-first
returns-in_err-n-clause-first g c =
    let (done, split, appended) = c.loop.invariant in
    first_part _ _ _ done c.loop.rest.now split (Appends-kept _ _ _ done appended c.in_err-n.ensures.bytes)

pub returns-clause-first : goal.returns-clause-first
returns-clause-first g c =
    let (done, split, appended) = c.loop.invariant in
    first_part _ _ _ done c.loop.rest.now split appended
