-- At the end of the input the open line is run.
use Rattle.std.proofs.lemmas.Result.{on_ok_weaker}
use Rattle.recorder.proofs.Ending.{ends_first, ends_whole}
use Rattle.recorder.proofs.run.run.Goals as goal

pub returns-clause-whole : goal.returns-clause-whole
returns-clause-whole g c =
    on_ok_weaker c.write_out.result
    (ends_whole _ _ _ _ c.in_ok-s.s _ c.finish-used.new.out c.finish-used.result c.in_ok-s.ensures.goes_on c.finish-used.ensures _ c.in_ok-s.ensures.at_end)
    c.write_out.ensures.whole

pub returns-clause-first : goal.returns-clause-first
returns-clause-first g c =
    ends_first _ _ _ _ c.in_ok-s.s _ c.finish-used.new.out c.finish-used.result c.in_ok-s.ensures.goes_on c.finish-used.ensures _ c.in_ok-s.ensures.at_end
    c.write_out.ensures.first
