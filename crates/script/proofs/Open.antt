-- For facts that are computed: a proof that says `unfolding script` opens each definition that its line names.
use Rattle.script.specs.Lines as Lines
use Rattle.script.specs.Outputs as Outputs
use Rattle.script.specs.Reading as Reading
use Rattle.script.specs.Texts as Texts
use Rattle.table.specs.Tests as Tests

unfoldable pub script : Unit {0}
unfolding Texts.decimal_in Texts.decimal Texts.number Lines.switch Lines.call_text Lines.line_of Reading.word_length Reading.same Reading.is_digit Reading.natural_from Reading.read_natural Reading.from_zero Reading.below_zero Reading.read_number Reading.own_call Reading.plain_call Reading.with_number Reading.call_with Reading.kill_call Reading.handle_call Reading.call_with_two Reading.read_call Reading.asked_by Reading.after_slot Reading.read_line Outputs.end_text Outputs.removed_text Outputs.answer_line Outputs.bad_line Tests.◌and◌
script = tt
