-- For computed facts: a proof that says `unfolding sheets` opens each definition of this crate that its line names.
use Rattle.sameness.specs.Claims as Claims
use Rattle.sameness.specs.Events as Events
use Rattle.sameness.specs.Sheet as Sheet
use Rattle.sameness.specs.Touches as Touches

unfoldable pub sheets : Unit {0}
unfolding Sheet.nearest Sheet.name_by Sheet.name Sheet.row Sheet.sheet Events.follow Events.sheet_of Events.is_inside Events.namespace_inside Events.slot_of Events.inside_calls Events.happens Events.table_after Events.answer_of Touches.clones_into Touches.signals_into Touches.ends_above Touches.removes_from Touches.touched Touches.touches Touches.allowed Touches.untouched Claims.observe Claims.place_after Claims.observations Claims.lacks_room Claims.Agree
sheets = tt
