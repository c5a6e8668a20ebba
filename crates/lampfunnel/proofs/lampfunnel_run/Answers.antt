-- `lampfunnel_run` feeds the script whole, and runs the last line if its line feed is missing.
use native.Mathlib.Omega.{arith}
use Rattle.lampfunnel.proofs.Running.{short_told, short_filled, room_for_ended, fed_whole, room_left, all_ended, last_asks, last_fits, last_run}
use Rattle.lampfunnel.proofs.lampfunnel_run.Goals as goal

pub returns-then-line_count-out : goal.returns-then-line_count-out
returns-then-line_count-out c = (
  short_told _ _ _ c.line_count.ensures c.if-line_count-out.true,
  short_filled _ _ _ c.line_count.ensures c.if-line_count-out.true,
)

pub feed-fed-requires : goal.feed-fed-requires
feed-fed-requires c =
    room_for_ended _ _ _ c.line_count.ensures c.if-line_count-out.false

pub returns-then-line-eq0 : goal.returns-then-line-eq0
returns-then-line-eq0 c = all_ended _ _ _ _ (fed_whole _ _ _ _ _ _ c.line_count.ensures c.if-line_count-out.false c.start.ensures c.feed-fed.ensures) c.if-line-eq0.true

pub slice_bounds-finish-count : goal.slice_bounds-finish-count
slice_bounds-finish-count c =
    let h = room_left _ _ _ _ (fed_whole _ _ _ _ _ _ c.line_count.ensures c.if-line_count-out.false c.start.ensures c.feed-fed.ensures) c.if-line-eq0.false in
    omega arith

pub finish-requires : goal.finish-requires
finish-requires c =
    last_asks _ _ _ _ (fed_whole _ _ _ _ _ _ c.line_count.ensures c.if-line_count-out.false c.start.ensures c.feed-fed.ensures) c.if-line-eq0.false

pub overflow_add-result : goal.overflow_add-result
overflow_add-result c =
    let h = last_fits _ _ _ _ _ _ (fed_whole _ _ _ _ _ _ c.line_count.ensures c.if-line_count-out.false c.start.ensures c.feed-fed.ensures) c.if-line-eq0.false c.finish.ensures in
    let g = c.well_formed.1.0 in
    omega arith

pub returns : goal.returns
returns c =
    last_run _ _ _ _ _ _ (fed_whole _ _ _ _ _ _ c.line_count.ensures c.if-line_count-out.false c.start.ensures c.feed-fed.ensures)
    c.finish.ensures

pub slice_bounds-finish-start : goal.slice_bounds-finish-start
slice_bounds-finish-start c =
    let h = room_left _ _ _ _ (fed_whole _ _ _ _ _ _ c.line_count.ensures c.if-line_count-out.false c.start.ensures c.feed-fed.ensures) c.if-line-eq0.false in
    omega arith
