use Rattle.arranged_county.proofs.Common.{ap, arith, get_or, take, ◌+◌, ◌-◌, ◌∙◌}
use Rattle.arranged_county.proofs.Landmarks.LinkSlices.{bounds_rise, bounds_within, slice_stated}
use Rattle.arranged_county.proofs.landmark_links.links_of_landmark.Goals as goal

pub split_at-requires : goal.split_at-requires
split_at-requires c =
    let rise = bounds_rise c.args.links.now c.args.bounds.now c.requires.bounds c.args.place c.if-place-bounds.false in
    let within = bounds_within c.args.links.now c.args.bounds.now c.requires.bounds c.args.place c.if-place-bounds.false in
    omega (arith, rise, within)

pub overflow_sub-end : goal.overflow_sub-end
overflow_sub-end c = bounds_rise c.args.links.now c.args.bounds.now c.requires.bounds c.args.place c.if-place-bounds.false

pub split_at-requires-2 : goal.split_at-requires-2
split_at-requires-2 c =
    let rise = bounds_rise c.args.links.now c.args.bounds.now c.requires.bounds c.args.place c.if-place-bounds.false in
    let within = bounds_within c.args.links.now c.args.bounds.now c.requires.bounds c.args.place c.if-place-bounds.false in
    let back = c.split_at.ensures.back_len in
    omega (arith, rise, within, back)

pub returns : goal.returns
returns c =
    c.split_at-2.ensures.front
    ∙ ap (take (get_or c.args.bounds.now (c.args.place + 1) 0 - get_or c.args.bounds.now c.args.place 0)) c.split_at.ensures.back
    ∙ slice_stated c.args.links.now c.args.bounds.now c.requires.bounds c.args.place c.if-place-bounds.false c.requires.in_order
