use Rattle.tl_number.proofs.Common.{chain_polygons, first_open, key_cmp, keys_along, ◌∙◌}
use Rattle.tl_number.proofs.kept_landmarks.opened.Goals as goal

pub returns : goal.returns
returns g c = c.in_ok-polygons.ensures.opened
    ∙ (λ i. first_open key_cmp (c.open_places.ensures i) (keys_along chain_polygons (g.C.Chart.county c.args.chart.now) (c.by_shape.ensures i)))
