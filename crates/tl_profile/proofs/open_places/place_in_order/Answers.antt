use Rattle.tl_profile.proofs.Common.{alike-next, alike_few, ap, arith, cond, length-map, map, points_keys, sym, whole_shape, ◌+◌, ◌∙◌, ◌≡◌}
use Rattle.tl_profile.proofs.open_places.place_in_order.Goals as goal
use Rattle.tl_profile.proofs.open_places.place_in_order.Goals.{else-is_twin, then-is_twin}

pub overflow_add-result : goal.overflow_add-result
overflow_add-result g c =
    let whole = whole_shape (g.C.Chart.county c.args.chart.now) in
    let few = alike_few points_keys (map whole c.args.later.now) in
    let same = length-map c.args.later.now whole in
    let is = c.requires.alike in
    let bound = c.requires.few in
    omega (arith, few, same, is, bound)

pub returns : goal.returns
returns g c =
    let whole = whole_shape (g.C.Chart.county c.args.chart.now) in
    let chosen : c.if-is_twin.result ≡ cond c.is_twin-is_twin.result (c.args.alike + 1) 1 =
    elim c.if-is_twin.branch [
      | then-is_twin w ↦ w.result-is ∙ ap (λ b. cond b (c.args.alike + 1) 1) (sym w.if-is_twin.true)
      | else-is_twin w ↦ w.result-is ∙ ap (λ b. cond b (c.args.alike + 1) 1) (sym w.if-is_twin.false)
    ] in
    let alike =
    chosen ∙ (λ i. cond (c.is_twin-is_twin.ensures i) (c.requires.alike i + 1) 1)
    ∙ alike-next points_keys (whole c.args.shape.now) (map whole c.args.later.now) c.requires.in_order in
    λ i. record { place = c.args.place; alike = alike i; either_way = c.requires.shape.either_way i }
