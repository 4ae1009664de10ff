use Rattle.tl_profile.proofs.Common.{IsCounted, IsInOrder, OpenChoices, [], ap, append_assoc, arith, empty_list, is_either_way, length, length-append, map, points_cmp, subst, sym, whole_shape, ◌++◌, ◌∙◌, ◌∷◌}
use Rattle.tl_profile.proofs.FoundChoices.{IsFound, behind, counted_place, few_shapes, found_all, found_many, rest_in_order}
use Rattle.tl_profile.proofs.open_places.find_choices.Given.{Over}
use Rattle.tl_profile.proofs.open_places.find_choices.Goals as goal
use Rattle.tl_profile.proofs.open_places.find_choices.Goals.{in-Some+in_ok-put_in_front+then-found-gt-MOST_CHOICES, in_default}

pub overflow_cast-place : goal.overflow_cast-place
overflow_cast-place g c =
    let county = g.C.Chart.county c.args.chart.now in
    let few = few_shapes county c.args.shapes.now c.requires.order (g.met.C.Chart.within_limits c.args.chart.now) in
    let cut = ap length c.loop-shape.invariant.cut ∙ length-append c.loop-shape.rest.now c.loop-shape.invariant.done in
    let split = c.in-Some.ensures.cases.1 in
    omega (arith, few, cut, split)

pub place_in_order-requires-clause-in_order : goal.place_in_order-requires-clause-in_order
place_in_order-requires-clause-in_order g c =
    let county = g.C.Chart.county c.args.chart.now in
    let shapes = c.args.shapes.now in
    let rest = c.loop-shape.rest.now in
    let inv = c.loop-shape.invariant in
    subst (λ l. IsInOrder points_cmp (map (whole_shape county) (c.in-Some.shape.now ∷ l))) (sym (behind shapes rest inv.done inv.cut))
    (rest_in_order county shapes c.requires.order rest c.in-Some.before.now inv.done c.in-Some.shape.now inv.cut c.in-Some.ensures.cases.0)

pub place_in_order-requires-clause-few : goal.place_in_order-requires-clause-few
place_in_order-requires-clause-few g c =
    let county = g.C.Chart.county c.args.chart.now in
    let few = few_shapes county c.args.shapes.now c.requires.order (g.met.C.Chart.within_limits c.args.chart.now) in
    let later = ap length (behind c.args.shapes.now c.loop-shape.rest.now c.loop-shape.invariant.done c.loop-shape.invariant.cut) in
    let cut = ap length c.loop-shape.invariant.cut ∙ length-append c.loop-shape.rest.now c.loop-shape.invariant.done in
    let split = c.in-Some.ensures.cases.1 in
    omega (arith, few, later, cut, split)

pub loop-shape-preserved : goal.loop-shape-preserved
loop-shape-preserved g c =
    let county = g.C.Chart.county c.args.chart.now in
    let inv = c.loop-shape.invariant in
    let shape = c.in-Some.shape.now in
    record {
      done = shape ∷ inv.done;
      cut = inv.cut ∙ ap (λ l. l ++ inv.done) c.in-Some.ensures.cases.0 ∙ append_assoc c.in-Some.before.now (shape ∷ []) inv.done;
      counted =
          counted_place county c.args.shapes.now c.requires.order c.loop-shape.rest.now c.in-Some.before.now inv.done shape inv.cut
          c.in-Some.ensures.cases.1 c.loop-shape.found.count c.loop-shape.found.alike c.loop-shape.found.places.items inv.counted
          c.place_in_order.result c.place_in_order.ensures c.put_in_front.new.self.count c.put_in_front.new.self.alike
          c.put_in_front.new.self.places.items c.in_ok-put_in_front.ensures.count c.in_ok-put_in_front.ensures.alike
          c.in_ok-put_in_front.ensures.places;
      few = c.if-found-gt-MOST_CHOICES.false;
    }

found : (g : Over) (c : goal.After-in_order g)
    → IsFound (g.C.Chart.county c.args.chart.now) c.args.shapes.now c.requires.order c.match-split_last.found.count
    c.match-split_last.found.places.items
found g c =
    let county = g.C.Chart.county c.args.chart.now in
    let shapes = c.args.shapes.now in
    let rest = c.loop-shape.rest.now in
    let inv = c.loop-shape.invariant in
    let is : OpenChoices → Type 0 = λ f. IsFound county shapes c.requires.order f.count f.places.items in
    elim c.match-split_last.branch [
      | in-Some+in_ok-put_in_front+then-found-gt-MOST_CHOICES w ↦
          let shape = w.in-Some.shape.now in
          let before = w.in-Some.before.now in
          let now = w.put_in_front.new.self in
          subst is (sym w.found-is)
          (found_many county shapes c.requires.order before (shape ∷ inv.done)
          (inv.cut ∙ ap (λ l. l ++ inv.done) w.in-Some.ensures.cases.0 ∙ append_assoc before (shape ∷ []) inv.done)
          (length before) now.count now.alike now.places.items
          (counted_place county shapes c.requires.order rest before inv.done shape inv.cut w.in-Some.ensures.cases.1 c.loop-shape.found.count
          c.loop-shape.found.alike c.loop-shape.found.places.items inv.counted w.place_in_order.result w.place_in_order.ensures now.count
          now.alike now.places.items w.in_ok-put_in_front.ensures.count w.in_ok-put_in_front.ensures.alike
          w.in_ok-put_in_front.ensures.places)
          w.if-found-gt-MOST_CHOICES.true)
      | in_default w ↦
          let last = c.loop-shape.found in
          let none = w.in_default.ensures.cases in
          subst is (sym w.found-is)
          (found_all county shapes c.requires.order inv.done (inv.cut ∙ ap (λ l. l ++ inv.done) (empty_list rest none)) last.count last.alike
          last.places.items
          (subst (λ n. IsCounted points_cmp is_either_way n (map (whole_shape county) inv.done) last.count last.alike last.places.items) none
          inv.counted))
    ]

pub returns-clause-count : goal.returns-clause-count
returns-clause-count g c = c.in_order.ensures.count ∙ (found g c).count_is

pub returns-clause-places : goal.returns-clause-places
returns-clause-places g c few = c.in_order.ensures.places ∙ (found g c).places_are few
