use Rattle.arranged_county.proofs.Common.{AreSortedLandmarks, IfOk-weaker, IsInOrder, IsPermutation, always_returns_same, ap, classed_landmark_cmp, classed_place, in_order-from_sorted, is_lt, length, map, ranks_by, rules, subst, ◌-◌, ◌∙◌, ◌≡◌}
use Rattle.arranged_county.proofs.Landmarks.LandmarkOrder.{classed_landmarks_total}
use Rattle.arranged_county.proofs.landmark_order.sorted_places.Goals as goal

pub returns : goal.returns
returns c =
    let links = c.args.lists.now.links.now in
    let count = length c.args.lists.now.bounds.now - 1 in
    let items = c.sort_unstable_by.new.self.items in
    let ordered : IsInOrder (classed_landmark_cmp links count) items =
    in_order-from_sorted (classed_landmarks_total links count) items
    (c.sort_unstable_by.ensures.sorted (λ a b. is_lt (classed_landmark_cmp links count a b)) (ranks_by (classed_landmarks_total links count) (λ s. s))
    (always_returns_same _ _ _ (λ a r f' k. search rules))) in
    IfOk-weaker c.places_of.result (λ places. places.items ≡ map classed_place c.deref.result.now)
    (λ places. AreSortedLandmarks links count c.args.landmarks.now places.items)
    (λ places e. record {
      items = items;
      all = subst (λ ls. IsPermutation ls items) c.in_ok-sorted.ensures.items c.sort_unstable_by.ensures.permutation;
      in_order = ordered;
      places_of = e ∙ ap (map classed_place) c.deref.ensures.value;
    }) c.places_of.ensures
