use Rattle.arranged_county.proofs.Common.{AreClasses, AreSortedLandmarks, County, Fields8, IsInOrder, IsPermutation, List, PolygonKey, ap, ap₂, arith, arranged_by, eight_land, landmark_bodies_cmp, landmark_place_cmp, lands, length, length-map-range_with_len, link_bounds, links_from, links_up_to, nat_cmp, numbered_links, on, range_with_len, subst, sym, ℕ, ◌+◌, ◌-◌, ◌∙◌, ◌≡◌}
use Rattle.arranged_county.proofs.Landmarks.LandmarkOrder.{all_sorted, landmarks_stated, links_stated, numbered_by_land, places_counted, sorted_in_order}
use Rattle.arranged_county.proofs.Views.ViewTables.{by_land}
use Rattle.arranged_county.proofs.landmark_order.arrange_landmarks.Given.{Over}
use Rattle.arranged_county.proofs.landmark_order.arrange_landmarks.Goals.{After-as_slice-2, In_ok-links, In_ok-places}
use Rattle.arranged_county.proofs.landmark_order.arrange_landmarks.Goals as goal

pub bounds_of-requires-clause-in_order : goal.bounds_of-requires-clause-in_order
bounds_of-requires-clause-in_order g c =
    let county = g.C.Chart.county c.args.classes.now.chart.now in
    subst (IsInOrder (on eight_land nat_cmp)) (sym (c.deref.ensures.value ∙ c.in_ok-by_place.ensures))
    (numbered_by_land county c.args.polygons.now (lands county))

-- the facts about the lists by which landmarks are sorted
record AreListed (county : County) (polygons : List PolygonKey) (links : List Fields8) (bounds : List ℕ) : Type 0 where
  numbered : links ≡ numbered_links county polygons (lands county)
  long : length bounds ≡ length county.landmarks + 1
  counted : length bounds - 1 ≡ length county.landmarks
  bounded : bounds ≡ link_bounds links (length bounds - 1)

are_listed : (county : County) (polygons : List PolygonKey) (links : List Fields8) (bounds : List ℕ)
    → links ≡ numbered_links county polygons (lands county)
    → bounds ≡ link_bounds links (length county.landmarks)
    → AreListed county polygons links bounds
are_listed county polygons links bounds numbered bounded =
    let long : length bounds ≡ length county.landmarks + 1 =
    ap length bounded ∙ length-map-range_with_len (links_up_to links) 0 (length county.landmarks + 1) in
    let fewer : length bounds - 1 ≡ length county.landmarks = omega (arith, long) in
    record {
      numbered = numbered;
      long = long;
      counted = fewer;
      bounded = bounded ∙ ap (link_bounds links) (sym fewer);
    }

listed : (g : Over) (c : After-as_slice-2 g)
    → AreListed (g.C.Chart.county c.args.classes.now.chart.now) c.args.polygons.now c.as_slice.result.now c.as_slice-2.result.now
listed g c = are_listed (g.C.Chart.county c.args.classes.now.chart.now) c.args.polygons.now c.as_slice.result.now c.as_slice-2.result.now
    (c.as_slice.ensures.value ∙ c.in_ok-by_place.ensures)
    (c.as_slice-2.ensures.value ∙ c.in_ok-counts.ensures
    ∙ ap₂ link_bounds (c.deref.ensures.value ∙ sym c.as_slice.ensures.value) c.landmark_count-count.ensures)

pub invariant_of-lists : goal.invariant_of-lists
invariant_of-lists g c =
    let county = g.C.Chart.county c.args.classes.now.chart.now in
    let h = listed g (goal.at.invariant_of-lists g c).After-as_slice-2 in
    record {
      in_order = subst (IsInOrder (on eight_land nat_cmp)) (sym h.numbered) (numbered_by_land county c.args.polygons.now (lands county));
      some = omega (arith, h.long);
      bounded = h.bounded;
    }

-- the places are all places, in their new order
record AreInOrder (county : County) (polygons : List PolygonKey) (places : List ℕ) : Type 0 where
  permuted : IsPermutation (range_with_len 0 (length county.landmarks)) places
  ordered : IsInOrder (landmark_place_cmp county (numbered_links county polygons (lands county)) (length county.landmarks)) places

are_in_order : (county : County) (polygons : List PolygonKey) (links : List Fields8) (bounds : List ℕ) → AreListed county polygons links bounds
    → (classed : List (ℕ × ℕ)) → AreClasses (length county.landmarks) (landmark_bodies_cmp county) classed
    → (some : List (ℕ × ℕ)) → some ≡ classed → (places : List ℕ) → AreSortedLandmarks links (length bounds - 1) some places
    → AreInOrder county polygons places
are_in_order county polygons links bounds h classed known some same places sorted =
    let all : List Fields8 = numbered_links county polygons (lands county) in
    let there : AreSortedLandmarks all (length county.landmarks) classed places =
    subst (λ (ls : List Fields8). AreSortedLandmarks ls (length county.landmarks) classed places) h.numbered
    (subst (λ (n : ℕ). AreSortedLandmarks links n classed places) h.counted
    (subst (λ (ls : List (ℕ × ℕ)). AreSortedLandmarks links (length bounds - 1) ls places) same sorted)) in
    record {
      permuted = all_sorted county all (length county.landmarks) classed known places there;
      ordered = sorted_in_order county all (length county.landmarks) classed known places there;
    }

in_order : (g : Over) (c : In_ok-places g) → AreInOrder (g.C.Chart.county c.args.classes.now.chart.now) c.args.polygons.now c.in_ok-places.places.items
in_order g c = are_in_order (g.C.Chart.county c.args.classes.now.chart.now) c.args.polygons.now c.as_slice.result.now c.as_slice-2.result.now
    (listed g (goal.at.In_ok-places g c).After-as_slice-2) c.args.classes.now.landmarks.items c.args.classes.now.landmarks_stated
    c.deref-2.result.now c.deref-2.ensures.value c.in_ok-places.places.items c.in_ok-places.ensures

pub links_along-requires : goal.links_along-requires
links_along-requires g c =
    let places = c.in_ok-places.places.items in
    let count = ap length c.deref-3.ensures.value
    ∙ places_counted (g.C.Chart.county c.args.classes.now.chart.now) places (in_order g (goal.at.links_along-requires g c).In_ok-places).permuted in
    let few = c.requires.few in
    omega (arith, count, few)

-- the links along these places are those of the arranged county
new_links : (g : Over) (c : In_ok-links g)
    → c.in_ok-links.links.items ≡ (arranged_by (g.C.Chart.county c.args.classes.now.chart.now) c.args.arrangement.now).links
new_links g c =
    let county = g.C.Chart.county c.args.classes.now.chart.now in
    let h = listed g (goal.at.In_ok-links g c).After-as_slice-2 in
    let o = in_order g (goal.at.In_ok-links g c).In_ok-places in
    c.in_ok-links.ensures
    ∙ (λ i. links_from (h.numbered i) (h.counted i) 1 (c.deref-3.ensures.value i))
    ∙ links_stated county c.args.arrangement.now (g.met.C.Chart.is_county c.args.classes.now.chart.now) c.requires.whole c.args.polygons.now
    c.requires.polygons c.in_ok-places.places.items o.permuted o.ordered

pub bounds_of-requires-2-clause-in_order : goal.bounds_of-requires-2-clause-in_order
bounds_of-requires-2-clause-in_order g c =
    subst (IsInOrder (on eight_land nat_cmp))
    (sym (c.deref-4.ensures.value ∙ new_links g (goal.at.bounds_of-requires-2-clause-in_order g c).In_ok-links))
    (by_land (arranged_by (g.C.Chart.county c.args.classes.now.chart.now) c.args.arrangement.now).links c.requires.whole.is_county.ascending.links)

pub returns : goal.returns
returns g c =
    let county = g.C.Chart.county c.args.classes.now.chart.now in
    let o = in_order g (goal.at.returns g c).In_ok-places in
    let links = new_links g (goal.at.returns g c).In_ok-links in
    record {
      landmarks = landmarks_stated county c.args.arrangement.now (g.met.C.Chart.is_county c.args.classes.now.chart.now) c.requires.whole
          c.args.polygons.now c.requires.polygons c.in_ok-places.places.items o.permuted o.ordered;
      links = links;
      bounds = c.in_ok-bounds.ensures ∙ ap₂ link_bounds (c.deref-4.ensures.value ∙ links)
          (c.landmark_count-count.ensures ∙ sym (places_counted county c.in_ok-places.places.items o.permuted));
    }
