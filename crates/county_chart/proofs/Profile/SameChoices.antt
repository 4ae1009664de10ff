-- Counties that are the same leave equally many choices, and the shapes of a county in order determine how many.
use Rattle.county_chart.proofs.Common.{AreInShapeOrder, AreSame, Bool, Carries, Chain, Coordinates, County, DirectedChain, IsPermutation, IsPermutation-sym, List, Renumbering, SameElements, along_shapes, carried_chain, choices, false, from_permutation, is_either_way, least_points, map, map-map, map_agree_everywhere, points_along, points_cmp, points_keys, refl, running, same-map, shapes, subst, sym, true, turned_if, turns, ℕ, ◌∙◌, ◌≡◌}
use Rattle.county_chart.proofs.Profile.Factorials.{running-same, running_is}
use Rattle.county_chart.proofs.Profile.ShapePoints.{least_reverse}
use Rattle.county_chart.proofs.Profile.ShapesOfCounty.{shapes_along}

-- the number of choices depends only on the shapes
pub choices_of_shapes : (county : County) → running points_cmp is_either_way (shapes county) ≡ choices county
choices_of_shapes county = running_is points_keys is_either_way (shapes county)

shape_carried : (r : Renumbering) (entry : ℕ × Chain) → least_points (carried_chain r entry).1.points ≡ least_points entry.1.points
shape_carried r entry = go (turns r entry.0)
  where
    go : (b : Bool) → least_points (turned_if b entry.1).points ≡ least_points entry.1.points
    go true = least_reverse entry.1.points
    go false = refl

shapes_carried : (r : Renumbering) (a b : County) → Carries r a b → SameElements (shapes a) (shapes b)
shapes_carried r a b k =
    let shape : ℕ × Chain → List Coordinates = λ entry. least_points entry.1.points in
    subst (λ ks. SameElements ks (shapes b))
    (map-map shape (carried_chain r) a.chains ∙ map_agree_everywhere (λ entry. shape (carried_chain r entry)) shape (shape_carried r) a.chains)
    (same-map shape (map (carried_chain r) a.chains) b.chains (from_permutation (map (carried_chain r) a.chains) b.chains k.chains))

pub same_choices : (a b : County) → AreSame a b → choices a ≡ choices b
same_choices a b s =
    sym (choices_of_shapes a)
    ∙ running-same points_keys is_either_way (shapes a) (shapes b) (shapes_carried s.by a b s.carries)
    ∙ choices_of_shapes b

-- the points of the directed chains, in any order, are the shapes
pub shapes_by_shape : (county : County) (by_shape : List DirectedChain) → IsPermutation (along_shapes county) by_shape
    → SameElements (map (points_along county) by_shape) (shapes county)
shapes_by_shape county by_shape p =
    let along : SameElements (map (points_along county) by_shape) (map (points_along county) (along_shapes county)) =
    same-map (points_along county) by_shape (along_shapes county)
    (from_permutation by_shape (along_shapes county) (IsPermutation-sym (along_shapes county) by_shape p)) in
    subst (SameElements (map (points_along county) by_shape)) (shapes_along county) along

pub choices_stated : (county : County) (by_shape : List DirectedChain) → AreInShapeOrder county by_shape
    → running points_cmp is_either_way (map (points_along county) by_shape) ≡ choices county
choices_stated county by_shape order =
    running-same points_keys is_either_way (map (points_along county) by_shape) (shapes county) (shapes_by_shape county by_shape order.all)
    ∙ choices_of_shapes county
