-- The choices that the shapes of a county leave open: the order of several chains with the same shape, and the direction of a
-- chain that is the same from both ends.
use Rattle.std.specs.Prelude.{Bool, List, [], cond, false, filter, length, map, min, not, reverse, suc, zero, ℕ, ◌&&◌, ◌*◌, ◌==◌, ◌^◌, ◌∷◌}
use Rattle.std.specs.Ordering.{is_eq}
use Rattle.std.specs.declared.cmp.Ordering.{Ordering}
use Rattle.tl_layout.specs.Coordinates.{Coordinates}
use Rattle.tl_shape.specs.PointOrder.{points_cmp}
use Rattle.county_chart.specs.County.{County}
use Rattle.county_chart.specs.Shapes.{least_points}
use Rattle.county_chart.specs.declared.open_place.OpenPlace.{OpenPlace}
use Rattle.ordered_lists.specs.Orders.{distinct, times}

-- 1 times 2 times 3 and so on, up to the number; 1 for 0
abbrev pub factorial : ℕ → ℕ
factorial zero = 1
factorial (suc n) = suc n * factorial n

-- the product of the numbers
abbrev pub product : List ℕ → ℕ
product [] = 1
product (n ∷ ns) = n * product ns

-- the shapes of a county's chains
abbrev pub shapes : County → List (List Coordinates)
shapes county = map (λ entry. least_points entry.1.points) county.chains

-- whether points are the same from both ends
abbrev pub is_either_way : List Coordinates → Bool
is_either_way points = is_eq (points_cmp points (reverse points))

-- the number of orders of the chains with this shape
abbrev pub orders_of : County → List Coordinates → ℕ
orders_of county shape = factorial (times points_cmp shape (shapes county))

-- the number of choices that the county leaves open: the orders of the chains of each shape, and two directions of each chain
-- that is the same from both ends
abbrev pub choices : County → ℕ
choices county = product (map (orders_of county) (distinct points_cmp (shapes county))) * 2 ^ length (filter is_either_way (shapes county))

-- the greatest number of choices that are tried
abbrev pub most_choices : ℕ
most_choices = 5040

-- the number of choices, or one more than the most if there are more than that
abbrev pub counted_choices : County → ℕ
counted_choices county = min (choices county) (suc most_choices)

-- The same for the keys of a list, one after another. At each key there is a choice between it and the same keys after it, and
-- if it is the same either way, a choice of two directions. The keys can be in any order.
abbrev pub running : {K : Type 0} → (K → K → Ordering) → (K → Bool) → List K → ℕ
running cmp either [] = 1
running cmp either (key ∷ keys) = suc (times cmp key keys) * (cond (either key) 2 1 * running cmp either keys)

-- how many keys of a list are the same as the first, including it; 0 without keys
abbrev pub alike_first : {K : Type 0} → (K → K → Ordering) → List K → ℕ
alike_first cmp [] = 0
alike_first cmp (key ∷ keys) = suc (times cmp key keys)

-- whether the key is the same as the first of the keys
abbrev pub is_first : {K : Type 0} → (K → K → Ordering) → K → List K → Bool
is_first cmp key [] = false
is_first cmp key (other ∷ keys) = is_eq (cmp key other)

-- the place of this key, with these keys after it
abbrev pub open_place_at : {K : Type 0} → (K → K → Ordering) → (K → Bool) → ℕ → K → List K → OpenPlace
open_place_at cmp either place key keys = record { place = place; alike = suc (times cmp key keys); either_way = either key }

-- the number of directions of a chain at a place
abbrev pub ways_at : OpenPlace → ℕ
ways_at at = cond at.either_way 2 1

-- whether a place leaves no choice
abbrev pub is_settled : OpenPlace → Bool
is_settled at = (at.alike == 1) && not at.either_way

-- the places that leave a choice, from a given one on
abbrev pub open_places : {K : Type 0} → (K → K → Ordering) → (K → Bool) → ℕ → List K → List OpenPlace
open_places cmp either place [] = []
open_places cmp either place (key ∷ keys) =
    cond (is_settled (open_place_at cmp either place key keys))
    (open_places cmp either (suc place) keys)
    (open_place_at cmp either place key keys ∷ open_places cmp either (suc place) keys)
