-- The points of all directed chains are the county's shapes.
use Rattle.county_chart.proofs.Common.{Chain, County, List, Some, [], along_shape, along_shapes, ap, ap₂, arith, least_points, length, map, map-map, option_map, points_along, points_of, range_with_len, refl, shapes, slice_get, slice_get-map, subst, suc, ℕ, ◌+◌, ◌∙◌, ◌∷◌, ◌≡◌}
use Rattle.county_chart.proofs.Profile.Places.{along_from}

-- a function of each place that agrees with a function of the item there has the same values
map_places : {X Y : Type 0} (f : ℕ → Y) (g : X → Y) (a : ℕ) (xs : List X)
    → ((i : ℕ) (x : X) → slice_get xs i ≡ Some x → f (a + i) ≡ g x) → map f (range_with_len a (length xs)) ≡ map g xs
map_places f g a [] h = refl
map_places f g a (x ∷ xs) h =
    let here : f a ≡ g x = subst (λ n. f n ≡ g x) (omega arith) (h 0 x refl) in
    let later : map f (range_with_len (a + 1) (length xs)) ≡ map g xs =
    map_places f g (a + 1) xs (λ i y e. subst (λ n. f n ≡ g y) (omega arith) (h (suc i) y e)) in
    ap₂ (λ y ys. y ∷ ys) here later

pub shapes_along : (county : County) → map (points_along county) (along_shapes county) ≡ shapes county
shapes_along county =
    map-map (points_along county) (along_shape county) (range_with_len 0 (length county.chains))
    ∙ map_places (λ i. points_along county (along_shape county i)) (λ entry. least_points entry.1.points) 0 county.chains here
  where
    here : (i : ℕ) (e : ℕ × Chain) → slice_get county.chains i ≡ Some e
        → points_along county (along_shape county (0 + i)) ≡ least_points e.1.points
    here i e got =
        let same : 0 + i ≡ i = omega arith in
        ap (λ n. points_along county (along_shape county n)) same
        ∙ along_from county (along_shape county i)
        ∙ ap (λ o. least_points (points_of o))
        (slice_get-map (λ (d : ℕ × Chain). d.1) county.chains i ∙ ap (option_map (λ (d : ℕ × Chain). d.1)) got)
