-- The shapes of a county in order, and a pass over them from the last to the first.
use Rattle.tl_profile.proofs.Common.{AllByRecursion, AreInShapeOrder, County, Equal, Greater, IsCounted, IsInOrder, Less, List, Ordering, PlacedShape, [], along_shape, along_shapes, ap, append_assoc, arith, choices_stated, cond, counted_choices, counted_next, directed_cmp, false, few_chains, is_either_way, is_gt, length, length-append, length-map, length-map-range_with_len, length_permutation, map, map-append, map-map, min, more_choices-append, most_choices, nat_cmp, open_places, ordering_then, placed_directed, points_along, points_cmp, refl, subst, suc, sym, take, whole_shape, ℕ, ◌++◌, ◌+◌, ◌<◌, ◌∙◌, ◌∷◌, ◌≡◌, ◌≤◌}
use Rattle.county_chart.specs.Limits.{IsWithinLimits}
use Rattle.county_chart.specs.Choices.{choices, is_settled, open_place_at, running, ways_at}
use Rattle.std.proofs.Common.{drop, reverse, ◌*◌, ◌-◌, ◌^◌}
use Rattle.tl_layout.specs.Limits.{most_records}
use Rattle.std.proofs.lemmas.List.{take_all}
use Rattle.county_chart.specs.declared.directed_chain.DirectedChain.{DirectedChain}
use Rattle.county_chart.specs.declared.open_place.OpenPlace.{OpenPlace}

first_not_greater : (a b : Ordering) → is_gt (ordering_then a b) ≡ false → is_gt a ≡ false
first_not_greater Less b e = refl
first_not_greater Equal b e = refl
first_not_greater Greater b e = e

-- a list after another one, as a slice
pub behind : {X : Type 0} (all rest done : List X) → all ≡ rest ++ done → take (length all - length rest) (drop (length rest) all) ≡ done
behind {X} all rest done cut =
    ap (λ l. take (length all - length rest) (drop (length rest) l)) cut
    ∙ ap (take (length all - length rest)) (skipped rest)
    ∙ take_all (length all - length rest) done (let whole = ap length cut ∙ length-append rest done in omega (arith, whole))
  where
    skipped : (xs : List X) → drop (length xs) (xs ++ done) ≡ done
    skipped [] = refl
    skipped (x ∷ xs) = skipped xs

in_order-behind : {X : Type 0} (by : X → X → Ordering) (xs ys : List X) → IsInOrder by (xs ++ ys) → IsInOrder by ys
in_order-behind by [] ys h = h
in_order-behind by (x ∷ xs) ys h = in_order-behind by xs ys h.1

-- more than the most is counted as one more than that
capped : (m n : ℕ) → most_choices < m → m ≤ n → min m (suc most_choices) ≡ min n (suc most_choices)
capped m n h k = omega (arith, h, k)

module _ (county : County) where
  pub in_shape_order : (by_shape : List DirectedChain) → IsInOrder (directed_cmp county) by_shape → IsInOrder points_cmp (map (points_along county) by_shape)
  in_shape_order [] h = tt
  in_shape_order (w ∷ ws) h = (each ws h.0, in_shape_order ws h.1)
    where
      each : (vs : List DirectedChain) → AllByRecursion (λ v. is_gt (directed_cmp county w v) ≡ false) vs
          → AllByRecursion (λ k. is_gt (points_cmp (points_along county w) k) ≡ false) (map (points_along county) vs)
      each [] a = tt
      each (v ∷ vs) a = (first_not_greater (points_cmp (points_along county w) (points_along county v)) (nat_cmp w.place v.place) a.0, each vs a.1)

  module _ (shapes : List PlacedShape) (order : AreInShapeOrder county (map placed_directed shapes)) where
    pub shapes_in_order : IsInOrder points_cmp (map (whole_shape county) shapes)
    shapes_in_order =
        subst (IsInOrder points_cmp) (map-map (points_along county) placed_directed shapes) (in_shape_order (map placed_directed shapes) order.in_order)

    pub choices_of_all : running points_cmp is_either_way (map (whole_shape county) shapes) ≡ choices county
    choices_of_all =
        ap (running points_cmp is_either_way) (sym (map-map (points_along county) placed_directed shapes))
        ∙ choices_stated county (map placed_directed shapes) order

    pub few_shapes : IsWithinLimits most_records county → length shapes < 2 ^ 32
    few_shapes within =
        let few = few_chains county within in
        let by_shape = length-map shapes placed_directed in
        let same = length_permutation (along_shapes county) (map placed_directed shapes) order.all in
        let all = length-map-range_with_len (along_shape county) 0 (length county.chains) in
        omega (arith, few, by_shape, same, all)

    -- a shape and those after it are in order
    pub rest_in_order : (rest before done : List PlacedShape) (shape : PlacedShape) → shapes ≡ rest ++ done → rest ≡ before ++ (shape ∷ [])
        → IsInOrder points_cmp (map (whole_shape county) (shape ∷ done))
    rest_in_order rest before done shape cut split =
        let parts : shapes ≡ before ++ (shape ∷ done) =
        cut ∙ ap (λ l. l ++ done) split ∙ append_assoc before (shape ∷ []) done in
        in_order-behind points_cmp (map (whole_shape county) before) (map (whole_shape county) (shape ∷ done))
        (subst (IsInOrder points_cmp) (ap (map (whole_shape county)) parts ∙ map-append (whole_shape county) before (shape ∷ done))
        shapes_in_order)

    -- one more shape before those that are counted
    pub counted_place : (rest before done : List PlacedShape) (shape : PlacedShape) → shapes ≡ rest ++ done
        → length before + 1 ≡ length rest → (count alike : ℕ) (places : List OpenPlace)
        → IsCounted points_cmp is_either_way (length rest) (map (whole_shape county) done) count alike places → (at : OpenPlace)
        → at ≡ open_place_at points_cmp is_either_way (length before) (whole_shape county shape)
        (map (whole_shape county) (take (length shapes - length rest) (drop (length rest) shapes)))
        → (counted alike_now : ℕ) (now : List OpenPlace)
        → counted ≡ at.alike * (ways_at at * count) → alike_now ≡ at.alike → now ≡ cond (is_settled at) places (places ++ (at ∷ []))
        → IsCounted points_cmp is_either_way (length before) (map (whole_shape county) (shape ∷ done)) counted alike_now now
    counted_place rest before done shape cut len count alike places was at is =
        counted_next points_cmp is_either_way (length before) (whole_shape county shape) (map (whole_shape county) done) count alike places
        (subst (λ n. IsCounted points_cmp is_either_way n (map (whole_shape county) done) count alike places) (omega (arith, len)) was)
        at (is ∙ ap (λ l. open_place_at points_cmp is_either_way (length before) (whole_shape county shape) (map (whole_shape county) l))
        (behind shapes rest done cut))

    -- the result of the pass: the count, up to one more than the most, and the places, the last one first
    pub record IsFound (count : ℕ) (places : List OpenPlace) : Type 0 where
      pub count_is : min count (suc most_choices) ≡ counted_choices county
      pub places_are : choices county ≤ most_choices
          → reverse places ≡ open_places points_cmp is_either_way 0 (map (whole_shape county) shapes)

    -- if a part leaves more than the most, so does the whole
    pub found_many : (before done : List PlacedShape) → shapes ≡ before ++ done → (place count alike : ℕ) (places : List OpenPlace)
        → IsCounted points_cmp is_either_way place (map (whole_shape county) done) count alike places → most_choices < count
        → IsFound count places
    found_many before done cut place count alike places is many =
        let whole = whole_shape county in
        let parts : map whole shapes ≡ map whole before ++ map whole done = ap (map whole) cut ∙ map-append whole before done in
        let more = more_choices-append points_cmp is_either_way (map whole before) (map whole done) in
        let all : running points_cmp is_either_way (map whole before ++ map whole done) ≡ choices county =
        ap (running points_cmp is_either_way) (sym parts) ∙ choices_of_all in
        let here = is.count_is in
        let within : count ≤ choices county = omega (arith, more, all, here) in
        record {
          count_is = capped count (choices county) many within;
          places_are = λ few. absurd (omega (arith, few, within, many));
        }

    -- if no shapes are left, all are counted
    pub found_all : (done : List PlacedShape) → shapes ≡ done → (count alike : ℕ) (places : List OpenPlace)
        → IsCounted points_cmp is_either_way 0 (map (whole_shape county) done) count alike places → IsFound count places
    found_all done cut count alike places is = record {
      count_is = ap (λ n. min n (suc most_choices))
          (is.count_is ∙ ap (λ l. running points_cmp is_either_way (map (whole_shape county) l)) (sym cut) ∙ choices_of_all);
      places_are = λ few. is.places_are ∙ ap (λ l. open_places points_cmp is_either_way 0 (map (whole_shape county) l)) (sym cut);
    }
