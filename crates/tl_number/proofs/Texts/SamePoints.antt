-- All choices of a county have the same points, chain by chain, and so the same type 2 records.
use Rattle.tl_number.proofs.Common.{AllKeysContained, AreSame, Chain, Coordinates, County, Fields2, IsArranged, IsCounty, IsTidy, List, SameElements, ap, arranged, choices_same, entries_equal, entry_points, entry_shape, in_order-equal, in_pieces, inner_points, is_arranged, length, length-map, map, map-map, numbered_choice, numbered_from, numbered_is_choice, packed_twos, points_cmp, points_in_order, points_keys, polygon_keys, polygons_along, shapes_carried, subst, sym, tidy_shapes, times-same, type_2_by_chain, up_to, ℕ, ◌∙◌, ◌≡◌}

-- the type 2 records of a chain, from its TLID and its points
abbrev twos : ℕ → List Coordinates → List Fields2
twos tlid points = map (λ piece. record { tlid = tlid; rtsq = piece.0; points = piece.1 }) (numbered_from 1 (in_pieces 10 (inner_points points)))

same_twos : (xs ys : List (ℕ × Chain)) → map (λ (e : ℕ × Chain). e.0) xs ≡ map (λ (e : ℕ × Chain). e.0) ys
    → map entry_points xs ≡ map entry_points ys → map packed_twos xs ≡ map packed_twos ys
same_twos xs ys tlids points =
    let listed : ℕ × Chain → ℕ × List Coordinates = λ e. (e.0, e.1.points) in
    let packed : ℕ × List Coordinates → List Fields2 = λ e. twos e.0 e.1 in
    sym (map-map packed listed xs)
    ∙ ap (map packed) (entries_equal (map listed xs) (map listed ys)
    (map-map (λ (e : ℕ × List Coordinates). e.0) listed xs ∙ tlids ∙ sym (map-map (λ (e : ℕ × List Coordinates). e.0) listed ys))
    (map-map (λ (e : ℕ × List Coordinates). e.1) listed xs ∙ points ∙ sym (map-map (λ (e : ℕ × List Coordinates). e.1) listed ys)))
    ∙ map-map packed listed ys

module _ (a b : County) (same : AreSame a b) (tidy_a : IsTidy a) (tidy_b : IsTidy b) where
  points_same : map entry_points a.chains ≡ map entry_points b.chains
  points_same =
      let elements : SameElements (map entry_points a.chains) (map entry_points b.chains) =
      subst (λ ks. SameElements ks (map entry_points b.chains)) (sym (tidy_shapes a tidy_a))
      (subst (SameElements (map entry_shape a.chains)) (sym (tidy_shapes b tidy_b)) (shapes_carried a b same)) in
      in_order-equal points_keys (map entry_points a.chains) (map entry_points b.chains) (points_in_order a.chains tidy_a.ascending)
      (points_in_order b.chains tidy_b.ascending)
      (times-same points_cmp (map entry_points a.chains) (map entry_points b.chains) elements)

  pub same_type_2 : IsArranged a → IsArranged b → type_2_by_chain a ≡ type_2_by_chain b
  same_type_2 arranged_a arranged_b =
      let count : length a.chains ≡ length b.chains =
      sym (length-map a.chains entry_points) ∙ ap length points_same ∙ length-map b.chains entry_points in
      same_twos a.chains b.chains (arranged_a.tlids ∙ ap up_to count ∙ sym arranged_b.tlids) points_same

-- so all choices of a county have the same type 2 records
pub twos_of_numbers : (county : County) → IsCounty county → AllKeysContained (polygons_along county.chains) (polygon_keys county) → (n m : ℕ)
    → type_2_by_chain (arranged county (numbered_choice county n)) ≡ type_2_by_chain (arranged county (numbered_choice county m))
twos_of_numbers county is sides n m =
    let a = numbered_is_choice county is n in
    let b = numbered_is_choice county is m in
    same_type_2 (arranged county (numbered_choice county n)) (arranged county (numbered_choice county m)) (choices_same county is sides n m)
    a.tidy b.tidy (is_arranged county (numbered_choice county n) is a.arranges sides)
    (is_arranged county (numbered_choice county m) is b.arranges sides)
