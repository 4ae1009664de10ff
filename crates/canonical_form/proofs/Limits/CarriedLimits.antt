-- A renaming that carries keeps a county's limits: its contents fit, its lists fit into their records, and it takes as many records
-- of each type.
use Rattle.canonical_form.proofs.Common.{AllByRecursion, Body5, Body7, BodyP, Bool, Carries, Chain, ContentsFit, Coordinates, County, FitsChain, FitsLandmark, FitsLink, FitsNameBody, FitsPolygon, HasAsMany, HasWithin, IfSome, IsPermutation, IsPermutation-reverse, IsText, List, ListsFit, None, Option, PolygonKey, Renumbering, Some, [], all_map, all_permuted, all_weaker, ap, arith, body_turned_fits, carried_chain, carried_landmark, carried_link, carried_name, carried_polygon, common_steps, drop, false, filter_map, flat_map, image, image-keeps, in_pieces, inner_points, length, length-drop, length-in_order, length-map, length-numbered_from, length-reverse, length_permutation, link_content_turned, map, nat_cmp, packed_by_type, packed_five, packed_fours, packed_i, packed_one, packed_p, packed_sevens, packed_sixes, packed_twos, pieces, ranges_turned_fit, refl, renumbered, renumbered_polygon, reverse, rules, subst, suc, sum_by, sum_by-IsPermutation, sum_by-cons, sym, true, turned_if, turned_ranges, turns, without_last, zero, ℕ, ◌-◌, ◌∙◌, ◌∷◌, ◌≡◌, ◌≤◌}
use Rattle.std.proofs.lemmas.List.Concat.{length-flat_map}
use Rattle.canonical_form.proofs.Sameness.CarriedCounty.{all_carried}

all_reversed : {X : Type 0} (Q : X → Type 0) (xs : List X) → AllByRecursion Q xs → AllByRecursion Q (reverse xs)
all_reversed Q xs a = all_permuted Q xs (reverse xs) (IsPermutation-reverse xs) a

chain_turned_fits : (b : Bool) (c : Chain) → FitsChain c → FitsChain (turned_if b c)
chain_turned_fits false c f = f
chain_turned_fits true c f = search (rules, body_turned_fits, all_reversed, all_map, all_weaker, ranges_turned_fit, link_content_turned)

-- the number of points between a chain's ends
length-without_last : (points : List Coordinates) → length (without_last points) ≡ length points - 1
length-without_last [] = refl
length-without_last (p ∷ []) = refl
length-without_last (p ∷ q ∷ points) = search (rules, length-without_last (q ∷ points))

pub length-inner : (points : List Coordinates) → length (inner_points points) ≡ length points - 2
length-inner [] = refl
length-inner (p ∷ points) = let rest : length (without_last points) ≡ length points - 1 = length-without_last points in omega arith

inner_turned : (b : Bool) (c : Chain) → length (inner_points (turned_if b c).points) ≡ length (inner_points c.points)
inner_turned false c = refl
inner_turned true c = length-inner (reverse c.points) ∙ ap (λ n. n - 2) (length-reverse c.points) ∙ sym (length-inner c.points)

feats_turned : (b : Bool) (c : Chain) → length (turned_if b c).feats ≡ length c.feats
feats_turned false c = refl
feats_turned true c = refl

ranges_turned : (b : Bool) (c : Chain) → length (turned_if b c).ranges ≡ length c.ranges
ranges_turned false c = refl
ranges_turned true c = length-map c.ranges turned_ranges

-- the number of pieces depends only on the length
pieces_by_length : {X Y : Type 0} (n most : ℕ) (xs : List X) (ys : List Y) → length xs ≡ length ys
    → length (pieces n most xs) ≡ length (pieces n most ys)
pieces_by_length n zero xs ys e = refl
pieces_by_length n (suc most) [] [] e = refl
pieces_by_length n (suc most) [] (y ∷ ys) e = absurd (omega (arith, e))
pieces_by_length n (suc most) (x ∷ xs) [] e = absurd (omega (arith, e))
pieces_by_length n (suc most) (x ∷ xs) (y ∷ ys) e =
    ap suc (pieces_by_length n most (drop n (x ∷ xs)) (drop n (y ∷ ys)) (length-drop n (x ∷ xs) ∙ ap (λ m. m - n) e
    ∙ sym (length-drop n (y ∷ ys))))

in_pieces_by_length : {X Y : Type 0} (n : ℕ) (xs : List X) (ys : List Y) → length xs ≡ length ys
    → length (in_pieces n xs) ≡ length (in_pieces n ys)
in_pieces_by_length n xs ys e = ap (λ most. length (pieces n most xs)) e ∙ pieces_by_length n (length ys) xs ys e

-- a sum over images with the same values
sum_carried : {X : Type 0} (value : X → ℕ) (carried : X → X) → ((x : X) → value (carried x) ≡ value x) → (xs : List X)
    → sum_by value (map carried xs) ≡ sum_by value xs
sum_carried value carried e [] = refl
sum_carried value carried e (x ∷ xs) = grind (arith, common_steps, sum_by-cons, e x, sum_carried value carried e xs)

-- joined lists of equal lengths, under a permutation
same_count : {X Y : Type 0} (pack : X → List Y) (carried : X → X) (xs ys : List X) → ((x : X) → length (pack (carried x)) ≡ length (pack x))
    → IsPermutation (map carried xs) ys → length (flat_map pack ys) ≡ length (flat_map pack xs)
same_count pack carried xs ys e p = length-flat_map pack ys ∙ sum_by-IsPermutation (λ x. length (pack x)) (map carried xs) ys p
    ∙ sum_carried (λ x. length (pack x)) carried e xs ∙ sym (length-flat_map pack xs)

same_length : {X : Type 0} (carried : X → X) (xs ys : List X) → IsPermutation (map carried xs) ys → length ys ≡ length xs
same_length carried xs ys p = length_permutation (map carried xs) ys p ∙ length-map xs carried

-- polygons with content
abbrev weight : Option BodyP → ℕ
weight None = 0
weight (Some body) = 1

length-packed_p : (es : List (PolygonKey × Option BodyP)) → length (filter_map packed_p es) ≡ sum_by (λ e. weight e.1) es
length-packed_p [] = refl
length-packed_p (e ∷ es) = grind (arith, common_steps, sum_by-cons, length-packed_p es)

module _ (r : Renumbering) (a b : County) (h : Carries r a b) where
  side_cenid : (cenid : List ℕ) (polyid : Option ℕ) → (renumbered_polygon r cenid polyid).cenid ≡ cenid
  side_cenid cenid None = refl
  side_cenid cenid (Some polyid) = image-keeps r.polygons h.numbers.cenids (cenid, polyid)

  chain_renumbered_fits : (c : Chain) → FitsChain c → FitsChain (renumbered r c)
  chain_renumbered_fits c f = search (rules, side_cenid)

  pub carried_contents : ContentsFit a → ContentsFit b
  carried_contents fits = record {
    chains = all_carried (λ (e : ℕ × Chain). FitsChain e.1) (λ (e : ℕ × Chain). FitsChain e.1) (carried_chain r)
        (λ e f. chain_renumbered_fits (turned_if (turns r e.0) e.1) (chain_turned_fits (turns r e.0) e.1 f))
        a.chains b.chains h.chains fits.chains;
    names = all_carried (λ (e : ℕ × Body5). FitsNameBody e.1) (λ (e : ℕ × Body5). FitsNameBody e.1) (carried_name r) (λ e f. f)
        a.names b.names h.names fits.names;
    cenids = all_carried (λ (e : PolygonKey × Option BodyP). IsText 5 e.0.0) (λ (e : PolygonKey × Option BodyP). IsText 5 e.0.0)
        (carried_polygon r) (λ e f. subst (IsText 5) (sym (image-keeps r.polygons h.numbers.cenids e.0)) f)
        a.polygons b.polygons h.polygons fits.cenids;
    polygons = all_carried (λ (e : PolygonKey × Option BodyP). IfSome e.1 (FitsPolygon e.0.0))
        (λ (e : PolygonKey × Option BodyP). IfSome e.1 (FitsPolygon e.0.0)) (carried_polygon r)
        (λ e f. subst (λ cenid. IfSome e.1 (FitsPolygon cenid)) (sym (image-keeps r.polygons h.numbers.cenids e.0)) f)
        a.polygons b.polygons h.polygons fits.polygons;
    landmarks = all_carried (λ (e : ℕ × List Body7). AllByRecursion FitsLandmark e.1) (λ (e : ℕ × List Body7). AllByRecursion FitsLandmark e.1)
        (carried_landmark r) (λ e f. f) a.landmarks b.landmarks h.landmarks fits.landmarks;
    links = all_carried FitsLink FitsLink (carried_link r) (λ l f. record { file = f.file; cenid = search (rules, image-keeps) })
        a.links b.links h.links fits.links;
  }

  -- the lengths of a carried chain's lists
  inner_carried : (e : ℕ × Chain) → length (inner_points (carried_chain r e).1.points) ≡ length (inner_points e.1.points)
  inner_carried e = inner_turned (turns r e.0) e.1

  feats_carried : (e : ℕ × Chain) → length (carried_chain r e).1.feats ≡ length e.1.feats
  feats_carried e = length-map (turned_if (turns r e.0) e.1).feats (image nat_cmp r.names) ∙ feats_turned (turns r e.0) e.1

  ranges_carried : (e : ℕ × Chain) → length (carried_chain r e).1.ranges ≡ length e.1.ranges
  ranges_carried e = ranges_turned (turns r e.0) e.1

  pub carried_lists : AllByRecursion (λ e. ListsFit e.1) a.chains → AllByRecursion (λ e. ListsFit e.1) b.chains
  carried_lists = all_carried (λ (e : ℕ × Chain). ListsFit e.1) (λ (e : ℕ × Chain). ListsFit e.1) (carried_chain r) (λ e f. record {
    points = subst (λ n. n ≤ 9990) (sym (inner_carried e)) f.points;
    feats = subst (λ n. n ≤ 4995) (sym (feats_carried e)) f.feats;
    ranges = subst (λ n. n ≤ 999) (sym (ranges_carried e)) f.ranges;
  }) a.chains b.chains h.chains

  twos_carried : (e : ℕ × Chain) → length (packed_twos (carried_chain r e)) ≡ length (packed_twos e)
  twos_carried e = search (rules, length-map, length-numbered_from, in_pieces_by_length, inner_carried)

  fours_carried : (e : ℕ × Chain) → length (packed_fours (carried_chain r e)) ≡ length (packed_fours e)
  fours_carried e = search (rules, length-map, length-numbered_from, in_pieces_by_length, feats_carried)

  sixes_carried : (e : ℕ × Chain) → length (packed_sixes (carried_chain r e)) ≡ length (packed_sixes e)
  sixes_carried e = search (rules, length-map, length-numbered_from, ranges_carried)

  sevens_carried : (e : ℕ × List Body7) → length (packed_sevens (carried_landmark r e)) ≡ length (packed_sevens e)
  sevens_carried e = search (rules, length-map)

  polygons_carried : length (filter_map packed_p b.polygons) ≡ length (filter_map packed_p a.polygons)
  polygons_carried = length-packed_p b.polygons ∙ sum_by-IsPermutation (λ (e : PolygonKey × Option BodyP). weight e.1)
      (map (carried_polygon r) a.polygons) b.polygons h.polygons
      ∙ sum_carried (λ (e : PolygonKey × Option BodyP). weight e.1) (carried_polygon r) (λ e. refl) a.polygons ∙ sym (length-packed_p a.polygons)

  -- as many records of each type
  pub carried_many : HasAsMany (packed_by_type a) (packed_by_type b)
  carried_many =
      let chains : length a.chains ≡ length b.chains = sym (same_length (carried_chain r) a.chains b.chains h.chains) in
      record {
        of_type_1 = length-map a.chains packed_one ∙ chains ∙ sym (length-map b.chains packed_one);
        of_type_2 = sym (same_count packed_twos (carried_chain r) a.chains b.chains twos_carried h.chains);
        of_type_4 = sym (same_count packed_fours (carried_chain r) a.chains b.chains fours_carried h.chains);
        of_type_5 = length-map a.names packed_five ∙ sym (same_length (carried_name r) a.names b.names h.names)
            ∙ sym (length-map b.names packed_five);
        of_type_6 = sym (same_count packed_sixes (carried_chain r) a.chains b.chains sixes_carried h.chains);
        of_type_7 = sym (same_count packed_sevens (carried_landmark r) a.landmarks b.landmarks sevens_carried h.landmarks);
        of_type_8 = sym (same_length (carried_link r) a.links b.links h.links);
        of_type_i = length-map a.chains packed_i ∙ chains ∙ sym (length-map b.chains packed_i);
        of_type_p = search (rules, length-in_order, polygons_carried);
      }

  pub carried_counts : (limits : ℕ → ℕ) → HasWithin limits (packed_by_type a) → HasWithin limits (packed_by_type b)
  carried_counts limits few = search (rules, carried_many)
