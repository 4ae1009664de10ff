-- Groups of records with one number, taken in turn from records in the order of their numbers.
use Rattle.tl_county.proofs.Common.{AllByRecursion, Body7, BodyP, Chain, Fields1, Fields2, Fields4, Fields6, Fields7, Fields8, FieldsI, FieldsP, IsStrictlySortedBy, LandmarkParts, Less, List, Option, PolygonKey, Some, [], ap, chain_with, chains_along, cond, eight_land, eq_test, false, filter, filter-agree, first, four_tlid, group-flipped, group-later, is_eq, is_gt, key_cmp, key_keys, landmark_of, later_than, map, nat_cmp, nat_keys, of_number, one_done, one_tlid, ordering_reverse, p_key, polygon_body_of, refl, rules, same-itself, seven_land, six_tlid, strict_head, strict_tail, subst, sym, two_tlid, ℕ, ◌++◌, ◌==◌, ◌∙◌, ◌∷◌, ◌≡◌}

-- by numbers
module _ {X : Type 0} (number : X → ℕ) where
  pub group-of_number : (n : ℕ) (xs : List X) → filter (λ x. is_eq (nat_cmp (number x) n)) xs ≡ of_number number n xs
  group-of_number n xs = sym (filter-agree (λ x. number x == n) (λ x. is_eq (nat_cmp (number x) n)) (λ x. eq_test (number x) n) xs)

  pub number-later : (k j : ℕ) → nat_cmp k j ≡ Less → (xs : List X)
      → of_number number j (filter (λ x. is_gt (nat_cmp (number x) k)) xs) ≡ of_number number j xs
  number-later k j less xs = sym (group-of_number j (filter (λ x. is_gt (nat_cmp (number x) k)) xs))
      ∙ group-later nat_keys number k j less xs ∙ group-of_number j xs

-- the chains of later TLIDs don't need the records of earlier ones
pub chains_along-later : (n : ℕ) (twos : List Fields2) (fours : List Fields4) (sixes : List Fields6) (rs : List Fields1)
    (topologies : List FieldsI) → AllByRecursion (λ m. nat_cmp n m ≡ Less) (map one_tlid rs)
    → chains_along (later_than two_tlid n twos) (later_than four_tlid n fours)
    (later_than six_tlid n sixes) rs topologies ≡ chains_along twos fours sixes rs topologies
chains_along-later n twos fours sixes [] topologies h = refl
chains_along-later n twos fours sixes (r ∷ rs) [] h = refl
chains_along-later n twos fours sixes (r ∷ rs) (topology ∷ topologies) h =
    search (rules, number-later, chains_along-later n twos fours sixes rs topologies h.1)

pub landmarks-later : (n : ℕ) (sevens : List Fields7) (eights : List Fields8) (lands : List ℕ)
    → AllByRecursion (λ m. nat_cmp n m ≡ Less) lands
    → map (landmark_of (later_than seven_land n sevens) (later_than eight_land n eights)) lands ≡ map (landmark_of sevens eights) lands
landmarks-later n sevens eights [] h = refl
landmarks-later n sevens eights (land ∷ lands) h = search (rules, number-later, landmarks-later n sevens eights lands h.1)

pub polygons-later : (key : PolygonKey) (points : List FieldsP) (keys : List PolygonKey) → AllByRecursion (λ j. key_cmp key j ≡ Less) keys
    → map (polygon_body_of (filter (λ r. is_gt (key_cmp (p_key r) key)) points)) keys ≡ map (polygon_body_of points) keys
polygons-later key points [] h = refl
polygons-later key points (j ∷ keys) h =
    let same = sym (group-flipped key_keys p_key j (filter (λ r. is_gt (key_cmp (p_key r) key)) points))
    ∙ group-later key_keys p_key key j h.0 points ∙ group-flipped key_keys p_key j points in
    λ i. first (map (λ (r : FieldsP). r.body) (same i)) ∷ polygons-later key points keys h.1 i

-- the chain made from the groups of its TLID
pub chain-of_groups : (basics : Fields1) (topology : FieldsI) (twos shape : List Fields2) (fours named : List Fields4)
    (sixes ranged : List Fields6) (tlid : ℕ) → tlid ≡ basics.tlid
    → shape ≡ filter (λ x. is_eq (nat_cmp (two_tlid x) tlid)) twos → named ≡ filter (λ x. is_eq (nat_cmp (four_tlid x) tlid)) fours
    → ranged ≡ filter (λ x. is_eq (nat_cmp (six_tlid x) tlid)) sixes
    → chain_with basics topology shape named ranged
    ≡ chain_with basics topology (of_number two_tlid basics.tlid twos) (of_number four_tlid basics.tlid fours) (of_number six_tlid basics.tlid sixes)
chain-of_groups basics topology twos shape fours named sixes ranged tlid e shape_is named_is ranged_is = search (rules, group-of_number)

-- one more chain is built
module _ (done whole : List Chain) (basics : Fields1) (later all_basics : List Fields1) (topology : FieldsI) (others topologies : List FieldsI)
    (twos : List Fields2) (fours : List Fields4) (sixes : List Fields6) where
  abbrev chain_of_basics : Chain
  chain_of_basics = chain_with basics topology (of_number two_tlid basics.tlid twos) (of_number four_tlid basics.tlid fours)
      (of_number six_tlid basics.tlid sixes)

  pub chains-step : all_basics ≡ basics ∷ later → topologies ≡ topology ∷ others
      → IsStrictlySortedBy nat_cmp (map one_tlid all_basics)
      → done ++ chains_along twos fours sixes all_basics topologies ≡ whole
      → (done ++ (chain_of_basics ∷ [])) ++ chains_along (later_than two_tlid basics.tlid twos) (later_than four_tlid basics.tlid fours)
      (later_than six_tlid basics.tlid sixes) later others ≡ whole
  chains-step heads_are links_are ascending before = search (rules, one_done, later_than, chains_along-later, strict_head)

-- one more landmark is built
pub landmarks-step : (done whole : List LandmarkParts) (land : ℕ) (later lands : List ℕ) (sevens group : List Fields7)
    (eights linked : List Fields8) (bodies : List Body7) (landmark : LandmarkParts)
    → group ≡ filter (λ x. is_eq (nat_cmp (seven_land x) land)) sevens → linked ≡ filter (λ x. is_eq (nat_cmp (eight_land x) land)) eights
    → bodies ≡ map (λ (r : Fields7). r.body) group → landmark ≡ record { bodies = bodies; links = linked }
    → lands ≡ land ∷ later → IsStrictlySortedBy nat_cmp lands
    → done ++ map (landmark_of sevens eights) lands ≡ whole
    → (done ++ (landmark ∷ [])) ++ map (landmark_of (later_than seven_land land sevens) (later_than eight_land land eights)) later ≡ whole
landmarks-step done whole land later lands sevens group eights linked bodies landmark group_is linked_is bodies_are landmark_is lands_are
    ascending before =
    one_done done (landmark_of sevens eights land) landmark (map (landmark_of sevens eights) later)
    (map (landmark_of (later_than seven_land land sevens) (later_than eight_land land eights)) later) whole
    (ap (λ l. done ++ map (landmark_of sevens eights) l) (sym lands_are) ∙ before)
    (landmark_is ∙ (λ i. record {
      bodies =
          (bodies_are ∙ ap (map (λ (r : Fields7). r.body)) (group_is ∙ group-of_number seven_land land sevens)) i;
      links =
          (linked_is ∙ group-of_number eight_land land eights) i;
    }))
    (landmarks-later land sevens eights later (strict_head nat_cmp land later (subst (IsStrictlySortedBy nat_cmp) lands_are ascending)))

-- one more polygon is built
pub polygons-step : (done whole : List (Option BodyP)) (key : PolygonKey) (later keys : List PolygonKey) (points group : List FieldsP)
    (body : Option BodyP)
    → group ≡ filter (λ r. is_eq (key_cmp (p_key r) key)) points → body ≡ first (map (λ (r : FieldsP). r.body) group)
    → keys ≡ key ∷ later → IsStrictlySortedBy key_cmp keys
    → done ++ map (polygon_body_of points) keys ≡ whole
    → (done ++ (body ∷ [])) ++ map (polygon_body_of (filter (λ r. is_gt (key_cmp (p_key r) key)) points)) later ≡ whole
polygons-step done whole key later keys points group body group_is body_is keys_are ascending before =
    one_done done (polygon_body_of points key) body (map (polygon_body_of points) later)
    (map (polygon_body_of (filter (λ r. is_gt (key_cmp (p_key r) key)) points)) later) whole
    (ap (λ l. done ++ map (polygon_body_of points) l) (sym keys_are) ∙ before)
    (body_is ∙ ap (λ l. first (map (λ (r : FieldsP). r.body) l)) (group_is ∙ group-flipped key_keys p_key key points))
    (polygons-later key points later (strict_head key_cmp key later (subst (IsStrictlySortedBy key_cmp) keys_are ascending)))

-- a polygon's content isn't from a record with a lesser key
polygons-above : (r : FieldsP) (points : List FieldsP) (keys : List PolygonKey) → AllByRecursion (λ j. key_cmp (p_key r) j ≡ Less) keys
    → map (polygon_body_of points) keys ≡ map (polygon_body_of (r ∷ points)) keys
polygons-above r points [] h = refl
polygons-above r points (j ∷ keys) h =
    let others : List FieldsP = filter (λ q. is_eq (key_cmp j (p_key q))) points in
    let apart : is_eq (key_cmp j (p_key r)) ≡ false = ap is_eq (key_keys.total.antisymm j (p_key r) ∙ ap ordering_reverse h.0) in
    λ i. first (map (λ (q : FieldsP). q.body) (cond (sym apart i) (r ∷ others) others)) ∷ polygons-above r points keys h.1 i

-- the contents of polygons that have one record each
pub polygons-paired : (points : List FieldsP) → IsStrictlySortedBy key_cmp (map p_key points)
    → map (λ (r : FieldsP). Some r.body) points ≡ map (polygon_body_of points) (map p_key points)
polygons-paired [] h = refl
polygons-paired (r ∷ points) h =
    let key = p_key r in
    let others : List FieldsP = filter (λ q. is_eq (key_cmp key (p_key q))) points in
    let later = polygons-paired points (strict_tail key_cmp key (map p_key points) h)
    ∙ polygons-above r points (map p_key points) (strict_head key_cmp key (map p_key points) h) in
    λ i. first (map (λ (q : FieldsP). q.body) (cond (sym (same-itself key_keys key) i) (r ∷ others) others)) ∷ later i
