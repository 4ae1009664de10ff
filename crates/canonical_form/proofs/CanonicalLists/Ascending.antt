-- Counties in the profile: their polygons are on sides, and they have few choices. Each accepted list of records has a canonical
-- list, the list of a choice of least text.
use Rattle.canonical_form.proofs.Common.{AllKeysContained, Among, Arrangement, BodyP, County, HasShapesApart, IsAccepted, IsCanonicalInView, IsCounty, IsInProfile, IsLeastChoice, IsTrue, IsView, List, Option, PolygonKey, Record, TooSymmetric, all_among, among-unmap, ap, arranged, arranged_list, ascending, body_on_side, choices, contains, county-is_county, county_of, each_from, inl, inr, is_some, key_cmp, lt-ltb, ltb-false, most_choices, numbered_choice, or_cases, polygon_keys, polygons_along, renaming_of, subst, sym, times, true, ◌||◌, ◌∙◌, ◌≡◌, ◌≤◌, ◌⊎◌}
use Rattle.canonical_form.proofs.CanonicalLists.TidyLists.{canonical_is_choice, choice_is_same, least_choice, least_choice_is_canonical, read_back}
use Rattle.canonical_form.proofs.Arrangements.Carrying.{arrangement_carries}
use Rattle.canonical_form.proofs.CanonicalLists.OneChoice.{only_choice}

module _ (county : County) (is : IsCounty county) (profile : IsInProfile county) where
  -- each polygon is on a side
  pub sides_in_profile : AllKeysContained (polygons_along county.chains) (polygon_keys county)
  sides_in_profile = each_from (λ k. IsTrue (contains key_cmp k (polygons_along county.chains))) (polygon_keys county)
      (λ k m. let e = among-unmap (λ (d : PolygonKey × Option BodyP). d.0) k county.polygons m in
      let whole : (is_some e.0.1 || contains key_cmp e.0.0 (polygons_along county.chains)) ≡ true =
      all_among (λ d. IsTrue
      (is_some d.1 || contains key_cmp d.0 (polygons_along county.chains))) e.0 county.polygons is.whole.polygons e.1 in
      subst (λ j. IsTrue (contains key_cmp j (polygons_along county.chains))) (sym e.2)
      (go e.0 e.1 (or_cases (is_some e.0.1) (contains key_cmp e.0.0 (polygons_along county.chains)) whole)))
    where
      go : (d : PolygonKey × Option BodyP) → Among d county.polygons
          → (is_some d.1 ≡ true) ⊎ (contains key_cmp d.0 (polygons_along county.chains) ≡ true)
          → IsTrue (contains key_cmp d.0 (polygons_along county.chains))
      go d m (inl some) = lt-ltb 0 (times key_cmp d.0 (polygons_along county.chains)) (body_on_side county profile d m some)
      go d m (inr side) = side

  -- the choices are few enough to be tried
  pub few_in_profile : choices county ≤ most_choices
  few_in_profile = ltb-false most_choices (choices county) (profile TooSymmetric)

-- what a view shows of an accepted list
module _ (view : County → County) (view_laws : IsView view) (records : List Record) (accepted : IsAccepted records) where
  abbrev viewed : County
  viewed = view (county_of records)

  view_is_county : IsCounty viewed
  view_is_county = view_laws.is_county (county_of records) (county-is_county records accepted.linked)

  view_in_profile : IsInProfile viewed
  view_in_profile = view_laws.profile (county_of records) accepted.profile

  view_sides : AllKeysContained (polygons_along viewed.chains) (polygon_keys viewed)
  view_sides = sides_in_profile viewed view_is_county view_in_profile

  -- each choice of least text makes a canonical list
  pub choice_is_canonical : (arrangement : Arrangement) → IsLeastChoice viewed arrangement → IsCanonicalInView view records (arranged_list viewed arrangement)
  choice_is_canonical arrangement least = record {
    accepted = accepted;
    canonical = least_choice_is_canonical viewed view_is_county view_sides arrangement least;
    own = subst (λ county. view county ≡ county) (sym (read_back viewed view_is_county view_sides arrangement least.choice))
        (view_laws.carried (renaming_of viewed arrangement) viewed (arranged viewed arrangement)
        (arrangement_carries viewed arrangement view_is_county least.choice.arranges view_sides) (view_laws.once (county_of records)));
    same = choice_is_same viewed view_is_county view_sides arrangement least.choice;
  }

  pub canonical_exists : (answer : List Record) × IsCanonicalInView view records answer
  canonical_exists =
      let found = least_choice viewed view_is_county view_sides in
      let arrangement : Arrangement = numbered_choice viewed found.0 in
      (arranged_list viewed arrangement, choice_is_canonical arrangement found.2)

  -- if shapes are distinct, the only canonical list is the one of the ascending arrangement
  pub ascends_where_apart : HasShapesApart viewed → (answer : List Record) → IsCanonicalInView view records answer
      → answer ≡ arranged_list viewed (ascending viewed)
  ascends_where_apart apart answer h =
      let found = canonical_is_choice viewed view_is_county view_sides answer h.canonical h.same in
      found.2 ∙ ap (arranged_list viewed) (only_choice viewed view_is_county apart found.0 found.1.choice)
