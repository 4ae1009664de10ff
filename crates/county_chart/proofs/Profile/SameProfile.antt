-- If two counties are the same map, both are in the profile or neither is.
use Rattle.county_chart.proofs.Common.{Among, AreAllOnSides, AreSame, BodyP, Bool, Carries, Chain, County, IsCounty, IsInProfile, IsPermutation-sym, Known, Memory, Option, PolygonKey, PolygonWithoutChain, Renumbering, TooSymmetric, among-map, among-permutation, among-pieces, among-unmap, among_any, among_known, and_from, and_parts, ap, carried_chain, carried_polygon, chain_polygons, contains, false, false_from_ne_true, false≢true, has_body, image, is_eq, is_some, key_cmp, key_keys, known_is_among, lt-ltb, ltb-true, map, most_choices, nat_lt, not, polygons_along, refl, renumbered, same-itself, subst, sym, times, true, turned_if, turns, ◌&&◌, ◌∙◌, ◌≡◌}
use Rattle.county_chart.proofs.Sameness.Carried.{among-turned, among-unpieces, chain_polygons-renumbered}
use Rattle.county_chart.proofs.Profile.ProfileFaults.{body_entry}
use Rattle.county_chart.proofs.Profile.SameChoices.{same_choices}
use Rattle.county_chart.proofs.Sameness.Equivalence.{same-symmetric}

not-false : (b : Bool) → not b ≡ false → b ≡ true
not-false true e = refl
not-false false e = absurd (false≢true (sym e))

and-second : (a b : Bool) → a ≡ true → (a && b) ≡ false → b ≡ false
and-second true b t e = e
and-second false b t e = absurd (false≢true t)

-- the county's polygons with a type P record are on sides
pub body_on_side : (a : County) → IsInProfile a → (e : PolygonKey × Option BodyP) → Among e a.polygons → is_some e.1 ≡ true
    → Known key_cmp (polygons_along a.chains) e.0
body_on_side a h e m s =
    let t : has_body a e.0 ≡ true =
    among_any (λ d. is_eq (key_cmp e.0 d.0) && is_some d.1) e a.polygons m
    (and_from (is_eq (key_cmp e.0 e.0)) (is_some e.1) (same-itself key_keys e.0) s) in
    let f : not (contains key_cmp e.0 (polygons_along a.chains)) ≡ false =
    and-second (has_body a e.0) (not (contains key_cmp e.0 (polygons_along a.chains))) t (h (PolygonWithoutChain e.0.0 e.0.1)) in
    ltb-true 0 (times key_cmp e.0 (polygons_along a.chains)) (not-false (contains key_cmp e.0 (polygons_along a.chains)) f)

module _ (r : Renumbering) (a b : County) (k : Carries r a b) (h : IsInProfile a) where
  from_polygon : (e : PolygonKey × Option BodyP) → Among e b.polygons
      → (d : PolygonKey × Option BodyP) × Among d a.polygons × (e ≡ carried_polygon r d)
  from_polygon e m = among-unmap (carried_polygon r) e a.polygons
      (among-permutation e b.polygons (map (carried_polygon r) a.polygons)
      (IsPermutation-sym (map (carried_polygon r) a.polygons) b.polygons k.polygons) m)

  -- a polygon on a side of a has its image on a side of b
  pub on_side : (key : PolygonKey) → Known key_cmp (polygons_along a.chains) key
      → Known key_cmp (polygons_along b.chains) (image key_cmp r.polygons key)
  on_side key l =
      let s = among-unpieces (λ e. chain_polygons e.1) key a.chains (known_is_among key_keys key (polygons_along a.chains) l) in
      let c : Chain = turned_if (turns r s.0.0) s.0.1 in
      let there : Among (image key_cmp r.polygons key) (chain_polygons (renumbered r c)) =
      subst (Among (image key_cmp r.polygons key)) (sym (chain_polygons-renumbered r c))
      (among-map (image key_cmp r.polygons) key (chain_polygons c) (among-turned key (turns r s.0.0) s.0.1 s.2)) in
      let entry : Among (carried_chain r s.0) b.chains =
      among-permutation (carried_chain r s.0) (map (carried_chain r) a.chains) b.chains k.chains
      (among-map (carried_chain r) s.0 a.chains s.1) in
      among_known key_keys (image key_cmp r.polygons key) (polygons_along b.chains)
      (among-pieces (λ e. chain_polygons e.1) (carried_chain r s.0) (image key_cmp r.polygons key) b.chains entry there)

  body_case : (key : PolygonKey) → (has_body b key && not (contains key_cmp key (polygons_along b.chains))) ≡ true → ⊥
  body_case key t =
      let both = and_parts (has_body b key) (not (contains key_cmp key (polygons_along b.chains))) t in
      let e = body_entry b key both.0 in
      let d = from_polygon e.0 e.1 in
      let some : is_some d.0.1 ≡ true = subst (λ f. is_some f.1 ≡ true) d.2 e.3 in
      let side : Known key_cmp (polygons_along b.chains) (image key_cmp r.polygons d.0.0) = on_side d.0.0 (body_on_side a h d.0 d.1 some) in
      let here : Known key_cmp (polygons_along b.chains) key =
      subst (Known key_cmp (polygons_along b.chains)) (sym (e.2 ∙ ap (λ f. f.0) d.2)) side in
      false≢true (sym (ap not (lt-ltb 0 (times key_cmp key (polygons_along b.chains)) here)) ∙ both.1)

  pub polygons_carried : AreAllOnSides b
  polygons_carried key =
      false_from_ne_true (has_body b key && not (contains key_cmp key (polygons_along b.chains))) (body_case key)

pub same_in_profile : (a b : County) → AreSame a b → IsInProfile a → IsInProfile b
same_in_profile a b s h (PolygonWithoutChain cenid polyid) = polygons_carried s.by a b s.carries h (cenid, polyid)
same_in_profile a b s h TooSymmetric = ap (nat_lt most_choices) (sym (same_choices a b s)) ∙ h TooSymmetric
same_in_profile a b s h Memory = refl

pub same_in_profile_back : (a b : County) → IsCounty a → IsCounty b → AreSame a b → IsInProfile b → IsInProfile a
same_in_profile_back a b ca cb s h = same_in_profile b a (same-symmetric a b ca cb s) h
