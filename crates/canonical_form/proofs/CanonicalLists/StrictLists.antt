-- If the shapes of chains are distinct, and none is its own reverse, canonical lists are strict, and strict lists are canonical.
use Rattle.canonical_form.proofs.Common.{AllByRecursion, AreAllOnSides, AreSame, Chain, Coordinates, County, HasShapesApart, IsAccepted, IsCanonicalInView, IsCounty, IsInProfile, IsStrict, IsStrictInView, IsStrictlyAccepted, IsTidy, IsView, Less, List, Mask, Memory, PolygonWithoutChain, Record, SameElements, TooSymmetric, all_among, all_both, all_unmap, all_weaker, ap, apart-same, apart_from_no_repeat, county-is_county, county_of, each_from, entry_points, false, has_repeat, has_repeat-apart, is_either_way, is_gt, least_points, map, map-map, masked, masked_chain, most_choices, nat_lt, plain, points_cmp, points_keys, refl, reverse, same-symmetric, same-transitive, shapes, strict-map, strict_from_order, subst, sym, ℕ, ◌≡◌}
use Rattle.canonical_form.proofs.CanonicalLists.OneChoice.{one_choice, only_tidy, strict_is_canonical}
use Rattle.canonical_form.proofs.CanonicalLists.SameShapes.{points_in_order, shapes_carried, tidy_shapes}
use Rattle.canonical_form.proofs.CanonicalLists.Accepted.{plain_view}
use Rattle.canonical_form.proofs.CanonicalLists.Ascending.{canonical_exists}
use Rattle.canonical_form.proofs.CanonicalLists.TidyLists.{tidy_of}
use Rattle.canonical_form.proofs.Lists.Counting.{less_from}
use Rattle.canonical_form.proofs.Masks.MaskedViews.{masked_view}

-- ---- lists that the stricter rules accept are accepted

in_profile : (county : County) → AreAllOnSides county → HasShapesApart county → IsInProfile county
in_profile county sides apart (PolygonWithoutChain cenid polyid) = sides (cenid, polyid)
in_profile county sides apart TooSymmetric = ap (nat_lt most_choices) (one_choice county apart)
in_profile county sides apart Memory = refl

pub strictly_accepted : (records : List Record) → IsStrictlyAccepted records → IsAccepted records
strictly_accepted records h = record { linked = h.linked; profile = in_profile (county_of records) h.on_sides h.apart }

-- ---- distinct shapes

-- with the same shapes
apart_as : (xs ys : List (List Coordinates)) → xs ≡ ys → has_repeat points_cmp ys ≡ false → has_repeat points_cmp xs ≡ false
apart_as xs ys e h = subst (λ ks. has_repeat points_cmp ks ≡ false) (sym e) h

-- counties that are the same have the same shapes
apart_carried : (a b : County) → AreSame a b → HasShapesApart a → HasShapesApart b
apart_carried a b s h =
    let elements : SameElements (shapes a) (shapes b) = shapes_carried a b s in
    record {
      apart = has_repeat-apart points_keys (shapes b)
          (apart-same points_cmp (shapes a) (shapes b) elements (apart_from_no_repeat points_keys (shapes a) h.apart));
      one_way = each_from (λ points. is_either_way points ≡ false) (shapes b)
          (λ points m. all_among (λ shape. is_either_way shape ≡ false) points (shapes a) h.one_way (elements.back points m));
    }

-- a mask doesn't change shapes
shapes_masked : (mask : Mask) (county : County) → shapes (masked mask county) ≡ shapes county
shapes_masked mask county = map-map (λ (entry : ℕ × Chain). least_points entry.1.points)
    (λ (entry : ℕ × Chain). (entry.0, masked_chain mask entry.1)) county.chains

apart_masked : (mask : Mask) (county : County) → HasShapesApart county → HasShapesApart (masked mask county)
apart_masked mask county h = record {
  apart = apart_as (shapes (masked mask county)) (shapes county) (shapes_masked mask county) h.apart;
  one_way = subst (AllByRecursion (λ points. is_either_way points ≡ false)) (sym (shapes_masked mask county)) h.one_way;
}

-- ---- a tidy county with distinct shapes is strict

tidy_is_strict : (county : County) → IsTidy county → HasShapesApart county → IsStrict county
tidy_is_strict county tidy apart =
    let own : map entry_points county.chains ≡ shapes county = tidy_shapes county tidy in
    record {
      directions = all_weaker
          (λ e. (is_gt (points_cmp (entry_points e) (reverse (entry_points e))) ≡ false) × (is_either_way (entry_points e) ≡ false))
          (λ e. points_cmp (entry_points e) (reverse (entry_points e)) ≡ Less)
          (λ e h. less_from (points_cmp (entry_points e) (reverse (entry_points e))) h.0 h.1) county.chains
          (all_both (λ e. is_gt (points_cmp (entry_points e) (reverse (entry_points e))) ≡ false)
          (λ e. is_either_way (entry_points e) ≡ false) county.chains tidy.directions
          (all_unmap (λ points. is_either_way points ≡ false) entry_points county.chains
          (subst (AllByRecursion (λ points. is_either_way points ≡ false)) (sym own) apart.one_way)));
      ascending = strict-map points_cmp entry_points county.chains
          (strict_from_order points_keys (map entry_points county.chains) (points_in_order county.chains tidy.ascending)
          (apart_from_no_repeat points_keys (map entry_points county.chains)
          (apart_as (map entry_points county.chains) (shapes county) own apart.apart)));
    }

-- ---- strict lists in a view

module _ (view : County → County) (records : List Record) where
  -- they are canonical
  pub strict_in_view : (answer : List Record) → IsStrictInView view records answer → IsCanonicalInView view records answer
  strict_in_view answer h = record {
    accepted = strictly_accepted records h.accepted;
    canonical = strict_is_canonical answer h.strict.in_form h.strict.strict;
    own = h.own;
    same = h.same;
  }

  module _ (view_laws : IsView view) where
    -- no other list is canonical
    pub strict_alone : (answer canonical : List Record) → IsStrictInView view records answer → IsCanonicalInView view records canonical
        → canonical ≡ answer
    strict_alone answer canonical h k =
        let old : County = view (county_of records) in
        let is_old : IsCounty old = view_laws.is_county (county_of records) (county-is_county records h.accepted.linked) in
        let is_new : IsCounty (county_of answer) = county-is_county answer h.strict.in_form.linked in
        only_tidy answer h.strict.in_form h.strict.strict canonical (tidy_of canonical k.canonical)
        (same-transitive (county_of answer) old (county_of canonical) is_new is_old
        (same-symmetric old (county_of answer) is_old is_new h.same) k.same)

    -- and there is one, if the shapes that the view shows are distinct
    strict_exists : IsStrictlyAccepted records → HasShapesApart (view (county_of records))
        → (answer : List Record) × IsStrictInView view records answer
    strict_exists accepted apart =
        let found = canonical_exists view view_laws records (strictly_accepted records accepted) in (
          found.0,
          record {
            accepted = accepted;
            strict = record {
              in_form = found.1.canonical.in_form;
              strict = tidy_is_strict (county_of found.0) found.1.canonical.tidy
                  (apart_carried (view (county_of records)) (county_of found.0) found.1.same apart);
            };
            own = found.1.own;
            same = found.1.same;
          },
        )

pub strict_as_it_is : (records : List Record) → IsStrictlyAccepted records → (answer : List Record) × IsStrictInView plain records answer
strict_as_it_is records h = strict_exists plain records plain_view h h.apart

pub strict_under_mask : (mask : Mask) (records : List Record) → IsStrictlyAccepted records
    → (answer : List Record) × IsStrictInView (masked mask) records answer
strict_under_mask mask records h = strict_exists (masked mask) records (masked_view mask) h (apart_masked mask (county_of records) h.apart)
