-- Landmarks numbered by their places in a list of all LANDs, and their links one landmark after another.
use Rattle.arranged_county.proofs.Common.{County, Fields8, IsApart, IsCounty, List, None, Option, PolygonKey, Some, [], ap, apart_from_sorted, ap₂, arith, eight_land, flat_map, image, lands, length, link_in, link_part, link_under, links_at, links_from, links_with, map, map-map, nat_cmp, nat_keys, numbered, option_map, own_links, range_with_len, refl, slice_get, slice_get-map, suc, sym, with_land, ℕ, ◌++◌, ◌+◌, ◌∙◌, ◌∷◌, ◌≡◌}
use Rattle.arranged_county.proofs.Views.ViewNumbers.{get_up_to}
use Rattle.canonical_form.proofs.Arrangements.Carrying.{images-numbered}
use Rattle.canonical_form.specs.Uses.{links_of}
use Rattle.county_chart.proofs.Lists.OfNumber.{of_number-all}
use Rattle.county_chart.specs.BodyOrder.{LinkPart}
use Rattle.ordered_lists.proofs.Lists.Elements.{flat_map_agree, map_agree_all}
use Rattle.std.proofs.lemmas.Option.{slice_get_within}
use Rattle.std.proofs.Common.{map-id}
use Rattle.tl_layout.specs.ByType.{of_number}

-- a number's position among distinct ones, from 1
pub number_at : (numbers : List ℕ) → IsApart nat_cmp numbers → (i n : ℕ) → slice_get numbers i ≡ Some n → image nat_cmp (numbered numbers) n ≡ i + 1
number_at numbers apart i n h =
    let both : Some (image nat_cmp (numbered numbers) n) ≡ Some (i + 1) =
    sym (slice_get-map (image nat_cmp (numbered numbers)) numbers i ∙ ap (option_map (image nat_cmp (numbered numbers))) h)
    ∙ ap (λ ns. slice_get ns i) (images-numbered numbers apart)
    ∙ get_up_to (length numbers) i (slice_get_within numbers i n h) in
    cc

-- the links of all landmarks, each with the position of its landmark for its LAND
module _ (county : County) (is : IsCounty county) (polygons : List PolygonKey) where
  own_numbered : (place : ℕ)
      → map (link_in polygons (place + 1)) (links_at county place) ≡ map (link_under polygons (lands county)) (links_at county place)
  own_numbered place = go (slice_get (lands county) place) refl
    where
      go : (o : Option ℕ) → slice_get (lands county) place ≡ o
          → map (link_in polygons (place + 1)) (links_with county.links o) ≡ map (link_under polygons (lands county)) (links_with county.links o)
      go None e = refl
      go (Some n) e =
          let position : image nat_cmp (numbered (lands county)) n ≡ place + 1 =
          number_at (lands county) (apart_from_sorted nat_keys (lands county) is.ascending.landmarks) place n e in
          map_agree_all (link_in polygons (place + 1)) (link_under polygons (lands county)) (λ link. link.land ≡ n)
          (λ link same. ap (λ land. link_in polygons land link) (sym (ap (image nat_cmp (numbered (lands county))) same ∙ position)))
          (of_number eight_land n county.links) (of_number-all eight_land n county.links)

  pub gathered_by_place : (places : List ℕ) → flat_map (λ place. map (link_in polygons (place + 1)) (links_at county place)) places
      ≡ flat_map (λ place. map (link_under polygons (lands county)) (links_at county place)) places
  gathered_by_place places = flat_map_agree (λ place. map (link_in polygons (place + 1)) (links_at county place))
      (λ place. map (link_under polygons (lands county)) (links_at county place)) own_numbered places

-- Links with LANDs from a number on, that are otherwise the ones of landmarks at places.
module _ (olds news : List Fields8) (count : ℕ) where
  abbrev of_part : ℕ → LinkPart → Fields8
  of_part land part = record { file = part.2; cenid = part.1; polyid = part.0; land = land }

  group : (land place : ℕ) → links_of news land ≡ map link_part (own_links olds count place)
      → map (with_land land) (own_links olds count place) ≡ of_number eight_land land news
  group land place same =
      sym (map-map (of_part land) link_part (own_links olds count place)) ∙ ap (map (of_part land)) (sym same)
      ∙ map-map (of_part land) link_part (of_number eight_land land news)
      ∙ map_agree_all (with_land land) (λ link. link) (λ link. link.land ≡ land) (λ link e i. record link { land = sym e i })
      (of_number eight_land land news) (of_number-all eight_land land news)
      ∙ map-id (of_number eight_land land news)

  pub links_along : (land : ℕ) (places : List ℕ)
      → ((i place : ℕ) → slice_get places i ≡ Some place → links_of news (i + land) ≡ map link_part (own_links olds count place))
      → links_from olds count land places ≡ flat_map (λ n. of_number eight_land n news) (range_with_len land (length places))
  links_along land [] same = refl
  links_along land (place ∷ places) same =
      ap₂ (λ xs ys. xs ++ ys) (group land place ((let t : land ≡ 0 + land = omega arith in ap (links_of news) t) ∙ same 0 place refl))
      (links_along (land + 1) places
      (λ i p h. (let t : i + (land + 1) ≡ suc i + land = omega arith in ap (links_of news) t) ∙ same (suc i) p h))
