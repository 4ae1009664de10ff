-- The values that a chart reads of a county under a mask.
use Rattle.county_chart.proofs.Common.{Body7, Chain, County, List, Mask, None, Option, Some, [], ap, arith, bodies_at, chain_at, entry_values, false, feats_of, lands_masked, length, length-map, length_masked_bodies, links_at, links_with, map_values, masked, masked_bodies, masked_body_1, masked_body_i, masked_chain, option_map, points_of, ranges_of, refl, rules, slice_get, slice_get-get_or, slice_get-map, sym, unwrap_or-slice_get, values-map_values, ℕ, ◌<◌, ◌∙◌, ◌≡◌}
use Rattle.county_chart.specs.ChartWords.{ends_of, sides_of}
use Rattle.county_chart.specs.Laws.MaskedCounties.{nodes_masked, tlids_masked}

-- the value at a place after all values are mapped
value_at_place : {K V W : Type 0} (f : V → W) (entries : List (K × V)) (place : ℕ)
    → slice_get (entry_values (map_values f entries)) place ≡ option_map f (slice_get (entry_values entries) place)
value_at_place f entries place = search (rules, values-map_values, slice_get-map)

-- there are as many chains and landmarks
pub chain_count_masked : (mask : Mask) (county : County) → length (masked mask county).chains ≡ length county.chains
chain_count_masked mask county = length-map county.chains (λ entry. (entry.0, masked_chain mask entry.1))

pub landmark_count_masked : (mask : Mask) (county : County) → length (masked mask county).landmarks ≡ length county.landmarks
landmark_count_masked mask county = length-map county.landmarks (λ entry. (entry.0, masked_bodies mask entry.1))

pub chain_at_masked : (mask : Mask) (county : County) (place : ℕ)
    → chain_at (masked mask county) place ≡ option_map (masked_chain mask) (chain_at county place)
chain_at_masked mask county place = value_at_place (masked_chain mask) county.chains place

-- a field of a chain under the mask
module _ (mask : Mask) where
  read_masked : {X : Type 0} (read : Chain → X) (o : Option Chain)
      → option_map read (option_map (masked_chain mask) o) ≡ option_map (λ c. read (masked_chain mask c)) o
  read_masked read None = refl
  read_masked read (Some c) = refl

  module _ (county : County) (place : ℕ) where
    same : {X : Type 0} (read : Option Chain → X) → ((o : Option Chain) → read (option_map (masked_chain mask) o) ≡ read o)
        → read (chain_at (masked mask county) place) ≡ read (chain_at county place)
    same read h = ap read (chain_at_masked mask county place) ∙ h (chain_at county place)

    pub body_masked : option_map (λ c. c.body) (chain_at (masked mask county) place) ≡ option_map (masked_body_1 mask)
        (option_map (λ c. c.body) (chain_at county place))
    body_masked = search (rules, chain_at_masked)

    pub topology_masked : option_map (λ c. c.topology) (chain_at (masked mask county) place) ≡ option_map (masked_body_i mask)
        (option_map (λ c. c.topology) (chain_at county place))
    topology_masked = search (rules, chain_at_masked)

    pub points_masked : points_of (chain_at (masked mask county) place) ≡ points_of (chain_at county place)
    points_masked = same points_of (elim [ None ↦ refl | Some c ↦ refl ])

    pub feats_masked : feats_of (chain_at (masked mask county) place) ≡ feats_of (chain_at county place)
    feats_masked = same feats_of (elim [ None ↦ refl | Some c ↦ refl ])

    pub ranges_masked : ranges_of (chain_at (masked mask county) place) ≡ ranges_of (chain_at county place)
    ranges_masked = same ranges_of (elim [ None ↦ refl | Some c ↦ refl ])

    pub ends_masked : option_map ends_of (chain_at (masked mask county) place) ≡ option_map ends_of (chain_at county place)
    ends_masked = same (option_map ends_of) (read_masked ends_of)

    pub both_masked : option_map sides_of (chain_at (masked mask county) place) ≡ option_map sides_of (chain_at county place)
    both_masked = same (option_map sides_of) (read_masked sides_of)

    -- the links of the landmark at a place
    pub links_masked : links_at (masked mask county) place ≡ links_at county place
    links_masked = ap (λ lands. links_with county.links (slice_get lands place)) (lands_masked mask county)

    -- the contents of the landmark at a place
    pub bodies_masked : bodies_at (masked mask county) place ≡ masked_bodies mask (bodies_at county place)
    bodies_masked = search (rules, value_at_place)

    pub body_count_masked : length (bodies_at (masked mask county) place) ≡ length (bodies_at county place)
    body_count_masked = ap length bodies_masked ∙ length_masked_bodies mask (bodies_at county place)

-- if the mask keeps SOURCE, it keeps the contents of a landmark
pub bodies_unmasked : (mask : Mask) (county : County) (place : ℕ) → mask.sources ≡ false
    → bodies_at (masked mask county) place ≡ bodies_at county place
bodies_unmasked mask county place e = search (rules, bodies_masked)

-- the contents of the landmark at a place are at the same place among the contents of all landmarks
pub masked_values_count : (mask : Mask) (county : County) → length (entry_values (masked mask county).landmarks) ≡ length county.landmarks
masked_values_count mask county = search (rules, length-map, landmark_count_masked)

pub masked_value_there : (mask : Mask) (county : County) (place : ℕ) → place < length county.landmarks
    → Some (masked_bodies mask (bodies_at county place)) ≡ slice_get (entry_values (masked mask county).landmarks) place
masked_value_there mask county place h =
    let values : List (List Body7) = entry_values (masked mask county).landmarks in
    ap Some (sym (bodies_masked mask county place) ∙ unwrap_or-slice_get values place [])
    ∙ sym (slice_get-get_or values place [] (omega (arith, masked_values_count mask county)))

-- what the calls of a county under a mask need
pub ruleset masked_reads = (
  chain_count_masked,
  landmark_count_masked,
  tlids_masked,
  lands_masked,
  nodes_masked,
  body_masked,
  topology_masked,
  points_masked,
  feats_masked,
  ranges_masked,
  ends_masked,
  both_masked,
  links_masked,
  body_count_masked,
  bodies_unmasked,
)
