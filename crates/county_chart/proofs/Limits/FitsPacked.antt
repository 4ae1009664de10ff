-- A whole county whose contents and numbers fit, and whose chains' lists fit into their records, is packed into records that fit.
use Rattle.county_chart.proofs.Common.{AllByRecursion, Body5, Body7, BodyP, Chain, ContentsFit, Coordinates, County, Fields8, FieldsP, FitsChain, FitsLandmark, FitsLink, FitsNameBody, FitsNumbers, FitsPolygon, FitsRecord, IfSome, IsNumber, IsOnMap, IsWhole, List, ListsByType, ListsFit, None, NumbersFit, Option, PolygonKey, Record, RecordType, Some, Type1, Type2, Type4, Type5, Type6, Type7, Type8, TypeI, TypeP, [], all-in_order, all_append, all_both, all_joined, all_map, all_selected, all_weaker, arith, filter_map, first_point, flat_map, greatest_rtsq, in_order, last_point, later_types, length, listed_by_type, lists_of, map, nat_cmp, on, record_of, rules, ℕ, ◌*◌, ◌+◌, ◌<◌, ◌∷◌, ◌≡◌, ◌≤◌}
use Rattle.county_chart.proofs.Packing.Pieces.{all_in_pieces, all_numbered_from, few_pieces, short_pieces}
use Rattle.county_chart.proofs.Limits.FieldsFit.{Fit, Fit1, Fit2, Fit4, Fit5, Fit6, Fit7, Fit8, FitI, FitP, columns}
use Rattle.county_chart.specs.Packing.{in_pieces, inner_points, numbered_from, p_polyid, packed, packed_body, packed_by_type, packed_five, packed_fours, packed_i, packed_one, packed_p, packed_sevens, packed_sixes, packed_twos, without_last}

-- records type after type have a property that the records of each type have
all_by_type : (P : Record → Type 0) (lists : ListsByType) (t : RecordType) (us : List RecordType)
    → ((u : RecordType) → AllByRecursion (λ fields. P (record_of u fields)) (lists u)) → AllByRecursion P (listed_by_type lists t us)
all_by_type P lists t [] all = all_map P (record_of t) (lists t) (all t)
all_by_type P lists t (u ∷ us) all = search (rules, all_append, all_map, all_by_type P lists u us all)

first_holds : (Q : Coordinates → Type 0) (points : List Coordinates) → 1 ≤ length points → AllByRecursion Q points → Q (first_point points)
first_holds Q [] h a = absurd (omega (arith, h))
first_holds Q (p ∷ points) h a = a.0

last_holds : (Q : Coordinates → Type 0) (points : List Coordinates) → 1 ≤ length points → AllByRecursion Q points → Q (last_point points)
last_holds Q [] h a = absurd (omega (arith, h))
last_holds Q (p ∷ []) h a = a.0
last_holds Q (p ∷ q ∷ points) h a = last_holds Q (q ∷ points) (omega arith) a.1

all_but_last : (Q : Coordinates → Type 0) (points : List Coordinates) → AllByRecursion Q points → AllByRecursion Q (without_last points)
all_but_last Q [] a = tt
all_but_last Q (p ∷ []) a = tt
all_but_last Q (p ∷ q ∷ points) a = (a.0, all_but_last Q (q ∷ points) a.1)

all_inner : (Q : Coordinates → Type 0) (points : List Coordinates) → AllByRecursion Q points → AllByRecursion Q (inner_points points)
all_inner Q [] a = tt
all_inner Q (p ∷ points) a = all_but_last Q points a.1

one_fits : (entry : ℕ × Chain) → IsNumber 10 entry.0 → 2 ≤ length entry.1.points → FitsChain entry.1 → Fit1 (packed_one entry)
one_fits entry n two f = record {
  tlid = n;
  body = f.body;
  start = first_holds IsOnMap entry.1.points (omega arith) f.points;
  end = last_holds IsOnMap entry.1.points (omega arith) f.points;
}

-- a list in at most 999 pieces of a width, as records with RTSQs
module _ {X Y : Type 0} (width : ℕ) (P : X → Type 0) (make : ℕ × List X → Y) (Fits : Y → Type 0)
    (each : (rtsq : ℕ) (piece : List X) → IsNumber 3 rtsq → length piece ≤ width → AllByRecursion P piece → Fits (make (rtsq, piece))) where
  pieces_fit : (xs : List X) → length xs ≤ width * greatest_rtsq → AllByRecursion P xs
      → AllByRecursion Fits (map make (numbered_from 1 (in_pieces width xs)))
  pieces_fit xs few a =
      let count : length (in_pieces width xs) ≤ greatest_rtsq = few_pieces width greatest_rtsq (length xs) xs few in
      all_map Fits make (numbered_from 1 (in_pieces width xs))
      (all_weaker (λ (entry : ℕ × List X). (1 ≤ entry.0)
      × ((entry.0 < 1 + length (in_pieces width xs)) × ((length entry.1 ≤ width) × AllByRecursion P entry.1)))
      (λ entry. Fits (make entry))
      (λ entry h. each entry.0 entry.1 (
        (let low : 1 ≤ entry.0 = h.0 in omega arith),
        (let high : entry.0 < 1 + length (in_pieces width xs) = h.1.0 in omega arith),
      ) h.1.1.0 h.1.1.1)
      (numbered_from 1 (in_pieces width xs))
      (all_numbered_from (λ piece. (length piece ≤ width) × AllByRecursion P piece) 1 (in_pieces width xs)
      (all_both (λ piece. length piece ≤ width) (AllByRecursion P) (in_pieces width xs) (short_pieces width (length xs) xs)
      (all_in_pieces P width (length xs) xs a))))

twos_fit : (entry : ℕ × Chain) → IsNumber 10 entry.0 → FitsChain entry.1 → ListsFit entry.1 → AllByRecursion Fit2 (packed_twos entry)
twos_fit entry n f lists = search (rules, pieces_fit, all_inner)

fours_fit : (entry : ℕ × Chain) → IsNumber 10 entry.0 → FitsNumbers entry.1 → ListsFit entry.1 → AllByRecursion Fit4 (packed_fours entry)
fours_fit entry n f lists = search (rules, pieces_fit)

sixes_fit : (entry : ℕ × Chain) → IsNumber 10 entry.0 → FitsChain entry.1 → ListsFit entry.1 → AllByRecursion Fit6 (packed_sixes entry)
sixes_fit entry n f lists = search (rules, all_map, all_weaker, all_numbered_from)

i_fits : (entry : ℕ × Chain) → IsNumber 10 entry.0 → FitsChain entry.1 → FitsNumbers entry.1 → FitI (packed_i entry)
i_fits entry n f m = search rules

abbrev FitsEntry : PolygonKey × Option BodyP → Type 0
FitsEntry entry = IfSome entry.1 (FitsPolygon entry.0.0) × IsNumber 10 entry.0.1

p_fits : (key : PolygonKey) (body : Option BodyP) (r : FieldsP) → packed_body key body ≡ Some r → FitsEntry (key, body) → FitP r
p_fits key None r e f = cc
p_fits key (Some body) r e f = search rules

-- the known facts about each chain of such a county
abbrev IsFitEntry : ℕ × Chain → Type 0
IsFitEntry entry = (2 ≤ length entry.1.points) × (IsNumber 10 entry.0 × (FitsChain entry.1 × (FitsNumbers entry.1 × ListsFit entry.1)))

module _ (county : County) (whole : IsWhole county) (contents : ContentsFit county) (numbers : NumbersFit county)
    (lists : AllByRecursion (λ entry. ListsFit entry.1) county.chains) where
  fit_entries : AllByRecursion IsFitEntry county.chains
  fit_entries = all_both (λ entry. 2 ≤ length entry.1.points)
      (λ entry. IsNumber 10 entry.0 × (FitsChain entry.1 × (FitsNumbers entry.1 × ListsFit entry.1))) county.chains whole.points
      (all_both (λ entry. IsNumber 10 entry.0) (λ entry. FitsChain entry.1
      × (FitsNumbers entry.1 × ListsFit entry.1)) county.chains numbers.chains
      (all_both (λ entry. FitsChain entry.1) (λ entry. FitsNumbers entry.1 × ListsFit entry.1) county.chains contents.chains
      (all_both (λ entry. FitsNumbers entry.1) (λ entry. ListsFit entry.1) county.chains numbers.named lists)))

  -- records of chains fit if the records of each chain do
  each_chain : {Y : Type 0} (Fits : Y → Type 0) (pack : ℕ × Chain → List Y)
      → ((entry : ℕ × Chain) → IsFitEntry entry → AllByRecursion Fits (pack entry)) → AllByRecursion Fits (flat_map pack county.chains)
  each_chain Fits pack h = search (rules, all_joined, all_weaker, fit_entries)

  sevens_fit : AllByRecursion Fit7 (flat_map packed_sevens county.landmarks)
  sevens_fit = all_joined Fit7 packed_sevens county.landmarks
      (all_weaker (λ (entry : ℕ × List Body7). IsNumber 10 entry.0 × AllByRecursion FitsLandmark entry.1)
      (λ entry. AllByRecursion Fit7 (packed_sevens entry))
      (λ entry h. all_map Fit7 (λ body. record { land = entry.0; body = body }) entry.1
      (all_weaker FitsLandmark (λ body. Fit7 (record { land = entry.0; body = body }))
      (λ body f. record { land = h.0; body = f }) entry.1 h.1))
      county.landmarks (all_both (λ (entry : ℕ × List Body7). IsNumber 10 entry.0)
      (λ entry. AllByRecursion FitsLandmark entry.1) county.landmarks numbers.landmarks contents.landmarks))

  eights_fit : AllByRecursion Fit8 county.links
  eights_fit = all_weaker (λ (link : Fields8). FitsLink link × (IsNumber 10 link.polyid × IsNumber 10 link.land)) Fit8
      (λ link h. record { file = h.0.file; cenid = h.0.cenid; polyid = h.1.0; land = h.1.1 }) county.links
      (all_both FitsLink (λ link. IsNumber 10 link.polyid × IsNumber 10 link.land) county.links contents.links
      (all_both (λ link. IsNumber 10 link.polyid)
      (λ link. IsNumber 10 link.land) county.links numbers.link_polygons numbers.link_lands))

  ps_fit : AllByRecursion FitP (in_order (on p_polyid nat_cmp) (filter_map packed_p county.polygons))
  ps_fit = all-in_order FitP (on p_polyid nat_cmp) (filter_map packed_p county.polygons)
      (all_selected FitsEntry FitP packed_p (λ entry r e f. p_fits entry.0 entry.1 r e f) county.polygons
      (all_both (λ entry. IfSome entry.1 (FitsPolygon entry.0.0))
      (λ entry. IsNumber 10 entry.0.1) county.polygons contents.polygons numbers.polygons))

  -- the records of each type fit
  fit : (t : RecordType) → AllByRecursion (Fit t) (lists_of (packed_by_type county) t)
  fit Type1 = all_map Fit1 packed_one county.chains (all_weaker IsFitEntry (λ entry. Fit1 (packed_one entry))
      (λ entry h. one_fits entry h.1.0 h.0 h.1.1.0) county.chains fit_entries)
  fit Type2 = each_chain Fit2 packed_twos (λ entry h. twos_fit entry h.1.0 h.1.1.0 h.1.1.1.1)
  fit Type4 = each_chain Fit4 packed_fours (λ entry h. fours_fit entry h.1.0 h.1.1.1.0 h.1.1.1.1)
  fit Type5 = all_map Fit5 packed_five county.names
      (all_weaker (λ (entry : ℕ × Body5). IsNumber 8 entry.0 × FitsNameBody entry.1) (λ entry. Fit5 (packed_five entry))
      (λ entry h. record { feat = h.0; body = h.1 }) county.names
      (all_both (λ (entry : ℕ × Body5). IsNumber 8 entry.0) (λ entry. FitsNameBody entry.1) county.names numbers.names contents.names))
  fit Type6 = each_chain Fit6 packed_sixes (λ entry h. sixes_fit entry h.1.0 h.1.1.0 h.1.1.1.1)
  fit Type7 = sevens_fit
  fit Type8 = eights_fit
  fit TypeI = search (rules, all_map, all_weaker, i_fits, fit_entries)
  fit TypeP = ps_fit

  pub packed-fits : AllByRecursion FitsRecord (packed county)
  packed-fits = all_by_type FitsRecord (lists_of (packed_by_type county)) Type1 later_types
      (λ t. all_weaker (Fit t) (λ fields. FitsRecord (record_of t fields)) (columns t) (lists_of (packed_by_type county) t) (fit t))
