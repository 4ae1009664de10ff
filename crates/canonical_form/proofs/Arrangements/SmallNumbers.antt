-- Numbers up to the greatest one of a canonical list: in a county, and in the records that it is packed into.
use Rattle.canonical_form.proofs.Common.{AllByRecursion, Body5, Body7, BodyP, Chain, County, Eight, Fields2, Fields4, Fields6, Fields7, Fields8, FieldsP, FitsNumbers, Five, Four, I, IsNumber, IsNumberOrNone, List, None, NumbersFit, One, Option, P, PolygonKey, Ranges, Record, Seven, Six, Some, Two, all-in_order, all_append, all_both, all_everywhere, all_in_pieces, all_joined, all_left, all_map, all_numbered_from, all_right, all_selected, all_weaker, arith, chain_nodes, chain_polygons, filter_map, flat_map, greatest_number, in_order, in_pieces, inner_points, key_on, key_under, length, map, nat_cmp, numbered_from, numbers_of, on, option_to_list, p_polyid, packed, packed_body, packed_five, packed_fours, packed_i, packed_one, packed_p, packed_sevens, packed_sixes, packed_twos, subst, ℕ, ◌+◌, ◌<◌, ◌≡◌, ◌≤◌}

abbrev pub IsSmall : ℕ → Type 0
IsSmall n = (1 ≤ n) × (n ≤ greatest_number)

abbrev pub IsSmallKey : PolygonKey → Type 0
IsSmallKey key = IsSmall key.1

-- the numbers in a chain
abbrev pub NamesSmall : Chain → Type 0
NamesSmall chain = AllByRecursion IsSmall chain.feats
    × (AllByRecursion IsSmall (chain_nodes chain) × AllByRecursion IsSmallKey (chain_polygons chain))

-- the numbers of a county are small
pub record NumbersSmall (county : County) : Type 0 where
  pub chains : AllByRecursion (λ (entry : ℕ × Chain). IsSmall entry.0) county.chains
  pub named : AllByRecursion (λ (entry : ℕ × Chain). NamesSmall entry.1) county.chains
  pub names : AllByRecursion (λ (entry : ℕ × Body5). IsSmall entry.0) county.names
  pub polygons : AllByRecursion (λ (entry : PolygonKey × Option BodyP). IsSmallKey entry.0) county.polygons
  pub landmarks : AllByRecursion (λ (entry : ℕ × List Body7). IsSmall entry.0) county.landmarks
  pub link_polygons : AllByRecursion (λ (link : Fields8). IsSmall link.polyid) county.links
  pub link_lands : AllByRecursion (λ (link : Fields8). IsSmall link.land) county.links

-- ---- small numbers fit their fields

fits_10 : (n : ℕ) → IsSmall n → IsNumber 10 n
fits_10 n h = (let low : 1 ≤ n = h.0 in omega arith, let high : n ≤ 20000000 = h.1 in omega arith)

fits_8 : (n : ℕ) → IsSmall n → IsNumber 8 n
fits_8 n h = (let low : 1 ≤ n = h.0 in omega arith, let high : n ≤ 20000000 = h.1 in omega arith)

node_fits : (o : Option ℕ) → AllByRecursion IsSmall (option_to_list o) → IsNumberOrNone 10 o
node_fits None a = tt
node_fits (Some n) a = fits_10 n a.0

polyid_fits : (cenid : List ℕ) (polyid : Option ℕ) → AllByRecursion IsSmallKey (key_under cenid polyid) → IsNumberOrNone 10 polyid
polyid_fits cenid None a = tt
polyid_fits cenid (Some polyid) a = fits_10 polyid a.0

names_fit : (chain : Chain) → NamesSmall chain → FitsNumbers chain
names_fit chain h = record {
  feats = all_weaker IsSmall (IsNumber 8) fits_8 chain.feats h.0;
  start_node = node_fits chain.start_node (all_left IsSmall (option_to_list chain.start_node) (option_to_list chain.end_node) h.1.0);
  end_node = node_fits chain.end_node (all_right IsSmall (option_to_list chain.start_node) (option_to_list chain.end_node) h.1.0);
  left = polyid_fits chain.left.cenid chain.left.polyid (all_left IsSmallKey (key_on chain.left) (key_on chain.right) h.1.1);
  right = polyid_fits chain.right.cenid chain.right.polyid (all_right IsSmallKey (key_on chain.left) (key_on chain.right) h.1.1);
}

pub small_numbers_fit : (county : County) → NumbersSmall county → NumbersFit county
small_numbers_fit county small = record {
  chains = all_weaker (λ (entry : ℕ × Chain). IsSmall entry.0) (λ entry. IsNumber 10 entry.0)
      (λ entry h. fits_10 entry.0 h) county.chains small.chains;
  named = all_weaker (λ (entry : ℕ × Chain). NamesSmall entry.1) (λ entry. FitsNumbers entry.1)
      (λ entry h. names_fit entry.1 h) county.chains small.named;
  names = all_weaker (λ (entry : ℕ × Body5). IsSmall entry.0) (λ entry. IsNumber 8 entry.0)
      (λ entry h. fits_8 entry.0 h) county.names small.names;
  polygons = all_weaker (λ (entry : PolygonKey × Option BodyP). IsSmallKey entry.0) (λ entry. IsNumber 10 entry.0.1)
      (λ entry h. fits_10 entry.0.1 h) county.polygons small.polygons;
  landmarks = all_weaker (λ (entry : ℕ × List Body7). IsSmall entry.0) (λ entry. IsNumber 10 entry.0)
      (λ entry h. fits_10 entry.0 h) county.landmarks small.landmarks;
  link_polygons = all_weaker (λ (link : Fields8). IsSmall link.polyid) (λ link. IsNumber 10 link.polyid)
      (λ link h. fits_10 link.polyid h) county.links small.link_polygons;
  link_lands = all_weaker (λ (link : Fields8). IsSmall link.land) (λ link. IsNumber 10 link.land)
      (λ link h. fits_10 link.land h) county.links small.link_lands;
}

-- ---- the records of such a county have small numbers

abbrev IsLow : ℕ → Type 0
IsLow n = n ≤ greatest_number

abbrev IsLowRecord : Record → Type 0
IsLowRecord r = AllByRecursion IsLow (numbers_of r)

all_low : (ns : List ℕ) → AllByRecursion IsSmall ns → AllByRecursion IsLow ns
all_low = all_weaker IsSmall IsLow (λ n h. h.1)

polyid_low : (cenid : List ℕ) (polyid : Option ℕ) → AllByRecursion IsSmallKey (key_under cenid polyid)
    → AllByRecursion IsLow (option_to_list polyid)
polyid_low cenid None a = tt
polyid_low cenid (Some polyid) a = (a.0.1, tt)

p_low : (key : PolygonKey) (body : Option BodyP) (r : FieldsP) → packed_body key body ≡ Some r → IsSmallKey key → IsLowRecord (P r)
p_low key None r e h = cc
p_low key (Some body) r e h =
    let same : record { cenid = key.0; polyid = key.1; body = body } ≡ r = cc in
    subst (λ (q : FieldsP). IsLowRecord (P q)) same (h.1, tt)

-- records have small numbers if the records of each entry do
each_entry : {E X : Type 0} (Small : E → Type 0) (wrap : X → Record) (pack : E → List X)
    → ((entry : E) → Small entry → AllByRecursion (λ x. IsLowRecord (wrap x)) (pack entry)) → (entries : List E) → AllByRecursion Small entries
    → AllByRecursion IsLowRecord (map wrap (flat_map pack entries))
each_entry Small wrap pack h entries small = all_map IsLowRecord wrap (flat_map pack entries)
    (all_joined (λ x. IsLowRecord (wrap x)) pack entries
    (all_weaker Small (λ entry. AllByRecursion (λ x. IsLowRecord (wrap x)) (pack entry)) h entries small))

one_each : {E X : Type 0} (Small : E → Type 0) (wrap : X → Record) (pack : E → X) → ((entry : E) → Small entry → IsLowRecord (wrap (pack entry)))
    → (entries : List E) → AllByRecursion Small entries → AllByRecursion IsLowRecord (map wrap (map pack entries))
one_each Small wrap pack h entries small = all_map IsLowRecord wrap (map pack entries)
    (all_map (λ x. IsLowRecord (wrap x)) pack entries (all_weaker Small (λ entry. IsLowRecord (wrap (pack entry))) h entries small))

module _ (county : County) (small : NumbersSmall county) where
  abbrev IsSmallChain : ℕ × Chain → Type 0
  IsSmallChain entry = IsSmall entry.0 × NamesSmall entry.1

  small_chains : AllByRecursion IsSmallChain county.chains
  small_chains = all_both (λ (entry : ℕ × Chain). IsSmall entry.0) (λ entry. NamesSmall entry.1) county.chains small.chains small.named

  ones : AllByRecursion IsLowRecord (map One (map packed_one county.chains))
  ones = one_each (λ (entry : ℕ × Chain). IsSmall entry.0) One packed_one (λ entry h. (h.1, tt)) county.chains small.chains

  twos : AllByRecursion IsLowRecord (map Two (flat_map packed_twos county.chains))
  twos = each_entry (λ (entry : ℕ × Chain). IsSmall entry.0) Two packed_twos (λ entry h.
      all_map (λ (r : Fields2). IsLowRecord (Two r)) (λ piece. record { tlid = entry.0; rtsq = piece.0; points = piece.1 })
      (numbered_from 1 (in_pieces 10 (inner_points entry.1.points)))
      (all_everywhere (λ _. IsLow entry.0 × Unit {0}) (λ _. (h.1, tt)) (numbered_from 1 (in_pieces 10 (inner_points entry.1.points)))))
      county.chains small.chains

  fours : AllByRecursion IsLowRecord (map Four (flat_map packed_fours county.chains))
  fours = each_entry IsSmallChain Four packed_fours (λ entry h.
      all_map (λ (r : Fields4). IsLowRecord (Four r)) (λ piece. record { tlid = entry.0; rtsq = piece.0; feats = piece.1 })
      (numbered_from 1 (in_pieces 5 entry.1.feats))
      (all_weaker (λ (piece : ℕ × List ℕ). (1 ≤ piece.0) × ((piece.0 < 1 + length (in_pieces 5 entry.1.feats)) × AllByRecursion IsLow piece.1))
      (λ piece. IsLow entry.0 × AllByRecursion IsLow piece.1) (λ piece a. (h.0.1, a.1.1)) (numbered_from 1 (in_pieces 5 entry.1.feats))
      (all_numbered_from (AllByRecursion IsLow) 1 (in_pieces 5 entry.1.feats)
      (all_in_pieces IsLow 5 (length entry.1.feats) entry.1.feats (all_low entry.1.feats h.1.0)))))
      county.chains small_chains

  fives : AllByRecursion IsLowRecord (map Five (map packed_five county.names))
  fives = one_each (λ (entry : ℕ × Body5). IsSmall entry.0) Five packed_five (λ entry h. (h.1, tt)) county.names small.names

  sixes : AllByRecursion IsLowRecord (map Six (flat_map packed_sixes county.chains))
  sixes = each_entry (λ (entry : ℕ × Chain). IsSmall entry.0) Six packed_sixes (λ entry h.
      all_map (λ (r : Fields6). IsLowRecord (Six r)) (λ (piece : ℕ × Ranges). record { tlid = entry.0; rtsq = piece.0; ranges = piece.1 })
      (numbered_from 1 entry.1.ranges)
      (all_everywhere (λ _. IsLow entry.0 × Unit {0}) (λ _. (h.1, tt)) (numbered_from 1 entry.1.ranges)))
      county.chains small.chains

  sevens : AllByRecursion IsLowRecord (map Seven (flat_map packed_sevens county.landmarks))
  sevens = each_entry (λ (entry : ℕ × List Body7). IsSmall entry.0) Seven packed_sevens (λ entry h.
      all_map (λ (r : Fields7). IsLowRecord (Seven r)) (λ body. record { land = entry.0; body = body }) entry.1
      (all_everywhere (λ _. IsLow entry.0 × Unit {0}) (λ _. (h.1, tt)) entry.1))
      county.landmarks small.landmarks

  eights : AllByRecursion IsLowRecord (map Eight county.links)
  eights = all_map IsLowRecord Eight county.links
      (all_weaker (λ (link : Fields8). IsSmall link.polyid × IsSmall link.land) (λ link. IsLowRecord (Eight link))
      (λ link h. (h.0.1, (h.1.1, tt))) county.links
      (all_both (λ (link : Fields8). IsSmall link.polyid) (λ link. IsSmall link.land) county.links small.link_polygons small.link_lands))

  i_low : (entry : ℕ × Chain) → IsSmall entry.0 → NamesSmall entry.1 → IsLowRecord (I (packed_i entry))
  i_low entry h names = (
    h.1,
    all_append IsLow (chain_nodes entry.1) _ (all_low (chain_nodes entry.1) names.1.0)
        (all_append IsLow (option_to_list entry.1.left.polyid) (option_to_list entry.1.right.polyid)
        (polyid_low entry.1.left.cenid entry.1.left.polyid (all_left IsSmallKey (key_on entry.1.left) (key_on entry.1.right) names.1.1))
        (polyid_low entry.1.right.cenid entry.1.right.polyid (all_right IsSmallKey (key_on entry.1.left) (key_on entry.1.right) names.1.1))),
  )

  is : AllByRecursion IsLowRecord (map I (map packed_i county.chains))
  is = one_each IsSmallChain I packed_i (λ entry s. i_low entry s.0 s.1) county.chains small_chains

  ps : AllByRecursion IsLowRecord (map P (in_order (on p_polyid nat_cmp) (filter_map packed_p county.polygons)))
  ps = all_map IsLowRecord P (in_order (on p_polyid nat_cmp) (filter_map packed_p county.polygons))
      (all-in_order (λ (r : FieldsP). IsLowRecord (P r)) (on p_polyid nat_cmp) (filter_map packed_p county.polygons)
      (all_selected (λ (entry : PolygonKey × Option BodyP). IsSmallKey entry.0) (λ (r : FieldsP). IsLowRecord (P r)) packed_p
      (λ entry r e h. p_low entry.0 entry.1 r e h) county.polygons small.polygons))

  pub packed_low : AllByRecursion (λ r. AllByRecursion (λ n. n ≤ greatest_number) (numbers_of r)) (packed county)
  packed_low =
      all_append IsLowRecord (map One (map packed_one county.chains)) _ ones
      (all_append IsLowRecord (map Two (flat_map packed_twos county.chains)) _ twos
      (all_append IsLowRecord (map Four (flat_map packed_fours county.chains)) _ fours
      (all_append IsLowRecord (map Five (map packed_five county.names)) _ fives
      (all_append IsLowRecord (map Six (flat_map packed_sixes county.chains)) _ sixes
      (all_append IsLowRecord (map Seven (flat_map packed_sevens county.landmarks)) _ sevens
      (all_append IsLowRecord (map Eight county.links) _ eights
      (all_append IsLowRecord (map I (map packed_i county.chains)) _ is ps)))))))
