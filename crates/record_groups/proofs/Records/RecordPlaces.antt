-- A record at a place among the records of a chain.
use Rattle.record_groups.proofs.Common.{Chain, ChainThere, Coordinates, County, Fields2, Fields4, Fields6, FieldsI, IsCounty, IsWithinLimits, List, Option, Ranges, Some, [], ap, chain_at, chain_there, drop, group_at, in_pieces, length, length-map, lone, map, min, most_records, numbered_from, option_map, packed_i, part_of, points_of, slice_get, some-same, subst, suc, sym, take, tlids, ℕ, ◌%◌, ◌*◌, ◌+◌, ◌/◌, ◌<◌, ◌∙◌, ◌∷◌, ◌≡◌, ◌≤◌}
use Rattle.record_groups.proofs.Records.Grouped.{group_of}
use Rattle.county_chart.specs.ChartWords.{ends_of, sides_of}
use Rattle.record_groups.proofs.Records.Pieces.{numbered_list_at, numbered_list_length, piece_begins, pieces_at, pieces_counted}

-- the TLID read at a place belongs to the chain there
pub tlid_of : {county : County} {place : ℕ} (there : ChainThere county place) (tlid : ℕ) → Some tlid ≡ slice_get (tlids county) place
    → tlid ≡ there.entry.0
tlid_of {county} {place} there tlid read = some-same (slice_get (tlids county) place) tlid there.entry.0 read there.tlid

-- all six parts that a record of type I has
pub topology_of : {county : County} {place : ℕ} (there : ChainThere county place) (r : FieldsI) → Some r.tlid ≡ slice_get (tlids county) place
    → Some r.body ≡ option_map (λ chain. chain.topology) (chain_at county place)
    → Some (r.start_node, r.end_node) ≡ option_map ends_of (chain_at county place)
    → Some (r.left, r.right) ≡ option_map sides_of (chain_at county place) → r ≡ packed_i there.entry
topology_of there r tlid body ends sides = λ i. record {
  tlid = tlid_of there r.tlid tlid i;
  body = part_of (λ chain. chain.topology) there r.body body i;
  start_node = (part_of ends_of there (r.start_node, r.end_node) ends i).0;
  end_node = (part_of ends_of there (r.start_node, r.end_node) ends i).1;
  left = (part_of sides_of there (r.left, r.right) sides i).0;
  right = (part_of sides_of there (r.left, r.right) sides i).1;
}

module _ {Y : Type 0} (f : ℕ × Chain → List Y) (county : County) (is : IsCounty county) (within : IsWithinLimits most_records county)
    (group : ℕ) (h : group < length (map f county.chains)) where
  -- the chain of a group of records
  pub chain_of_group : ChainThere county group
  chain_of_group = chain_there county is within group (subst (λ n. group < n) (length-map county.chains f) h)

  -- and its records
  pub records_of_group : group_at (map f county.chains) group ≡ f chain_of_group.entry
  records_of_group = group_of f county.chains group chain_of_group.entry chain_of_group.get

  pub two_points : 2 ≤ length (points_of (chain_at county group))
  two_points = subst (λ o. 2 ≤ length (points_of o)) (sym chain_of_group.chain) chain_of_group.two

module _ {Y : Type 0} (make : ℕ × Chain → Y) (county : County) (is : IsCounty county) (within : IsWithinLimits most_records county)
    (group : ℕ) (h : group < length (map (λ entry. make entry ∷ []) county.chains)) where
  abbrev lone_group : List Y
  lone_group = group_at (map (λ entry. make entry ∷ []) county.chains) group

  -- the only record of a chain
  pub lone_counted : 1 ≡ length lone_group
  lone_counted = sym (ap length (records_of_group (λ entry. make entry ∷ []) county is within group h))

  pub lone_of : (place : ℕ) → place < length lone_group
      → slice_get lone_group place ≡ Some (make (chain_of_group (λ entry. make entry ∷ []) county is within group h).entry)
  lone_of place = lone lone_group (make (chain_of_group (λ entry. make entry ∷ []) county is within group h).entry) place
      (records_of_group (λ entry. make entry ∷ []) county is within group h)

-- the records made from a list of a chain's, one item each, and numbered
abbrev pub of_items : {X Y : Type 0} → (Option Chain → List X) → (ℕ → ℕ × X → Y) → ℕ × Chain → List Y
of_items listed make entry = map (make entry.0) (numbered_from 1 (listed (Some entry.1)))

abbrev pub two_of : ℕ → ℕ × List Coordinates → Fields2
two_of tlid numbered = record { tlid = tlid; rtsq = numbered.0; points = numbered.1 }

abbrev pub four_of : ℕ → ℕ × List ℕ → Fields4
four_of tlid numbered = record { tlid = tlid; rtsq = numbered.0; feats = numbered.1 }

abbrev pub six_of : ℕ → ℕ × Ranges → Fields6
six_of tlid numbered = record { tlid = tlid; rtsq = numbered.0; ranges = numbered.1 }

-- the record with the item at a place
pub record ItemThere {X Y : Type 0} (listed : Option Chain → List X) (make : ℕ → ℕ × X → Y) (county : County) (group place : ℕ) : Type 0 where
  pub there : ChainThere county group
  pub count : place < length (listed (chain_at county group))
  pub get : (x : X) → slice_get (listed (chain_at county group)) place ≡ Some x
      → slice_get (group_at (map (of_items listed make) county.chains) group) place ≡ Some (make there.entry.0 (place + 1, x))

-- the record with the piece at a place, of suc n items
pub record PieceThere {X Y : Type 0} (n : ℕ) (listed : Option Chain → List X) (make : ℕ → ℕ × List X → Y) (county : County) (group place : ℕ)
    : Type 0 where
  pub there : ChainThere county group
  pub begins : place * suc n < length (listed (chain_at county group))
  pub get : slice_get (group_at (map (of_items (λ o. in_pieces (suc n) (listed o)) make) county.chains) group) place
      ≡ Some (make there.entry.0 (place + 1, take (suc n) (drop (place * suc n) (listed (chain_at county group)))))

module _ {X Y : Type 0} (listed : Option Chain → List X) (make : ℕ → ℕ × X → Y) (county : County) (is : IsCounty county)
    (within : IsWithinLimits most_records county) (group : ℕ) (h : group < length (map (of_items listed make) county.chains)) where
  abbrev items : List X
  items = listed (chain_at county group)

  abbrev chain : ChainThere county group
  chain = chain_of_group (of_items listed make) county is within group h

  group_is : group_at (map (of_items listed make) county.chains) group ≡ map (make chain.entry.0) (numbered_from 1 items)
  group_is = records_of_group (of_items listed make) county is within group h
      ∙ ap (λ o. map (make chain.entry.0) (numbered_from 1 (listed o))) (sym chain.chain)

  -- as many records as items
  pub items_counted : length items ≡ length (group_at (map (of_items listed make) county.chains) group)
  items_counted = sym (ap length group_is ∙ numbered_list_length (make chain.entry.0) items)

  pub item_there : (place : ℕ) → place < length (group_at (map (of_items listed make) county.chains) group) → ItemThere listed make county group place
  item_there place k = record {
    there = chain;
    count = subst (λ m. place < m) (sym items_counted) k;
    get = λ x read. ap (λ rs. slice_get rs place) group_is ∙ numbered_list_at (make chain.entry.0) items place x read;
  }

-- the same for records with suc n items each
module _ {X Y : Type 0} (n : ℕ) (listed : Option Chain → List X) (make : ℕ → ℕ × List X → Y) (county : County) (is : IsCounty county)
    (within : IsWithinLimits most_records county) (group : ℕ)
    (h : group < length (map (of_items (λ o. in_pieces (suc n) (listed o)) make) county.chains)) where
  abbrev pieced : Option Chain → List (List X)
  pieced o = in_pieces (suc n) (listed o)

  abbrev whole : List X
  whole = listed (chain_at county group)

  pub pieces_in_group : (count : ℕ) → count ≡ length whole
      → count / suc n + min 1 (count % suc n) ≡ length (group_at (map (of_items pieced make) county.chains) group)
  pieces_in_group count e = pieces_counted n whole count e ∙ items_counted pieced make county is within group h

  pub piece_there : (place : ℕ) → place < length (group_at (map (of_items pieced make) county.chains) group) → PieceThere n listed make county group place
  piece_there place k =
      let here = item_there pieced make county is within group h place k in
      record {
        there = here.there;
        begins = piece_begins n whole place here.count;
        get = here.get _ (pieces_at n (length whole) whole place here.count);
      }
