-- Keys of chains whose numbers in two choices compare alike in a county and in its small county, and the records of types 4 and I.
use Rattle.tl_number.proofs.Common.{AllByRecursion, Bool, Chain, Fields4, FieldsI, FieldsOf, FitsRecord, Four, Greater, I, IfSome, Known, Less, List, None, Option, Ordering, PolygonKey, PolygonSide, RecordType, Renumbering, Some, Type4, TypeI, [], all_at, all_in_pieces, all_known, all_left, all_right, all_unmap, ap, append-nil, ap₂, arith, carried_many, chain_nodes, chain_polygons, contains, drop, drop-map, exact_unsigned, false, false_from_ne_true, false≢true, flat_map, flat_map-map, fours_fit, grouped, grouped_lone, grouped_map, groups_cmp, has_new_at, in_pieces, is_open, key_cmp, key_keys, key_on, key_under, keys_along, known-here, known-left, known-right, known_all, length, length-map, map, map-equal_all, map-map, map_agree_all, nat_cmp, nat_cmp_is, nat_cmp_total, nat_keys, numbered_from, option_and_then, option_map, option_to_list, ordering_then, packed_fours, packed_i, pieces, pieces_together, refl, renumbered, renumbered_polygon, renumbered_side, rights-numbered_from, same_Some, side_of, slice_cmp, slice_get, slice_get-map, subst, suc, sym, table_4, take-map, tied_itself, topologies_fit, true, type_4_by_chain, type_i_by_chain, unwrap_or, zero, ℕ, ◌++◌, ◌<◌, ◌∙◌, ◌∷◌, ◌≡◌}
use Rattle.tl_number.proofs.Ties.Columns.{fields_cmp, next_column, place_number, places_alike, places_cmp, rows_cmp}
use Rattle.tl_number.proofs.Ties.KeptPieces.{all_are_there, chain_at_rank}
use Rattle.tl_number.proofs.Ties.KeyKinds.{AreNumberedAlike, KeyKind, chain_seen, group_chain, group_fixed, group_read, keys_of_chain, name_kind, new_name, new_node, new_polygon, node_kind, polygon_kind, polygon_number}
use Rattle.tl_number.proofs.Ties.Keys.{fixed_before}
use Rattle.tl_number.proofs.Ties.ComparedChoices.{ComparedChoices, IsKeptPart, cenid_kept, chains_at, choice, length_at, new_in, places_in, same_at}
use Rattle.tl_number.proofs.Ties.SmallRecords.{AreAlike, AreTiedBefore, Making, by_tlid, first_twice, fit_at, made_at, made_in, records_are, records_small, tied_same, tlid_first}

-- The wanted keys of a kind: their numbers compare alike in both counties, each key of a chain at an open place is one of them, and a
-- place where one is new is kept.
pub record AreWanted {K : Type 0} {cmp : K → K → Ordering} (kind : KeyKind cmp) (whole small : ComparedChoices) (is_in : ℕ → Bool) : Type 0 where
  pub wanted : List K
  pub alike : (n k : ℕ) → AreNumberedAlike kind wanted whole small n k
  pub opened : (i place : ℕ) (x : Chain) → is_open whole.still.places place ≡ true → slice_get (chains_at whole i) place ≡ Some x → (k : K)
      → Known cmp (kind.keys x) k → contains cmp k wanted ≡ true
  pub kept : (place : ℕ) → has_new_at cmp whole.still.places wanted (keys_along kind.keys whole.county whole.still.by_shape) place ≡ true
      → is_in place ≡ true

-- the chain at a kept place is in the small county, too
small_there : {whole small : ComparedChoices} {is_in : ℕ → Bool} → IsKeptPart whole small is_in → (i place rank : ℕ) (x : Chain)
    → slice_get (chains_at whole i) place ≡ Some x → slice_get (places_in whole is_in) rank ≡ Some place → slice_get (chains_at small i) rank ≡ Some x
small_there {whole} {small} {is_in} part i place rank x e ranked =
    ap (λ xs. slice_get xs rank) (part.chains i)
    ∙ chain_at_rank (chains_at whole i) (places_in whole is_in) (all_are_there (chains_at whole i) is_in (length whole.still.by_shape)
    (sym (length_at whole i))) rank place ranked
    ∙ e

module _ {K : Type 0} {cmp : K → K → Ordering} (kind : KeyKind cmp) where
  -- the number of a key in a choice, or 0 if there is none
  abbrev pub number_or_none : ComparedChoices → ℕ → Option K → ℕ
  number_or_none c i key = unwrap_or (option_map (kind.number (new_in c i)) key) 0

  -- a key of a choice has a number
  pub above : (c : ComparedChoices) (i : ℕ) (k : K) → Known cmp (kind.all c.county) k → 0 < kind.number (new_in c i) k
  above c i k h = let e = kind.number_is c i k (kind.listed c i k h) in omega (arith, e)

  module _ {whole small : ComparedChoices} {is_in : ℕ → Bool} (are : AreWanted kind whole small is_in) (n k : ℕ) where
    abbrev pub CompareAlike : Option K → Option K → Type 0
    CompareAlike p q = nat_cmp (number_or_none whole n p) (number_or_none whole k q) ≡ nat_cmp (number_or_none small n p) (number_or_none small k q)

    -- a key of both counties
    abbrev pub AreKeys : K → Type 0
    AreKeys j = Known cmp (kind.all whole.county) j × Known cmp (kind.all small.county) j

    -- Numbers of keys compare alike if both keys are wanted or missing: a missing key comes before each other one.
    pub wanted_pair : (p q : Option K) → ((j : K) → p ≡ Some j → (contains cmp j are.wanted ≡ true) × AreKeys j)
        → ((j : K) → q ≡ Some j → (contains cmp j are.wanted ≡ true) × AreKeys j) → CompareAlike p q
    wanted_pair None None h l = refl
    wanted_pair None (Some j) h l =
        let at = (l j refl).1 in
        sym (nat_cmp_is 0 (kind.number (new_in whole k) j) Less (above whole k j at.0))
        ∙ nat_cmp_is 0 (kind.number (new_in small k) j) Less (above small k j at.1)
    wanted_pair (Some j) None h l =
        let at = (h j refl).1 in
        sym (nat_cmp_is (kind.number (new_in whole n) j) 0 Greater (above whole n j at.0))
        ∙ nat_cmp_is (kind.number (new_in small n) j) 0 Greater (above small n j at.1)
    wanted_pair (Some i) (Some j) h l =
        let left = h i refl in
        let right = l j refl in
        (are.alike n k).wanted_alike i j left.0 right.0 left.1.1 right.1.1

  module _ {whole small : ComparedChoices} {is_in : ℕ → Bool} (part : IsKeptPart whole small is_in) (are : AreWanted kind whole small is_in)
      (n k : ℕ) where
    -- They also do if both are one key.
    same_pair : (p : Option K) → ((j : K) → p ≡ Some j → AreKeys are n k j) → CompareAlike are n k p p
    same_pair None h = refl
    same_pair (Some j) h = go (contains cmp j are.wanted) refl (h j refl)
      where
        go : (b : Bool) → contains cmp j are.wanted ≡ b → AreKeys are n k j → CompareAlike are n k (Some j) (Some j)
        go true e at = (are.alike n k).wanted_alike j j e e at.1 at.1
        go false e at =
            ap (nat_cmp (kind.number (new_in whole n) j)) (sym ((are.alike n k).stay j e at.0))
            ∙ tied_itself nat_cmp_total (kind.number (new_in whole n) j)
            ∙ sym (ap (nat_cmp (kind.number (new_in small n) j)) (sym ((are.alike n k).small_stay j e at.1))
            ∙ tied_itself nat_cmp_total (kind.number (new_in small n) j))

    -- So the numbers of one key of each chain at a kept place compare alike.
    pub key_pair : (place rank rank_too : ℕ) (x y : Chain) → slice_get (chains_at whole n) place ≡ Some x → slice_get (chains_at whole k) place ≡ Some y
        → slice_get (places_in whole is_in) rank ≡ Some place → slice_get (places_in whole is_in) rank_too ≡ Some place
        → (one_key : Chain → Option K) → ((z : Chain) (j : K) → one_key z ≡ Some j → Known cmp (kind.keys z) j) → CompareAlike are n k (one_key x) (one_key y)
    key_pair place rank rank_too x y there there_too ranked ranked_too one_key one_known = go (is_open whole.still.places place) refl
      where
        keys_there : (i at : ℕ) (z : Chain) → slice_get (chains_at whole i) place ≡ Some z → slice_get (places_in whole is_in) at ≡ Some place
            → (j : K) → one_key z ≡ Some j → AreKeys are n k j
        keys_there i at z e f j g = (
          kind.in_all whole i j (chain_seen kind.order whole i kind.keys j place z e (one_known z j g)),
          kind.in_all small i j (chain_seen kind.order small i kind.keys j at z (small_there part i place at z e f) (one_known z j g)),
        )

        go : (b : Bool) → is_open whole.still.places place ≡ b → CompareAlike are n k (one_key x) (one_key y)
        go true e = wanted_pair are n k (one_key x) (one_key y) (λ j f. (are.opened n place x e there j (one_known x j f), keys_there n rank x there ranked j f))
            (λ j f. (are.opened k place y e there_too j (one_known y j f), keys_there k rank_too y there_too ranked_too j f))
        go false e = subst (λ z. CompareAlike are n k (one_key x) (one_key z)) (same_Some x y (sym there ∙ same_at whole n k place e ∙ there_too))
            (same_pair (one_key x) (keys_there n rank x there ranked))

    -- At a place that is left out, two choices give the keys of the chain the same numbers if the records at all kept places before tie,
    -- and if the keys can be read from records.
    module _ {t : RecordType} {Y : Type 0} (m : Making t Y) (read : List (FieldsOf t) → List K)
        (reads : (c : ComparedChoices) (i number : ℕ) (x : Chain) → read (made_in m c i number x) ≡ kind.keys (renumbered (new_in c i) x)) where
      abbrev IsSame : K → Type 0
      IsSame j = kind.new (new_in whole n) j ≡ kind.new (new_in whole k) j

      abbrev new_at : ℕ → Bool
      new_at q = has_new_at cmp whole.still.places are.wanted (keys_along kind.keys whole.county whole.still.by_shape) q

      read_at : (i q : ℕ) (x : Chain) → slice_get (chains_at whole i) q ≡ Some x → read (made_at m whole i q) ≡ kind.keys (renumbered (new_in whole i) x)
      read_at i q x e = ap (λ o. read (unwrap_or (option_map (made_in m whole i (suc q)) o) [])) e ∙ reads whole i (suc q) x

      module _ (place : ℕ) (chain : Chain) (out : is_in place ≡ false) (before : AreTiedBefore m part n k place)
          (there : slice_get (chains_at whole n) place ≡ Some chain) where
        -- the keys at a fixed place before where one is new
        at_first : (q : ℕ) → q < place → is_open whole.still.places q ≡ false → new_at q ≡ true → (o : Option Chain)
            → slice_get (chains_at whole n) q ≡ o → (j : K) → Known cmp (unwrap_or (option_map (keys_of_chain whole n kind.keys) o) []) j → IsSame j
        at_first q l fixed new None e j h = absurd (omega (arith, h))
        at_first q l fixed new (Some x) e j h = known_all kind.order IsSame (kind.keys x ++ []) (subst (AllByRecursion IsSame) (sym (append-nil (kind.keys x)))
            (map-equal_all (kind.new (new_in whole n)) (kind.new (new_in whole k)) (kind.keys x)
            (sym (read_at n q x e ∙ kind.renumbered_keys (new_in whole n) x)
            ∙ ap read (tied_same m (made_at m whole n q) (made_at m whole k q) (fit_at m whole n q) (fit_at m whole k q) (before q l (are.kept q new)))
            ∙ read_at k q x (same_at whole k n q fixed ∙ e) ∙ kind.renumbered_keys (new_in whole k) x))) j h

        same_key : (j : K) → Known cmp (kind.keys chain) j → IsSame j
        same_key j h = go (contains cmp j are.wanted) refl
          where
            fixed : is_open whole.still.places place ≡ false
            fixed = part.fixed place out

            go : (b : Bool) → contains cmp j are.wanted ≡ b → IsSame j
            go true e =
                let nothing = false_from_ne_true (new_at place) (λ f. false≢true (sym out ∙ are.kept place f)) in
                let found = fixed_before kind.order whole.still.places (keys_along kind.keys whole.county whole.still.by_shape)
                are.wanted place nothing j e
                (subst (λ js. Known cmp js j) (sym (group_chain whole n kind.keys place chain there) ∙ group_fixed whole n kind.keys place fixed)
                (known-left kind.order j (kind.keys chain) [] h)) in
                let first = found.0 in
                at_first first.first found.1 first.fixed first.new_there (slice_get (chains_at whole n) first.first) refl j
                (subst (λ js. Known cmp js j) (sym (group_fixed whole n kind.keys first.first first.fixed) ∙ group_read whole n kind.keys first.first) first.here)
            go false e = kind.numbered whole n k j ((are.alike n k).stay j e (kind.in_all whole n j (chain_seen kind.order whole n kind.keys j place chain there h)))

        pub same_keys : AllByRecursion IsSame (kind.keys chain)
        same_keys = all_known kind.order IsSame (kind.keys chain) same_key

-- ---- the records of type I of two choices are in one order in a county and in its small county

-- ---- nodes and polygons of a chain

-- the polygon on a side, if there is one
abbrev key_if : List ℕ → Option ℕ → Option PolygonKey
key_if cenid polyid = option_map (λ p. (cenid, p)) polyid

key_listed : (cenid : List ℕ) (polyid : Option ℕ) (k : PolygonKey) → key_if cenid polyid ≡ Some k → Known key_cmp (key_under cenid polyid) k
key_listed cenid None k e = cc
key_listed cenid (Some polyid) k e =
    subst (λ j. Known key_cmp ((cenid, polyid) ∷ []) j) (same_Some (cenid, polyid) k e) (known-here key_keys (cenid, polyid) [])

start_listed : (x : Chain) (k : ℕ) → x.start_node ≡ Some k → Known nat_cmp (chain_nodes x) k
start_listed x k e = known-left nat_keys k (option_to_list x.start_node) (option_to_list x.end_node)
    (subst (λ o. Known nat_cmp (option_to_list o) k) (sym e) (known-here nat_keys k []))

end_listed : (x : Chain) (k : ℕ) → x.end_node ≡ Some k → Known nat_cmp (chain_nodes x) k
end_listed x k e = known-right nat_keys k (option_to_list x.start_node) (option_to_list x.end_node)
    (subst (λ o. Known nat_cmp (option_to_list o) k) (sym e) (known-here nat_keys k []))

left_listed : (x : Chain) (k : PolygonKey) → key_if x.left.cenid x.left.polyid ≡ Some k → Known key_cmp (chain_polygons x) k
left_listed x k e = known-left key_keys k (key_on x.left) (key_on x.right) (key_listed x.left.cenid x.left.polyid k e)

right_listed : (x : Chain) (k : PolygonKey) → key_if x.right.cenid x.right.polyid ≡ Some k → Known key_cmp (chain_polygons x) k
right_listed x k e = known-right key_keys k (key_on x.left) (key_on x.right) (key_listed x.right.cenid x.right.polyid k e)

-- a side under new numbers: the number of its polygon, or 0, and its CENID
polyid_is : (r : Renumbering) (cenid : List ℕ) (polyid : Option ℕ)
    → unwrap_or (renumbered_polygon r cenid polyid).polyid 0 ≡ unwrap_or (option_map (polygon_number r) (key_if cenid polyid)) 0
polyid_is r cenid None = refl
polyid_is r cenid (Some polyid) = refl

cenid_is : (c : ComparedChoices) (i : ℕ) (cenid : List ℕ) (polyid : Option ℕ) → (renumbered_polygon (new_in c i) cenid polyid).cenid ≡ cenid
cenid_is c i cenid None = refl
cenid_is c i cenid (Some polyid) = cenid_kept c i (cenid, polyid)

-- ---- records of type I

abbrev pub topologies : Making TypeI Chain
topologies = record {
  pieces = λ c. c ∷ [];
  make = λ r n number c. packed_i (n, renumbered r c);
  pack = λ entry. packed_i entry ∷ [];
  packs = λ r n c. refl;
  tlid = λ r. r.tlid;
  has_tlid = λ r n number c. refl;
  fit = λ county is within. all_unmap FitsRecord I (grouped (type_i_by_chain county)) (topologies_fit county is within);
  as_many = λ a b same. ap length (grouped_lone packed_i a.chains) ∙ (carried_many same.by a b same.carries).of_type_i
      ∙ sym (ap length (grouped_lone packed_i b.chains));
}

-- each place has one record, so TLIDs decide nothing before the columns
abbrev records_of : Renumbering → ℕ → List Chain → List FieldsI
records_of r n cs = grouped (map (λ (e : ℕ × Chain). packed_i (e.0, renumbered r e.1) ∷ []) (numbered_from n cs))

lone_first : (r s : Renumbering) (n : ℕ) (cs ds : List Chain) → length cs ≡ length ds
    → slice_cmp (fields_cmp TypeI) (records_of r n cs) (records_of s n ds) ≡ slice_cmp (by_tlid topologies) (records_of r n cs) (records_of s n ds)
lone_first r s n [] [] e = refl
lone_first r s n [] (d ∷ ds) e = absurd (omega (arith, e))
lone_first r s n (c ∷ cs) [] e = absurd (omega (arith, e))
lone_first r s n (c ∷ cs) (d ∷ ds) e = ap₂ ordering_then
    (sym (ap (λ o. ordering_then o (fields_cmp TypeI (packed_i (n, renumbered r c)) (packed_i (n, renumbered s d)))) (tied_itself nat_cmp_total n)))
    (lone_first r s (suc n) cs ds (omega (arith, e)))

-- a chain whose nodes and polygons have the same new numbers has the same record
module _ (r s : Renumbering) (chain : Chain) (nodes : AllByRecursion (λ k. new_node r k ≡ new_node s k) (chain_nodes chain))
    (polygons : AllByRecursion (λ k. new_polygon r k ≡ new_polygon s k) (chain_polygons chain)) where
  abbrev SameNode : ℕ → Type 0
  SameNode k = new_node r k ≡ new_node s k

  abbrev SamePolygon : PolygonKey → Type 0
  SamePolygon k = new_polygon r k ≡ new_polygon s k

  node_alike : (o : Option ℕ) → AllByRecursion SameNode (option_to_list o) → option_map (new_node r) o ≡ option_map (new_node s) o
  node_alike None h = refl
  node_alike (Some k) h = ap Some h.0

  side_alike : (cenid : List ℕ) (polyid : Option ℕ) → AllByRecursion SamePolygon (key_under cenid polyid)
      → renumbered_polygon r cenid polyid ≡ renumbered_polygon s cenid polyid
  side_alike cenid None h = refl
  side_alike cenid (Some polyid) h = ap side_of h.0

  pub same_record : (tlid : ℕ) → packed_i (tlid, renumbered r chain) ≡ packed_i (tlid, renumbered s chain)
  same_record tlid = λ i. record {
    tlid = tlid;
    body = chain.topology;
    start_node = node_alike chain.start_node (all_left SameNode (option_to_list chain.start_node) (option_to_list chain.end_node) nodes) i;
    end_node = node_alike chain.end_node (all_right SameNode (option_to_list chain.start_node) (option_to_list chain.end_node) nodes) i;
    left = side_alike chain.left.cenid chain.left.polyid (all_left SamePolygon (key_on chain.left) (key_on chain.right) polygons) i;
    right = side_alike chain.right.cenid chain.right.polyid (all_right SamePolygon (key_on chain.left) (key_on chain.right) polygons) i;
  }

-- the keys of the only record
abbrev keys_of_first : {K : Type 0} → (FieldsI → List K) → List FieldsI → List K
keys_of_first keys rs = unwrap_or (option_map keys (slice_get rs 0)) []

-- the only piece of a whole chain
only_chain : (c d : Chain) (index : ℕ) → slice_get (c ∷ []) index ≡ Some d → c ≡ d
only_chain c d zero e = cc
only_chain c d (suc index) e = cc

module _ {whole small : ComparedChoices} {is_in : ℕ → Bool} (part : IsKeptPart whole small is_in)
    (nodes : AreWanted node_kind whole small is_in) (polygons : AreWanted polygon_kind whole small is_in) (n k : ℕ) where
  -- two chains at one kept place
  module _ (place rank rank_too : ℕ) (c d : Chain) (there : slice_get (chains_at whole n) place ≡ Some c)
      (there_too : slice_get (chains_at whole k) place ≡ Some d) (ranked : slice_get (places_in whole is_in) rank ≡ Some place)
      (ranked_too : slice_get (places_in whole is_in) rank_too ≡ Some place) (side : Chain → PolygonSide)
      (listed : (x : Chain) (j : PolygonKey) → key_if (side x).cenid (side x).polyid ≡ Some j → Known key_cmp (chain_polygons x) j) where
    -- the numbers of polygons on a side compare alike,
    polyid_pair : nat_cmp (unwrap_or (renumbered_side (new_in whole n) (side c)).polyid 0) (unwrap_or (renumbered_side (new_in whole k) (side d)).polyid 0)
        ≡ nat_cmp (unwrap_or (renumbered_side (new_in small n) (side c)).polyid 0) (unwrap_or (renumbered_side (new_in small k) (side d)).polyid 0)
    polyid_pair =
        ap₂ nat_cmp (polyid_is (new_in whole n) (side c).cenid (side c).polyid) (polyid_is (new_in whole k) (side d).cenid (side d).polyid)
        ∙ key_pair polygon_kind part polygons n k place rank rank_too c d there there_too ranked ranked_too (λ x. key_if (side x).cenid (side x).polyid) listed
        ∙ sym (ap₂ nat_cmp (polyid_is (new_in small n) (side c).cenid (side c).polyid) (polyid_is (new_in small k) (side d).cenid (side d).polyid))

  -- and so do CENIDs, which stay
  cenid_pair : (one other : PolygonSide) → slice_cmp nat_cmp (renumbered_side (new_in whole n) one).cenid (renumbered_side (new_in whole k) other).cenid
      ≡ slice_cmp nat_cmp (renumbered_side (new_in small n) one).cenid (renumbered_side (new_in small k) other).cenid
  cenid_pair one other = ap₂ (slice_cmp nat_cmp) (cenid_is whole n one.cenid one.polyid ∙ sym (cenid_is small n one.cenid one.polyid))
      (cenid_is whole k other.cenid other.polyid ∙ sym (cenid_is small k other.cenid other.polyid))

  -- So the records of type I are in one order in both counties.
  pub topologies_small : groups_cmp I (type_i_by_chain (choice whole n)) (type_i_by_chain (choice whole k))
      ≡ groups_cmp I (type_i_by_chain (choice small n)) (type_i_by_chain (choice small k))
  topologies_small = records_small topologies part n k
      (λ place c out before e. ap (λ r. r ∷ []) (same_record (new_in whole n) (new_in whole k) c
      (same_keys node_kind part nodes n k topologies (keys_of_first (λ r. option_to_list r.start_node ++ option_to_list r.end_node))
      (λ o i number x. refl) place c out before e)
      (same_keys polygon_kind part polygons n k topologies (keys_of_first (λ r. key_on r.left ++ key_on r.right))
      (λ o i number x. refl) place c out before e)
      (suc place)))
      8 columns
      (λ o. ap₂ (slice_cmp (fields_cmp TypeI)) (records_are topologies o n) (records_are topologies o k)
      ∙ lone_first (new_in o n) (new_in o k) 1 (chains_at o n) (chains_at o k)
      (length_at o n ∙ sym (length_at o k))
      ∙ sym (ap₂ (slice_cmp (by_tlid topologies)) (records_are topologies o n) (records_are topologies o k)))
    where
      columns : AreAlike topologies part n k 8
      columns v w p q order same =
          let there = p.chain_there ∙ ap Some (only_chain v.chain v.piece p.index p.piece_there) in
          let there_too = ap (slice_get (chains_at whole k)) same ∙ q.chain_there ∙ ap Some (only_chain w.chain w.piece q.index q.piece_there) in
          let ranked_too = q.ranked ∙ ap Some (sym same) in
          let node = key_pair node_kind part nodes n k v.place v.rank w.rank v.piece w.piece there there_too p.ranked ranked_too in
          let start = node (λ x. x.start_node) start_listed in
          let end = node (λ x. x.end_node) end_listed in
          let polyid = polyid_pair v.place v.rank w.rank v.piece w.piece there there_too p.ranked ranked_too in
          let left = polyid (λ x. x.left) left_listed in
          let right = polyid (λ x. x.right) right_listed in
          next_column refl (next_column order (next_column start (next_column end (next_column (cenid_pair v.piece.left w.piece.left)
          (next_column left (next_column (cenid_pair v.piece.right w.piece.right) (next_column right refl)))))))

-- ---- the records of type 4 of two choices are in one order in a county and in its small county

-- pieces of a list whose elements are mapped
pieces_map : {X Y : Type 0} (f : X → Y) (n most : ℕ) (xs : List X) → pieces n most (map f xs) ≡ map (map f) (pieces n most xs)
pieces_map f n zero xs = refl
pieces_map f n (suc most) [] = refl
pieces_map f n (suc most) (x ∷ xs) = ap₂ (λ y ys. y ∷ ys) (take-map f n (x ∷ xs))
    (ap (pieces n most) (drop-map f n (x ∷ xs)) ∙ pieces_map f n most (drop n (x ∷ xs)))

-- numbered elements that are mapped
pub numbered_map : {X Y : Type 0} (f : X → Y) (n : ℕ) (xs : List X)
    → numbered_from n (map f xs) ≡ map (λ (e : ℕ × X). (e.0, f e.1)) (numbered_from n xs)
numbered_map f n [] = refl
numbered_map f n (x ∷ xs) = ap (λ es. (n, f x) ∷ es) (numbered_map f (suc n) xs)

-- a record of names under a TLID
abbrev pub four : ℕ → ℕ × List ℕ → Fields4
four tlid piece = record { tlid = tlid; rtsq = piece.0; feats = piece.1 }

-- the records of names with new numbers are made of pieces of the old ones
pub fours_made : (f : ℕ → ℕ) (tlid : ℕ) (names : List ℕ) → map (four tlid) (numbered_from 1 (in_pieces 5 (map f names)))
    ≡ map (λ (e : ℕ × List ℕ). four tlid (e.0, map f e.1)) (numbered_from 1 (in_pieces 5 names))
fours_made f tlid names =
    ap (λ most. map (four tlid) (numbered_from 1 (pieces 5 most (map f names)))) (length-map names f)
    ∙ ap (λ ps. map (four tlid) (numbered_from 1 ps)) (pieces_map f 5 (length names) names)
    ∙ ap (map (four tlid)) (numbered_map (map f) 1 (in_pieces 5 names))
    ∙ map-map (four tlid) (λ (e : ℕ × List ℕ). (e.0, map f e.1)) (numbered_from 1 (in_pieces 5 names))

-- and the names are read back from them
names_back : (tlid : ℕ) (names : List ℕ) → flat_map (λ (r : Fields4). r.feats) (map (four tlid) (numbered_from 1 (in_pieces 5 names))) ≡ names
names_back tlid names =
    flat_map-map (λ (r : Fields4). r.feats) (four tlid) (numbered_from 1 (in_pieces 5 names))
    ∙ sym (flat_map-map (λ (piece : List ℕ). piece) (λ (e : ℕ × List ℕ). e.1) (numbered_from 1 (in_pieces 5 names)))
    ∙ ap (flat_map (λ (piece : List ℕ). piece)) (rights-numbered_from 1 (in_pieces 5 names))
    ∙ pieces_together 5 (length names) names (omega arith) (omega arith)

abbrev pub fours : Making Type4 (List ℕ)
fours = record {
  pieces = λ c. in_pieces 5 c.feats;
  make = λ r n number piece. four n (number, map (new_name r) piece);
  pack = packed_fours;
  packs = λ r n c. fours_made (new_name r) n c.feats;
  tlid = λ r. r.tlid;
  has_tlid = λ r n number piece. refl;
  fit = fours_fit;
  as_many = λ a b same. ap length (grouped_map packed_fours a.chains) ∙ (carried_many same.by a b same.carries).of_type_4
      ∙ sym (ap length (grouped_map packed_fours b.chains));
}

-- a name in a piece of a chain's names
abbrev name_in : ℕ → ℕ → Chain → Option ℕ
name_in index place c = option_and_then (λ piece. slice_get piece place) (slice_get (in_pieces 5 c.feats) index)

-- such a name is one of the chain's
name_listed : (index place : ℕ) (c : Chain) (k : ℕ) → name_in index place c ≡ Some k → Known nat_cmp c.feats k
name_listed index place c k e = go (slice_get (in_pieces 5 c.feats) index) e
    (all_at (AllByRecursion (Known nat_cmp c.feats)) (in_pieces 5 c.feats)
    (all_in_pieces (Known nat_cmp c.feats) 5 (length c.feats) c.feats (all_known nat_keys (Known nat_cmp c.feats) c.feats (λ j h. h))) index)
  where
    go : (o : Option (List ℕ)) → option_and_then (λ piece. slice_get piece place) o ≡ Some k → IfSome o (AllByRecursion (Known nat_cmp c.feats))
        → Known nat_cmp c.feats k
    go None f all = cc
    go (Some piece) f all = subst (λ o. IfSome o (Known nat_cmp c.feats)) f (all_at (Known nat_cmp c.feats) piece all place)

module _ {whole small : ComparedChoices} {is_in : ℕ → Bool} (part : IsKeptPart whole small is_in) (names : AreWanted name_kind whole small is_in)
    (n k : ℕ) where
  -- The records of type 4 are in one order in both counties.
  pub fours_small : groups_cmp Four (type_4_by_chain (choice whole n)) (type_4_by_chain (choice whole k))
      ≡ groups_cmp Four (type_4_by_chain (choice small n)) (type_4_by_chain (choice small k))
  fours_small = records_small fours part n k
      (λ place c out before e. sym (fours_made (new_name (new_in whole n)) (suc place) c.feats)
      ∙ ap (λ ks. map (four (suc place)) (numbered_from 1 (in_pieces 5 ks)))
      (map_agree_all (new_name (new_in whole n)) (new_name (new_in whole k)) (λ j. new_name (new_in whole n) j ≡ new_name (new_in whole k) j) (λ j h. h) c.feats
      (same_keys name_kind part names n k fours (flat_map (λ (r : Fields4). r.feats)) back place c out before e))
      ∙ fours_made (new_name (new_in whole k)) (suc place) c.feats)
      3 columns
      (tlid_first fours (λ r s. first_twice (nat_cmp r.tlid s.tlid) (rows_cmp (drop 1 table_4) r s)) n k)
    where
      back : (c : ComparedChoices) (i tlid : ℕ) (chain : Chain) → flat_map (λ (r : Fields4). r.feats)
          (map (λ (e : ℕ × List ℕ). four tlid (e.0, map (new_name (new_in c i)) e.1)) (numbered_from 1 (in_pieces 5 chain.feats)))
          ≡ map (new_name (new_in c i)) chain.feats
      back c i tlid chain = ap (flat_map (λ (r : Fields4). r.feats)) (sym (fours_made (new_name (new_in c i)) tlid chain.feats))
          ∙ names_back tlid (map (new_name (new_in c i)) chain.feats)

      -- a place of a record has the number of the name there
      named : (c : ComparedChoices) (i index : ℕ) (chain : Chain) (piece : List ℕ) → slice_get (in_pieces 5 chain.feats) index ≡ Some piece → (place : ℕ)
          → place_number (map (new_name (new_in c i)) piece) place ≡ number_or_none name_kind c i (name_in index place chain)
      named c i index chain piece e place = ap (λ o. unwrap_or o 0) (slice_get-map (new_name (new_in c i)) piece place
          ∙ ap (option_map (new_name (new_in c i))) (sym (ap (option_and_then (λ names. slice_get names place)) e)))

      columns : AreAlike fours part n k 3
      columns v w p q order same = (order, λ _. (refl, λ tie. (pairs (exact_unsigned v.number w.number tie), λ _. refl)))
        where
          pairs : v.number ≡ w.number → places_cmp 5 (place_number (map (new_name (new_in whole n)) v.piece)) (place_number (map (new_name (new_in whole k)) w.piece))
              ≡ places_cmp 5 (place_number (map (new_name (new_in small n)) v.piece)) (place_number (map (new_name (new_in small k)) w.piece))
          pairs parts =
              let index : q.index ≡ p.index = (let left = p.counted in let right = q.counted in omega (arith, parts, left, right)) in
              let theirs = ap (slice_get (in_pieces 5 w.chain.feats)) (sym index) ∙ q.piece_there in
              places_alike 5 (place_number (map (new_name (new_in whole n)) v.piece)) (place_number (map (new_name (new_in whole k)) w.piece))
              (place_number (map (new_name (new_in small n)) v.piece)) (place_number (map (new_name (new_in small k)) w.piece)) (λ l.
              ap₂ nat_cmp (named whole n p.index v.chain v.piece p.piece_there l) (named whole k p.index w.chain w.piece theirs l)
              ∙ key_pair name_kind part names n k v.place v.rank w.rank v.chain w.chain p.chain_there (ap (slice_get (chains_at whole k)) same ∙ q.chain_there)
              p.ranked (q.ranked ∙ ap Some (sym same)) (name_in p.index l) (name_listed p.index l)
              ∙ sym (ap₂ nat_cmp (named small n p.index v.chain v.piece p.piece_there l) (named small k p.index w.chain w.piece theirs l)))
