-- Lists with the same records break the same rules at the same places.
use Rattle.tl_county.proofs.Common.{Among, Bool, ChainTwice, Fields4, FieldsI, FieldsOf, FieldsP, I, IsFirstBrokenRule, IsLinked, Known, LandUnknown, LinkFault, LinkMissing, LinkTwice, LinkedType, List, Memory, NameTwice, NameUnknown, NoChain, PolygonKey, PolygonTwice, PolygonUnknown, Record, RecordType, SameElements, SequenceBroken, Type1, Type2, Type4, Type5, Type6, Type7, Type8, TypeI, TypeP, among-map, among-pieces, among-unmap, among-unpieces, among_known, ap, apart-same, apart_from_no_repeat, ap₂, as_type, chain_tlids, contains, contains_alike, eight_land, false, false≢true, five_feat, flat_map, four_rtsq, four_tlid, has_repeat, has_repeat-apart, i_tlid, inl, inr, is_rule_broken, key_cmp, key_keys, known-append, known-left, known-right, known_is_among, link_key, linked_tlids, map, named_feats, nat_cmp, nat_keys, nat_lt, not, of_number, of_type, of_type_2, of_type_4, of_type_5, of_type_6, of_type_7, of_type_8, of_type_i, of_type_p, one_tlid, p_key, pieces_alike, refl, rtsqs, same-filter, same-filter_map, same-map, seven_land, side_keys, six_rtsq, six_tlid, subst, sym, times-same, true, two_rtsq, two_tlid, ℕ, ◌&&◌, ◌++◌, ◌==◌, ◌∙◌, ◌≡◌, ◌⊎◌}
use Rattle.county_chart.specs.declared.fault.LinkedType.TheVariants.{Four, Six, Two}
use Rattle.county_chart.specs.declared.fault.SequencedType.TheVariants as sequenced

-- the same, seen from the other list
pub same-sym : {X : Type 0} (xs ys : List X) → SameElements xs ys → SameElements ys xs
same-sym xs ys s = record { counts = λ p. sym (s.counts p); there = s.back; back = s.there }

repeat_kept : (us vs : List ℕ) → SameElements us vs → has_repeat nat_cmp us ≡ false → has_repeat nat_cmp vs ≡ false
repeat_kept us vs s e = has_repeat-apart nat_keys vs (apart-same nat_cmp us vs s (apart_from_no_repeat nat_keys us e))

repeat_same : (us vs : List ℕ) → SameElements us vs → has_repeat nat_cmp us ≡ has_repeat nat_cmp vs
repeat_same us vs s = go (has_repeat nat_cmp us) (has_repeat nat_cmp vs) refl refl
  where
    go : (a b : Bool) → has_repeat nat_cmp us ≡ a → has_repeat nat_cmp vs ≡ b → a ≡ b
    go true true e f = refl
    go false false e f = refl
    go true false e f = absurd (false≢true (sym (repeat_kept vs us (same-sym us vs s) f) ∙ e))
    go false true e f = absurd (false≢true (sym (repeat_kept us vs s e) ∙ f))

sequence_of : {X : Type 0} (number rtsq : X → ℕ) (n : ℕ) (us vs : List X) → SameElements us vs
    → SameElements (map rtsq (of_number number n us)) (map rtsq (of_number number n vs))
sequence_of number rtsq n us vs s = same-map rtsq (of_number number n us) (of_number number n vs) (same-filter (λ x. number x == n) us vs s)

module _ (xs ys : List Record) (s : SameElements xs ys) where
  -- the same records of each type
  pub same_of_type : (t : RecordType) → SameElements (of_type t xs) (of_type t ys)
  same_of_type t = same-filter_map (as_type t) xs ys s

  pub same_in_type : {Y : Type 0} (t : RecordType) (f : FieldsOf t → Y) → SameElements (map f (of_type t xs)) (map f (of_type t ys))
  same_in_type t f = same-map f (of_type t xs) (of_type t ys) (same_of_type t)

  s_linked : (t : LinkedType) → SameElements (linked_tlids t xs) (linked_tlids t ys)
  s_linked Two = same_in_type Type2 two_tlid
  s_linked Four = same_in_type Type4 four_tlid
  s_linked Six = same_in_type Type6 six_tlid
  s_linked I = same_in_type TypeI i_tlid

  s_fours_of : (n : ℕ) → SameElements (of_number four_tlid n (of_type_4 xs)) (of_number four_tlid n (of_type_4 ys))
  s_fours_of n = same-filter (λ r. r.tlid == n) (of_type_4 xs) (of_type_4 ys) (same_of_type Type4)

  -- the FEATs that a chain names
  named_alike : (n y : ℕ) → contains nat_cmp y (named_feats n xs) ≡ contains nat_cmp y (named_feats n ys)
  named_alike n y = pieces_alike nat_keys (λ (q : Fields4). q.feats) (of_number four_tlid n (of_type_4 xs))
      (of_number four_tlid n (of_type_4 ys)) (s_fours_of n) y

  -- the polygons on sides and of type P
  one_way : (zs ws : List Record) → ((l : FieldsI) → Among l (of_type_i zs) → Among l (of_type_i ws))
      → ((q : FieldsP) → Among q (of_type_p zs) → Among q (of_type_p ws)) → (k : PolygonKey)
      → Known key_cmp (flat_map side_keys (of_type_i zs) ++ map p_key (of_type_p zs)) k
      → Known key_cmp (flat_map side_keys (of_type_i ws) ++ map p_key (of_type_p ws)) k
  one_way zs ws sides polygons k h = go (known-append key_keys k (flat_map side_keys (of_type_i zs)) (map p_key (of_type_p zs)) h)
    where
      go : Known key_cmp (flat_map side_keys (of_type_i zs)) k ⊎ Known key_cmp (map p_key (of_type_p zs)) k
          → Known key_cmp (flat_map side_keys (of_type_i ws) ++ map p_key (of_type_p ws)) k
      go (inl l) = let r = among-unpieces side_keys k (of_type_i zs) (known_is_among key_keys k (flat_map side_keys (of_type_i zs)) l) in
          known-left key_keys k (flat_map side_keys (of_type_i ws)) (map p_key (of_type_p ws))
          (among_known key_keys k (flat_map side_keys (of_type_i ws)) (among-pieces side_keys r.0 k (of_type_i ws) (sides r.0 r.1) r.2))
      go (inr l) = let r = among-unmap p_key k (of_type_p zs) (known_is_among key_keys k (map p_key (of_type_p zs)) l) in
          known-right key_keys k (flat_map side_keys (of_type_i ws)) (map p_key (of_type_p ws))
          (subst (Known key_cmp (map p_key (of_type_p ws))) (sym r.2)
          (among_known key_keys (p_key r.0) (map p_key (of_type_p ws)) (among-map p_key r.0 (of_type_p ws) (polygons r.0 r.1))))

  pub keys_alike : (k : PolygonKey) → contains key_cmp k (flat_map side_keys (of_type_i xs) ++ map p_key (of_type_p xs)) ≡ contains key_cmp k
      (flat_map side_keys (of_type_i ys) ++ map p_key (of_type_p ys))
  keys_alike k = contains_alike key_keys (flat_map side_keys (of_type_i xs) ++ map p_key (of_type_p xs))
      (flat_map side_keys (of_type_i ys) ++ map p_key (of_type_p ys)) k
      (one_way xs ys (same_of_type TypeI).there (same_of_type TypeP).there k) (one_way ys xs (same_of_type TypeI).back (same_of_type TypeP).back k)

  pub same-broken : (f : LinkFault) → is_rule_broken xs f ≡ is_rule_broken ys f
  same-broken (ChainTwice n) = ap (nat_lt 1) (times-same nat_cmp (chain_tlids xs) (chain_tlids ys) (same_in_type Type1 one_tlid) n)
  same-broken (NoChain t n) =
      ap₂ (λ a b. nat_lt 0 a && not (nat_lt 0 b)) (times-same nat_cmp (linked_tlids t xs) (linked_tlids t ys) (s_linked t) n)
      (times-same nat_cmp (chain_tlids xs) (chain_tlids ys) (same_in_type Type1 one_tlid) n)
  same-broken (SequenceBroken sequenced.Two n) =
      repeat_same (rtsqs sequenced.Two n xs) (rtsqs sequenced.Two n ys)
      (sequence_of two_tlid two_rtsq n (of_type_2 xs) (of_type_2 ys) (same_of_type Type2))
  same-broken (SequenceBroken sequenced.Four n) =
      repeat_same (rtsqs sequenced.Four n xs) (rtsqs sequenced.Four n ys)
      (sequence_of four_tlid four_rtsq n (of_type_4 xs) (of_type_4 ys) (same_of_type Type4))
  same-broken (SequenceBroken sequenced.Six n) =
      repeat_same (rtsqs sequenced.Six n xs) (rtsqs sequenced.Six n ys)
      (sequence_of six_tlid six_rtsq n (of_type_6 xs) (of_type_6 ys) (same_of_type Type6))
  same-broken (LinkMissing n) =
      ap₂ (λ a b. nat_lt 0 a && not (nat_lt 0 b)) (times-same nat_cmp (chain_tlids xs) (chain_tlids ys) (same_in_type Type1 one_tlid) n)
      (times-same nat_cmp (linked_tlids I xs) (linked_tlids I ys) (s_linked I) n)
  same-broken (LinkTwice n) = ap (nat_lt 1) (times-same nat_cmp (linked_tlids I xs) (linked_tlids I ys) (s_linked I) n)
  same-broken (NameTwice n) = ap (nat_lt 1) (times-same nat_cmp (map five_feat (of_type_5 xs)) (map five_feat (of_type_5 ys)) (same_in_type Type5 five_feat) n)
  same-broken (NameUnknown n y) =
      ap₂ (λ a b. a && not (nat_lt 0 b)) (named_alike n y)
      (times-same nat_cmp (map five_feat (of_type_5 xs)) (map five_feat (of_type_5 ys)) (same_in_type Type5 five_feat) y)
  same-broken (PolygonTwice c k) =
      ap (nat_lt 1)
      (times-same key_cmp (map p_key (of_type_p xs)) (map p_key (of_type_p ys)) (same_in_type TypeP p_key) (c, k))
  same-broken (LandUnknown n) =
      ap₂ (λ a b. nat_lt 0 a && not (nat_lt 0 b))
      (times-same nat_cmp (map eight_land (of_type_8 xs)) (map eight_land (of_type_8 ys)) (same_in_type Type8 eight_land) n)
      (times-same nat_cmp (map seven_land (of_type_7 xs)) (map seven_land (of_type_7 ys)) (same_in_type Type7 seven_land) n)
  same-broken (PolygonUnknown c k) =
      ap₂ (λ a b. nat_lt 0 a && not b)
      (times-same key_cmp (map link_key (of_type_8 xs)) (map link_key (of_type_8 ys)) (same_in_type Type8 link_key) (c, k)) (keys_alike (c, k))
  same-broken Memory = refl

  pub same-linked : IsLinked xs → IsLinked ys
  same-linked linked f = sym (same-broken f) ∙ linked f

  pub same-first : (f : LinkFault) → IsFirstBrokenRule xs f → IsFirstBrokenRule ys f
  same-first f h = record { there = sym (same-broken f) ∙ h.there; least = λ g t. h.least g (same-broken g ∙ t) }
