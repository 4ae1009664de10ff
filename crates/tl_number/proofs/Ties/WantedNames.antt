-- The numbers of names in two choices compare alike in a county and in its small county.
use Rattle.tl_number.proofs.Common.{Body5, Bool, Chain, County, DirectedChain, IsApart, IsInOrder, IsPermutation, Known, List, None, Option, Some, all_known, ap, apart-filter, apart-permutation, apart-permutation_of, apart_from_sorted, append-nil, ap₂, chain_feats, contains, directed_chain, feats, feats_along, feats_along_arrangement, feats_of, filter, filter-mapped, first_seen, flat_map, flat_map_agree, grouped, grouped_map, in_order-filter, in_order-permutation, keys_along, length, length_permutation, ltb-true, name_body_cmp, name_under, nat_cmp, nat_keys, option_cmp, option_to_list, ordering_then, place_in, rank_of, ranked_there, refl, subst, sym, times, true, wanted_feats, ℕ, ◌∙◌, ◌≡◌}
use Rattle.tl_number.proofs.Lists.OrderPlaces.{in_order-among}
use Rattle.tl_number.proofs.Names.NamePlaces.{feat_cmp, feat_keys, feats_ordered, feats_permuted, name_stays}
use Rattle.tl_number.proofs.Ties.KeyKinds.{AreNumberedAlike, AreSeenAlike, name_kind, numbered_alike, seen_in}
use Rattle.tl_number.proofs.Ties.ListsAlike.{value_filtered}
use Rattle.tl_number.proofs.Ties.ComparedChoices.{ComparedChoices, directed_in, whole_in}
use Rattle.tl_number.proofs.Ties.Ranks.{AreReordered, before_alike, in_filtered, masked_by, masked_from_stay, next_cmp, places_alike, to_filtered}
use Rattle.tl_number.specs.CountyParts.{part_of}

-- the FEATs of all chains, one after another, are those along the arrangement
feats_grouped : (county : County) (arrangement : List DirectedChain)
    → grouped (keys_along chain_feats county arrangement) ≡ feats_along_arrangement county arrangement
feats_grouped county arrangement =
    grouped_map (λ (directed : DirectedChain). flat_map chain_feats (option_to_list (directed_chain county directed))) arrangement
    ∙ flat_map_agree (λ (directed : DirectedChain). flat_map chain_feats (option_to_list (directed_chain county directed)))
    (λ directed. feats_of (directed_chain county directed)) (λ directed. same (directed_chain county directed)) arrangement
  where
    same : (chain : Option Chain) → flat_map chain_feats (option_to_list chain) ≡ feats_of chain
    same None = refl
    same (Some chain) = append-nil chain.feats

-- The names of a county in a choice.
module _ (c : ComparedChoices) where
  -- the FEATs of all names in their order, and the FEATs of chains by first appearance
  abbrev names_of : ℕ → List ℕ
  names_of = name_kind.list c

  abbrev feats_seen : ℕ → List ℕ
  feats_seen = seen_in nat_cmp chain_feats c

  -- read along the chains
  seen_is : (n : ℕ) → feats_seen n ≡ first_seen nat_cmp (feats_along_arrangement c.county (directed_in c n))
  seen_is n = ap (first_seen nat_cmp) (feats_grouped c.county (directed_in c n))

  -- all names have a place, and each has one
  permuted : (n : ℕ) → IsPermutation (names_of n) (feats c.county)
  permuted n = feats_permuted c.county (directed_in c n) c.is (whole_in c n)

  once : (n : ℕ) → IsApart nat_cmp (names_of n)
  once n = apart-permutation nat_keys (names_of n) (feats c.county) (permuted n) (apart_from_sorted nat_keys (feats c.county) c.is.ascending.names)

  -- they differ in wanted names alone if the names by first appearance do
  names_masked : (wanted : ℕ → Bool) (n m : ℕ) → AreReordered nat_keys wanted (feats_seen n) (feats_seen m)
      → masked_by wanted (names_of n) ≡ masked_by wanted (names_of m)
  names_masked wanted n m are =
      masked_from_stay nat_keys wanted (names_of n) (names_of m) (once n) (once m) (as_many n ∙ sym (as_many m))
      (λ k e. name_stays c.county c.is (directed_in c n) (directed_in c m) (whole_in c n) (whole_in c m) (feats_seen n) (feats_seen m)
      (seen_is n) (seen_is m) are.alike k (before_alike nat_keys wanted (feats_seen n) (feats_seen m) are k e))
    where
      as_many : (i : ℕ) → length (names_of i) ≡ length (feats c.county)
      as_many i = sym (length_permutation (names_of i) (feats c.county) (permuted i))

  -- they are in the order of content, rank and FEAT
  names_ordered : (n : ℕ) → IsInOrder (feat_cmp c.county (feats_seen n)) (names_of n)
  names_ordered n = feats_ordered c.county (directed_in c n) c.is (whole_in c n) (feats_seen n) (seen_is n)

-- A county and its small county, whose names have their contents.
module _ (whole small : ComparedChoices) (alike : AreSeenAlike name_kind (wanted_feats whole.county whole.still) whole small)
    (same_content : (k : ℕ) → Known nat_cmp (feats small.county) k → name_under small.county k ≡ name_under whole.county k) where
  -- the names that are wanted
  abbrev wanted : ℕ → Bool
  wanted k = contains nat_cmp k (wanted_feats whole.county whole.still)

  -- each of them is a name of a chain, in both counties
  wanted_seen : (n k : ℕ) → wanted k ≡ true → Known nat_cmp (feats_seen whole n) k
  wanted_seen n k e = alike.opened_seen n k (ltb-true 0 (times nat_cmp k (wanted_feats whole.county whole.still)) e)

  wanted_in_small : (n k : ℕ) → wanted k ≡ true → Known nat_cmp (feats_seen small n) k
  wanted_in_small n k e = alike.opened_small n k (ltb-true 0 (times nat_cmp k (wanted_feats whole.county whole.still)) e)

  -- and named there
  wanted_named : (n k : ℕ) → wanted k ≡ true → Known nat_cmp (feats small.county) k
  wanted_named n k e = name_kind.in_all small n k (wanted_in_small n k e)

  -- Wanted names compare alike in both counties: their ranks compare as the places of wanted names, which are in one order.
  wanted_alike : (n j k : ℕ) → wanted j ≡ true → wanted k ≡ true → feat_cmp small.county (feats_seen small n) j k ≡ feat_cmp whole.county (feats_seen whole n) j k
  wanted_alike n j k e f =
      λ i. ordering_then (option_cmp name_body_cmp (same_content j (wanted_named n j e) i) (same_content k (wanted_named n k f) i))
      (ordering_then (ranks i) (nat_cmp j k))
    where
      ranked : (ks : List ℕ) → Known nat_cmp ks j → Known nat_cmp ks k → nat_cmp (rank_of ks (Some j)) (rank_of ks (Some k))
          ≡ nat_cmp (place_in nat_cmp (filter wanted ks) j) (place_in nat_cmp (filter wanted ks) k)
      ranked ks h l = ap₂ nat_cmp (ranked_there ks j h) (ranked_there ks k l) ∙ next_cmp (place_in nat_cmp ks j) (place_in nat_cmp ks k)
          ∙ places_alike nat_keys wanted ks ks refl j k e f

      ranks : nat_cmp (rank_of (feats_seen small n) (Some j)) (rank_of (feats_seen small n) (Some k))
          ≡ nat_cmp (rank_of (feats_seen whole n) (Some j)) (rank_of (feats_seen whole n) (Some k))
      ranks = ranked (feats_seen small n) (wanted_in_small n j e) (wanted_in_small n k f)
          ∙ ap (λ ks. nat_cmp (place_in nat_cmp ks j) (place_in nat_cmp ks k)) (sym (alike.same n))
          ∙ sym (ranked (feats_seen whole n) (wanted_seen n j e) (wanted_seen n k f))

  -- so they are in one order
  same_names : (n : ℕ) → filter wanted (names_of whole n) ≡ filter wanted (names_of small n)
  same_names n =
      in_order-permutation (feat_keys whole.county (feats_seen whole n)) (filter wanted (names_of whole n)) (filter wanted (names_of small n))
      (in_order-filter (feat_cmp whole.county (feats_seen whole n)) wanted (names_of whole n) (names_ordered whole n))
      (in_order-among (feat_cmp small.county (feats_seen small n)) (feat_cmp whole.county (feats_seen whole n)) (λ k. wanted k ≡ true) (wanted_alike n)
      (filter wanted (names_of small n))
      (all_known nat_keys (λ k. wanted k ≡ true) (filter wanted (names_of small n)) (λ k h. (in_filtered nat_keys wanted (names_of small n) k h).1))
      (in_order-filter (feat_cmp small.county (feats_seen small n)) wanted (names_of small n) (names_ordered small n)))
      (apart-permutation_of nat_keys (filter wanted (names_of whole n)) (filter wanted (names_of small n))
      (apart-filter nat_keys wanted (names_of whole n) (once whole n)) (apart-filter nat_keys wanted (names_of small n) (once small n))
      (λ k h. (let e = (in_filtered nat_keys wanted (names_of whole n) k h).1 in to_filtered nat_keys wanted (names_of small n) k
      (name_kind.listed small n k (wanted_named n k e)) e))
      (λ k h. (let e = (in_filtered nat_keys wanted (names_of small n) k h).1 in to_filtered nat_keys wanted (names_of whole n) k
      (name_kind.listed whole n k (name_kind.in_all whole n k (wanted_seen n k e))) e)))

  -- The numbers of names compare alike.
  pub names_alike : (n m : ℕ) → AreNumberedAlike name_kind (wanted_feats whole.county whole.still) whole small n m
  names_alike = numbered_alike name_kind (wanted_feats whole.county whole.still) whole small
      (λ n m. names_masked whole wanted n m (alike.reordered n m)) (λ n m. names_masked small wanted n m (alike.small_reordered n m)) same_names

-- A name of a part of a county has its content of the county.
pub part_contents : (county : County) (keeps : ℕ × Chain → Bool) (with_lands : List ℕ) (k : ℕ)
    → Known nat_cmp (feats (part_of county keeps with_lands)) k
    → name_under (part_of county keeps with_lands) k ≡ name_under county k
unfolding part_of
part_contents county keeps with_lands k h =
    let used : ℕ → Bool = λ feat. contains nat_cmp feat (feats_along (filter keeps county.chains)) in
    value_filtered nat_keys used county.names k (in_filtered nat_keys used (feats county) k
    (subst (λ ks. Known nat_cmp ks k) (sym (filter-mapped used (λ (name : ℕ × Body5). name.0) county.names)) h)).1
