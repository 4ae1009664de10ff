-- The remaining choices of a county, which differ at places still open.
use Rattle.tl_number.proofs.Common.{AgreeApart, AgreeButOpen, AllKeysContained, Among, AreSame, AreWhole, AreWithin, Arrangement, Arranges, Bool, Chain, County, DirectedChain, Fields8, HasChainsOf, IsCounty, IsTrue, IsWithinLimits, Known, LeavesChoices, List, None, Option, OrderOfShapes, PolygonKey, Renumbering, Some, agree_both, all_among, ap, arranged, arrangement_carries, arrangement_of, arrangement_of_number, arrangement_of_number_once, arrangement_of_number_there, arranges, at_places, bodies_read, chains, chains_arranged, choices_same, contains, directed_chain, false, few_chains, filter, image, image-keeps, is_open, kept_entry, key_cmp, key_keys, known_all, length, link_key, ltb-true, map, most_records, moved_apart, moved_count, numbered_arrangement, numbered_choice, numbered_from, option_map, other_way, polygon_keys, polygons_along, range_with_len, read_length, refl, renaming_of, slice_get, slice_get-map, subst, sym, times, true, whole_arrangement, ℕ, ◌∙◌, ◌≡◌}
use Rattle.tl_number.proofs.Choices.MovedParts.{moved-zero}
use Rattle.tl_number.proofs.Ties.Places.{closed_apart}
use Rattle.canonical_form.proofs.Choices.ChosenArrangements.{places_in_order}

-- a county with an order of its shapes that leaves its choices
pub record OrderedCounty : Type 0 where
  pub county : County
  pub shapes : OrderOfShapes
  pub known : LeavesChoices county shapes
  pub is : IsCounty county
  pub within : IsWithinLimits most_records county

-- Choices of a county, each made from the base arrangement by moves at the places still open.
pub record ComparedChoices : Type 0 where
  pub county : County
  pub shapes : OrderOfShapes
  pub known : LeavesChoices county shapes
  pub is : IsCounty county
  pub within : IsWithinLimits most_records county
  -- the base arrangement with the places still open, and the number of the choice that it is
  pub still : OrderOfShapes
  pub base : ℕ
  pub based : still.by_shape ≡ numbered_arrangement shapes base
  pub inside : AreWithin (length still.by_shape) still.places
  pub opened : (place : ℕ) → is_open still.places place ≡ true → is_open shapes.places place ≡ true
  -- each choice's number, and the number of the moves that make it
  pub number : ℕ → ℕ
  pub digits : ℕ → ℕ
  pub stand : (i : ℕ) → numbered_arrangement still (digits i) ≡ numbered_arrangement shapes (number i)

-- choices of a county with these numbers, all of whose open places are still open
abbrev pub choices_with : OrderedCounty → (ℕ → ℕ) → ComparedChoices
choices_with c number = record {
  county = c.county;
  shapes = c.shapes;
  known = c.known;
  is = c.is;
  within = c.within;
  still = c.shapes;
  base = 0;
  based = sym (ap (λ r. r.0) (moved-zero other_way c.shapes.places c.shapes.by_shape c.known.within));
  inside = c.known.within;
  opened = λ place e. e;
  number = number;
  digits = number;
  stand = λ i. refl;
}

-- all its choices
abbrev pub all_choices : OrderedCounty → ComparedChoices
all_choices c = choices_with c (λ i. i)

-- the base arrangement
module _ (c : ComparedChoices) where
  pub base_count : length c.still.by_shape ≡ length c.shapes.by_shape
  base_count = ap length c.based ∙ moved_count other_way c.shapes.places c.shapes.by_shape c.base c.known.within

  pub base_there : HasChainsOf c.county c.still.by_shape
  base_there = arrangement_of_number_there c.county c.is c.shapes.by_shape c.known.order.by_shape c.shapes.places (c.known.order.places c.known.few)
      c.still.by_shape c.base c.based

  pub base_stated : arrangement_of c.county c.still.by_shape ≡ numbered_choice c.county c.base
  base_stated = arrangement_of_number c.county c.is c.shapes.by_shape c.known.order.by_shape c.shapes.places (c.known.order.places c.known.few)
      c.still.by_shape c.base c.based

-- One of these choices.
module _ (c : ComparedChoices) (i : ℕ) where
  -- its directed chains, its arrangement, its new numbers, and its county
  abbrev pub directed_in : List DirectedChain
  directed_in = numbered_arrangement c.still (c.digits i)

  abbrev pub order_in : Arrangement
  order_in = arrangement_of c.county directed_in

  abbrev pub new_in : Renumbering
  new_in = renaming_of c.county order_in

  abbrev pub choice : County
  choice = arranged c.county order_in

  -- each chain is there once
  pub whole_in : AreWhole c.county directed_in
  whole_in = whole_arrangement c.county directed_in c.is c.within
      (arrangement_of_number_there c.county c.is c.shapes.by_shape c.known.order.by_shape c.shapes.places (c.known.order.places c.known.few)
      directed_in (c.number i) (c.stand i))
      (arrangement_of_number_once c.county c.is c.shapes.by_shape c.known.order.by_shape c.shapes.places (c.known.order.places c.known.few)
      directed_in (c.number i) (c.stand i)) c.known.sides (few_chains c.county c.within)

  pub arranges_in : Arranges order_in c.county
  arranges_in = arranges c.county directed_in c.is whole_in

  -- the arrangement is the one with the choice's number
  pub stated : order_in ≡ numbered_choice c.county (c.number i)
  stated = arrangement_of_number c.county c.is c.shapes.by_shape c.known.order.by_shape c.shapes.places (c.known.order.places c.known.few)
      directed_in (c.number i) (c.stand i)

  -- at a place no longer open each choice has the directed chain of the base arrangement
  pub fixed_there : (place : ℕ) → is_open c.still.places place ≡ false → slice_get directed_in place ≡ slice_get c.still.by_shape place
  fixed_there place fixed = moved_apart other_way c.still.places c.still.by_shape (c.digits i) c.inside place (closed_apart place c.still.places fixed)

  pub count_in : length directed_in ≡ length c.still.by_shape
  count_in = moved_count other_way c.still.places c.still.by_shape (c.digits i) c.inside

  -- the chains in their new order, read from the directed chains
  abbrev pub chains_at : List Chain
  chains_at = chains c.county directed_in c.is whole_in

  pub read_in : map (directed_chain c.county) directed_in ≡ map Some chains_at
  read_in = bodies_read c.county directed_in c.is whole_in directed_in whole_in.there

  pub length_at : length chains_at ≡ length c.still.by_shape
  length_at = read_length (directed_chain c.county) directed_in chains_at read_in ∙ count_in

  -- their TLIDs count from 1, and they have the new numbers
  pub chains_numbered : choice.chains ≡ map (kept_entry new_in) (numbered_from 1 chains_at)
  chains_numbered = chains_arranged c.county order_in c.is arranges_in

  -- a polygon keeps its CENID
  pub cenid_kept : (k : PolygonKey) → (image key_cmp new_in.polygons k).0 ≡ k.0
  cenid_kept = image-keeps new_in.polygons (arrangement_carries c.county order_in c.is arranges_in c.known.sides).numbers.cenids

-- two choices of a county agree, except for what open places move
pub agree_in : (c : OrderedCounty) (n k : ℕ)
    → AgreeButOpen c.county c.shapes.places (numbered_arrangement c.shapes n) (numbered_arrangement c.shapes k)
agree_in c n k = record {
  whole = whole_in (all_choices c) n;
  other_whole = whole_in (all_choices c) k;
  count = count_in (all_choices c) n ∙ sym (count_in (all_choices c) k);
  within = subst (λ count. AreWithin count c.shapes.places) (sym (count_in (all_choices c) n)) c.known.within;
  in_order = places_in_order c.county c.is c.shapes.by_shape c.known.order.by_shape c.shapes.places (c.known.order.places c.known.few);
  apart = agree_both c.shapes.places (numbered_arrangement c.shapes n) (numbered_arrangement c.shapes k) c.shapes.by_shape (apart n) (apart k);
} where
  apart : (i : ℕ) → AgreeApart c.shapes.places (numbered_arrangement c.shapes i) c.shapes.by_shape
  apart i = moved_apart other_way c.shapes.places c.shapes.by_shape i c.known.within

-- at a place no longer open all these choices have one chain
pub same_at : (c : ComparedChoices) (n k place : ℕ) → is_open c.still.places place ≡ false
    → slice_get (chains_at c n) place ≡ slice_get (chains_at c k) place
same_at c n k place fixed = both (slice_get (chains_at c n) place) (slice_get (chains_at c k) place)
    (read_at n ∙ ap (option_map (directed_chain c.county)) (fixed_there c n place fixed ∙ sym (fixed_there c k place fixed)) ∙ sym (read_at k))
  where
    read_at : (i : ℕ) → option_map Some (slice_get (chains_at c i) place) ≡ option_map (directed_chain c.county) (slice_get (directed_in c i) place)
    read_at i = sym (slice_get-map Some (chains_at c i) place) ∙ ap (λ os. slice_get os place) (sym (read_in c i))
        ∙ slice_get-map (directed_chain c.county) (directed_in c i) place

    both : (o p : Option Chain) → option_map Some o ≡ option_map Some p → o ≡ p
    both None None f = refl
    both None (Some x) f = cc
    both (Some x) None f = cc
    both (Some x) (Some y) f = (let same : Some x ≡ Some y = cc in same)

-- the counties of two choices are the same map
pub one_map : (c : ComparedChoices) (n k : ℕ) → AreSame (choice c n) (choice c k)
one_map c n k = subst (λ a. AreSame (arranged c.county a) (choice c k)) (sym (stated c n))
    (subst (λ a. AreSame (arranged c.county (numbered_choice c.county (c.number n))) (arranged c.county a)) (sym (stated c k))
    (choices_same c.county c.is c.known.sides (c.number n) (c.number k)))

-- the places of an arrangement that pass a test
abbrev pub places_in : ComparedChoices → (ℕ → Bool) → List ℕ
places_in c is_in = filter is_in (range_with_len 0 (length c.still.by_shape))

-- A small county has the chains at kept places, in each choice. No place that isn't kept is still open.
pub record IsKeptPart (whole small : ComparedChoices) (is_in : ℕ → Bool) : Type 0 where
  pub fixed : (place : ℕ) → is_in place ≡ false → is_open whole.still.places place ≡ false
  pub chains : (i : ℕ) → chains_at small i ≡ at_places (chains_at whole i) (places_in whole is_in)

-- the polygon of a link is on a side
pub link_on_side : (county : County) → IsCounty county → AllKeysContained (polygons_along county.chains) (polygon_keys county)
    → (link : Fields8) → Among link county.links → Known key_cmp (polygons_along county.chains) (link_key link)
link_on_side county is sides link there =
    let known : IsTrue (contains key_cmp (link_key link) (polygon_keys county)) =
    all_among (λ l. IsTrue (contains key_cmp (link_key l) (polygon_keys county))) link county.links is.closed.link_polygons there in
    ltb-true 0 (times key_cmp (link_key link) (polygons_along county.chains))
    (known_all key_keys (λ k. IsTrue (contains key_cmp k (polygons_along county.chains))) (polygon_keys county) sides (link_key link)
    (ltb-true 0 (times key_cmp (link_key link) (polygon_keys county)) known))
