-- The records of each type of a packed county, and their numbers.
use Rattle.canonical_form.proofs.Common.{AllByRecursion, Body7, Chain, County, IsApart, IsCounty, IsInOrder, Less, List, Type1, Type2, Type4, Type5, Type6, Type7, Type8, TypeI, TypeP, [], all_everywhere, all_map, ap, apart_from_sorted, arith, chain_tlids, feats, filter_map, five_feat, flat_map, four_tlid, i_tlid, in_order, in_order-from_strict, lefts-numbered_from, length, length-map, length-numbered_from, map, map-map, map_agree_everywhere, nat_cmp, nat_keys, numbered_from, of_its_type, of_type_1, of_type_2, of_type_4, of_type_5, of_type_6, of_type_7, of_type_8, of_type_i, of_type_p, on, one_tlid, p_polyid, packed, packed_by_type, packed_five, packed_fours, packed_i, packed_one, packed_p, packed_sevens, packed_sixes, packed_twos, refl, rights-numbered_from, rules, seven_land, six_tlid, subst, suc, sym, tlids, two_tlid, up_to, ℕ, ◌<◌, ◌∙◌, ◌∷◌, ◌≡◌}
use Rattle.std.specs.List.Sorted.{IsStrictlySortedBy}
use Rattle.county_chart.proofs.Lists.Compared.{less}

-- records that are made with a number have it
own : {X Y : Type 0} (number : X → ℕ) (n : ℕ) (make : Y → X) → ((y : Y) → number (make y) ≡ n) → (ys : List Y)
    → AllByRecursion (λ x. number x ≡ n) (map make ys)
own number n make same ys = all_map (λ x. number x ≡ n) make ys (all_everywhere (λ y. number (make y) ≡ n) same ys)

-- each record of an entry has its number
pub two_own : (e : ℕ × Chain) → AllByRecursion (λ x. two_tlid x ≡ e.0) (packed_twos e)
two_own e = search (rules, own)

pub four_own : (e : ℕ × Chain) → AllByRecursion (λ x. four_tlid x ≡ e.0) (packed_fours e)
four_own e = search (rules, own)

pub six_own : (e : ℕ × Chain) → AllByRecursion (λ x. six_tlid x ≡ e.0) (packed_sixes e)
six_own e = search (rules, own)

pub seven_own : (e : ℕ × List Body7) → AllByRecursion (λ x. seven_land x ≡ e.0) (packed_sevens e)
seven_own e = own seven_land e.0 (λ body. record { land = e.0; body = body }) (λ body. refl) e.1

-- numbers that count up ascend
pub numbered_strict : {X : Type 0} (i : ℕ) (xs : List X) → IsStrictlySortedBy nat_cmp (map (λ (e : ℕ × X). e.0) (numbered_from i xs))
unfolding IsStrictlySortedBy
numbered_strict i [] = tt
numbered_strict {X} i (x ∷ xs) = (above i (suc i) xs (omega arith), numbered_strict (suc i) xs)
  where
    above : (m j : ℕ) (ys : List X) → m < j → AllByRecursion (λ n. nat_cmp m n ≡ Less) (map (λ (e : ℕ × X). e.0) (numbered_from j ys))
    above m j [] h = tt
    above m j (y ∷ ys) h = (less m j h, above m (suc j) ys (omega arith))

-- records with the RTSQs 1, 2, 3, ..
module _ {X Y : Type 0} (rtsq : X → ℕ) (make : ℕ × Y → X) (stated : (piece : ℕ × Y) → rtsq (make piece) ≡ piece.0) where
  pub rtsqs_made : (ys : List Y) → map rtsq (map make (numbered_from 1 ys)) ≡ map (λ (piece : ℕ × Y). piece.0) (numbered_from 1 ys)
  rtsqs_made ys = map-map rtsq make (numbered_from 1 ys)
      ∙ map_agree_everywhere (λ piece. rtsq (make piece)) (λ (piece : ℕ × Y). piece.0) stated (numbered_from 1 ys)

  pub rtsqs_ordered : (ys : List Y) → IsInOrder (on rtsq nat_cmp) (map make (numbered_from 1 ys))
  rtsqs_ordered ys = in_order-from_strict rtsq (map make (numbered_from 1 ys))
      (subst (IsStrictlySortedBy nat_cmp) (sym (rtsqs_made ys)) (numbered_strict 1 ys))

  pub rtsqs_counted : (ys : List Y) → map rtsq (map make (numbered_from 1 ys)) ≡ up_to (length (map make (numbered_from 1 ys)))
  rtsqs_counted ys = rtsqs_made ys ∙ lefts-numbered_from 1 ys
      ∙ ap up_to (sym (length-map (numbered_from 1 ys) make ∙ length-numbered_from 1 ys))

  pub contents_made : {Z : Type 0} (content : X → Z) (back : Y → Z) → ((piece : ℕ × Y) → content (make piece) ≡ back piece.1) → (ys : List Y)
      → map content (map make (numbered_from 1 ys)) ≡ map back ys
  contents_made content back holds ys =
      map-map content make (numbered_from 1 ys)
      ∙ map_agree_everywhere (λ piece. content (make piece)) (λ (piece : ℕ × Y). back piece.1) holds (numbered_from 1 ys)
      ∙ sym (map-map back (λ (piece : ℕ × Y). piece.1) (numbered_from 1 ys)) ∙ ap (map back) (rights-numbered_from 1 ys)

module _ (c : County) (is : IsCounty c) where
  pub tlids_apart : IsApart nat_cmp (tlids c)
  tlids_apart = apart_from_sorted nat_keys (tlids c) is.ascending.chains

  -- the records of each type
  pub ones : of_type_1 (packed c) ≡ map packed_one c.chains
  ones = of_its_type (packed_by_type c) Type1

  pub twos : of_type_2 (packed c) ≡ flat_map packed_twos c.chains
  twos = of_its_type (packed_by_type c) Type2

  pub fours : of_type_4 (packed c) ≡ flat_map packed_fours c.chains
  fours = of_its_type (packed_by_type c) Type4

  pub fives : of_type_5 (packed c) ≡ map packed_five c.names
  fives = of_its_type (packed_by_type c) Type5

  pub sixes : of_type_6 (packed c) ≡ flat_map packed_sixes c.chains
  sixes = of_its_type (packed_by_type c) Type6

  pub sevens : of_type_7 (packed c) ≡ flat_map packed_sevens c.landmarks
  sevens = of_its_type (packed_by_type c) Type7

  pub eights : of_type_8 (packed c) ≡ c.links
  eights = of_its_type (packed_by_type c) Type8

  pub links_of_chains : of_type_i (packed c) ≡ map packed_i c.chains
  links_of_chains = of_its_type (packed_by_type c) TypeI

  pub polygons_packed : of_type_p (packed c) ≡ in_order (on p_polyid nat_cmp) (filter_map packed_p c.polygons)
  polygons_packed = of_its_type (packed_by_type c) TypeP

  -- their numbers
  pub chain_numbers : chain_tlids (packed c) ≡ tlids c
  chain_numbers = ap (map one_tlid) ones ∙ map-map one_tlid packed_one c.chains

  pub link_numbers : map i_tlid (of_type_i (packed c)) ≡ tlids c
  link_numbers = ap (map i_tlid) links_of_chains ∙ map-map i_tlid packed_i c.chains

  pub name_numbers : map five_feat (of_type_5 (packed c)) ≡ feats c
  name_numbers = ap (map five_feat) fives ∙ map-map five_feat packed_five c.names
