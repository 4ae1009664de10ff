-- Records of type 1 by the digits of choices, and the least choice among those with the least records of type 1.
use Rattle.std.specs.Prelude.{Bool, List, drop, false, length, nat_lt, slice_get, take, true, ℕ, ◌*◌, ◌++◌, ◌+◌, ◌-◌, ◌<◌, ◌≡◌, ◌≤◌}
use Rattle.std.specs.Ordering.{is_gt}
use Rattle.std.proofs.Common.{Some, ap, arith, get_or, mul_comm, refl, sym, ◌∙◌}
use Rattle.std.proofs.lemmas.Bool.{false≢true, ltb-false, ltb-true}
use Rattle.std.proofs.lemmas.Option.{slice_get-get_or, slice_get_past}
use Rattle.tl_shape.specs.PointOrder.{points_cmp}
use Rattle.ordered_lists.proofs.ByKey.KeyOrders.{bytes_keys}
use Rattle.ordered_lists.proofs.Lists.Counted.{all_drop, all_take}
use Rattle.county_chart.specs.Choices.{choices, is_either_way, most_choices}
use Rattle.county_chart.specs.declared.directed_chain.DirectedChain.{DirectedChain}
use Rattle.county_chart.specs.declared.open_place.OpenPlace.{OpenPlace}
use Rattle.county_chart.proofs.Profile.SameChoices.{choices_stated}
use Rattle.canonical_form.specs.Arrangement.{arranged}
use Rattle.canonical_form.specs.LeastNumber.{IsLeastBelow, choice_list}
use Rattle.canonical_form.specs.MovedChains.{other_way}
use Rattle.record_groups.specs.RecordOrder.{records_cmp, spelling_cmp}
use Rattle.record_groups.specs.TypeOneOrder.{one_at, ones_cmp, ones_of}
use Rattle.record_groups.proofs.Texts.GroupOrders.{records_total}
use Rattle.record_groups.proofs.Texts.TypeOnes.{length-ones_arranged_by, ones_arranged_by, same_one}
use Rattle.tl_layout.specs.RecordText.{text_of}
use Rattle.tl_number.specs.LeastOnes.{HaveLeastOnes, HaveSameOnes, IsDigitApart, IsLeastAmong, ones_in}
use Rattle.tl_number.specs.ShapeDigits.{ArePlacesApart, ways_of}
use Rattle.tl_number.proofs.Choices.ChoiceSteps.{ones_decide}
use Rattle.tl_number.proofs.Choices.DigitsApart.{digits_apart, fewer_ways, grown, some_ways, ways_running, ways_taken}
use Rattle.tl_number.proofs.Choices.LeastBelow.{least_leads, least_tie}
use Rattle.tl_number.proofs.Ties.ComparedChoices.{ComparedChoices, OrderedCounty, all_choices, choice, count_in, directed_in, stated, whole_in}

-- the order of two choices by their records of type 1
pub by_ones : (c : ComparedChoices) (i k : ℕ) → ones_cmp c.county (c.number i) (c.number k) ≡ records_cmp (ones_of (choice c i)) (ones_of (choice c k))
by_ones c i k = sym (λ j. records_cmp (ones_of (arranged c.county (stated c i j))) (ones_of (arranged c.county (stated c k j))))

module _ (c : OrderedCounty) where
  -- open places leave as many choices as the county
  pub all_ways : ways_of c.shapes.places ≡ choices c.county
  all_ways =
      ap ways_of (c.known.order.places c.known.few)
      ∙ ways_running points_cmp is_either_way 0 _
      ∙ choices_stated c.county c.shapes.by_shape c.known.order.by_shape

  -- and later ones at most as many
  pub few_ways : (first : ℕ) → ways_of (drop first c.shapes.places) ≤ most_choices
  few_ways first = omega (arith, fewer_ways (length c.shapes.by_shape) c.shapes.places c.known.within first, all_ways, c.known.few)

  -- The places from one on up to another leave some choices, few enough, and with the places after them all from the first one on.
  pub taken_some : (first end : ℕ) → 0 < ways_of (take (end - first) (drop first c.shapes.places))
  taken_some first end = some_ways (length c.shapes.by_shape) (take (end - first) (drop first c.shapes.places))
      (all_take _ (end - first) (drop first c.shapes.places) (all_drop _ first c.shapes.places c.known.within))

  pub taken_few : (first end : ℕ) → first ≤ end → ways_of (take (end - first) (drop first c.shapes.places)) ≤ most_choices
  taken_few first end l =
      let behind : 0 < ways_of (drop end c.shapes.places) =
      some_ways (length c.shapes.by_shape) (drop end c.shapes.places) (all_drop _ end c.shapes.places c.known.within) in
      omega (
        arith,
        ways_taken c.shapes.places first end l,
        few_ways first,
        grown (ways_of (drop end c.shapes.places)) (ways_of (take (end - first) (drop first c.shapes.places))) behind,
        mul_comm (ways_of (drop end c.shapes.places)) (ways_of (take (end - first) (drop first c.shapes.places))),
      )

  abbrev all : ComparedChoices
  all = all_choices c

  -- The record of type 1 at a place belongs to the directed chain there.
  record_at : (i place : ℕ) (directed : DirectedChain) → slice_get (directed_in all i) place ≡ Some directed
      → slice_get (ones_of (choice all i)) place ≡ one_at c.county directed place
  record_at i = ones_arranged_by c.county (directed_in all i) c.is (whole_in all i)

  count_of : (i : ℕ) → length (ones_of (choice all i)) ≡ length (directed_in all i)
  count_of i = length-ones_arranged_by c.county (directed_in all i) c.is (whole_in all i)

  as_many : (i k : ℕ) → length (ones_of (choice all i)) ≡ length (ones_of (choice all k))
  as_many i k = count_of i ∙ count_in all i ∙ sym (count_of k ∙ count_in all k)

  same_record : (i k place : ℕ) → slice_get (directed_in all i) place ≡ slice_get (directed_in all k) place
      → slice_get (ones_of (choice all i)) place ≡ slice_get (ones_of (choice all k)) place
  same_record i k place same = go (nat_lt place (length (directed_in all i))) refl
    where
      none : DirectedChain
      none = record { place = 0; turned = false }

      go : (b : Bool) → nat_lt place (length (directed_in all i)) ≡ b
          → slice_get (ones_of (choice all i)) place ≡ slice_get (ones_of (choice all k)) place
      go true e =
          let directed = get_or (directed_in all i) place none in
          let there : slice_get (directed_in all i) place ≡ Some directed =
          slice_get-get_or (directed_in all i) place none (ltb-true place (length (directed_in all i)) e) in
          record_at i place directed there ∙ sym (record_at k place directed (sym same ∙ there))
      go false e =
          let past : length (directed_in all i) ≤ place = ltb-false place (length (directed_in all i)) e in
          slice_get_past (ones_of (choice all i)) place (omega (arith, past, count_of i))
          ∙ sym (slice_get_past (ones_of (choice all k)) place (omega (arith, past, count_of k, count_in all i, count_in all k)))

  -- If earlier open places move chains before all that later ones move, the digits of the later ones compare alike after each digit.
  pub ones_apart : (front back : List OpenPlace) → c.shapes.places ≡ front ++ back → ArePlacesApart (length c.shapes.by_shape) front back
      → IsDigitApart c.county (ways_of back)
  ones_apart front back split apart digit n m l k =
      by_ones all (digit * ways_of back + n) (digit * ways_of back + m)
      ∙ digits_apart other_way spelling_cmp same_one c.shapes.by_shape c.shapes.places (λ i. ones_of (choice all i)) same_record as_many
      front back split c.known.within apart digit n m l k
      ∙ sym (by_ones all n m)

  -- Choices with the least records of type 1 have the same ones.
  pub least_same : (bound : ℕ) (numbers : List ℕ) → HaveLeastOnes c.county bound numbers → HaveSameOnes c.county numbers
  least_same bound numbers are = least_tie records_total (ones_in c.county) bound numbers are

  -- The least of the choices with the least records of type 1 is the least of all.
  pub least_of_these : (numbers : List ℕ) → HaveLeastOnes c.county (choices c.county) numbers
      → (n : ℕ) → IsLeastAmong c.county numbers n → IsLeastBelow c.county (choices c.county) n
  least_of_these numbers are =
      least_leads records_total (ones_in c.county) (choices c.county) numbers are bytes_keys.total (λ n. text_of (choice_list c.county n))
      (λ m k greater. ap is_gt (ones_decide c.county c.is c.within c.known.sides m k
      (λ same. absurd (false≢true (sym (ap is_gt same) ∙ greater)))) ∙ greater)
