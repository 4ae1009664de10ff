-- Two sets that were put into canonical form.
use Rattle.tigercanon.proofs.Common.{AreDifferentInView, AreOneMapInView, AreSame, Carries, CarriesSetInView, County, Finding, IsCanonSetInView, IsCounty, IsFound, IsFoundOfCounties, List, Mask, Renumbering, ap, county_of, masked, masked_view, one_canonical_same, packed, packed_county, refl, subst, sym, text_of, ℕ, ◌∙◌, ◌≡◌, ◌≢◌}
use Rattle.tigercanon.proofs.CanonicalTexts.{text_of_set}
use Rattle.tigercanon.proofs.Sets.{one_text_one_list, same_one_text}
use Rattle.tigercanon.specs.Findings.Finding.{Carried, NoMemory, OneMap, TwoMaps}

-- counties with one packing are one county
pub one_county : (a b : County) → IsCounty a → IsCounty b → packed a ≡ packed b → a ≡ b
one_county a b h k e = sym (packed_county a h) ∙ ap county_of e ∙ packed_county b k

-- two sets under a mask
module _ (mask : Mask) (parts others : List (List ℕ)) (a a' b b' : County)
    (first : IsCanonSetInView (masked mask) parts a a') (second : IsCanonSetInView (masked mask) others b b') where
  pub sets_carried : (r : Renumbering) → Carries r a b → CarriesSetInView (masked mask) r parts others
  sets_carried r carries = record {
    records = first.records;
    other_records = second.records;
    accepted = first.accepted;
    other_accepted = second.accepted;
    carries = subst (λ c. Carries r c (masked mask (county_of second.records))) first.county_is
        (subst (Carries r a) second.county_is carries);
  }

  -- the canonical lists have one text, and are one list, if the counties are the same
  one_packing : AreSame (masked mask (county_of first.records)) (masked mask (county_of second.records)) → packed a' ≡ packed b'
  one_packing same =
      let text = text_of_set mask parts a a' first (text_of (packed a')) refl in
      let other = text_of_set mask others b b' second (text_of (packed b')) refl in
      one_text_one_list (masked mask) (masked_view mask) parts others _ _ text other
      (same_one_text (masked mask) (masked_view mask) parts others _ _ text other same)

  pub sets_different : packed a' ≢ packed b' → AreDifferentInView (masked mask) parts others
  sets_different other = record {
    records = first.records;
    others = second.records;
    first = first.accepted;
    second = second.accepted;
    not_same = λ same. other (one_packing same);
  }

  pub sets_one_map : packed a' ≡ packed b' → AreOneMapInView (masked mask) parts others
  sets_one_map e =
      let same = one_canonical_same (masked mask) (masked_view mask) first.records second.records (packed a') (packed b') first.canonical
      second.canonical e in (
        same.by,
        record {
          records = first.records;
          other_records = second.records;
          accepted = first.accepted;
          other_accepted = second.accepted;
          carries = same.carries;
        },
      )

  -- a finding about the counties is a finding about the sets
  pub found_of_sets : (finding : Finding) → IsFoundOfCounties a b a' b' finding → IsFound (masked mask) parts others finding
  found_of_sets (Carried r) carries = sets_carried r carries
  found_of_sets OneMap same = sets_one_map same
  found_of_sets TwoMaps other = sets_different other
  found_of_sets NoMemory none = ((first.records, first.accepted), (second.records, second.accepted))
