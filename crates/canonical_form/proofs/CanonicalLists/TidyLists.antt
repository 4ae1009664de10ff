-- The tidy lists of a map are the lists of its choices. Some choice has the least text, its list is canonical, and all canonical
-- lists of one map have the same text.
use Rattle.canonical_form.proofs.Common.{AllKeysContained, AreSame, Arrangement, Carries, County, IsCanonical, IsChoice, IsCounty, IsLeastBelow, IsLeastChoice, IsNotAfter, IsTidy, IsTidyList, List, Record, ap, arith, arranged, arranged_list, bytes_keys, choices, county-is_county, county_of, numbered_choice, order_antisymm, order_itself, packed, polygon_keys, polygons_along, renaming_of, same-symmetric, same-transitive, subst, sym, text_of, ℕ, ◌<◌, ◌∙◌, ◌≡◌}
use Rattle.canonical_form.proofs.CanonicalLists.EachTidy.{read_arranges, read_makes, read_off}
use Rattle.canonical_form.proofs.Arrangements.ArrangedCounties.{arranged_county, is_arranged}
use Rattle.canonical_form.proofs.Arrangements.RepackedPolygons.{arranged_list_is_packed}
use Rattle.canonical_form.proofs.Arrangements.ArrangedPacking.{packed_arranged}
use Rattle.canonical_form.proofs.Arrangements.Carrying.{arrangement_carries}
use Rattle.canonical_form.proofs.Choices.TidyChoices.{choice_number, numbered_is_choice}
use Rattle.canonical_form.proofs.Choices.Choosing.{least_number}
use Rattle.canonical_form.proofs.Packing.PackedCounty.{packed_county}

pub tidy_of : (records : List Record) → IsCanonical records → IsTidyList records
tidy_of records h = record { in_form = h.in_form; tidy = h.tidy }

-- no text comes after itself
pub not_after_itself : (records : List Record) → IsNotAfter records records
not_after_itself records = order_itself bytes_keys (text_of records)

-- Canonical lists of one map have the same text.
pub canonical_texts_equal : (xs ys : List Record) → IsCanonical xs → IsCanonical ys → AreSame (county_of xs) (county_of ys)
    → text_of xs ≡ text_of ys
canonical_texts_equal xs ys h k s =
    let back : AreSame (county_of ys) (county_of xs) =
    same-symmetric (county_of xs) (county_of ys) (county-is_county xs h.in_form.linked) (county-is_county ys k.in_form.linked) s in
    order_antisymm bytes_keys (text_of xs) (text_of ys) (h.least ys (tidy_of ys k) s) (k.least xs (tidy_of xs h) back)

module _ (county : County) (is : IsCounty county) where
  -- the choice with the number that is least of all
  pub least_of_all : (n : ℕ) → IsLeastBelow county (choices county) n → IsLeastChoice county (numbered_choice county n)
  least_of_all n least = record {
    choice = numbered_is_choice county is n;
    least = λ other choice. (let m = choice_number county is other choice in
        subst (λ arrangement. IsNotAfter (arranged_list county (numbered_choice county n)) (arranged_list county arrangement)) m.2
        (least m.0 m.1));
  }

module _ (county : County) (is : IsCounty county) (sides : AllKeysContained (polygons_along county.chains) (polygon_keys county)) where
  -- The list of a choice is tidy and describes the same map.
  module _ (arrangement : Arrangement) (choice : IsChoice county arrangement) where
    choice_county : IsCounty (arranged county arrangement)
    choice_county = arranged_county county arrangement is choice.arranges sides

    pub read_back : county_of (arranged_list county arrangement) ≡ arranged county arrangement
    read_back = packed_county (arranged county arrangement) choice_county

    pub choice_is_tidy : IsTidyList (arranged_list county arrangement)
    choice_is_tidy = record {
      in_form = packed_arranged (arranged county arrangement) choice_county (is_arranged county arrangement is choice.arranges sides);
      tidy = subst IsTidy (sym read_back) choice.tidy;
    }

    pub choice_is_same : AreSame county (county_of (arranged_list county arrangement))
    choice_is_same = record {
      by = renaming_of county arrangement;
      carries = subst (Carries (renaming_of county arrangement) county) (sym read_back)
          (arrangement_carries county arrangement is choice.arranges sides);
    }

    pub list_is_county : IsCounty (county_of (arranged_list county arrangement))
    list_is_county = subst IsCounty (sym read_back) choice_county

  -- Each tidy list of the map is the list of a choice.
  pub tidy_is_choice : (records : List Record) → IsTidyList records → AreSame county (county_of records)
      → (arrangement : Arrangement) × IsChoice county arrangement × (records ≡ arranged_list county arrangement)
  tidy_is_choice records h s =
      let new : IsCounty (county_of records) = county-is_county records h.in_form.linked in
      let made : county_of records ≡ arranged county (read_off s.by (county_of records)) =
      read_makes s.by county (county_of records) is new s.carries h.in_form.numbers sides in (
        read_off s.by (county_of records),
        record {
          arranges = read_arranges s.by county (county_of records) is new s.carries;
          tidy = subst IsTidy made h.tidy;
        },
        arranged_list_is_packed records h.in_form ∙ ap packed made,
      )

  abbrev text_at : ℕ → List ℕ
  text_at n = text_of (arranged_list county (numbered_choice county n))

  some_choice : 0 < choices county
  some_choice =
      let found = choice_number county is (numbered_choice county 0) (numbered_is_choice county is 0) in
      let below : found.0 < choices county = found.1 in
      omega (arith, below)

  -- There is a choice with the least text.
  pub least_choice : (n : ℕ) × (n < choices county) × IsLeastChoice county (numbered_choice county n)
  least_choice =
      let found = least_number bytes_keys.total text_at (choices county) some_choice in
      (found.0, found.1, least_of_all county is found.0 found.2)

  -- Its list is canonical.
  pub least_choice_is_canonical : (arrangement : Arrangement) → IsLeastChoice county arrangement → IsCanonical (arranged_list county arrangement)
  least_choice_is_canonical arrangement h = record {
    in_form = (choice_is_tidy arrangement h.choice).in_form;
    tidy = (choice_is_tidy arrangement h.choice).tidy;
    least = λ other tidy s. (let found = tidy_is_choice other tidy
        (same-transitive county (county_of (arranged_list county arrangement)) (county_of other) is (list_is_county arrangement h.choice)
        (choice_is_same arrangement h.choice) s) in
        subst (λ records. IsNotAfter (arranged_list county arrangement) records) (sym found.2) (h.least found.0 found.1));
  }

  -- Each canonical list of the map is the list of a choice of least text.
  pub canonical_is_choice : (records : List Record) → IsCanonical records → AreSame county (county_of records)
      → (arrangement : Arrangement) × IsLeastChoice county arrangement × (records ≡ arranged_list county arrangement)
  canonical_is_choice records h s =
      let found = tidy_is_choice records (tidy_of records h) s in
      let new : IsCounty (county_of records) = county-is_county records h.in_form.linked in (
        found.0,
        record {
          choice = found.1;
          least = λ other choice. subst (λ list. IsNotAfter list (arranged_list county other)) found.2
              (h.least (arranged_list county other) (choice_is_tidy other choice)
              (same-transitive (county_of records) county (county_of (arranged_list county other)) new is
              (same-symmetric county (county_of records) is new s) (choice_is_same other choice)));
        },
        found.2,
      )
