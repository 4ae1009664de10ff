-- A county is canonical exactly if its packing is a canonical list.
use Rattle.canonical_form.proofs.Common.{AllKeysContained, AreSame, Arrangement, County, IsArranged, IsCanonCounty, IsCanonical, IsCounty, IsLeastChoice, IsNotAfter, IsTidy, IsTidyList, arranged, county-is_county, county_of, packed, polygon_keys, polygons_along, subst, sym, ◌≡◌}
use Rattle.canonical_form.proofs.Arrangements.ArrangedCounties.{arranged_county}
use Rattle.canonical_form.proofs.Arrangements.ArrangedPacking.{packed_arranged}
use Rattle.canonical_form.proofs.Arrangements.RepackedPolygons.{arranged_list_is_packed}
use Rattle.canonical_form.proofs.CanonicalLists.TidyLists.{least_choice_is_canonical}
use Rattle.canonical_form.proofs.Packing.PackedCounty.{packed_county}

pub packed_tidy : (county : County) → IsCounty county → IsArranged county → IsTidy county → IsTidyList (packed county)
packed_tidy county is form tidy = record {
  in_form = packed_arranged county is form;
  tidy = subst IsTidy (sym (packed_county county is)) tidy;
}

pub canonical_packing : (county : County) → IsCounty county → IsCanonCounty county → IsCanonical (packed county)
canonical_packing county is h =
    let tidy : IsTidyList (packed county) = packed_tidy county is h.in_form h.tidy in
    record {
      in_form = tidy.in_form;
      tidy = tidy.tidy;
      least = λ other t s. subst (IsNotAfter (packed county)) (sym (arranged_list_is_packed other t.in_form))
          (h.least (county_of other) (county-is_county other t.in_form.linked) t.in_form.numbers t.tidy
          (subst (λ c. AreSame c (county_of other)) (packed_county county is) s));
    }

pub canonical_county : (county : County) → IsCounty county → IsCanonical (packed county) → IsCanonCounty county
canonical_county county is h =
    let back : county_of (packed county) ≡ county = packed_county county is in
    record {
      in_form = subst IsArranged back h.in_form.numbers;
      tidy = subst IsTidy back h.tidy;
      least = λ other wo form tidy s. h.least (packed other) (packed_tidy other wo form tidy)
          (subst (λ c. AreSame c (county_of (packed other))) (sym back)
          (subst (AreSame county) (sym (packed_county other wo)) s));
    }

-- The county of a choice of least text is canonical.
pub least_choice_county : (county : County) (arrangement : Arrangement) → IsCounty county
    → AllKeysContained (polygons_along county.chains) (polygon_keys county) → IsLeastChoice county arrangement
    → IsCanonCounty (arranged county arrangement)
least_choice_county county arrangement is sides h =
    canonical_county (arranged county arrangement) (arranged_county county arrangement is h.choice.arranges sides)
    (least_choice_is_canonical county is sides arrangement h)
