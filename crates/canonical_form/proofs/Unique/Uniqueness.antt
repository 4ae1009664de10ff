-- Two lists in the canonical order, packing and numbering are equal if a renaming keeps the choice of TLIDs and directions.
use Rattle.canonical_form.proofs.Common.{Carries, IsArrangedList, KeepsChainNumbers, List, Record, Renumbering, ap, contains, county-is_county, county_of, image, known_all, nat_cmp, nat_keys, packed, sym, tlids, ◌∙◌, ◌≡◌}
use Rattle.canonical_form.proofs.Arrangements.RepackedPolygons.{arranged_list_is_packed}
use Rattle.canonical_form.proofs.Unique.Rigid.{rigid}

one_county_one_list : (xs ys : List Record) → IsArrangedList xs → IsArrangedList ys → county_of xs ≡ county_of ys → xs ≡ ys
one_county_one_list xs ys g h e = arranged_list_is_packed xs g ∙ ap packed e ∙ sym (arranged_list_is_packed ys h)

pub rigid_lists : (r : Renumbering) (xs ys : List Record) → IsArrangedList xs → IsArrangedList ys → Carries r (county_of xs) (county_of ys)
    → KeepsChainNumbers r (county_of xs) → xs ≡ ys
rigid_lists r xs ys g h c k = one_county_one_list xs ys g h
    (rigid r (county_of xs) (county_of ys) c (county-is_county xs g.linked) (county-is_county ys h.linked) g.numbers h.numbers
    (known_all nat_keys (λ n. image nat_cmp r.chains n ≡ n) (tlids (county_of xs)) k.keeps)
    (λ n l. ap (contains nat_cmp n) k.turns_none))
