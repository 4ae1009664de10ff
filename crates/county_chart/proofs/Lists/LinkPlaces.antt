-- The links of the landmark at a place, or past the end.
use Rattle.county_chart.proofs.Common.{AllByRecursion, Fields8, IfSome, IsTrue, List, None, Option, Some, [], ap, contains, eight_land, false, false≢true, is_some, length, links_with, nat_cmp, ne_eqb, of_number, refl, rules, slice_get, slice_get_past, unwrap_or, ℕ, ◌∷◌, ◌≡◌}

-- links whose LANDs are all in the list have no LAND that isn't
none_of_land : (land : ℕ) (lands : List ℕ) → contains nat_cmp land lands ≡ false → (links : List Fields8)
    → AllByRecursion (λ link. IsTrue (contains nat_cmp link.land lands)) links → of_number eight_land land links ≡ []
none_of_land land lands unknown [] all = refl
none_of_land land lands unknown (link ∷ links) all = search (rules, ne_eqb, false≢true, none_of_land land lands unknown links all.1)

-- the links at the place of a LAND, or past the end, are the links with the LAND
pub links-at_or_end : (land : ℕ) (lands : List ℕ) (links : List Fields8) (found : Option ℕ) (end : ℕ) → length lands ≡ end
    → AllByRecursion (λ link. IsTrue (contains nat_cmp link.land lands)) links
    → IfSome found (λ place. slice_get lands place ≡ Some land) → is_some found ≡ contains nat_cmp land lands
    → links_with links (slice_get lands (unwrap_or found end)) ≡ of_number eight_land land links
links-at_or_end land lands links (Some place) end e all at known = ap (links_with links) at
links-at_or_end land lands links None end e all at known = search (rules, slice_get_past, none_of_land)
