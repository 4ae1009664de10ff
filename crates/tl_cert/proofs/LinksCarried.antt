-- The links of landmarks, collected landmark by landmark and compared by their fields.
use Rattle.tl_cert.proofs.Common.{Bool, County, Decides, Fields8, IsCounty, IsPermutation, IsPermutation-map, IsPermutation-sym, IsPermutation-trans, IsTrue, Known, List, [], add-one, all_weaker, ap, apart_from_sorted, append-nil, append_assoc, contains, decides_same, eight_land, flat_map, groups-permutation, lands, links_with, ltb-true, map, map-map, map_itself, nat_cmp, nat_keys, of_number, refl, slice_get, subst, suc, sym, take, times, zero, ℕ, ◌++◌, ◌+◌, ◌∙◌, ◌∷◌, ◌≡◌}
use Rattle.county_chart.specs.SequenceKeys.{link_sequence}

-- the links of the landmarks with these LANDs, landmark by landmark
abbrev pub under_lands : List Fields8 → List ℕ → List Fields8
under_lands links ks = flat_map (λ land. of_number eight_land land links) ks

next_at : (links : List Fields8) (ks : List ℕ) (i : ℕ)
    → under_lands links (take i ks) ++ links_with links (slice_get ks i) ≡ under_lands links (take (suc i) ks)
next_at links [] zero = refl
next_at links [] (suc i) = refl
next_at links (k ∷ ks) zero = sym (append-nil (of_number eight_land k links))
next_at links (k ∷ ks) (suc i) =
    append_assoc (of_number eight_land k links) (under_lands links (take i ks)) (links_with links (slice_get ks i))
    ∙ ap (λ rest. of_number eight_land k links ++ rest) (next_at links ks i)

pub next_land : (links : List Fields8) (ks : List ℕ) (i : ℕ)
    → under_lands links (take i ks) ++ links_with links (slice_get ks i) ≡ under_lands links (take (i + 1) ks)
next_land links ks i = rw add-one (next_at links ks i)

-- the landmarks of a county have all of its links
pub all_lands : (county : County) → IsCounty county → IsPermutation (under_lands county.links (lands county)) county.links
all_lands county is = groups-permutation eight_land (lands county) county.links
    (apart_from_sorted nat_keys (lands county) is.ascending.landmarks)
    (all_weaker (λ l. IsTrue (contains nat_cmp l.land (lands county))) (λ l. Known nat_cmp (lands county) l.land)
    (λ l h. ltb-true 0 (times nat_cmp l.land (lands county)) h) county.links is.closed.link_lands)

-- the link with these fields
fields_link : ℕ × (ℕ × (List ℕ × List ℕ)) → Fields8
fields_link f = record { file = f.1.1.1; cenid = f.1.1.0; polyid = f.1.0; land = f.0 }

back_again : (links : List Fields8) → map fields_link (map link_sequence links) ≡ links
unfolding fields_link
back_again links = map-map fields_link link_sequence links ∙ map_itself (λ l. fields_link (link_sequence l)) (λ l. refl) links

-- links are a permutation of others if their keys are
links_back : (ones others : List Fields8) → IsPermutation (map link_sequence ones) (map link_sequence others) → IsPermutation ones others
links_back ones others h =
    subst (λ links. IsPermutation links others) (back_again ones)
    (subst (IsPermutation (map fields_link (map link_sequence ones))) (back_again others)
    (IsPermutation-map fields_link (map link_sequence ones) (map link_sequence others) h))

-- links are carried onto others exactly if the keys of both, in any order, are a permutation
module _ (carried : Fields8 → Fields8) (ones those : List Fields8) (p : IsPermutation ones those) (others bs : List Fields8)
    (q : IsPermutation others bs) where
  pub links_decided : (b : Bool) → Decides b (IsPermutation (map (λ l. link_sequence (carried l)) ones) (map link_sequence others))
      → Decides b (IsPermutation (map carried those) bs)
  links_decided b d =
      decides_same b (subst (λ keys. Decides b (IsPermutation keys (map link_sequence others))) (sym (map-map link_sequence carried ones)) d)
      (λ h. IsPermutation-trans (map carried those) (map carried ones) bs (IsPermutation-map carried those ones (IsPermutation-sym ones those p))
      (IsPermutation-trans (map carried ones) others bs (links_back (map carried ones) others h) q))
      (λ h. IsPermutation-map link_sequence (map carried ones) others
      (IsPermutation-trans (map carried ones) (map carried those) others (IsPermutation-map carried ones those p)
      (IsPermutation-trans (map carried those) bs others h (IsPermutation-sym others bs q))))
