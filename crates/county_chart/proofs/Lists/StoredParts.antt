-- Entries with stored values, and the entries that they represent.
use Rattle.county_chart.proofs.Common.{IfSome, IsStrictlySortedBy, LandmarkParts, LinksUnderLands, List, Option, Some, [], ap, distinct-in_order, eight_land, entry_keys, entry_values, flat_map, keys-map_values, landmark_entry, map, map_values, map_values-id, nat_cmp, nat_keys, of_number, option_map, refl, rules, slice_get, suc, sym, unwrap_or, value_under, zero, ℕ, ◌∙◌, ◌∷◌, ◌≡◌}
use Rattle.county_chart.proofs.Lists.StoredLandmarks.{bodies-under, lands-kept, links-under}

pub keys-kept : {K V W : Type 0} (f : V → W) (xs : List (K × V)) → entry_keys xs ≡ entry_keys (map_values f xs)
keys-kept f xs = sym (keys-map_values f xs)

-- a number found in one list of keys is found in an equal list
pub found-in : {keys others : List ℕ} (place : Option ℕ) (number : ℕ) → keys ≡ others
    → IfSome place (λ at. slice_get keys at ≡ Some number) → IfSome place (λ at. slice_get others at ≡ Some number)
found-in place number same found = search rules

pub value-at-kept : {K V W : Type 0} (f : V → W) (xs : List (K × V)) (place : ℕ)
    → option_map f (slice_get (entry_values xs) place) ≡ slice_get (entry_values (map_values f xs)) place
value-at-kept f [] place = refl
value-at-kept f (x ∷ xs) zero = refl
value-at-kept f (x ∷ xs) (suc place) = value-at-kept f xs place

pub lands-kept-in : {V : Type 0} (f : V → LandmarkParts) (xs : List (ℕ × V))
    → entry_keys xs ≡ entry_keys (map landmark_entry (map_values f xs))
lands-kept-in f xs = keys-kept f xs ∙ lands-kept (map_values f xs)

-- the parts if there is no landmark
abbrev pub without : LandmarkParts
without = record { bodies = []; links = [] }

-- a landmark that is stored as it is, looked up under a LAND: its contents and its links
module _ (land : ℕ) (kept : List (ℕ × LandmarkParts)) {found : Option LandmarkParts} (is : found ≡ value_under nat_cmp land kept) where
  as_kept : found ≡ value_under nat_cmp land (map_values (λ l. l) kept)
  as_kept = is ∙ ap (value_under nat_cmp land) (sym (map_values-id kept))

  pub bodies-found : unwrap_or (option_map (λ (l : LandmarkParts). l.bodies) found) []
      ≡ unwrap_or (value_under nat_cmp land (map landmark_entry (map_values (λ l. l) kept))) []
  bodies-found = search (rules, as_kept, bodies-under)

  pub links-found : IsStrictlySortedBy nat_cmp (entry_keys (map landmark_entry (map_values (λ l. l) kept)))
      → LinksUnderLands (map_values (λ l. l) kept)
      → (unwrap_or found without).links
      ≡ of_number eight_land land (flat_map (λ (entry : ℕ × LandmarkParts). entry.1.links) (map_values (λ l. l) kept))
  links-found strict under = search (rules, as_kept, links-under, lands-kept)

-- what the calls of a stored county need
pub ruleset stored_parts = (keys-kept, lands-kept-in, value-at-kept, found-in, map_values-id, distinct-in_order, nat_keys)
