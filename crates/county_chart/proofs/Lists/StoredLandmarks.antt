-- Stored landmarks: their contents and links, under a LAND and by place.
use Rattle.county_chart.proofs.Common.{AllByRecursion, Fields8, IsStrictlySortedBy, LandmarkParts, Less, LinksUnderLands, List, None, Option, Some, [], ap, append-nil, cond, eight_land, entry_keys, entry_values, eq-eqb, false, false≢true, filter-append, flat_map, inl, inr, is_eq, landmark_entry, links_with, map, map-map, nat_cmp, nat_keys, ne_eqb, of_number, option_map, refl, rules, same-itself, same_or_not, slice_get, strict_head, strict_tail, subst, suc, sym, true, unwrap_or, value-at_place, value_under, zero, ℕ, ◌++◌, ◌==◌, ◌∙◌, ◌∷◌, ◌≡◌, ◌⊎◌}

-- the links with a LAND are the ones stored under it
module _ (land : ℕ) where
  abbrev none : LandmarkParts
  none = record { bodies = []; links = [] }

  -- if all links, or none, have the number
  all_of : (links : List Fields8) → AllByRecursion (λ link. link.land ≡ land) links → of_number eight_land land links ≡ links
  all_of [] a = refl
  all_of (link ∷ links) a = search (rules, eq-eqb, all_of links a.1)

  none_of : (other : ℕ) → (other ≡ land → ⊥) → (links : List Fields8) → AllByRecursion (λ link. link.land ≡ other) links
      → of_number eight_land land links ≡ []
  none_of other ne [] a = refl
  none_of other ne (link ∷ links) a = search (rules, ne_eqb, none_of other ne links a.1)

  none_later : (landmarks : List (ℕ × LandmarkParts)) → LinksUnderLands landmarks
      → AllByRecursion (λ n. nat_cmp land n ≡ Less) (entry_keys landmarks)
      → of_number eight_land land (flat_map (λ (entry : ℕ × LandmarkParts). entry.1.links) landmarks) ≡ []
  none_later [] under above = refl
  none_later (entry ∷ landmarks) under above =
      filter-append (λ (link : Fields8). link.land == land) entry.1.links (flat_map (λ (e : ℕ × LandmarkParts). e.1.links) landmarks)
      ∙ (λ i. none_of entry.0 (λ e. less_apart above.0 (sym e)) entry.1.links under.0 i ++ none_later landmarks under.1 above.1 i)
    where
      less_apart : nat_cmp land entry.0 ≡ Less → land ≡ entry.0 → ⊥
      less_apart l e = false≢true (sym (ap is_eq l) ∙ subst (λ n. is_eq (nat_cmp land n) ≡ true) e (same-itself nat_keys land))

  pub links-under : (landmarks : List (ℕ × LandmarkParts)) → IsStrictlySortedBy nat_cmp (entry_keys landmarks) → LinksUnderLands landmarks
      → (unwrap_or (value_under nat_cmp land landmarks) none).links ≡ of_number eight_land land
      (flat_map (λ (entry : ℕ × LandmarkParts). entry.1.links) landmarks)
  links-under [] strict under = refl
  links-under (entry ∷ landmarks) strict under =
      go (same_or_not nat_keys land entry.0) (links-under landmarks (strict_tail nat_cmp entry.0 (entry_keys landmarks) strict) under.1)
    where
      split : of_number eight_land land (entry.1.links ++ flat_map (λ (e : ℕ × LandmarkParts). e.1.links) landmarks)
          ≡ of_number eight_land land entry.1.links ++ of_number eight_land land (flat_map (λ (e : ℕ × LandmarkParts). e.1.links) landmarks)
      split = search (rules, filter-append)

      go : (land ≡ entry.0) ⊎ (is_eq (nat_cmp land entry.0) ≡ false)
          → (unwrap_or (value_under nat_cmp land landmarks) none).links ≡ of_number eight_land land
          (flat_map (λ (e : ℕ × LandmarkParts). e.1.links) landmarks)
          → (unwrap_or (value_under nat_cmp land (entry ∷ landmarks)) none).links ≡ of_number eight_land land
          (flat_map (λ (e : ℕ × LandmarkParts). e.1.links) (entry ∷ landmarks))
      go (inl e) ih =
          ap (λ b. (unwrap_or (cond b (Some entry.1) (value_under nat_cmp land landmarks)) none).links)
          (subst (λ n. is_eq (nat_cmp land n) ≡ true) e (same-itself nat_keys land))
          ∙ sym (append-nil entry.1.links)
          ∙ (λ i. sym (all_of entry.1.links (subst (λ n. AllByRecursion (λ (link : Fields8). link.land ≡ n) entry.1.links)
          (sym e) under.0)) i ++ sym
          (none_later landmarks under.1
          (subst (λ n. AllByRecursion (λ m. nat_cmp n m ≡ Less) (entry_keys landmarks)) (sym e)
          (strict_head nat_cmp entry.0 (entry_keys landmarks) strict))) i)
          ∙ sym split
      go (inr n) ih =
          ap (λ b. (unwrap_or (cond b (Some entry.1) (value_under nat_cmp land landmarks)) none).links) n ∙ ih
          ∙ ap (λ l. l ++ of_number eight_land land (flat_map (λ (e : ℕ × LandmarkParts). e.1.links) landmarks))
          (sym (none_of entry.0
          (λ e. false≢true (sym n
          ∙ subst (λ m. is_eq (nat_cmp land m) ≡ true) (sym e) (same-itself nat_keys land))) entry.1.links under.0))
          ∙ sym split

-- the bodies under a LAND, by the county's own list
pub bodies-under : (land : ℕ) (landmarks : List (ℕ × LandmarkParts))
    → option_map (λ (l : LandmarkParts). l.bodies) (value_under nat_cmp land landmarks) ≡ value_under nat_cmp land
    (map landmark_entry landmarks)
bodies-under land [] = refl
bodies-under land (entry ∷ landmarks) = search (rules, bodies-under land landmarks)

pub lands-kept : (landmarks : List (ℕ × LandmarkParts)) → entry_keys landmarks ≡ entry_keys (map landmark_entry landmarks)
lands-kept landmarks = sym (map-map (λ e. e.0) landmark_entry landmarks)

-- by places
pub bodies-at : (landmarks : List (ℕ × LandmarkParts)) (place : ℕ)
    → option_map (λ (l : LandmarkParts). l.bodies) (slice_get (entry_values landmarks) place) ≡ slice_get
    (entry_values (map landmark_entry landmarks)) place
bodies-at [] place = refl
bodies-at (entry ∷ landmarks) zero = refl
bodies-at (entry ∷ landmarks) (suc place) = bodies-at landmarks place

no_value : {K V : Type 0} (entries : List (K × V)) (place : ℕ) → slice_get (entry_keys entries) place ≡ None
    → slice_get (entry_values entries) place ≡ None
no_value [] place e = refl
no_value (entry ∷ entries) zero e = cc
no_value (entry ∷ entries) (suc place) e = no_value entries place e

pub links-at : (landmarks : List (ℕ × LandmarkParts)) → IsStrictlySortedBy nat_cmp (entry_keys landmarks) → LinksUnderLands landmarks
    → (place : ℕ)
    → (unwrap_or (slice_get (entry_values landmarks) place) (record { bodies = []; links = [] })).links ≡ links_with
    (flat_map (λ (entry : ℕ × LandmarkParts). entry.1.links) landmarks) (slice_get (entry_keys landmarks) place)
links-at landmarks strict under place = go (slice_get (entry_keys landmarks) place) refl
  where
    go : (o : Option ℕ) → slice_get (entry_keys landmarks) place ≡ o
        → (unwrap_or (slice_get (entry_values landmarks) place) (record { bodies = []; links = [] })).links ≡ links_with
        (flat_map (λ (entry : ℕ × LandmarkParts). entry.1.links) landmarks) o
    go (Some land) e = ap (λ (v : Option LandmarkParts). (unwrap_or v (record { bodies = []; links = [] })).links)
        (value-at_place nat_keys land landmarks place strict e) ∙ links-under land landmarks strict under
    go None e = ap (λ (v : Option LandmarkParts). (unwrap_or v (record { bodies = []; links = [] })).links) (no_value landmarks place e)
