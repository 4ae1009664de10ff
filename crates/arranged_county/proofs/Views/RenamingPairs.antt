-- The pairs of a renaming, one after another.
use Rattle.arranged_county.proofs.Common.{AreReadAt, Body7, Bool, County, DirectedChain, HasChainsOf, List, Some, [], ap, ap₂, arith, arranged_tlids, arrangement_of, cond, cons_option, entry_keys, enumerate_from, false, filter, filter_map, lands, lands_at, length, length-map, map, numbered, numbered_from, range_with_len, refl, slice_get, suc, tlid_at, tlids, true, turned_tlids, zip, ℕ, ◌+◌, ◌<◌, ◌∙◌, ◌∷◌, ◌≡◌}
use Rattle.arranged_county.proofs.Names.NameOrder.{filter_map_all}
use Rattle.arranged_county.proofs.Polygons.PolygonOrder.{read_mapped}
use Rattle.std.proofs.lemmas.Option.{slice_get-get_or}

-- each key beside the next number
pub zip_numbered : {K : Type 0} (keys : List K) → zip keys (range_with_len 1 (length keys)) ≡ numbered keys
zip_numbered {K} keys = from 1 keys
  where
    from : (n : ℕ) (ks : List K) → zip ks (range_with_len n (length ks)) ≡ map (λ (pair : ℕ × K). (pair.1, pair.0)) (numbered_from n ks)
    from n [] = refl
    from n (k ∷ ks) =
        ap (λ ps. (k, n) ∷ ps)
        (ap (λ m. zip ks (range_with_len m (length ks))) (let next : n + 1 ≡ suc n = omega arith in next) ∙ from (suc n) ks)

-- each key beside the place before its number
pub enumerated : {K : Type 0} (keys : List K) → map {B = K × ℕ} (λ (pair : ℕ × K). (pair.1, pair.0 + 1)) (enumerate_from 0 keys) ≡ numbered keys
enumerated {K} keys = from 0 keys
  where
    from : (n : ℕ) (ks : List K) → map {B = K × ℕ} (λ (pair : ℕ × K). (pair.1, pair.0 + 1)) (enumerate_from n ks)
        ≡ map {B = K × ℕ} (λ (pair : ℕ × K). (pair.1, pair.0)) (numbered_from (n + 1) ks)
    from n [] = refl
    from n (k ∷ ks) =
        ap (λ ps. (k, n + 1) ∷ ps)
        (from (n + 1) ks ∙ ap (λ m. map {B = K × ℕ} (λ (pair : ℕ × K). (pair.1, pair.0)) (numbered_from m ks))
        (let next : n + 1 + 1 ≡ suc (n + 1) = omega arith in next))

module _ (county : County) where
  -- the TLID of a directed chain whose chain is there
  tlid_there : (place : ℕ) → place < length county.chains → slice_get (tlids county) place ≡ Some (tlid_at county place)
  tlid_there place there =
      slice_get-get_or (tlids county) place 0 (let count = length-map county.chains (λ entry. entry.0) in omega (arith, count, there))

  -- the TLIDs of directed chains whose chains are there
  pub tlids_found : (arrangement : List DirectedChain) → HasChainsOf county arrangement
      → filter_map (λ directed. slice_get (tlids county) directed.place) arrangement ≡ arranged_tlids (arrangement_of county arrangement)
  tlids_found [] there = refl
  tlids_found (s ∷ ss) there = ap₂ cons_option (tlid_there s.place there.0) (tlids_found ss there.1)

  -- and the turned ones
  pub turned_found : (arrangement : List DirectedChain) → HasChainsOf county arrangement
      → filter_map (λ directed. slice_get (tlids county) directed.place) (filter (λ directed. directed.turned) arrangement) ≡ turned_tlids (arrangement_of county arrangement)
  turned_found [] there = refl
  turned_found (s ∷ ss) there = go s.turned (turned_found ss there.1)
    where
      go : (turned : Bool) → filter_map (λ directed. slice_get (tlids county) directed.place) (filter (λ directed. directed.turned) ss)
          ≡ turned_tlids (arrangement_of county ss)
          → filter_map (λ directed. slice_get (tlids county) directed.place) (cond turned (s ∷ filter (λ directed. directed.turned) ss)
          (filter (λ directed. directed.turned) ss))
          ≡ arranged_tlids (cond turned ((tlid_at county s.place, turned) ∷ filter (λ directed. directed.1) (arrangement_of county ss))
          (filter (λ directed. directed.1) (arrangement_of county ss)))
      go true e = ap₂ cons_option (tlid_there s.place there.0) e
      go false e = e

  -- the LANDs of the landmarks at places
  pub lands_found : (places : List ℕ) (ls : List (ℕ × List Body7)) → AreReadAt county.landmarks places ls
      → lands_at county places ≡ entry_keys ls
  lands_found places ls stated =
      filter_map_all (slice_get (lands county)) places (entry_keys ls)
      (read_mapped (λ (d : ℕ × List Body7). d.0) county.landmarks ls places stated)
