-- The new number of a key is its place, counted from 1: images under numbered keys.
use Rattle.canonical_form.proofs.Common.{Bool, IsKeyOrder, Known, List, None, Ordering, PolygonKey, Some, [], ap, ap₂, arith, cond, cond_some, false, image, is_eq, key_cmp, key_keys, length, ltb-false, ltb-true, map, map-map, nat_cmp, nat_keys, nat_lt, not, numbered, numbered_from, position, position_or_len, refl, same-true, suc, sym, true, under_cenid, ℕ, ◌+◌, ◌<◌, ◌∙◌, ◌∷◌, ◌≡◌, ◌≤◌}
use Rattle.canonical_form.proofs.Numbering.FirstSeen.{known_within, place_from}

no_cond : {X : Type 0} (b : Bool) (x : X) → None ≡ cond b (Some x) None → b ≡ false
no_cond true x e = cc
no_cond false x e = refl

module _ {K : Type 0} {cmp : K → K → Ordering} (o : IsKeyOrder cmp) (new : K → ℕ → K) where
  -- keys, each paired with the new key for its place
  abbrev pairs_from : ℕ → List K → List (K × K)
  pairs_from i ks = map (λ (e : ℕ × K). (e.1, new e.1 e.0)) (numbered_from i ks)

  abbrev place : K → List K → ℕ
  place k ks = position_or_len (λ other. is_eq (cmp k other)) ks

  found_image : (i : ℕ) (ks : List K) (k : K) → place k ks < length ks → image cmp (pairs_from i ks) k ≡ new k (i + place k ks)
  found_image i [] k h = absurd (omega (arith, h))
  found_image i (x ∷ xs) k h = go (is_eq (cmp k x)) refl h (found_image (suc i) xs k)
    where
      go : (b : Bool) → is_eq (cmp k x) ≡ b → cond (not b) (1 + place k xs) 0 < suc (length xs)
          → (place k xs < length xs → image cmp (pairs_from (suc i) xs) k ≡ new k (suc i + place k xs))
          → cond b (new x i) (image cmp (pairs_from (suc i) xs) k) ≡ new k (i + cond (not b) (1 + place k xs) 0)
      go true e l ih = ap₂ new (sym (same-true o k x e)) (let t : i ≡ i + 0 = omega arith in t)
      go false e l ih = ih (omega (arith, l)) ∙ ap (new k) (let t : suc i + place k xs ≡ i + (1 + place k xs) = omega arith in t)

  missing_image : (i : ℕ) (ks : List K) (k : K) → length ks ≤ place k ks → image cmp (pairs_from i ks) k ≡ k
  missing_image i [] k h = refl
  missing_image i (x ∷ xs) k h = go (is_eq (cmp k x)) h (missing_image (suc i) xs k)
    where
      go : (b : Bool) → suc (length xs) ≤ cond (not b) (1 + place k xs) 0 → (length xs ≤ place k xs → image cmp (pairs_from
          (suc i) xs) k ≡ k)
          → cond b (new x i) (image cmp (pairs_from (suc i) xs) k) ≡ k
      go true l ih = absurd (omega (arith, l))
      go false l ih = ih (omega (arith, l))

  seen_image : (ks : List K) (k : K) (p : ℕ) → Some p ≡ position (λ other. is_eq (cmp k other)) ks → image cmp
      (pairs_from 1 ks) k ≡ new k (p + 1)
  seen_image ks k p e =
      let found = cond_some (nat_lt (place k ks) (length ks)) (place k ks) p (sym e) in
      found_image 1 ks k (ltb-true (place k ks) (length ks) found.0)
      ∙ ap (new k) (let same = found.1 in let t : 1 + place k ks ≡ p + 1 = omega (arith, same) in t)

  unseen_image : (ks : List K) (k : K) → None ≡ position (λ other. is_eq (cmp k other)) ks → image cmp (pairs_from 1 ks) k ≡ k
  unseen_image ks k e =
      missing_image 1 ks k (ltb-false (place k ks) (length ks) (no_cond (nat_lt (place k ks) (length ks)) (place k ks) e))

  -- the place of a key is one of the places
  pub seen_within : (ks : List K) (k : K) (p : ℕ) → Some p ≡ position (λ other. is_eq (cmp k other)) ks → p < length ks
  seen_within ks k p e =
      let found = cond_some (nat_lt (place k ks) (length ks)) (place k ks) p (sym e) in
      let h = ltb-true (place k ks) (length ks) found.0 in let same = found.1 in omega (arith, h, same)

-- the image of a number, by its place among the numbers in their new order
pub number_seen : (ks : List ℕ) (k p : ℕ) → Some p ≡ position (λ other. is_eq (nat_cmp k other)) ks → image nat_cmp (numbered ks) k ≡ p + 1
number_seen = seen_image nat_keys (λ k n. n)

pub number_unseen : (ks : List ℕ) (k : ℕ) → None ≡ position (λ other. is_eq (nat_cmp k other)) ks → image nat_cmp (numbered ks) k ≡ k
number_unseen = unseen_image nat_keys (λ k n. n)

-- and the image of a polygon's key
keys_as_pairs : (ks : List PolygonKey) → map under_cenid (numbered ks) ≡ pairs_from key_keys (λ k n. (k.0, n)) 1 ks
keys_as_pairs ks = map-map under_cenid (λ (e : ℕ × PolygonKey). (e.1, e.0)) (numbered_from 1 ks)

pub key_seen : (ks : List PolygonKey) (k : PolygonKey) (p : ℕ) → Some p ≡ position (λ other. is_eq (key_cmp k other)) ks
    → image key_cmp (map under_cenid (numbered ks)) k ≡ (k.0, p + 1)
key_seen ks k p e = ap (λ pairs. image key_cmp pairs k) (keys_as_pairs ks) ∙ seen_image key_keys (λ j n. (j.0, n)) ks k p e

pub key_unseen : (ks : List PolygonKey) (k : PolygonKey) → None ≡ position (λ other. is_eq (key_cmp k other)) ks
    → image key_cmp (map under_cenid (numbered ks)) k ≡ k
key_unseen ks k e = ap (λ pairs. image key_cmp pairs k) (keys_as_pairs ks) ∙ unseen_image key_keys (λ j n. (j.0, n)) ks k e

-- the image of a known key is made of its place
pub image-numbered : (keys : List ℕ) (k : ℕ) → Known nat_cmp keys k → image nat_cmp (numbered keys) k ≡ place_from nat_keys 1 keys k
image-numbered keys k h = found_image nat_keys (λ j n. n) 1 keys k (known_within nat_keys keys k h)

pub image-under_cenid : (keys : List PolygonKey) (k : PolygonKey) → Known key_cmp keys k
    → image key_cmp (map under_cenid (numbered keys)) k ≡ (k.0, place_from key_keys 1 keys k)
image-under_cenid keys k h = ap (λ pairs. image key_cmp pairs k) (keys_as_pairs keys)
    ∙ found_image key_keys (λ j n. (j.0, n)) 1 keys k (known_within key_keys keys k h)
