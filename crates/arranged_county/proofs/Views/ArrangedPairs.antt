-- The ends and the sides of chains, numbered in order of appearance.
use Rattle.arranged_county.proofs.Common.{Equal, IsKeyOrder, IsTotalOrder, List, Option, Ordering, PolygonKey, PolygonSide, Some, [], ap, arith, changed_both, drop, drop-set-lt, drop_more, drop_more_same, first_seen_after, flat_map, get_dropped, get_or, is_eq, key_cmp, key_keys, key_seen, keys_at, length, map, map-append, nat_cmp, nat_keys, node_among, number_seen, one_more_taken, polygon_among, position, seen_within, set, side_among, side_of, slice_get, sym, take, ℕ, ◌++◌, ◌+◌, ◌<◌, ◌^◌, ◌∙◌, ◌∷◌, ◌≡◌, ◌≤◌}
use Rattle.arranged_county.proofs.Numbering.SeenLists.{seen_append}
use Rattle.arranged_county.proofs.Numbering.SeenPlaces.{seen_fewer, seen_keeps}
use Rattle.county_chart.specs.PolygonKeys.{key_on, key_under}
use Rattle.std.proofs.lemmas.Option.{get_or_from_slice_get}
use Rattle.canonical_form.proofs.Lists.ListPlaces.{none_past}

-- the element at a place comes before those after it
drop_there : {X : Type 0} (xs : List X) (i : ℕ) (x : X) → Some x ≡ slice_get xs i → drop i xs ≡ x ∷ drop (i + 1) xs
drop_there xs i x e = drop_more xs i x (none_past xs i x (sym e)) ∙ ap (λ y. y ∷ drop (i + 1) xs) (get_or_from_slice_get xs i x x (sym e))

-- Items of a list are replaced by others, one by one; the remaining ones are unchanged.
module _ {X : Type 0} (now old : List X) (i : ℕ) (left : drop i now ≡ drop i old) where
  pub left_there : (d : X) → i < length now → Some (get_or now i d) ≡ slice_get old i
  left_there d within =
      let first : get_or now i d ∷ drop (i + 1) now ≡ drop i old = sym (drop_more now i d within) ∙ left in
      ap (λ xs. slice_get xs 0) first ∙ get_dropped i old 0 ∙ ap (slice_get old) (let t : i + 0 ≡ i = omega arith in t)

  pub left_later : (x : X) → drop (i + 1) (set now i x) ≡ drop (i + 1) old
  left_later x = drop-set-lt (i + 1) now i x (omega arith) ∙ drop_more_same now old i left

-- pairs of two halves, such as two ends or two sides; each half has keys, and numbers turn it into a new half
module _ {K X : Type 0} {cmp : K → K → Ordering} (total : IsTotalOrder cmp) (exact : (x y : K) → cmp x y ≡ Equal → x ≡ y)
    (keys : X → List K) (new : List K → X → X) where
  o : IsKeyOrder cmp
  o = record { total = total; exact = exact }

  -- the pairs before a place have been replaced, and the next one is seen
  module _ (met now : List (X × X)) (i : ℕ) (d : X × X) (within : i < length now) (left : drop i now ≡ drop i met)
      (seen : List K) {whole : List K} (invariant : first_seen_after cmp seen (flat_map (keys_at keys) (drop i met)) ≡ whole) where
    abbrev pair : X × X
    pair = get_or now i d

    there : Some pair ≡ slice_get met i
    there = left_there now met i left d within

    abbrev rest : List K
    rest = flat_map (keys_at keys) (drop (i + 1) met)

    -- seeing one pair and then the rest is seeing everything
    cut : first_seen_after cmp (first_seen_after cmp (first_seen_after cmp seen (keys pair.0)) (keys pair.1)) rest ≡ whole
    cut = sym (ap (λ ks. first_seen_after cmp ks rest) (seen_append cmp seen (keys pair.0) (keys pair.1)))
        ∙ sym (seen_append cmp seen (keys_at keys pair) rest)
        ∙ ap (λ pairs. first_seen_after cmp seen (flat_map (keys_at keys) pairs)) (sym (drop_there met i pair there)) ∙ invariant

    -- at most as many are seen as at the end
    pub first_few : length (first_seen_after cmp seen (keys pair.0)) ≤ length whole
    first_few =
        let first = seen_fewer o (first_seen_after cmp seen (keys pair.0)) (keys pair.1) in
        let second = seen_fewer o (first_seen_after cmp (first_seen_after cmp seen (keys pair.0)) (keys pair.1)) rest in
        let all = ap length cut in
        omega (arith, first, second, all)

    module _ (first : List K) (seen_first : first ≡ first_seen_after cmp seen (keys pair.0)) where
      pub second_few : length (first_seen_after cmp first (keys pair.1)) ≤ length whole
      second_few =
          let same = ap (λ ks. length (first_seen_after cmp ks (keys pair.1))) seen_first in
          let second = seen_fewer o (first_seen_after cmp (first_seen_after cmp seen (keys pair.0)) (keys pair.1)) rest in
          let all = ap length cut in
          omega (arith, same, second, all)

      module _ (second : List K) (seen_second : second ≡ first_seen_after cmp first (keys pair.1)) where
        pub pair_seen : first_seen_after cmp second rest ≡ whole
        pair_seen =
            ap (λ ks. first_seen_after cmp ks rest)
            (seen_second ∙ ap (λ ks. first_seen_after cmp ks (keys pair.1)) seen_first) ∙ cut

        -- the numbers that both halves get are their numbers at the end
        pub pair_numbered : (a b : X) → ((later : List K) → a ≡ new (first_seen_after cmp first later) pair.0)
            → ((later : List K) → b ≡ new (first_seen_after cmp second later) pair.1) → (made : List (X × X))
            → made ≡ map (changed_both (new whole)) (take i met)
            → made ++ ((a, b) ∷ []) ≡ map (changed_both (new whole)) (take (i + 1) met)
        pair_numbered a b number_a number_b made so_far =
            let last_a : a ≡ new whole pair.0 =
            number_a (keys pair.1 ++ rest)
            ∙ ap (λ ks. new ks pair.0) (seen_append cmp first (keys pair.1) rest
            ∙ ap (λ ks. first_seen_after cmp ks rest) (sym seen_second) ∙ pair_seen) in
            let last_b : b ≡ new whole pair.1 = number_b rest ∙ ap (λ ks. new ks pair.1) pair_seen in
            (λ j. so_far j ++ ((last_a j, last_b j) ∷ []))
            ∙ sym (map-append (changed_both (new whole)) (take i met) (pair ∷ []))
            ∙ ap (map (changed_both (new whole))) (sym (one_more_taken met i pair there))

-- a node and a side with the number that was seen, whatever is seen later
pub node_numbered : (met : Option ℕ) (number place : ℕ) (seen later : List ℕ) → met ≡ Some number
    → Some place ≡ position (λ other. is_eq (nat_cmp number other)) seen
    → Some (place + 1) ≡ node_among (first_seen_after nat_cmp seen later) met
node_numbered met number place seen later there e =
    ap Some (sym (number_seen (first_seen_after nat_cmp seen later) number place (seen_keeps nat_keys number seen later place e)))
    ∙ ap (node_among (first_seen_after nat_cmp seen later)) (sym there)

module _ (side : PolygonSide) (cenid : List ℕ) (polyid : ℕ) (same : cenid ≡ side.cenid) (there : Some polyid ≡ side.polyid) where
  pub key_there : key_on side ≡ (cenid, polyid) ∷ []
  key_there = sym (λ i. key_under (same i) (there i))

  pub side_numbered : (place : ℕ) (seen later : List PolygonKey) → Some place ≡ position (λ other. is_eq (key_cmp (cenid, polyid) other))
      seen
      → record { cenid = cenid; polyid = Some (place + 1) } ≡ side_among (first_seen_after key_cmp seen later) side
  side_numbered place seen later e =
      ap side_of (sym (key_seen (first_seen_after key_cmp seen later) (cenid, polyid) place
      (seen_keeps key_keys (cenid, polyid) seen later place e)))
      ∙ (λ i. polygon_among (first_seen_after key_cmp seen later) (same i) (there i))

  -- its number has at most ten digits if fewer than 10 ^ 10 polygons are seen
  pub number_fits : (place : ℕ) (old seen : List PolygonKey) → seen ≡ first_seen_after key_cmp old ((cenid, polyid) ∷ [])
      → Some place ≡ position (λ other. is_eq (key_cmp (cenid, polyid) other)) seen
      → length (first_seen_after key_cmp old (key_on side)) < 10 ^ 10 → place + 1 < 10 ^ 10
  number_fits place old seen new e few =
      let within : place < length seen = seen_within key_keys (λ k n. (k.0, n)) seen (cenid, polyid) place e in
      let all : length seen ≡ length (first_seen_after key_cmp old (key_on side)) =
      ap length new ∙ ap (λ ks. length (first_seen_after key_cmp old ks)) (sym key_there) in
      omega (arith, within, all, few)
