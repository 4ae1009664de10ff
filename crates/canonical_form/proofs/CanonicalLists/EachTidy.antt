-- If a renaming carries a county onto an arranged county, that county is the first one under the arrangement read off the renaming.
use Rattle.canonical_form.proofs.Common.{AllByRecursion, AllKeysContained, Arrangement, Arranges, Bool, Carries, County, IsApart, IsArranged, IsCounty, IsPermutation, IsPermutation-map, IsPermutation-sym, IsPermutation-trans, Known, List, Renumbering, all_unmap, ap, apart-permutation, apart_from_sorted, arranged, arranged_tlids, contains, exactly_one, false, false≢true, image, image-known, images-lefts, inverse, known-permutation, known-permutation_to, known_all, lefts, length, length-map, map, map-id, map-map, map_itself, nat_cmp, nat_keys, numbered, polygon_keys, polygons_along, refl, renaming_of, rights, subst, swapped, sym, then, tlids, true, turns, up_to, ℕ, ◌∙◌, ◌≡◌}
use Rattle.canonical_form.proofs.Arrangements.ArrangedCounties.{arranged_county, is_arranged}
use Rattle.canonical_form.proofs.Arrangements.Carrying.{arrangement_carries, chains_renamed, images-numbered, turned_renamed}
use Rattle.canonical_form.proofs.Arrangements.Placed.{arrangement_apart, turns_as_stated}
use Rattle.canonical_form.proofs.Lists.Counting.{map-equal_all}
use Rattle.canonical_form.proofs.Unique.Rigid.{rigid}
use Rattle.county_chart.proofs.Sameness.Equivalence.{Follows, inverse_carries, inverse_follows, then_carries, then_follows, there_and_back}

both_or_none : (a b : Bool) → exactly_one a b ≡ false → a ≡ b
both_or_none true true e = refl
both_or_none true false e = absurd (false≢true (sym e))
both_or_none false true e = absurd (false≢true (sym e))
both_or_none false false e = refl

exactly_one-itself : (b : Bool) → exactly_one b b ≡ false
exactly_one-itself true = refl
exactly_one-itself false = refl

-- the old TLID for a new one
abbrev pub old_tlid : Renumbering → ℕ → ℕ
old_tlid r n = image nat_cmp (swapped r.chains) n

-- the directed chain that gets this TLID
abbrev pub directed_to : Renumbering → ℕ → ℕ × Bool
directed_to r n = (old_tlid r n, turns r (old_tlid r n))

-- the order and the directions of the chains that a renaming carries onto this county
abbrev pub read_off : Renumbering → County → Arrangement
read_off r b = map (directed_to r) (tlids b)

module _ (r : Renumbering) (a b : County) (wa : IsCounty a) (wb : IsCounty b) (h : Carries r a b) where
  back : Carries (inverse r) b a
  back = inverse_carries r a b wa wb h

  new_apart : IsApart nat_cmp (tlids b)
  new_apart = apart_from_sorted nat_keys (tlids b) wb.ascending.chains

  read_tlids : arranged_tlids (read_off r b) ≡ map (old_tlid r) (tlids b)
  read_tlids = map-map (λ (s : ℕ × Bool). s.0) (directed_to r) (tlids b)

  pub read_arranges : Arranges (read_off r b) a
  read_arranges =
      let ps : List (ℕ × ℕ) = swapped r.chains in
      let apart : IsApart nat_cmp (lefts ps) = apart-permutation nat_keys (lefts ps) (tlids b) back.numbers.chains.left new_apart in
      subst (λ ns. IsPermutation ns (tlids a)) (sym read_tlids)
      (IsPermutation-trans (map (image nat_cmp ps) (tlids b)) (rights ps) (tlids a)
      (subst (IsPermutation (map (image nat_cmp ps) (tlids b))) (images-lefts nat_keys ps apart)
      (IsPermutation-map (image nat_cmp ps) (tlids b) (lefts ps) (IsPermutation-sym (lefts ps) (tlids b) back.numbers.chains.left)))
      back.numbers.chains.right)

  -- an old TLID is known, and its new one is the given one
  old_known : (n : ℕ) → Known nat_cmp (tlids b) n → Known nat_cmp (tlids a) (old_tlid r n)
  old_known n k =
      let ps : List (ℕ × ℕ) = swapped r.chains in
      known-permutation_to nat_keys (old_tlid r n) (rights ps) (tlids a) back.numbers.chains.right
      (image-known nat_keys ps n (known-permutation nat_keys n (lefts ps) (tlids b) back.numbers.chains.left k))

  new_again : (n : ℕ) → Known nat_cmp (tlids b) n → image nat_cmp r.chains (old_tlid r n) ≡ n
  new_again n k =
      let twice : swapped (swapped r.chains) ≡ r.chains =
      map-map (λ (p : ℕ × ℕ). (p.1, p.0)) (λ (p : ℕ × ℕ). (p.1, p.0)) r.chains
      ∙ map_itself (λ (p : ℕ × ℕ). (p.0, p.1)) (λ p. refl) r.chains in
      ap (λ ps. image nat_cmp ps (old_tlid r n)) (sym twice)
      ∙ there_and_back nat_keys (swapped r.chains) (tlids b) (tlids a) back.numbers.chains
      (apart_from_sorted nat_keys (tlids a) wa.ascending.chains) n k

  -- a chain is turned on the way back if it was on the way there
  turned_back : (n : ℕ) → Known nat_cmp (tlids b) n → turns r (old_tlid r n) ≡ turns (inverse r) n
  turned_back n k = both_or_none (turns r (old_tlid r n)) (turns (inverse r) n)
      (ap (λ m. exactly_one (turns r (old_tlid r n)) (turns (inverse r) m)) (sym (new_again n k))
      ∙ (inverse_follows r a b wa wb h).turned (old_tlid r n) (old_known n k))

  module _ (tb : IsArranged b) (sides : AllKeysContained (polygons_along a.chains) (polygon_keys a)) where
    again : Carries (renaming_of a (read_off r b)) a (arranged a (read_off r b))
    again = arrangement_carries a (read_off r b) wa read_arranges sides

    follows : Follows (renaming_of a (read_off r b)) (inverse r) (then (inverse r) (renaming_of a (read_off r b))) b
    follows = then_follows (inverse r) (renaming_of a (read_off r b)) b a (arranged a (read_off r b)) wb wa back again

    -- going back and then following the arrangement, each TLID stays
    all_kept : AllByRecursion (λ n. image nat_cmp (renaming_of a (read_off r b)).chains (old_tlid r n) ≡ n) (tlids b)
    all_kept =
        map-equal_all (λ n. image nat_cmp (renaming_of a (read_off r b)).chains (old_tlid r n)) (λ n. n) (tlids b)
        (sym (map-map (image nat_cmp (renaming_of a (read_off r b)).chains) (old_tlid r) (tlids b))
        ∙ ap (λ ps. map (image nat_cmp ps) (map (old_tlid r) (tlids b))) (chains_renamed a (read_off r b) wa read_arranges)
        ∙ ap (map (image nat_cmp (numbered (arranged_tlids (read_off r b))))) (sym read_tlids)
        ∙ images-numbered (arranged_tlids (read_off r b)) (arrangement_apart a (read_off r b) wa read_arranges)
        ∙ ap up_to (ap length read_tlids ∙ length-map (tlids b) (old_tlid r) ∙ length-map b.chains (λ e. e.0))
        ∙ sym tb.tlids ∙ sym (map-id (tlids b)))

    -- and the arrangement turns each chain that was turned back
    all_turned : AllByRecursion (λ n. turns (renaming_of a (read_off r b)) (old_tlid r n) ≡ turns r (old_tlid r n)) (tlids b)
    all_turned =
        all_unmap (λ s. turns (renaming_of a (read_off r b)) s.0 ≡ s.1) (directed_to r) (tlids b)
        (subst (λ ts. AllByRecursion (λ s. contains nat_cmp s.0 ts ≡ s.1) (read_off r b))
        (sym (turned_renamed a (read_off r b) wa read_arranges))
        (turns_as_stated (read_off r b) (arrangement_apart a (read_off r b) wa read_arranges)))

    -- The county is arranged in this way.
    pub read_makes : b ≡ arranged a (read_off r b)
    read_makes =
        rigid (then (inverse r) (renaming_of a (read_off r b))) b (arranged a (read_off r b))
        (then_carries (inverse r) (renaming_of a (read_off r b)) b a (arranged a (read_off r b)) wb wa back again)
        wb (arranged_county a (read_off r b) wa read_arranges sides) tb (is_arranged a (read_off r b) wa read_arranges sides)
        (λ n k. sym (follows.chains n k)
        ∙ known_all nat_keys (λ m. image nat_cmp (renaming_of a (read_off r b)).chains (old_tlid r m) ≡ m) (tlids b) all_kept n k)
        (λ n k. sym (follows.turned n k)
        ∙ (λ i. exactly_one (sym (turned_back n k) i)
        (known_all nat_keys (λ m. turns (renaming_of a (read_off r b)) (old_tlid r m) ≡ turns r (old_tlid r m)) (tlids b) all_turned n k i))
        ∙ exactly_one-itself (turns r (old_tlid r n)))
