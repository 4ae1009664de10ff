-- The lesser of two choices, choice by choice.
use Rattle.tl_number.proofs.Common.{AllKeysContained, Bool, County, Equal, Four, Greater, IsCounty, IsNotAfter, IsWithinLimits, Less, List, None, Ordering, Some, Two, [], all_append, all_weaker, ap, arith, arrangement_within, choice_list, choices_cmp, choices_same, chosen_county, cond, decided, false, false≢true, groups_cmp, is_gt, is_le, lesser_choice, most_records, numbered_choice, numbered_is_choice, ones_cmp, ordering_then, polygon_keys, polygons_along, refl, slice_get, subst, suc, sym, take, texts_in_order, true, type_2_by_chain, type_4_by_chain, types_5_to_7_cmp, types_8_to_p_cmp, zero, ℕ, ◌++◌, ◌+◌, ◌∙◌, ◌∷◌, ◌≡◌}
use Rattle.tl_number.specs.LeastOnes.{IsLeastAmong}
use Rattle.tl_number.proofs.Choices.LeastNumbers.{lesser_of, not_after_both}
use Rattle.canonical_form.proofs.Arrangements.ArrangedCounties.{arranged_county}

pub not_greater_from : (o : Ordering) → is_le o ≡ true → is_gt o ≡ false
not_greater_from Less e = refl
not_greater_from Equal e = refl
not_greater_from Greater e = absurd (false≢true e)

pub greater_from : (o : Ordering) → is_le o ≡ false → is_gt o ≡ true
greater_from Less e = absurd (false≢true (sym e))
greater_from Equal e = absurd (false≢true (sym e))
greater_from Greater e = refl

-- A property of two pairs is a property of the pair taken from both.
pub of_each : {X Y : Type 0} (P : X → Y → Type 0) (b : Bool) (x y : X) (v w : Y) → P x v → P y w → P (cond b x y) (cond b v w)
of_each P true x y v w p q = p
of_each P false x y v w p q = q

-- The lesser of the least of some choices and the next one is the least of all these.
pub lesser_least : (county : County) (numbers : List ℕ) (place old next : ℕ) → slice_get numbers place ≡ Some next
    → IsLeastAmong county (take place numbers) old → IsLeastAmong county (take (place + 1) numbers) (lesser_choice county old next)
lesser_least county numbers place old next there among =
    let lesser : ℕ = lesser_choice county old next in
    let both = lesser_of county old next (choices_cmp county old next) refl in
    subst (λ some. IsLeastAmong county some lesser) (sym (ap (λ count. take count numbers) (let more : place + 1 ≡ suc place = omega arith in more) ∙ taken numbers place next there))
    (all_append (λ m. IsNotAfter (choice_list county lesser) (choice_list county m)) (take place numbers) (next ∷ [])
    (all_weaker (λ m. IsNotAfter (choice_list county old) (choice_list county m)) (λ m. IsNotAfter (choice_list county lesser) (choice_list county m))
    (λ m up. not_after_both county lesser old m both.0 up) (take place numbers) among)
    (both.1, tt))
  where
    taken : (ns : List ℕ) (place next : ℕ) → slice_get ns place ≡ Some next → take (suc place) ns ≡ take place ns ++ (next ∷ [])
    taken [] place next e = absurd (let none : None ≡ Some next = e in cc)
    taken (n ∷ ns) zero next e = (let some : Some n ≡ Some next = e in let same : n ≡ next = cc in ap (λ m. m ∷ []) same)
    taken (n ∷ ns) (suc place) next e = ap (λ ms. n ∷ ms) (taken ns place next e)

module _ (county : County) (is : IsCounty county) (within : IsWithinLimits most_records county)
    (sides : AllKeysContained (polygons_along county.chains) (polygon_keys county)) where
  -- If the records of type 1 of two choices differ, they decide between the texts.
  pub ones_decide : (n m : ℕ) → (ones_cmp county n m ≡ Equal → ⊥) → choices_cmp county n m ≡ ones_cmp county n m
  ones_decide n m differ =
      let a = numbered_is_choice county is n in
      let b = numbered_is_choice county is m in
      let one = chosen_county county n in
      let other = chosen_county county m in
      let others = ordering_then (groups_cmp Two (type_2_by_chain one) (type_2_by_chain other)) (groups_cmp Four (type_4_by_chain one) (type_4_by_chain other)) in
      let rest = ordering_then (types_5_to_7_cmp one other) (types_8_to_p_cmp one other) in
      texts_in_order one other
      (arranged_county county (numbered_choice county n) is a.arranges sides) (arranged_county county (numbered_choice county m) is b.arranges sides)
      (arrangement_within most_records (omega arith) county is (numbered_choice county n) a.arranges sides within)
      (arrangement_within most_records (omega arith) county is (numbered_choice county m) b.arranges sides within)
      (choices_same county is sides n m)
      ∙ ap (λ o. ordering_then o rest) (decided (ones_cmp county n m) others differ) ∙ decided (ones_cmp county n m) rest differ
