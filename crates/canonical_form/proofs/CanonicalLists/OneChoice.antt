-- If the shapes of chains are distinct, and none is its own reverse, there is one choice: the ascending arrangement.
use Rattle.canonical_form.proofs.Common.{AllByRecursion, AreSame, Arrangement, Bool, County, HasShapesApart, IsApart, IsArrangedList, IsCanonical, IsChoice, IsCounty, IsKeyOrder, IsNotAfter, IsStrict, IsStrictlySortedBy, IsTidy, IsTidyList, Less, List, Ordering, Record, [], all_map, all_weaker, ap, apart_from_no_repeat, apart_from_sorted, apart_tail, arith, arranged_list, ascending, choices, choices_of_shapes, cond, county-is_county, county_of, entry_points, entry_shape, false, has_repeat-apart, in_order-strict, in_order-unmap, is_either_way, is_eq, is_gt, map, map_agree_all, numbered_choice, points_cmp, points_from, points_keys, refl, reverse, running, same-reflexive, shapes, strict-unmap, subst, suc, sym, times, times-yes, ◌*◌, ◌<◌, ◌∙◌, ◌∷◌, ◌≡◌}
use Rattle.canonical_form.proofs.CanonicalLists.TidyLists.{not_after_itself, tidy_is_choice}
use Rattle.canonical_form.proofs.Choices.LesserDirections.{turned_same}
use Rattle.canonical_form.proofs.Choices.TidyChoices.{choice_number, first_choice}

running_one : {K : Type 0} {cmp : K → K → Ordering} (o : IsKeyOrder cmp) (either : K → Bool) (ks : List K) → IsApart cmp ks
    → AllByRecursion (λ k. either k ≡ false) ks → running cmp either ks ≡ 1
running_one o either [] a h = refl
running_one {K} {cmp} o either (k ∷ ks) a h =
    let none : times cmp k ks ≡ 0 = omega (arith, a k, times-yes o k k ks refl) in
    let rest : running cmp either ks ≡ 1 = running_one o either ks (apart_tail o k ks a) h.1 in
    λ i. suc (none i) * (cond (h.0 i) 2 1 * rest i)

pub one_choice : (county : County) → HasShapesApart county → choices county ≡ 1
one_choice county h = sym (choices_of_shapes county) ∙ running_one points_keys is_either_way (shapes county)
    (apart_from_no_repeat points_keys (shapes county) h.apart) h.one_way

pub only_choice : (county : County) → IsCounty county → HasShapesApart county → (arrangement : Arrangement) → IsChoice county arrangement
    → arrangement ≡ ascending county
only_choice county is h arrangement c =
    let found = choice_number county is arrangement c in
    let below : found.0 < choices county = found.1 in
    let first : found.0 ≡ 0 = omega (arith, below, one_choice county h) in
    sym found.2 ∙ ap (numbered_choice county) first ∙ first_choice county is

-- points that come before their reverse
less_cases : (o : Ordering) → o ≡ Less → (is_gt o ≡ false) × (is_eq o ≡ false)
less_cases o e = (ap is_gt e, ap is_eq e)

-- If points come before their reverse and ascend strictly, shapes are distinct and the county is tidy.
module _ (county : County) (h : IsStrict county) where
  each_shape : map entry_points county.chains ≡ shapes county
  each_shape = map_agree_all entry_points entry_shape
      (λ e. points_cmp (entry_points e) (reverse (entry_points e)) ≡ Less)
      (λ e less. sym (ap (λ b. points_from b e.1.points)
      (turned_same e.1.points ∙ (less_cases (points_cmp e.1.points (reverse e.1.points)) less).0)))
      county.chains h.directions

  strict_apart : HasShapesApart county
  strict_apart = record {
    apart = has_repeat-apart points_keys (shapes county) (apart_from_sorted points_keys (shapes county)
        (subst (IsStrictlySortedBy points_cmp) each_shape (strict-unmap points_cmp entry_points county.chains h.ascending)));
    one_way = subst (AllByRecursion (λ points. is_eq (points_cmp points (reverse points)) ≡ false)) each_shape
        (all_map (λ points. is_eq (points_cmp points (reverse points)) ≡ false) entry_points county.chains
        (all_weaker (λ e. points_cmp (entry_points e) (reverse (entry_points e)) ≡ Less)
        (λ e. is_eq (points_cmp (entry_points e) (reverse (entry_points e))) ≡ false)
        (λ e less. (less_cases (points_cmp (entry_points e) (reverse (entry_points e))) less).1) county.chains h.directions));
  }

  strict_tidy : IsTidy county
  strict_tidy = record {
    directions = all_weaker (λ e. points_cmp (entry_points e) (reverse (entry_points e)) ≡ Less)
        (λ e. is_gt (points_cmp (entry_points e) (reverse (entry_points e))) ≡ false)
        (λ e less. (less_cases (points_cmp (entry_points e) (reverse (entry_points e))) less).0) county.chains h.directions;
    ascending = in_order-unmap points_cmp entry_points county.chains
        (in_order-strict points_cmp (map entry_points county.chains) (strict-unmap points_cmp entry_points county.chains h.ascending));
  }

-- An arranged list of such a county is therefore the only tidy list of its map, and canonical.
module _ (records : List Record) (form : IsArrangedList records) (h : IsStrict (county_of records)) where
  is_county : IsCounty (county_of records)
  is_county = county-is_county records form.linked

  only_list : (list : List Record) → IsTidyList list → AreSame (county_of records) (county_of list)
      → list ≡ arranged_list (county_of records) (ascending (county_of records))
  only_list list tidy s =
      let found = tidy_is_choice (county_of records) is_county form.numbers.on_sides list tidy s in
      found.2 ∙ ap (arranged_list (county_of records))
      (only_choice (county_of records) is_county (strict_apart (county_of records) h) found.0 found.1)

  pub only_tidy : (list : List Record) → IsTidyList list → AreSame (county_of records) (county_of list) → list ≡ records
  only_tidy list tidy s = only_list list tidy s ∙ sym (only_list records (record { in_form = form; tidy = strict_tidy (county_of records) h })
      (same-reflexive (county_of records)))

  pub strict_is_canonical : IsCanonical records
  strict_is_canonical = record {
    in_form = form;
    tidy = strict_tidy (county_of records) h;
    least = λ other tidy s. subst (IsNotAfter records) (sym (only_tidy other tidy s)) (not_after_itself records);
  }
