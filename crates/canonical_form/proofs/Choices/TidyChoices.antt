-- The choices that make a county tidy are those selected by numbers.
use Rattle.canonical_form.proofs.Common.{AllByRecursion, Among, Arrangement, Arranges, Bool, Chain, Coordinates, County, Equal, Greater, IsChoice, IsCounty, IsInOrder, IsPermutation, IsPermutation-map, IsPermutation-trans, IsTidy, Known, Less, List, Ordering, [], all_both, all_map, all_unmap, all_weaker, among-map, among_known, ap, append-nil, arranged, arranged_tlids, ascending, choices, choices_of_shapes, chosen, comes_turned, directed_shape, each_from, entries_of, entry_points, entry_shape, false, false≢true, flat_map, from_in_order, from_permutation, in_order, in_order-in_order, in_order-is_permutation, in_order-map, in_order-unmap, inl, inr, is_either_way, is_eq, is_gt, is_lt, least_points, map, map-map, map_agree_all, nat_cmp, nat_keys, not, on, on_total, order_antisymm, placed, points_cmp, points_from, points_keys, refl, renaming_of, reverse, reverse-reverse, rights-numbered_from, running, running-same, same-itself, same-true, shapes, subst, sym, times-permutation, tlids, true, turned_directed, turned_if, ℕ, ◌++◌, ◌<◌, ◌∙◌, ◌∷◌, ◌≡◌, ◌⊎◌}
use Rattle.canonical_form.proofs.Choices.LesserDirections.{shape_turned, turned_same}
use Rattle.canonical_form.proofs.Choices.Choosing.{IsChosen, choice_has_number, chosen_is_choice, first_stated, permutation_of_times}
use Rattle.canonical_form.proofs.Arrangements.Placed.{arrangement_known, one_chain}
use Rattle.canonical_form.proofs.Arrangements.Carrying.{chains_arranged}
use Rattle.canonical_form.proofs.Unique.SameNumbers.{kept_entry}
use Rattle.canonical_form.specs.Tidy.{numbered_choice}
use Rattle.canonical_form.proofs.Views.DirectedChains.{alone_under}

-- points that don't come after their reverse, in the direction given, are the shape
least_if : (turned : Bool) (ps : List Coordinates)
    → is_gt (points_cmp (points_from turned ps) (reverse (points_from turned ps))) ≡ false → points_from turned ps ≡ least_points ps
least_if false ps h = sym (ap (λ b. points_from b ps) (turned_same ps ∙ h))
least_if true ps h = go (is_lt (points_cmp (reverse ps) ps)) refl
  where
    go : (b : Bool) → is_lt (points_cmp (reverse ps) ps) ≡ b → reverse ps ≡ least_points ps
    go true e = sym (ap (λ b. points_from b ps) e)
    go false e =
        order_antisymm points_keys (reverse ps) ps (subst (λ qs. is_gt (points_cmp (reverse ps) qs) ≡ false) (reverse-reverse ps) h)
        (sym (turned_same ps) ∙ e)
        ∙ sym (ap (λ b. points_from b ps) e)

less_not_greater : (o : Ordering) → is_lt o ≡ true → is_gt o ≡ false
less_not_greater Less e = refl
less_not_greater Equal e = refl
less_not_greater Greater e = absurd (false≢true e)

-- and the shape doesn't come after its reverse
least_not_after : (ps : List Coordinates) → is_gt (points_cmp (least_points ps) (reverse (least_points ps))) ≡ false
least_not_after ps = go (is_lt (points_cmp (reverse ps) ps)) refl
  where
    go : (b : Bool) → is_lt (points_cmp (reverse ps) ps) ≡ b
        → is_gt (points_cmp (points_from b ps) (reverse (points_from b ps))) ≡ false
    go true e = subst (λ qs. is_gt (points_cmp (reverse ps) qs) ≡ false) (sym (reverse-reverse ps))
        (less_not_greater (points_cmp (reverse ps) ps) e)
    go false e = sym (turned_same ps) ∙ e

from_other : (turned : Bool) (ps : List Coordinates) → points_from (not turned) ps ≡ reverse (points_from turned ps)
from_other true ps = sym (reverse-reverse ps)
from_other false ps = refl

-- the points of a directed chain, in its direction
abbrev pub directed_points : County → ℕ × Bool → List Coordinates
directed_points county directed = flat_map (λ (entry : ℕ × Chain). points_from directed.1 entry.1.points) (entries_of county.chains directed.0)

turned_points : (b : Bool) (c : Chain) → (turned_if b c).points ≡ points_from b c.points
turned_points true c = refl
turned_points false c = refl

abbrev directed_tlid : ℕ × Bool → ℕ
directed_tlid s = s.0

-- a chain of the county, in a direction in which its points are its shape
abbrev pub IsLawful : County → ℕ × Bool → Type 0
IsLawful county s = Known nat_cmp (tlids county) s.0 × (directed_points county s ≡ directed_shape county s)

module _ (county : County) (is : IsCounty county) where
  abbrev ordered : List (ℕ × Chain)
  ordered = in_order (on entry_shape points_cmp) county.chains

  abbrev shape : ℕ → List Coordinates
  shape n = flat_map entry_shape (entries_of county.chains n)

  pub shapes_arrange : Arranges (ascending county) county
  shapes_arrange = subst (λ ns. IsPermutation ns (tlids county))
      (sym (map-map directed_tlid (λ (e : ℕ × Chain). (e.0, comes_turned e.1)) ordered))
      (IsPermutation-map (λ (e : ℕ × Chain). e.0) ordered county.chains
      (in_order-is_permutation (on entry_shape points_cmp) county.chains))

  -- the one chain with this TLID
  under : (n : ℕ) → Known nat_cmp (tlids county) n → (e : ℕ × Chain) × (entries_of county.chains n ≡ e ∷ []) × (e.0 ≡ n)
  under = one_chain county (ascending county) is shapes_arrange

  points_under : (n : ℕ) (b : Bool) (e : ℕ × Chain) → entries_of county.chains n ≡ e ∷ []
      → directed_points county (n, b) ≡ points_from b e.1.points
  points_under n b e one = ap (flat_map (λ (d : ℕ × Chain). points_from b d.1.points)) one ∙ append-nil (points_from b e.1.points)

  shape_under : (n : ℕ) (e : ℕ × Chain) → entries_of county.chains n ≡ e ∷ [] → shape n ≡ least_points e.1.points
  shape_under n e one = ap (flat_map entry_shape) one ∙ append-nil (least_points e.1.points)

  opposite : (n : ℕ) (b : Bool) → Known nat_cmp (tlids county) n → directed_points county (n, not b) ≡ reverse (directed_points county (n, b))
  opposite n b k =
      let one = under n k in
      points_under n (not b) one.0 one.1 ∙ from_other b one.0.1.points ∙ ap reverse (sym (points_under n b one.0 one.1))

  -- a chain that is its own reverse may also run in the other direction, and no other chain may
  turned_lawful : (s : ℕ × Bool) → IsLawful county s → is_either_way (shape s.0) ≡ true → IsLawful county (turned_directed s)
  turned_lawful s l e = (
    l.0,
    opposite s.0 s.1 l.0 ∙ ap reverse l.1 ∙ sym (same-true points_keys (shape s.0) (reverse (shape s.0)) e),
  )

  one_way : (s t : ℕ × Bool) → t.0 ≡ s.0 → IsLawful county s → IsLawful county t
      → (t ≡ s) ⊎ ((is_either_way (shape s.0) ≡ true) × (t ≡ turned_directed s))
  one_way s t e l m = go s.1 t.1 refl refl
    where
      other : t.1 ≡ not s.1 → (t ≡ s) ⊎ ((is_either_way (shape s.0) ≡ true) × (t ≡ turned_directed s))
      other f =
          let same : t ≡ turned_directed s = λ i. (e i, f i) in
          let back : reverse (shape s.0) ≡ shape s.0 =
          ap reverse (sym l.1) ∙ sym (opposite s.0 s.1 l.0) ∙ ap (directed_points county) (sym same) ∙ m.1 ∙ ap shape e in
          inr (subst (λ qs. is_eq (points_cmp (shape s.0) qs) ≡ true) (sym back) (same-itself points_keys (shape s.0)), same)

      go : (b c : Bool) → s.1 ≡ b → t.1 ≡ c → (t ≡ s) ⊎ ((is_either_way (shape s.0) ≡ true) × (t ≡ turned_directed s))
      go true true f g = inl (λ i. (e i, (g ∙ sym f) i))
      go false false f g = inl (λ i. (e i, (g ∙ sym f) i))
      go true false f g = other (g ∙ ap not (sym f))
      go false true f g = other (g ∙ ap not (sym f))

  -- the ascending arrangement
  among_ordered : AllByRecursion (λ e. Among e county.chains) ordered
  among_ordered = each_from (λ e. Among e county.chains) ordered
      (λ e m. from_in_order (on entry_shape points_cmp) county.chains e m)

  abbrev least_directed : ℕ × Chain → ℕ × Bool
  least_directed e = (e.0, comes_turned e.1)

  least_lawful : (e : ℕ × Chain) → Among e county.chains → IsLawful county (least_directed e)
  least_lawful e m = (
    among_known nat_keys e.0 (tlids county) (among-map (λ (d : ℕ × Chain). d.0) e county.chains m),
    points_under e.0 (comes_turned e.1) e (alone_under county is e m) ∙ sym (turned_points (comes_turned e.1) e.1) ∙ shape_turned e
        ∙ sym (shape_under e.0 e (alone_under county is e m)),
  )

  all_lawful : AllByRecursion (IsLawful county) (ascending county)
  all_lawful = all_map (IsLawful county) least_directed ordered
      (all_weaker (λ e. Among e county.chains) (λ e. IsLawful county (least_directed e)) least_lawful ordered among_ordered)

  pub shapes_ascending : map (directed_shape county) (ascending county) ≡ map entry_shape ordered
  shapes_ascending = map-map (directed_shape county) least_directed ordered
      ∙ map_agree_all (λ e. directed_shape county (least_directed e)) entry_shape (λ e. Among e county.chains)
      (λ e m. shape_under e.0 e (alone_under county is e m)) ordered among_ordered

  in_ascending : IsInOrder (on (directed_shape county) points_cmp) (ascending county)
  in_ascending = in_order-unmap points_cmp (directed_shape county) (ascending county)
      (subst (IsInOrder points_cmp) (sym shapes_ascending)
      (in_order-map points_cmp entry_shape ordered (in_order-in_order (on_total entry_shape points_keys.total) county.chains)))

  count_is : running points_cmp is_either_way (map (directed_shape county) (ascending county)) ≡ choices county
  count_is = ap (running points_cmp is_either_way) shapes_ascending
      ∙ running-same points_keys is_either_way (map entry_shape ordered) (shapes county)
      (from_permutation (map entry_shape ordered) (shapes county)
      (IsPermutation-map entry_shape ordered county.chains (in_order-is_permutation (on entry_shape points_cmp) county.chains)))
      ∙ choices_of_shapes county

  -- the chains of an arranged county have the points of the directed chains
  module _ (arrangement : Arrangement) (arranges : Arranges arrangement county) where
    bodies_points : (ss : Arrangement) → AllByRecursion (λ (s : ℕ × Bool). Known nat_cmp (tlids county) s.0) ss
        → map (λ (c : Chain). c.points)
        (flat_map (λ (s : ℕ × Bool). map (λ (e : ℕ × Chain). turned_if s.1 e.1) (entries_of county.chains s.0)) ss)
        ≡ map (directed_points county) ss
    bodies_points [] a = refl
    bodies_points (s ∷ ss) a =
        let one = under s.0 a.0 in
        let rest : List Chain =
        flat_map (λ (t : ℕ × Bool). map (λ (e : ℕ × Chain). turned_if t.1 e.1) (entries_of county.chains t.0)) ss in
        ap (λ es. map (λ (c : Chain). c.points) (map (λ (e : ℕ × Chain). turned_if s.1 e.1) es ++ rest)) one.1
        ∙ (λ i. (turned_points s.1 one.0.1 ∙ sym (points_under s.0 s.1 one.0 one.1)) i ∷ bodies_points ss a.1 i)

    points_of_arrangement : map entry_points (arranged county arrangement).chains ≡ map (directed_points county) arrangement
    points_of_arrangement =
        ap (map entry_points) (chains_arranged county arrangement is arranges)
        ∙ map-map entry_points (kept_entry (renaming_of county arrangement)) (placed county arrangement)
        ∙ sym (map-map (λ (c : Chain). c.points) (λ (e : ℕ × Chain). e.1) (placed county arrangement))
        ∙ ap (map (λ (c : Chain). c.points))
        (rights-numbered_from 1 (flat_map (λ (s : ℕ × Bool). map (λ (e : ℕ × Chain). turned_if s.1 e.1)
        (entries_of county.chains s.0)) arrangement))
        ∙ bodies_points arrangement (arrangement_known county arrangement is arranges)

    abbrev IsNotAfterReverse : List Coordinates → Type 0
    IsNotAfterReverse ps = is_gt (points_cmp ps (reverse ps)) ≡ false

    shapes_of_lawful : AllByRecursion (IsLawful county) arrangement → map (directed_points county) arrangement ≡ map (directed_shape county) arrangement
    shapes_of_lawful a = map_agree_all (directed_points county) (directed_shape county) (IsLawful county) (λ s l. l.1) arrangement a

    -- if the county gets tidy, the directed chains are lawful and in order, and conversely
    lawful_from_tidy : IsTidy (arranged county arrangement) → AllByRecursion (IsLawful county) arrangement
    lawful_from_tidy tidy =
        let directions : AllByRecursion (λ s. IsNotAfterReverse (directed_points county s)) arrangement =
        all_unmap IsNotAfterReverse (directed_points county) arrangement
        (subst (AllByRecursion IsNotAfterReverse) points_of_arrangement
        (all_map IsNotAfterReverse entry_points (arranged county arrangement).chains tidy.directions)) in
        all_weaker (λ s. Known nat_cmp (tlids county) s.0 × IsNotAfterReverse (directed_points county s)) (IsLawful county) each arrangement
        (all_both (λ s. Known nat_cmp (tlids county) s.0) (λ s. IsNotAfterReverse (directed_points county s)) arrangement
        (arrangement_known county arrangement is arranges) directions)
      where
        each : (s : ℕ × Bool) → Known nat_cmp (tlids county) s.0 × IsNotAfterReverse (directed_points county s) → IsLawful county s
        each s h =
            let one = under s.0 h.0 in
            let points : directed_points county s ≡ points_from s.1 one.0.1.points = points_under s.0 s.1 one.0 one.1 in
            (h.0, points ∙ least_if s.1 one.0.1.points (subst IsNotAfterReverse points h.1) ∙ sym (shape_under s.0 one.0 one.1))

    ordered_from_tidy : IsTidy (arranged county arrangement) → IsInOrder (on (directed_shape county) points_cmp) arrangement
    ordered_from_tidy tidy = in_order-unmap points_cmp (directed_shape county) arrangement
        (subst (IsInOrder points_cmp) (points_of_arrangement ∙ shapes_of_lawful (lawful_from_tidy tidy))
        (in_order-map points_cmp entry_points (arranged county arrangement).chains tidy.ascending))

    tidy_from_lawful : AllByRecursion (IsLawful county) arrangement → IsInOrder (on (directed_shape county) points_cmp) arrangement
        → IsTidy (arranged county arrangement)
    tidy_from_lawful a h = record {
      directions = all_unmap IsNotAfterReverse entry_points (arranged county arrangement).chains
          (subst (AllByRecursion IsNotAfterReverse) (sym points_of_arrangement)
          (all_map IsNotAfterReverse (directed_points county) arrangement (all_weaker (IsLawful county)
          (λ s. IsNotAfterReverse (directed_points county s)) each arrangement a)));
      ascending = in_order-unmap points_cmp entry_points (arranged county arrangement).chains
          (subst (IsInOrder points_cmp) (sym (points_of_arrangement ∙ shapes_of_lawful a))
          (in_order-map points_cmp (directed_shape county) arrangement h));
    }
      where
        each : (s : ℕ × Bool) → IsLawful county s → IsNotAfterReverse (directed_points county s)
        each s l =
            let one = under s.0 l.0 in
            subst IsNotAfterReverse (sym (l.1 ∙ shape_under s.0 one.0 one.1)) (least_not_after one.0.1.points)

  -- Each number selects a choice.
  abbrev IsChosenHere : Arrangement → Type 0
  IsChosenHere arrangement =
      IsChosen points_keys is_either_way directed_tlid shape turned_directed (λ s. refl) (IsLawful county) turned_lawful one_way (ascending county) arrangement

  choice_from_chosen : (arrangement : Arrangement) → IsChosenHere arrangement → IsChoice county arrangement
  choice_from_chosen arrangement c =
      let arranges : Arranges arrangement county =
      IsPermutation-trans (arranged_tlids arrangement) (arranged_tlids (ascending county)) (tlids county)
      (permutation_of_times nat_keys (arranged_tlids arrangement) (arranged_tlids (ascending county)) c.names) shapes_arrange in
      record { arranges = arranges; tidy = tidy_from_lawful arrangement arranges c.lawful c.ordered }

  chosen_from_choice : (arrangement : Arrangement) → IsChoice county arrangement → IsChosenHere arrangement
  chosen_from_choice arrangement c = record {
    names = λ n. sym (times-permutation nat_keys n (arranged_tlids arrangement) (tlids county) c.arranges)
        ∙ times-permutation nat_keys n (arranged_tlids (ascending county)) (tlids county) shapes_arrange;
    lawful = lawful_from_tidy arrangement c.arranges c.tidy;
    ordered = ordered_from_tidy arrangement c.arranges c.tidy;
  }

  pub stated_here : (n : ℕ) → numbered_choice county n ≡ (chosen points_cmp is_either_way (directed_shape county) turned_directed (ascending county) n).0
  unfolding numbered_choice
  stated_here n = refl

  pub numbered_is_choice : (n : ℕ) → IsChoice county (numbered_choice county n)
  numbered_is_choice n = subst (IsChoice county) (sym (stated_here n))
      (choice_from_chosen (chosen points_cmp is_either_way (directed_shape county) turned_directed (ascending county) n).0
      (chosen_is_choice points_keys is_either_way directed_tlid shape turned_directed (λ s. refl) (IsLawful county) turned_lawful one_way
      (ascending county) all_lawful in_ascending n))

  -- Each choice has a number below the number of choices.
  pub choice_number : (arrangement : Arrangement) → IsChoice county arrangement
      → (n : ℕ) × (n < choices county) × (numbered_choice county n ≡ arrangement)
  choice_number arrangement c =
      let found = choice_has_number points_keys is_either_way directed_tlid shape turned_directed (λ s. refl) (IsLawful county) turned_lawful one_way
      (ascending county) all_lawful in_ascending arrangement (chosen_from_choice arrangement c) in
      (found.0, subst (λ m. found.0 < m) count_is found.1, stated_here found.0 ∙ found.2)

  -- Number 0 is the ascending arrangement.
  pub first_choice : numbered_choice county 0 ≡ ascending county
  first_choice = stated_here 0
      ∙ ap (λ r. r.0) (first_stated points_keys is_either_way directed_tlid shape turned_directed (λ s. refl) (ascending county))
