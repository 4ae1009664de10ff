-- Open places in two parts: one ends before the other begins.
use Rattle.std.proofs.Common.{List, None, Some, [], arith, drop, false, length, ltb-false, nat_lt, slice_get, subst, suc, sym, take, zero, ℕ, ◌+◌, ◌∷◌, ◌≡◌, ◌≤◌}
use Rattle.std.proofs.Math.Seq.{drop-length}
use Rattle.std.specs.List.{AllByRecursion, list_any}
use Rattle.std.proofs.lemmas.Bool.{or_parts}
use Rattle.ordered_lists.proofs.Lists.Counted.{all_take}
use Rattle.canonical_form.specs.MovedChains.{ArePlacesInOrder, AreWithin}
use Rattle.tl_number.specs.ShapeDigits.{ArePlacesApart}
use Rattle.county_chart.specs.declared.open_place.OpenPlace.{OpenPlace}

module _ (at : OpenPlace) where
  -- places in order begin after the first place
  begin_behind : (first : ℕ) (places : List OpenPlace) → ArePlacesInOrder places → slice_get places first ≡ Some at
      → AllByRecursion (λ later. at.place ≤ later.place) (drop first places)
  begin_behind first [] in_order there = absurd (let e : None ≡ Some at = there in cc)
  begin_behind zero (other ∷ places) in_order there =
      let e : Some other ≡ Some at = there in
      let same : other ≡ at = cc in
      subst (λ one. AllByRecursion (λ later. one.place ≤ later.place) (other ∷ places)) same (omega arith, in_order.0)
  begin_behind (suc first) (other ∷ places) in_order there = begin_behind first places in_order.1 there

  -- places that move no chain past it end before it
  end_before : (count : ℕ) (places : List OpenPlace) → AreWithin count places
      → list_any (λ other. nat_lt at.place (other.place + other.alike)) places ≡ false → AreWithin at.place places
  end_before count [] within none = tt
  end_before count (other ∷ places) within none =
      let both = or_parts (nat_lt at.place (other.place + other.alike))
      (list_any (λ one. nat_lt at.place (one.place + one.alike)) places) none in
      (record { some = within.0.some; there = ltb-false at.place (other.place + other.alike) both.0 }, end_before count places within.1 both.1)

  there_within : (count first : ℕ) (places : List OpenPlace) → AreWithin count places → slice_get places first ≡ Some at → at.place ≤ count
  there_within count first [] within there = absurd (let e : None ≡ Some at = there in cc)
  there_within count zero (other ∷ places) within there =
      let e : Some other ≡ Some at = there in
      let same : other ≡ at = cc in
      subst (λ one. one.place ≤ count) same (let l = within.0.there in omega (arith, l))
  there_within count (suc first) (other ∷ places) within there = there_within count first places within.1 there

  pub places_apart : (count first : ℕ) (places : List OpenPlace) → AreWithin count places → ArePlacesInOrder places → slice_get places first ≡ Some at
      → list_any (λ other. nat_lt at.place (other.place + other.alike)) (take first places) ≡ false
      → ArePlacesApart count (take first places) (drop first places)
  places_apart count first places within in_order there none = record {
    edge = at.place;
    inside = there_within count first places within there;
    ends = end_before count (take first places) (all_take _ first places within) none;
    begins = begin_behind first places in_order there;
  }

-- no places end before all others
pub none_before : (count : ℕ) (places : List OpenPlace) → ArePlacesApart count [] places
none_before count places = record {
  edge = 0;
  inside = omega arith;
  ends = tt;
  begins = each places;
} where
  each : (ps : List OpenPlace) → AllByRecursion (λ at. 0 ≤ at.place) ps
  each [] = tt
  each (p ∷ ps) = (omega arith, each ps)

-- all places end before none
pub all_before : (count : ℕ) (places : List OpenPlace) → AreWithin count places
    → ArePlacesApart count (take (length places) places) (drop (length places) places)
all_before count places within = record {
  edge = count;
  inside = omega arith;
  ends = all_take _ (length places) places within;
  begins = subst (AllByRecursion (λ at. count ≤ at.place)) (sym (drop-length places)) tt;
}
