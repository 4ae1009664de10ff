-- The records of type 6 of two choices, from the first chain on whose ranges differ.
use Rattle.tl_number.proofs.Common.{County, DirectedChain, IsWithinLimits, List, Ranges, Record, Some, [], ap, arith, chosen_county, directed_chain, drop, few_chains, groups_cmp, kept_entry, length, length-map, map, most_records, nat_list_cmp_total, numbered_from, option_map, ordering_then, packed_sixes, refl, slice_get, slice_get-map, spelling_of, suc, sym, take, tied_itself, type_6_by_chain, zero, ℕ, ◌+◌, ◌<◌, ◌^◌, ◌∙◌, ◌∷◌, ◌≡◌}
use Rattle.std.proofs.lemmas.List.{length-drop}
use Rattle.tl_number.proofs.Ties.ComparedChoices.{ComparedChoices, OrderedCounty, all_choices, chains_at, chains_numbered, directed_in, new_in, read_in, stated}
use Rattle.tl_number.specs.AlikeRanges.{ranges_towards}
use Rattle.canonical_form.specs.Arrangement.{arranged}
use Rattle.canonical_form.proofs.Arrangements.PolygonNumbers.{numbered_at}
use Rattle.canonical_form.proofs.Views.ViewChains.{read_there}
use Rattle.county_chart.specs.ChartWords.{ranges_of}
use Rattle.ordered_lists.proofs.Lists.ByPlace.{same_next}
use Rattle.tl_layout.specs.Fields.{Fields6}

-- a group that both lists begin with decides nothing
same_first : {X : Type 0} (record_of : X → Record) (group : List X) (groups others : List (List X))
    → groups_cmp record_of groups others ≡ groups_cmp record_of (group ∷ groups) (group ∷ others)
same_first record_of [] groups others = refl
same_first record_of (x ∷ group) groups others =
    same_first record_of group groups others
    ∙ sym (ap (λ o. ordering_then o (groups_cmp record_of (group ∷ groups) (group ∷ others)))
    (tied_itself nat_list_cmp_total (spelling_of (record_of x))))

-- and so all of them do
pub rest_decides : {X : Type 0} (record_of : X → Record) (count : ℕ) (groups others : List (List X)) → take count groups ≡ take count others
    → groups_cmp record_of (drop count groups) (drop count others) ≡ groups_cmp record_of groups others
rest_decides record_of zero groups others e = refl
rest_decides record_of (suc count) [] [] e = refl
rest_decides record_of (suc count) [] (other ∷ others) e = cc
rest_decides record_of (suc count) (group ∷ groups) [] e = cc
rest_decides record_of (suc count) (group ∷ groups) (other ∷ others) e =
    let first : group ≡ other = cc in
    let rest : take count groups ≡ take count others = cc in
    rest_decides record_of count groups others rest ∙ same_first record_of group groups others
    ∙ ap (λ g. groups_cmp record_of (group ∷ groups) (g ∷ others)) first

-- the groups from a place on are at places that fit
pub few_from : (county : County) → IsWithinLimits most_records county → (first group : ℕ) → group < length (drop first (type_6_by_chain county))
    → first + group < 2 ^ 32
few_from county within first group there = omega (
  arith,
  few_chains county within,
  length-drop first (type_6_by_chain county),
  length-map county.chains packed_sixes,
  there,
)

module _ (c : OrderedCounty) where
  abbrev all : ComparedChoices
  all = all_choices c

  -- the records of type 6 of a choice, chain by chain
  abbrev pub sixes_in : ℕ → List (List Fields6)
  sixes_in i = type_6_by_chain (chosen_county c.county i)

  -- those with these ranges
  abbrev sixes_of : ℕ → List Ranges → List Fields6
  sixes_of tlid ranges = map (λ piece. record { tlid = tlid; rtsq = piece.0; ranges = piece.1 }) (numbered_from 1 ranges)

  sixes_there : (i place : ℕ) (directed : DirectedChain) → slice_get (directed_in all i) place ≡ Some directed
      → slice_get (sixes_in i) place ≡ Some (sixes_of (1 + place) (ranges_towards c.county directed))
  sixes_there i place directed e =
      let there = read_there (directed_chain c.county) (directed_in all i) (chains_at all i) (read_in all i) place directed e in
      ap (λ order. slice_get (type_6_by_chain (arranged c.county order)) place) (sym (stated all i))
      ∙ ap (λ entries. slice_get (map packed_sixes entries) place) (chains_numbered all i)
      ∙ slice_get-map packed_sixes (map (kept_entry (new_in all i)) (numbered_from 1 (chains_at all i))) place
      ∙ ap (option_map packed_sixes) (slice_get-map (kept_entry (new_in all i)) (numbered_from 1 (chains_at all i)) place
      ∙ ap (option_map (kept_entry (new_in all i)))
      (numbered_at 1 (chains_at all i) place ∙ ap (option_map (λ chain. (1 + place, chain))) there.1))
      ∙ sym (ap (λ chain. Some (sixes_of (1 + place) (ranges_of chain))) there.2)

  -- chains with the same ranges at the next place have the same records
  pub sixes_next : (n k place : ℕ) (one other : DirectedChain) → slice_get (directed_in all n) place ≡ Some one
      → slice_get (directed_in all k) place ≡ Some other → ranges_towards c.county one ≡ ranges_towards c.county other
      → take place (sixes_in n) ≡ take place (sixes_in k) → take (place + 1) (sixes_in n) ≡ take (place + 1) (sixes_in k)
  sixes_next n k place one other e f same before = same_next (sixes_in n) (sixes_in k) place before
      (sixes_there n place one e ∙ ap (λ ranges. Some (sixes_of (1 + place) ranges)) same ∙ sym (sixes_there k place other f))
