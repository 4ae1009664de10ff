-- The names from below that the proofs of this crate cite, passed on from one place. Declares nothing.
pub use Rattle.ordered_lists.specs.Entries.{entry_keys, entry_values, map_values, value_under}
pub use Rattle.ordered_lists.specs.Keyed.{IsLeastPassing, is_repeated, is_unknown}
pub use Rattle.ordered_lists.specs.Marks.{AreMarksOf}
pub use Rattle.ordered_lists.specs.NumberSets.{marked}
pub use Rattle.ordered_lists.specs.Orders.{IsInOrder, contains, distinct, has_repeat, in_order, put_in_order, times}
pub use Rattle.ordered_lists.specs.Places.{at_places}
pub use Rattle.std.proofs.Common.{Bool, Contains, Equal, Err, Greater, IfSome, IsPermutation, Less, List, None, Ok, Option, Ordering, Result, Some, [], add-one, ap, append-nil, append_assoc, ap₂, arith, cond, drop, false, filter, filter_map, flat_map, get_or, inl, inr, is_eq, is_gt, is_some, length, length-append, map, nat_cmp, nat_lt, not, option_map, refl, replicate, rules, set, slice_get, subst, suc, sym, take, true, unwrap_or, zero, zero-add, ℕ, ◌&&◌, ◌++◌, ◌+◌, ◌-◌, ◌<◌, ◌==◌, ◌||◌, ◌∙◌, ◌∷◌, ◌≡◌, ◌≢◌, ◌≤◌, ◌⊎◌}
pub use Rattle.std.proofs.lemmas.Bool.{and_parts, cases_eq, eq-eqb, eqb-true, false_from_ne_true, false≢true, le-ltb, lt-ltb, ltb-false, ltb-true, ne_eqb, or_cases, or_from, or_left, or_parts, or_right, true≢false}
pub use Rattle.std.proofs.lemmas.Cmp.{lists_total, nat_cmp_total, on_total, ranked, then_total, tied_itself, upto}
pub use Rattle.std.proofs.lemmas.Grind.{common_steps}
pub use Rattle.std.proofs.lemmas.Iterator.{YieldsList-from_range, items_from_collect}
pub use Rattle.std.proofs.lemmas.List.{get_or-set_other, get_or-set_same, get_or_default, length-set, set-set, take_all}
pub use Rattle.std.proofs.lemmas.List.Edits.{swap_is}
pub use Rattle.std.proofs.lemmas.List.Elements.{filter-append}
pub use Rattle.std.proofs.lemmas.List.Filters.{dedup_is}
pub use Rattle.std.proofs.lemmas.List.FromFn.{fill_by_all, get_or-range_with_len, length-range_with_len}
pub use Rattle.std.proofs.lemmas.List.Sorted.{Contains-permutation, IsPermutation-cons, IsPermutation-map, IsPermutation-middle, IsPermutation-refl, IsPermutation-swap, IsPermutation-sym, IsPermutation-trans, length_permutation, searchable_from_sorted, sum_by-IsPermutation}
pub use Rattle.std.proofs.lemmas.List.Sums.{length-filter}
pub use Rattle.std.proofs.lemmas.Map.Lookups.{exact_pairs, exact_unsigned}
pub use Rattle.std.proofs.lemmas.Option.{slice_get-get_or, slice_get-map, slice_get_past}
pub use Rattle.std.specs.Bool.{Decides, MatchBool}
pub use Rattle.std.specs.Cmp.{IsTotalOrder, nat_cmp_is}
pub use Rattle.std.specs.Cmp.Lexicographic.{slice_cmp}
pub use Rattle.std.specs.List.{AllByRecursion, AllWithin, HoldsAt, IsAllAdjacentAnswer, cons_option, dedup, dedup_from, list_any, prefix_len, range_with_len, zip}
pub use Rattle.std.specs.List.Sorted.{IsBinarySearchResult, IsSearchInRange, IsStrictlySortedBy}
pub use Rattle.std.specs.Ordering.{is_le, is_lt, on, ordering_reverse, ordering_then}
pub use Rattle.std.specs.Prelude.{All}
pub use Rattle.std.specs.Result.{result_ok}
pub use Rattle.std.specs.Vec.{vec_len}
