-- The names from below that the proofs of this crate cite, passed on from one place. Declares nothing.
pub use Rattle.county_chart.proofs.ByKey.FoundKeys.{contains-distinct}
pub use Rattle.county_chart.proofs.Limits.FewChains.{few_chains}
pub use Rattle.county_chart.proofs.Profile.CountedChoices.{IsCounted, alike-next, alike_few, counted_next, more_choices-append}
pub use Rattle.county_chart.proofs.Profile.Places.{ChainIsAt, all_next, along_from, chain_is_at, some-same, two_along}
pub use Rattle.county_chart.proofs.Profile.SameChoices.{choices_stated}
pub use Rattle.county_chart.specs.Choices.{counted_choices, is_either_way, most_choices, open_places}
pub use Rattle.county_chart.specs.County.{County}
pub use Rattle.county_chart.specs.CountyRules.{has_body, polygons_along}
pub use Rattle.county_chart.specs.Laws.KeyOrders.{key_keys, points_keys}
pub use Rattle.county_chart.specs.PolygonKeys.{key_cmp}
pub use Rattle.county_chart.specs.ShapeOrder.{AreInShapeOrder, along_shape, along_shapes, directed_cmp, points_along}
pub use Rattle.ordered_lists.proofs.ByKey.KeyedLists.{at_lists, empty_list, in_order-filter, least-same}
pub use Rattle.ordered_lists.proofs.ByKey.Numbers.{distinct-in_order}
pub use Rattle.ordered_lists.proofs.Lists.Elements.{map-map}
pub use Rattle.ordered_lists.proofs.Lists.InOrder.{strict-map}
pub use Rattle.ordered_lists.proofs.Lists.Reordered.{all_permuted}
pub use Rattle.ordered_lists.specs.Keyed.{IsLeastPassing, is_unknown}
pub use Rattle.ordered_lists.specs.Orders.{IsInOrder, contains, distinct}
pub use Rattle.std.proofs.Common.{Equal, Greater, IfOk, Less, List, Ordering, Some, [], ap, append_assoc, ap₂, arith, cond, false, int_cmp, is_eq, is_gt, length, length-append, map, min, neg_ℤ, not, refl, rules, slice_get, subst, suc, sym, take, zero-add, ℕ, ℤ, ◌&&◌, ◌++◌, ◌+◌, ◌<ℤ◌, ◌<◌, ◌∙◌, ◌∷◌, ◌≡◌, ◌≤ℤ◌, ◌≤◌}
pub use Rattle.std.proofs.lemmas.Cmp.{int_cmp_total, then_total}
pub use Rattle.std.proofs.lemmas.Grind.{flat_map-append}
pub use Rattle.std.proofs.lemmas.Int.{ints}
pub use Rattle.std.proofs.lemmas.Iterator.{items_from_collect}
pub use Rattle.std.proofs.lemmas.List.{length-map, map-append}
pub use Rattle.std.proofs.lemmas.List.FromFn.{length-map-range_with_len, map-range_with_len_more}
pub use Rattle.std.proofs.lemmas.List.Sorted.{length_permutation}
pub use Rattle.std.specs.Cmp.{IsTotalOrder, int_cmp_is, int_ranks}
pub use Rattle.std.specs.Int.RustNames.{unsigned_abs}
pub use Rattle.std.specs.List.{AllByRecursion, filter_map, range_with_len}
pub use Rattle.std.specs.Ordering.{nat_cmp, ordering_then}
pub use Rattle.tl_profile.specs.PlacedShapes.{HasFirstPoints, placed_cmp, placed_directed, placed_key_cmp, whole_shape}
pub use Rattle.tl_profile.specs.PointRanks.{IsRankOf, point_rank}
pub use Rattle.tl_profile.specs.Sides.{key_if_bodied, keys_on, keys_with_body}
pub use Rattle.tl_profile.specs.declared.open_places.OpenChoices.{OpenChoices}
pub use Rattle.tl_profile.specs.declared.shapes.PlacedShape.{PlacedShape}
pub use Rattle.tl_shape.specs.PointOrder.{point_cmp, points_cmp}
