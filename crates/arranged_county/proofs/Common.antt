-- The names from below that the proofs of this crate cite, passed on from one place. Declares nothing.
pub use Rattle.arranged_county.specs.ContentItems.{AgreeOn, AreClasses, class_after, classed_place, classes_along, landmark_bodies_cmp, name_content_cmp}
pub use Rattle.arranged_county.specs.LandmarkItems.{AreSortedLandmarks, classed_landmark_cmp, landmark_place_cmp, lands_at, link_in, link_under, links_from, numbered_links, own_links, with_land}
pub use Rattle.arranged_county.specs.NameItems.{AreSortedNames, RankedName, feats_along_arrangement, from_one, key_place, name_key_at, name_keys_cmp, rank_of, ranked_at, ranked_cmp, ranked_place}
pub use Rattle.arranged_county.specs.PlacedKeys.{AreApart, ArePlaced, found_by_either}
pub use Rattle.arranged_county.specs.TableItems.{AreOrderedKeys, new_key_of, new_polygon, old_place_of}
pub use Rattle.arranged_county.specs.ViewFacts.{MatchTables, MatchesLandmarks, MatchesNames, MatchesPolygons}
pub use Rattle.arranged_county.specs.declared.arranged_tables.LandmarkTables.{LandmarkTables}
pub use Rattle.arranged_county.specs.declared.arranged_tables.NameTables.{NameTables}
pub use Rattle.canonical_form.proofs.Arrangements.ArrangedNumbers.{few_landmarks, short_joined, two_polygons}
pub use Rattle.canonical_form.proofs.Arrangements.PlacesFit.{FitsPlaces, few_names, places_fit}
pub use Rattle.canonical_form.proofs.Arrangements.PolygonNumbers.{by_number, content_at_number, key_numbered}
pub use Rattle.canonical_form.proofs.Lists.Counting.{up_to-strict}
pub use Rattle.canonical_form.proofs.Lists.Filtered.{filter-filtered}
pub use Rattle.canonical_form.proofs.Lists.Grouping.{at_most, in_order-weaker, then-first}
pub use Rattle.canonical_form.proofs.Lists.ListPlaces.{get_dropped, then_assoc}
pub use Rattle.canonical_form.proofs.Lists.SortedPlaces.{each_item, sorted_items, sorted_places}
pub use Rattle.canonical_form.proofs.Names.UsesOrder.{all_uses-strict, under_use, use_keys}
pub use Rattle.canonical_form.proofs.Numbering.FirstSeen.{all_after, known_after, known_within, place-append, place-new, place_from, seen_stays, unknown_at_end}
pub use Rattle.canonical_form.proofs.Numbering.FoundPlaces.{any_within, none_within, place_behind, place_stays, to_position}
pub use Rattle.canonical_form.proofs.Numbering.NewNumbers.{key_seen, key_unseen, number_seen, number_unseen, seen_within}
pub use Rattle.canonical_form.proofs.Numbering.SeenKeys.{place_found}
pub use Rattle.canonical_form.proofs.Unique.SameNames.{name_key_keys}
pub use Rattle.canonical_form.proofs.Views.ArrangedViews.{whole_arrangement}
pub use Rattle.canonical_form.proofs.Views.DirectedChains.{feats_placed}
pub use Rattle.canonical_form.proofs.Views.ViewChains.{arranges, bodies_read, chains, chains_arranged_by, numbered_there, read_length, read_there, tlids_arranged_by, values}
pub use Rattle.canonical_form.specs.Arrangement.{Arrangement, arranged_tlids, landmarks_in_order, names_in_order, nodes_in_order, placed, polygons_in_order, renaming_of, turned_tlids, under_cenid}
pub use Rattle.canonical_form.specs.ByNumber.{under_number}
pub use Rattle.canonical_form.specs.DirectedChains.{HasChainsOf, arrangement_of, tlid_at}
pub use Rattle.canonical_form.specs.EndsAndSides.{changed_both, ends_among, keys_at, node_among, nodes_at, polygon_among, polygons_at, side_among, sides_among}
pub use Rattle.canonical_form.specs.Growth.{first_seen, first_seen_after, numbered, up_to}
pub use Rattle.canonical_form.specs.Uses.{Use, use_cmp, uses_of_name}
pub use Rattle.canonical_form.specs.WholeArrangements.{AreReadAt, AreWhole, NamesEachOnce, arranged_by, link_bounds, links_up_to}
pub use Rattle.county_chart.proofs.ByKey.FoundKeys.{known_at}
pub use Rattle.county_chart.proofs.Packing.Pieces.{rights-numbered_from}
pub use Rattle.county_chart.proofs.Profile.Places.{is_at, is_some_from}
pub use Rattle.county_chart.specs.BodyOrder.{landmark_body_cmp, link_cmp, link_part, link_part_cmp, name_body_cmp}
pub use Rattle.county_chart.specs.ChartWords.{bodies_at, ends_of, links_at, links_with, sides_of}
pub use Rattle.county_chart.specs.County.{County, eight_land}
pub use Rattle.county_chart.specs.CountyRules.{AllKeysContained, IsCounty, feats, lands, polygon_keys, polygons_along, tlids}
pub use Rattle.county_chart.specs.DirectedChains.{directed_chain}
pub use Rattle.county_chart.specs.Laws.KeyOrders.{key_keys, link_keys}
pub use Rattle.county_chart.specs.Laws.TypeCounts.{HasAtMost}
pub use Rattle.county_chart.specs.Packing.{numbered_from}
pub use Rattle.county_chart.specs.PolygonKeys.{PolygonKey, key_cmp}
pub use Rattle.county_chart.specs.Renumbering.{side_of}
pub use Rattle.county_chart.specs.declared.directed_chain.DirectedChain.{DirectedChain}
pub use Rattle.ordered_lists.proofs.ByKey.KeyedLists.{in_order-filter, in_order-from_sorted}
pub use Rattle.ordered_lists.proofs.ByKey.Keys.{IsApart, IsKeyOrder, Known, apart-permutation, apart_from_sorted, nat_keys, times-append}
pub use Rattle.ordered_lists.proofs.ByKey.Numbers.{distinct-in_order}
pub use Rattle.ordered_lists.proofs.Lists.Among.{all_among, among-get}
pub use Rattle.ordered_lists.proofs.Lists.AtPlaces.{all_at_places}
pub use Rattle.ordered_lists.proofs.Lists.Distinct.{has_repeat-apart}
pub use Rattle.ordered_lists.proofs.Lists.Elements.{all_map, all_weaker, flat_map-map, map-map}
pub use Rattle.ordered_lists.proofs.Lists.InOrder.{in_order-in_order, in_order-map, in_order-permutation}
pub use Rattle.ordered_lists.proofs.Lists.Members.{among_known}
pub use Rattle.ordered_lists.proofs.Lists.Permutations.{in_order-is_permutation}
pub use Rattle.ordered_lists.proofs.Lists.Places.{one_more_taken}
pub use Rattle.ordered_lists.proofs.Lists.Ranges.{less}
pub use Rattle.ordered_lists.proofs.Lists.Reordered.{all_permuted}
pub use Rattle.ordered_lists.specs.Entries.{entry_keys, entry_values}
pub use Rattle.ordered_lists.specs.Orders.{IsInOrder, contains, has_repeat, in_order, times}
pub use Rattle.ordered_lists.specs.Pairs.{image}
pub use Rattle.std.proofs.Common.{Bool, Equal, Err, Greater, IfOk, IfSome, IsPermutation, IsTrue, Less, List, None, Ok, OnOk, Option, Ordering, Result, Some, [], ap, append-nil, append_assoc, ap₂, arith, cond, drop, eqb, false, filter, filter_map, flat_map, get_or, inl, inr, is_eq, is_gt, is_lt, is_some, length, length-append, map, nat_cmp, nat_le, option_map, option_to_list, refl, rules, set, slice_get, subst, suc, sym, take, tests, true, unwrap_or, zero, zip, ℕ, ◌%◌, ◌++◌, ◌+◌, ◌-◌, ◌<◌, ◌==◌, ◌^◌, ◌∙◌, ◌∷◌, ◌≡◌, ◌≢◌, ◌≤◌, ◌⊎◌}
pub use Rattle.std.proofs.lemmas.Bool.{false_from_ne_true, lt-ltb, ltb-true, true≢false}
pub use Rattle.std.proofs.lemmas.Bool.Decides.{eqb_tells, leb_tells}
pub use Rattle.std.proofs.lemmas.Cmp.{alike_right, lists_total, nat_cmp_total, on_total, ranked, tied_itself}
pub use Rattle.std.proofs.lemmas.Fn.{always_returns_same}
pub use Rattle.std.proofs.lemmas.Grind.{drop_more_same}
pub use Rattle.std.proofs.lemmas.Iterator.{YieldsList-from_map, YieldsList-from_range, YieldsList-from_slice, YieldsList-from_zip, items_from_collect}
pub use Rattle.std.proofs.lemmas.Iterator.Consumers.{YieldsList-at, YieldsList-from_copied, YieldsList-from_enumerate, YieldsList-from_filter, YieldsList-from_filter_map}
pub use Rattle.std.proofs.lemmas.Iterator.Search.{cmp_from_yields_List}
pub use Rattle.std.proofs.lemmas.List.{drop-set-lt, drop_all, drop_more, get_or-set_other, get_or-set_same, length-map, length-set, map-append, take_more_set}
pub use Rattle.std.proofs.lemmas.List.FromFn.{get_or-map-range_with_len, length-map-range_with_len, length-range_with_len, map-range_with_len_more}
pub use Rattle.std.proofs.lemmas.List.Sorted.{IsPermutation-map, IsPermutation-sym, IsPermutation-trans, length_permutation, ranks_by}
pub use Rattle.std.proofs.lemmas.Option.{IfSome_then, none-some, same_Some, slice_get-map, slice_get_within}
pub use Rattle.std.proofs.lemmas.Result.{IfOk-at_ok, IfOk-weaker}
pub use Rattle.std.specs.Cmp.{IsTotalOrder}
pub use Rattle.std.specs.Cmp.Lexicographic.{slice_cmp}
pub use Rattle.std.specs.Iterator.Adapters.{map_callee}
pub use Rattle.std.specs.List.{AllByRecursion, cons_option, enumerate_from, position, range_with_len}
pub use Rattle.std.specs.Option.{option_cmp, option_flatten}
pub use Rattle.std.specs.Ordering.{on, ordering_reverse, ordering_then}
pub use Rattle.tl_layout.specs.Fields.{Fields8}
pub use Rattle.tl_layout.specs.PolygonSide.{PolygonSide}
pub use Rattle.tl_layout.specs.declared.type5.Body5.{Body5}
pub use Rattle.tl_layout.specs.declared.type7.Body7.{Body7}
pub use Rattle.tl_shape.specs.Chain.{Chain}
