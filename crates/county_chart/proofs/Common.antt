-- The names from below that the proofs of this crate cite, passed on from one place. Declares nothing.
pub use Rattle.county_chart.specs.BodyOrder.{landmark_body_cmp, link_cmp}
pub use Rattle.county_chart.specs.ChartWords.{bodies_at, chain_at, feats_of, links_at, links_with, points_of, ranges_of}
pub use Rattle.county_chart.specs.Choices.{alike_first, choices, factorial, is_either_way, is_first, is_settled, most_choices, open_place_at, open_places, product, running, shapes, ways_at}
pub use Rattle.county_chart.specs.County.{County, chain_of, chains_of, county_of, eight_land, first, five_feat, four_rtsq, four_tlid, further_names, further_ranges, i_tlid, link_key, one_tlid, p_key, polygon_body, seven_land, shape_points, side_keys, six_rtsq, six_tlid, two_rtsq, two_tlid}
pub use Rattle.county_chart.specs.CountyRules.{AllContained, AllKeysContained, IsClosed, IsCounty, IsWhole, chain_nodes, chain_polygons, feats, has_body, lands, nodes, nodes_along, polygon_keys, polygons_along, tlids}
pub use Rattle.county_chart.specs.FirstOf.{IsFirst, place_cmp}
pub use Rattle.county_chart.specs.JoinedLists.{AreWithin, pieces_in}
pub use Rattle.county_chart.specs.LandmarkParts.{LandmarkParts}
pub use Rattle.county_chart.specs.Laws.KeyOrders.{key_keys, landmark_body_keys, link_keys, points_keys}
pub use Rattle.county_chart.specs.Laws.MaskedCounties.{lands_masked, length_masked_bodies}
pub use Rattle.county_chart.specs.Laws.PackedTypes.{by_type_of, lists_of}
pub use Rattle.county_chart.specs.Laws.TypeCounts.{HasAtMost, HasWithin, by_type_within, packed_within}
pub use Rattle.county_chart.specs.Limits.{ContentsFit, FitsChain, FitsLandmark, FitsLink, FitsLinkContent, FitsNameBody, FitsNumbers, FitsPolygon, IsWithinLimits, ListsFit, NumbersFit, greatest_rtsq}
pub use Rattle.county_chart.specs.LinkRules.{IsFirstBrokenRule, IsLinked, chain_tlids, is_rule_broken, link_fault_place, linked_tlids, named_feats, rtsqs}
pub use Rattle.county_chart.specs.LinkedTypes.{linked_type}
pub use Rattle.county_chart.specs.MaskedCounty.{masked, masked_bodies, masked_chain}
pub use Rattle.county_chart.specs.Packing.{by_type, first_point, last_point, pieces}
pub use Rattle.county_chart.specs.PolygonKeys.{PolygonKey, key_cmp, key_on, key_under}
pub use Rattle.county_chart.specs.Profile.{AreAllOnSides, IsFirstBrokenClause, IsInProfile, is_clause_broken, profile_fault_place}
pub use Rattle.county_chart.specs.Renumbering.{AreSame, Carries, Renumbering, carried_chain, carried_landmark, carried_link, carried_name, carried_polygon, exactly_one, identity, inverse, renumbered, renumbered_polygon, renumbered_side, then, turns}
pub use Rattle.county_chart.specs.ShapeOrder.{AreInShapeOrder, along_shape, along_shapes, points_along}
pub use Rattle.county_chart.specs.Shapes.{least_points, points_at, points_from}
pub use Rattle.county_chart.specs.StoredCounty.{LinksUnderLands, landmark_entry}
pub use Rattle.county_chart.specs.declared.directed_chain.DirectedChain.{DirectedChain}
pub use Rattle.county_chart.specs.declared.fault.LinkFault.{LinkFault}
pub use Rattle.county_chart.specs.declared.fault.LinkFault.TheVariants.{ChainTwice, LandUnknown, LinkMissing, LinkTwice, NameTwice, NameUnknown, NoChain, PolygonTwice, PolygonUnknown, SequenceBroken}
pub use Rattle.county_chart.specs.declared.fault.LinkedType.{LinkedType}
pub use Rattle.county_chart.specs.declared.fault.LinkedType.TheVariants.{I, Six}
pub use Rattle.county_chart.specs.declared.fault.SequencedType.{SequencedType}
pub use Rattle.county_chart.specs.declared.open_place.OpenPlace.{OpenPlace}
pub use Rattle.county_chart.specs.declared.profile_fault.ProfileFault.{ProfileFault}
pub use Rattle.county_chart.specs.declared.profile_fault.ProfileFault.TheVariants.{Memory, PolygonWithoutChain, TooSymmetric}
pub use Rattle.ordered_lists.proofs.ByKey.KeyOrders.{bytes_keys, lists_keys}
pub use Rattle.ordered_lists.proofs.ByKey.KeyedLists.{answered-in_order, before_all, decided-first, decided-last, empty_list, group_cut, in_order-from_adjacent, in_order-from_sorted, left-below, less_from}
pub use Rattle.ordered_lists.proofs.ByKey.Keys.{IsApart, IsKeyOrder, Known, all_known, apart_from_sorted, apart_tail, differ, differ_apart, known-append, known-left, known_all, known_cases, map_agree, nat_keys, same-itself, same-true, same_or_not, times-no, times-yes}
pub use Rattle.ordered_lists.proofs.ByKey.Numbers.{all-in_order, count-map, distinct-in_order, distinct-strict, each_from, from_in_order, length-in_order, only_one, strict_from_order, times-in_order, to_in_order}
pub use Rattle.ordered_lists.proofs.Lists.Among.{Among, all_among, among_left, among_right, known_among}
pub use Rattle.ordered_lists.proofs.Lists.ByPlace.{places_decide, same_next, same_seen, sorted_in_order, taken_all}
pub use Rattle.ordered_lists.proofs.Lists.Counted.{all_drop, all_selected, all_take, few_in_groups, few_numbers, filter-agree, hits_once, shorter_pieces}
pub use Rattle.ordered_lists.proofs.Lists.Distinct.{apart-distinct, apart_from_no_repeat, has_repeat-apart, known-distinct, known_from_distinct}
pub use Rattle.ordered_lists.proofs.Lists.Elements.{all_append, all_both, all_everywhere, all_filter, all_joined, all_left, all_map, all_pieces, all_right, all_unmap, all_weaker, flat_map-map, map-map, map_agree_all, map_agree_everywhere, map_itself}
pub use Rattle.ordered_lists.proofs.Lists.EntryLists.{in_order-strict, keys-map_values, keys-zip, map_values-id, none-under, value-at_place, values-map_values, values-zip}
pub use Rattle.ordered_lists.proofs.Lists.Groups.{strict_head, strict_tail}
pub use Rattle.ordered_lists.proofs.Lists.InOrder.{in_order-in_order, in_order-map}
pub use Rattle.ordered_lists.proofs.Lists.Members.{among-map, among-permutation, among-pieces, among-unmap, among_any, among_known, any_among, known_is_among}
pub use Rattle.ordered_lists.proofs.Lists.Places.{length_keys, one_more_taken, value-stated}
pub use Rattle.ordered_lists.proofs.Lists.Reordered.{SameElements, contains_alike, distinct_same, from_permutation, same-map, times-same, to_filter}
pub use Rattle.ordered_lists.specs.Entries.{entry_keys, entry_values, map_values, value_under}
pub use Rattle.ordered_lists.specs.Keyed.{is_unknown}
pub use Rattle.ordered_lists.specs.Orders.{IsInOrder, contains, distinct, has_repeat, in_order, put_in_order, times}
pub use Rattle.ordered_lists.specs.Pairs.{ArePaired, composed, image, is_named, swapped, to_itself}
pub use Rattle.std.proofs.Common.{Bool, Equal, Greater, IfSome, IsPermutation, IsSome, IsTrue, Less, List, None, Option, Ordering, Some, [], add-one, ap, append-nil, append_assoc, ap₂, arith, cond, drop, false, filter, filter_map, flat_map, inl, inr, is_eq, is_gt, is_lt, is_some, length, length-append, length-drop, lit<, map, map-id, nat_cmp, nat_lt, not, option_map, option_to_list, refl, reverse, rules, slice_get, slice_range, subst, suc, sym, take, true, unwrap_or, zero, ℕ, ◌&&◌, ◌*◌, ◌++◌, ◌+◌, ◌-◌, ◌<◌, ◌==◌, ◌^◌, ◌||◌, ◌∙◌, ◌∷◌, ◌≡◌, ◌≤◌, ◌⊎◌}
pub use Rattle.std.proofs.Math.Nat.{pow-succ'}
pub use Rattle.std.proofs.Math.Seq.{drop-append_seam}
pub use Rattle.std.proofs.lemmas.Bool.{and_from, and_parts, cases_eq, eq-eqb, eqb-true, false_from_ne_true, false≢true, lt-ltb, ltb-false, ltb-true, ne_eqb, or_left, or_right}
pub use Rattle.std.proofs.lemmas.Cmp.{nat_cmp_total, on_total, upto}
pub use Rattle.std.proofs.lemmas.Fn.{always_returns_same}
pub use Rattle.std.proofs.lemmas.Grind.{common_steps}
pub use Rattle.std.proofs.lemmas.Iterator.{YieldsList-from_range, cases_from_all}
pub use Rattle.std.proofs.lemmas.List.{drop-append-le, length-map, length-reverse, length-take, map-append, reverse-append, reverse-reverse, take-append-le, take_all}
pub use Rattle.std.proofs.lemmas.List.Elements.{filter-append}
pub use Rattle.std.proofs.lemmas.List.Sorted.{IsPermutation-append_right, IsPermutation-filter_both, IsPermutation-map, IsPermutation-refl, IsPermutation-sym, IsPermutation-trans, ranks_by}
pub use Rattle.std.proofs.lemmas.Option.{slice_get-get_or, slice_get-map, slice_get_past, unwrap_or-slice_get}
pub use Rattle.std.proofs.lemmas.Result.{on_ok_weaker}
pub use Rattle.std.specs.Bool.{Decides}
pub use Rattle.std.specs.Cmp.{nat_cmp_is}
pub use Rattle.std.specs.Cmp.Lexicographic.{slice_cmp}
pub use Rattle.std.specs.List.{AllByRecursion, cons_option, list_any, range_with_len}
pub use Rattle.std.specs.List.Sorted.{IsStrictlySortedBy}
pub use Rattle.std.specs.Ordering.{MatchOrdering, is_le, on, ordering_reverse, ordering_then}
pub use Rattle.tl_layout.specs.AddressRanges.{FitsRanges}
pub use Rattle.tl_layout.specs.ByType.{of_number, of_type_1, of_type_2, of_type_4, of_type_5, of_type_6, of_type_7, of_type_8, of_type_i, of_type_p}
pub use Rattle.tl_layout.specs.Bytes.{IsText}
pub use Rattle.tl_layout.specs.Coordinates.{Coordinates, IsOnMap}
pub use Rattle.tl_layout.specs.Fields.{Fields1, Fields2, Fields4, Fields5, Fields6, Fields7, Fields8, FieldsI, FieldsP}
pub use Rattle.tl_layout.specs.Laws.Type1Laws.{type_1_fits}
pub use Rattle.tl_layout.specs.Limits.{IsWithinLimit, most_records}
pub use Rattle.tl_layout.specs.Masked.{masked_body_1, masked_body_7, masked_body_i}
pub use Rattle.tl_layout.specs.Numbers.{IsNumber, IsNumberOrNone}
pub use Rattle.tl_layout.specs.RecordText.{FitsRecord}
pub use Rattle.tl_layout.specs.RecordTypes.{FieldsOf, ListsByType, RecordType, Type1, Type2, Type4, Type5, Type6, Type7, Type8, TypeI, TypeP, as_type, later_types, listed_by_type, of_type, record_of}
pub use Rattle.tl_layout.specs.Turned.{turned_ranges}
pub use Rattle.tl_layout.specs.Type1Groups.{FitsBody1}
pub use Rattle.tl_layout.specs.declared.mask.Mask.{Mask}
pub use Rattle.tl_layout.specs.declared.record_type.Record.{Record}
pub use Rattle.tl_layout.specs.declared.type5.Body5.{Body5}
pub use Rattle.tl_layout.specs.declared.type7.Body7.{Body7}
pub use Rattle.tl_layout.specs.declared.type_p.BodyP.{BodyP}
pub use Rattle.tl_shape.proofs.InPlace.{mapped_all, mapped_next}
pub use Rattle.tl_shape.specs.Chain.{Chain}
pub use Rattle.tl_shape.specs.PointOrder.{points_cmp}
pub use Rattle.tl_shape.specs.TurnLaws.{turned-turned}
pub use Rattle.tl_shape.specs.Turned.{turned_if}
