-- The names from below that the proofs of this crate cite, passed on from one place. Declares nothing.
pub use Rattle.county_chart.proofs.ByKey.FoundKeys.{contains-distinct}
pub use Rattle.county_chart.proofs.Limits.FitsCounty.{county-within_limits}
pub use Rattle.county_chart.proofs.Lists.Compared.{greater, less}
pub use Rattle.county_chart.proofs.Lists.OfNumber.{of_number-all, times-of_number}
pub use Rattle.county_chart.proofs.Rules.LinkFaults.{number, part}
pub use Rattle.county_chart.proofs.Rules.LinkedCounty.{apart_chains, chains_all, county-is_county, linked_chain, needed, one_link, the_link}
pub use Rattle.county_chart.proofs.Sameness.Carried.{among-unpieces, pieces_alike}
pub use Rattle.county_chart.specs.BodyOrder.{bytes_cmp, landmark_body_cmp, landmark_cmp, link_cmp, link_part, link_part_cmp, optional_point_cmp}
pub use Rattle.county_chart.specs.County.{chain_of, chains_of, county_of, eight_land, first, five_feat, four_rtsq, four_tlid, further_names, further_ranges, i_tlid, landmarks_of, link_key, one_tlid, p_key, polygon_body, polygons_of, seven_land, shape_points, side_keys, six_rtsq, six_tlid, two_rtsq, two_tlid}
pub use Rattle.county_chart.specs.CountyRules.{IsCounty, chain_nodes, chain_polygons, has_body, is_without_chain, nodes, polygons_along}
pub use Rattle.county_chart.specs.FirstOf.{place_cmp}
pub use Rattle.county_chart.specs.LandmarkParts.{LandmarkParts}
pub use Rattle.county_chart.specs.Laws.KeyOrders.{key_keys, landmark_body_keys, link_keys}
pub use Rattle.county_chart.specs.Laws.PackedTypes.{by_type_of}
pub use Rattle.county_chart.specs.Limits.{HoldsWithinLimits, IsWithinLimits}
pub use Rattle.county_chart.specs.LinkRules.{IsFirstBrokenRule, IsLinked, chain_tlids, is_rule_broken, link_fault_place, linked_tlids, named_feats, rtsqs}
pub use Rattle.county_chart.specs.Packing.{Typed, by_type, type_after_type}
pub use Rattle.county_chart.specs.PolygonKeys.{PolygonKey, key_cmp}
pub use Rattle.county_chart.specs.SequenceKeys.{four_sequence, is_unnamed, sequence_cmp, six_sequence, two_sequence, uses_of}
pub use Rattle.county_chart.specs.StoredCounty.{LinksUnderLands, county_with, landmark_entry}
pub use Rattle.county_chart.specs.declared.fault.LinkFault.{LinkFault}
pub use Rattle.county_chart.specs.declared.fault.LinkFault.TheVariants.{ChainTwice, LandUnknown, LinkMissing, LinkTwice, Memory, NameTwice, NameUnknown, NoChain, PolygonTwice, PolygonUnknown, SequenceBroken}
pub use Rattle.county_chart.specs.declared.fault.LinkedType.{LinkedType}
pub use Rattle.county_chart.specs.declared.fault.LinkedType.TheVariants.{I}
pub use Rattle.county_chart.specs.declared.fault.SequencedType.{SequencedType}
pub use Rattle.ordered_lists.proofs.ByKey.KeyOrders.{bytes_keys, pair_keys}
pub use Rattle.ordered_lists.proofs.ByKey.KeyedLists.{at_lists, before_all, decided-twice, empty_list, first_least, group-and_later, in_order-filter, in_order-from_sorted, least-same, left-once, left-one, less_from, lt_reversed}
pub use Rattle.ordered_lists.proofs.ByKey.Keys.{IsKeyOrder, Known, all_known, filter_all, known-append, known-here, known-left, known-right, known_all, known_cases, nat_keys, same-itself, same-true, same_or_not, times-append, times-cons, times-no, times-permutation, times-yes}
pub use Rattle.ordered_lists.proofs.ByKey.KeysAscend.{ascend-apart, ascend-in_order}
pub use Rattle.ordered_lists.proofs.ByKey.Numbers.{all-in_order, all_themselves, count-map, distinct-in_order, distinct-strict, each_from, strict_from_order}
pub use Rattle.ordered_lists.proofs.Lists.Among.{Among, all_among}
pub use Rattle.ordered_lists.proofs.Lists.AtPlaces.{all_at_places, at_all_places, map-at_places, numbers_in_order}
pub use Rattle.ordered_lists.proofs.Lists.Counted.{eq_test, filter-agree}
pub use Rattle.ordered_lists.proofs.Lists.Distinct.{apart_from_no_repeat, bit, has_repeat-apart, known-distinct, known_from_distinct, times-distinct}
pub use Rattle.ordered_lists.proofs.Lists.Elements.{all_both, all_joined, all_map, all_places, all_unmap, all_weaker, flat_map-map, flat_map_agree, map-map, map_agree_all, map_agree_everywhere}
pub use Rattle.ordered_lists.proofs.Lists.EntryLists.{entries-equal, in_order-strict, keys-map_values, keys-zip, values-map_values, values-zip}
pub use Rattle.ordered_lists.proofs.Lists.Groups.{group-flipped, group-later, later_than, one_done, strict_head, strict_tail}
pub use Rattle.ordered_lists.proofs.Lists.InOrder.{in_order-itself, in_order-map, in_order-unmap, strict-equal}
pub use Rattle.ordered_lists.proofs.Lists.Members.{among-map, among-pieces, among-unmap, among_known, any_among, known_is_among}
pub use Rattle.ordered_lists.proofs.Lists.Reordered.{SameElements, apart-same, contains_alike, distinct_same, few_same, from_permutation, numbered_same, ordered_same, same-filter, same-filter_map, same-map, times-same, to_filter}
pub use Rattle.ordered_lists.specs.Entries.{entry_keys, entry_values, map_values}
pub use Rattle.ordered_lists.specs.Keyed.{IsLeastPassing, is_repeated, is_unknown}
pub use Rattle.ordered_lists.specs.Orders.{IsInOrder, contains, distinct, has_repeat, in_order, put_in_order, times}
pub use Rattle.ordered_lists.specs.Places.{at_places}
pub use Rattle.std.proofs.Common.{Bool, Equal, Err, Greater, IfErr, IfOk, IsPermutation, IsTrue, Less, List, MatchResult, None, Ok, OnOk, Option, Ordering, Result, Some, [], ap, append-nil, append_assoc, ap₂, arith, cond, drop, false, filter, filter_map, flat_map, get_or, inl, inr, is_eq, is_gt, is_some, length, map, map-id, min, nat_cmp, nat_lt, not, option_map, refl, rules, slice_get, subst, suc, sym, take, tests, true, zero, zero-add, ℕ, ◌&&◌, ◌++◌, ◌+◌, ◌<◌, ◌==◌, ◌||◌, ◌∙◌, ◌∷◌, ◌≡◌, ◌≢◌, ◌≤◌, ◌⊎◌}
pub use Rattle.std.proofs.Math.Nat.{min-eq_left, min-eq_right, min-le_left, min-le_right}
pub use Rattle.std.proofs.lemmas.Bool.{and_parts, cases_lt, cases_order, eq-eqb, eqb-true, false≢true, lt-ltb, ltb-false, ltb-true, ne_eqb, or_cases}
pub use Rattle.std.proofs.lemmas.Cmp.{nat_cmp_total, on_total, tied_itself}
pub use Rattle.std.proofs.lemmas.Fn.{always_returns_same, dedup_same}
pub use Rattle.std.proofs.lemmas.Grind.{common_steps}
pub use Rattle.std.proofs.lemmas.Iterator.{YieldsList-from_map, YieldsList-from_slice}
pub use Rattle.std.proofs.lemmas.Iterator.Adapters.{items_from_extend, option_map_id}
pub use Rattle.std.proofs.lemmas.Iterator.Consumers.{YieldsList-from_copied, YieldsList-from_filter_map}
pub use Rattle.std.proofs.lemmas.Iterator.Search.{find_from_yields_List}
pub use Rattle.std.proofs.lemmas.List.{drop_all, drop_more, get_or_read_under, length-map, map-append}
pub use Rattle.std.proofs.lemmas.List.Sorted.{IsPermutation-append, IsPermutation-append_right, IsPermutation-cons, IsPermutation-map, IsPermutation-middle, IsPermutation-refl, IsPermutation-sym, IsPermutation-trans}
pub use Rattle.std.proofs.lemmas.Option.{slice_get_within, unwrap_or-slice_get}
pub use Rattle.std.proofs.lemmas.Result.{IfOk-weaker, err_from_is_err_and, on_ok_weaker}
pub use Rattle.std.specs.Cmp.Lexicographic.{slice_cmp}
pub use Rattle.std.specs.List.{AllByRecursion, cons_option, dedup, dedup_from, find, list_all, list_any, range_with_len, zip}
pub use Rattle.std.specs.List.Sorted.{IsStrictlySortedBy}
pub use Rattle.std.specs.Option.{option_cmp}
pub use Rattle.std.specs.Ordering.{is_lt, on, ordering_reverse, ordering_then}
pub use Rattle.tl_county.specs.Building.{chain_with, chains_along, county_along, landmark_of, landmarks_along, polygon_body_of, topology_nodes}
pub use Rattle.tl_county.specs.Marks.{all_have_names}
pub use Rattle.tl_county.specs.OrderedTables.{AreInOrder, ArePermuted, ordered_of, typed_of}
pub use Rattle.tl_county.specs.PolygonSets.{cenid_of, polygons_of_cenids}
pub use Rattle.tl_county.specs.RepeatedKeys.{AreLeastRepeated}
pub use Rattle.tl_county.specs.RuleOrder.{IsFirstFrom, RulesHold, rule_place}
pub use Rattle.tl_layout.proofs.Exits.{exit_with}
pub use Rattle.tl_layout.specs.ByType.{of_number, of_type_1, of_type_2, of_type_4, of_type_5, of_type_6, of_type_7, of_type_8, of_type_i, of_type_p}
pub use Rattle.tl_layout.specs.Coordinates.{Coordinates}
pub use Rattle.tl_layout.specs.Fields.{Fields1, Fields2, Fields4, Fields5, Fields6, Fields7, Fields8, FieldsI, FieldsP}
pub use Rattle.tl_layout.specs.Limits.{most_records}
pub use Rattle.tl_layout.specs.Numbers.{IsNumber}
pub use Rattle.tl_layout.specs.RecordText.{FitsRecord}
pub use Rattle.tl_layout.specs.RecordTypes.{FieldsOf, RecordType, Type1, Type2, Type4, Type5, Type6, Type7, Type8, TypeI, TypeP, as_type, of_type, record_of, types}
pub use Rattle.tl_layout.specs.Tables.{HoldsByType}
pub use Rattle.tl_layout.specs.declared.record_type.Record.{Record}
pub use Rattle.tl_layout.specs.declared.record_type.Record.TheVariants.{Eight, Five, Four, One, P, Seven, Six, Two}
pub use Rattle.tl_layout.specs.declared.tables.Tables.{Tables}
pub use Rattle.tl_layout.specs.declared.type5.Body5.{Body5}
pub use Rattle.tl_layout.specs.declared.type7.Body7.{Body7}
pub use Rattle.tl_layout.specs.declared.type_p.BodyP.{BodyP}
pub use Rattle.tl_shape.specs.Chain.{Chain}
pub use Rattle.tl_shape.specs.PointOrder.{point_cmp}
