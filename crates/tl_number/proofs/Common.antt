-- The names from below that the proofs of this crate cite, passed on from one place. Declares nothing.
pub use Rattle.arranged_county.proofs.Landmarks.LandmarkLinks.{pieces_next}
pub use Rattle.arranged_county.proofs.Names.NameOrder.{by_uses}
pub use Rattle.arranged_county.proofs.Names.NameRanks.{greater, ranked_there, unranked}
pub use Rattle.arranged_county.proofs.Numbering.SeenLists.{seen_append}
pub use Rattle.arranged_county.proofs.Views.ArrangedTables.{same_somes}
pub use Rattle.arranged_county.specs.NameItems.{feats_along_arrangement, rank_of}
pub use Rattle.arranged_county.specs.Views.{arranged_county, arrangement_in, source_of}
pub use Rattle.canonical_form.proofs.Arrangements.ArrangedCounties.{is_arranged}
pub use Rattle.canonical_form.proofs.Arrangements.ArrangedNumbers.{arrangement_within}
pub use Rattle.canonical_form.proofs.Arrangements.Carrying.{arrangement_carries, chains_arranged, feats_arranged, from_placed, landmarks_arranged, lands_arranged, lands_renamed, links_arranged, names_arranged, names_permutation, names_renamed, nodes_from_placed, nodes_to_placed, polygon_lefts, polygons_from_placed, polygons_renamed, polygons_to_placed}
pub use Rattle.canonical_form.proofs.Arrangements.Placed.{arrangement_apart, arrangement_known, lefts-numbered, one_chain}
pub use Rattle.canonical_form.proofs.Arrangements.PlacesFit.{places_fit}
pub use Rattle.canonical_form.proofs.Arrangements.PolygonNumbers.{by_number}
pub use Rattle.canonical_form.proofs.CanonicalLists.CanonLists.{least_choice_county}
pub use Rattle.canonical_form.proofs.CanonicalLists.SameShapes.{points_in_order, shapes_carried, tidy_shapes}
pub use Rattle.canonical_form.proofs.CanonicalLists.TidyLists.{least_of_all, not_after_itself}
pub use Rattle.canonical_form.proofs.Choices.AscendingArrangement.{arrangement_ascend, arrangement_there, options_total, shapes_of_order}
pub use Rattle.canonical_form.proofs.Choices.ChosenArrangements.{arrangement_of_number, arrangement_of_number_once, arrangement_of_number_there, places_within}
pub use Rattle.canonical_form.proofs.Choices.FixedPlaces.{agree_both, agree_same, moved_apart, moved_count, nothing_left}
pub use Rattle.canonical_form.proofs.Choices.MovedChoice.{moved-last}
pub use Rattle.canonical_form.proofs.Choices.SameChoices.{choices_same}
pub use Rattle.canonical_form.proofs.Choices.TidyChoices.{numbered_is_choice, shapes_arrange, shapes_ascending, stated_here}
pub use Rattle.canonical_form.proofs.Limits.CarriedLimits.{carried_many}
pub use Rattle.canonical_form.proofs.Lists.Counting.{entries_equal, less_from, map-equal_all}
pub use Rattle.canonical_form.proofs.Lists.Filtered.{filter-agree_all, filter-filtered, filter-mapped}
pub use Rattle.canonical_form.proofs.Lists.Grouping.{in_order-weaker, then-first}
pub use Rattle.canonical_form.proofs.Lists.ListPlaces.{none_past, then_assoc}
pub use Rattle.canonical_form.proofs.Masks.MaskedCounties.{carried_masked, masked_twice}
pub use Rattle.canonical_form.proofs.Masks.MaskedProfile.{masked_in_profile, masked_shape_order}
pub use Rattle.canonical_form.proofs.Numbering.FirstSeen.{all_after, first_seen-apart, from_first_seen, seen_after, to_first_seen, unknown_at_end}
pub use Rattle.canonical_form.proofs.Numbering.NewNumbers.{image-numbered, image-under_cenid}
pub use Rattle.canonical_form.proofs.Packing.PackedCounty.{pieces_together}
pub use Rattle.canonical_form.proofs.Sameness.CarriedCounty.{polygons-unturned}
pub use Rattle.canonical_form.proofs.Unique.SameLandmarks.{landmark_key_keys}
pub use Rattle.canonical_form.proofs.Unique.SameNames.{name_key_keys}
pub use Rattle.canonical_form.proofs.Unique.SameNumbers.{kept_entry}
pub use Rattle.canonical_form.proofs.Views.ArrangedViews.{whole_arrangement}
pub use Rattle.canonical_form.proofs.Views.DirectedChains.{one_here}
pub use Rattle.canonical_form.proofs.Views.ViewChains.{arranges, bodies_read, chains, read_length}
pub use Rattle.canonical_form.specs.ArrangedCounty.{IsArranged, IsTidy, entry_points}
pub use Rattle.canonical_form.specs.Arrangement.{Arrangement, Arranges, arranged, ascending, comes_turned, entries_of, entry_shape, landmarks_in_order, links_relinked, names_in_order, placed, polygons_in_order, relinked, renaming_of, under_cenid}
pub use Rattle.canonical_form.specs.ByNumber.{polygons_by_number, under_number}
pub use Rattle.canonical_form.specs.CanonCounties.{IsCanonCounty}
pub use Rattle.canonical_form.specs.Canonical.{IsNotAfter}
pub use Rattle.canonical_form.specs.DirectedChains.{HasChainsOf, arrangement_of, tlid_at}
pub use Rattle.canonical_form.specs.Growth.{first_seen, first_seen_after, numbered, up_to}
pub use Rattle.canonical_form.specs.LeastNumber.{IsLeastBelow, choice_list, choices_cmp}
pub use Rattle.canonical_form.specs.MovedChains.{AgreeApart, AgreeButOpen, AreWithin, IsWithin, other_way}
pub use Rattle.canonical_form.specs.NumberedChoices.{chosen, first_stood, moved, stood, turned_by}
pub use Rattle.canonical_form.specs.Tidy.{IsLeastChoice, directed_shape, numbered_choice, turned_directed}
pub use Rattle.canonical_form.specs.Uses.{Use, all_uses, landmark_key, landmark_key_cmp, links_of, name_key, name_key_cmp, use_cmp, uses_of_name}
pub use Rattle.canonical_form.specs.WholeArrangements.{AreReadAt, AreWhole, NamesEachOnce, arranged_by}
pub use Rattle.county_chart.proofs.Limits.FewChains.{few_chains}
pub use Rattle.county_chart.proofs.Limits.FitsPacked.{packed-fits}
pub use Rattle.county_chart.proofs.Packing.Pieces.{all_in_pieces, rights-numbered_from}
pub use Rattle.county_chart.proofs.Profile.Factorials.{running-same}
pub use Rattle.county_chart.proofs.Profile.SameChoices.{choices_of_shapes}
pub use Rattle.county_chart.proofs.Sameness.Carried.{among-turned, among-unpieces, chain_nodes-renumbered, chain_polygons-renumbered}
pub use Rattle.county_chart.proofs.Sameness.Equivalence.{image-keeps}
pub use Rattle.county_chart.specs.BodyOrder.{bytes_cmp, landmark_body_cmp, link_cmp, link_part, link_part_cmp, name_body_cmp}
pub use Rattle.county_chart.specs.ChartWords.{bodies_at, chain_at, feats_of, links_at, links_with, name_under, polygon_under}
pub use Rattle.county_chart.specs.Choices.{choices, counted_choices, is_either_way, is_settled, most_choices, open_place_at, open_places, running, shapes}
pub use Rattle.county_chart.specs.County.{County, link_key}
pub use Rattle.county_chart.specs.CountyRules.{AllContained, AllKeysContained, IsAscending, IsCounty, chain_nodes, chain_polygons, feats, lands, nodes_along, polygon_keys, polygons_along, tlids}
pub use Rattle.county_chart.specs.DirectedChains.{directed_chain}
pub use Rattle.county_chart.specs.Laws.KeyOrders.{key_keys, landmark_body_keys, name_body_keys, points_keys}
pub use Rattle.county_chart.specs.Laws.PackedTypes.{by_type_of}
pub use Rattle.county_chart.specs.Laws.TypeCounts.{HasAtMost, by_type_within, packed_within}
pub use Rattle.county_chart.specs.Limits.{FitsChain, FitsLandmark, FitsLink, FitsNameBody, FitsNumbers, FitsPolygon, IsWithinLimits, ListsFit}
pub use Rattle.county_chart.specs.MaskedCounty.{masked}
pub use Rattle.county_chart.specs.Packing.{in_pieces, inner_points, numbered_from, p_polyid, packed, packed_body, packed_by_type, packed_five, packed_fours, packed_i, packed_one, packed_p, packed_sevens, packed_sixes, packed_twos, pieces}
pub use Rattle.county_chart.specs.PolygonKeys.{PolygonKey, key_cmp, key_on, key_under}
pub use Rattle.county_chart.specs.Profile.{IsInProfile}
pub use Rattle.county_chart.specs.Renumbering.{AreSame, Carries, Renumbering, carried_landmark, carried_link, carried_name, renumbered, renumbered_polygon, renumbered_side, side_of}
pub use Rattle.county_chart.specs.ShapeOrder.{IsShapeOrder, OrderOfShapes, along_shapes, directed_cmp, points_along}
pub use Rattle.county_chart.specs.declared.directed_chain.DirectedChain.{DirectedChain}
pub use Rattle.county_chart.specs.declared.open_place.OpenPlace.{OpenPlace}
pub use Rattle.ordered_lists.proofs.ByKey.KeyOrders.{bytes_keys, lists_keys, then-equal}
pub use Rattle.ordered_lists.proofs.ByKey.KeyedLists.{in_order-filter}
pub use Rattle.ordered_lists.proofs.ByKey.Keys.{IsApart, IsKeyOrder, Known, all_known, apart-filter, apart-permutation, apart_from_sorted, apart_tail, contains-filter, differ, differ_apart, filter_all, images-lefts, known-append, known-here, known-later, known-left, known-permutation, known-right, known_all, known_cases, nat_keys, order_antisymm, order_itself, same-itself, same-true, same_or_not, times-append, times-filter, times-no, times-permutation, times-yes}
pub use Rattle.ordered_lists.proofs.ByKey.Numbers.{all-in_order, all_themselves, count-map, distinct-in_order, each_from, from_in_order, length-in_order}
pub use Rattle.ordered_lists.proofs.Lists.Among.{Among, all_among, among-get, among_right}
pub use Rattle.ordered_lists.proofs.Lists.AtPlaces.{map-at_places}
pub use Rattle.ordered_lists.proofs.Lists.ByPlace.{all_at, some_at}
pub use Rattle.ordered_lists.proofs.Lists.Counted.{all_take, filter-agree}
pub use Rattle.ordered_lists.proofs.Lists.Elements.{all_append, all_both, all_everywhere, all_filter, all_left, all_map, all_pieces, all_right, all_unmap, all_weaker, flat_map-map, flat_map_agree, map-map, map_agree_all}
pub use Rattle.ordered_lists.proofs.Lists.EntryLists.{in_order-strict}
pub use Rattle.ordered_lists.proofs.Lists.InOrder.{in_order-equal, in_order-in_order, in_order-map, in_order-permutation, in_order-unmap, not_greater, strict-map, strict-unmap}
pub use Rattle.ordered_lists.proofs.Lists.Members.{among-map, among-pieces, among-unmap, among_any, among_known, contains-among, known_is_among, one_entry}
pub use Rattle.ordered_lists.proofs.Lists.Permutations.{apart-permutation_of, in_order-is_permutation}
pub use Rattle.ordered_lists.proofs.Lists.Ranges.{less, range_bounds}
pub use Rattle.ordered_lists.proofs.Lists.Reordered.{SameElements, contains_alike, distinct_same, from_permutation, times-same, to_filter}
pub use Rattle.ordered_lists.specs.Entries.{entry_keys, entry_values, value_under}
pub use Rattle.ordered_lists.specs.Orders.{IsInOrder, contains, distinct, in_order, put_in_order, times}
pub use Rattle.ordered_lists.specs.Pairs.{image}
pub use Rattle.ordered_lists.specs.Places.{at_places}
pub use Rattle.record_groups.proofs.Records.Grouped.{group_of, grouped_lone, grouped_map}
pub use Rattle.record_groups.proofs.Records.PackedGroups.{all_groups}
pub use Rattle.record_groups.proofs.Records.Selected.{grouped_selected}
pub use Rattle.record_groups.proofs.Texts.GroupOrders.{decided, same_groups}
pub use Rattle.record_groups.proofs.Texts.NumberTexts.{number_order, one_cmp}
pub use Rattle.record_groups.proofs.Texts.OpenPlaces.{groups_from, those_decide, those_from, those_groups}
pub use Rattle.record_groups.proofs.Texts.PartOrder.{then_same}
pub use Rattle.record_groups.proofs.Texts.RecordExact.{fours_fit, polygons_fit, topologies_fit}
pub use Rattle.record_groups.proofs.Texts.RecordTexts.{cmp-append}
pub use Rattle.record_groups.proofs.Texts.TypeOrders.{texts_in_order, tied_texts_in_order}
pub use Rattle.record_groups.specs.CountyGroups.{type_1_by_chain, type_2_by_chain, type_4_by_chain, type_5_by_name, type_6_by_chain, type_7_by_landmark, type_8_together, type_i_by_chain, type_p_by_number, types_1_to_4, types_5_to_7, types_8_to_p}
pub use Rattle.record_groups.specs.Groups.{group_at, grouped}
pub use Rattle.record_groups.specs.RecordOrder.{groups_cmp, records_cmp, spelling_cmp, types_1_to_4_cmp, types_5_to_7_cmp, types_8_to_p_cmp}
pub use Rattle.record_groups.specs.TypeOneOrder.{ones_cmp}
pub use Rattle.std.proofs.Common.{Bool, Equal, Err, Greater, IfOk, IfSome, IsPermutation, IsTrue, Less, List, None, Ok, Option, Ordering, Result, Some, [], ap, append-nil, append_assoc, ap₂, arith, codes, cond, drop, false, filter, filter_map, flat_map, get_or, inl, inr, is_eq, is_gt, is_lt, is_some, length, length-append, map, map-id, min, nat_cmp, nat_le, nat_lt, not, option_map, option_to_list, refl, rules, slice_get, subst, suc, sym, take, take-take, true, unwrap_or, zero, ℕ, ◌%◌, ◌&&◌, ◌*◌, ◌++◌, ◌+◌, ◌-◌, ◌/◌, ◌<◌, ◌==◌, ◌^◌, ◌||◌, ◌∙◌, ◌∷◌, ◌≡◌, ◌≢◌, ◌≤◌, ◌⊎◌}
pub use Rattle.std.proofs.Math.Nat.{pow-succ'}
pub use Rattle.std.proofs.lemmas.Bool.{and_cases, and_from, and_parts, cases_Bool, cond-false, cond-true, cond_both, eqb-true, false_from_ne_true, false≢true, le-leb, leb-false, lt-ltb, ltb-false, ltb-true, not-true, or_left, or_parts, or_right}
pub use Rattle.std.proofs.lemmas.Bool.Decides.{nat_tests}
pub use Rattle.std.proofs.lemmas.Cmp.{nat_cmp_total, nat_list_cmp_total, on_total, then_total, tied_itself, upto}
pub use Rattle.std.proofs.lemmas.List.{drop-map, drop_all, drop_more, length-map, map-append, take-map}
pub use Rattle.std.proofs.lemmas.List.Elements.{filter-append, filter_passes, recursion_from_All}
pub use Rattle.std.proofs.lemmas.List.FromFn.{fill_by_all, get_or-range_with_len, length-range_with_len}
pub use Rattle.std.proofs.lemmas.List.Kept.{AllPairs-filter, IsStrictlySortedBy-filter}
pub use Rattle.std.proofs.lemmas.List.Sorted.{IsPermutation-map, IsPermutation-sym, IsPermutation-trans, length_permutation}
pub use Rattle.std.proofs.lemmas.List.Sums.{count_by-le-length, length-filter}
pub use Rattle.std.proofs.lemmas.Map.Lookups.{exact_unsigned}
pub use Rattle.std.proofs.lemmas.Option.{get_or_from_slice_get, same_Some, slice_get-get_or, slice_get-map, slice_get_within, unwrap_or-slice_get}
pub use Rattle.std.proofs.lemmas.Result.{IfOk-weaker}
pub use Rattle.std.specs.Cmp.{IsTotalOrder, nat_cmp_is}
pub use Rattle.std.specs.Cmp.Lexicographic.{slice_cmp}
pub use Rattle.std.specs.List.{AllByRecursion, AllPairs, cons_option, insert, list_any, range_with_len}
pub use Rattle.std.specs.Option.{option_and_then, option_cmp, option_flatten}
pub use Rattle.std.specs.Ordering.{is_le, on, ordering_reverse, ordering_then}
pub use Rattle.std.specs.Prelude.{⊤}
pub use Rattle.tl_layout.specs.Bytes.{IsText}
pub use Rattle.tl_layout.specs.Columns.{joined}
pub use Rattle.tl_layout.specs.Coordinates.{Coordinates}
pub use Rattle.tl_layout.specs.FieldTexts.{lat_text, long_text, number_text, point_place_text}
pub use Rattle.tl_layout.specs.Fields.{Fields2, Fields4, Fields8, FieldsI, FieldsP}
pub use Rattle.tl_layout.specs.Laws.ColumnLaws.{joined-before}
pub use Rattle.tl_layout.specs.Laws.FieldLaws.{lat_text_is_text, long_text_is_text}
pub use Rattle.tl_layout.specs.Laws.NumberTextLaws.{length-number_text}
pub use Rattle.tl_layout.specs.Laws.PlaceLaws.{number_place_is_text, places_text_is_text, point_place_is_text}
pub use Rattle.tl_layout.specs.Laws.RecordTypeLaws.{spelling_of_record}
pub use Rattle.tl_layout.specs.Laws.TableLaws.{joined-append}
pub use Rattle.tl_layout.specs.Laws.TypeLaws.{layout_laws}
pub use Rattle.tl_layout.specs.Limits.{most_records}
pub use Rattle.tl_layout.specs.Numbers.{IsNumber, IsNumberOrNone}
pub use Rattle.tl_layout.specs.PolygonSide.{PolygonSide}
pub use Rattle.tl_layout.specs.RecordTables.{table_1, table_4, table_6, table_p}
pub use Rattle.tl_layout.specs.RecordText.{FitsRecord, spelling_of, text_of}
pub use Rattle.tl_layout.specs.RecordTypes.{FieldsOf, RecordType, Type1, Type4, Type6, Type8, TypeI, TypeP, byte_of, reading_of, record_of, table_of}
pub use Rattle.tl_layout.specs.declared.ranges.Ranges.{Ranges}
pub use Rattle.tl_layout.specs.declared.record_type.Record.{Record}
pub use Rattle.tl_layout.specs.declared.record_type.Record.TheVariants.{Eight, Five, Four, I, One, P, Seven, Six, Two}
pub use Rattle.tl_layout.specs.declared.type5.Body5.{Body5}
pub use Rattle.tl_layout.specs.declared.type7.Body7.{Body7}
pub use Rattle.tl_layout.specs.declared.type_p.BodyP.{BodyP}
pub use Rattle.tl_number.specs.ChoiceSearch.{IsArrangedChoice, LeavesChoices, chosen_county, lesser_choice, numbered_arrangement}
pub use Rattle.tl_number.specs.CountyParts.{ArePartKeys, HoldsPart, feats_along, part_of, part_with, places_among}
pub use Rattle.tl_number.specs.KeptLandmarks.{LandmarkName, first_name, has_name, keeps_landmark, kept_landmarks, kept_lands, landmark_name_cmp, link_keys_at, moves_polygons, name_if_linked, names_linked, opened_polygons}
pub use Rattle.tl_number.specs.KeptPlaces.{AreSearched, IsSearchAt}
pub use Rattle.tl_number.specs.KeysAlong.{covers, first_open, is_open, keys_along, newly_seen, open_among, open_keys, place_in}
pub use Rattle.tl_number.specs.NamesAlong.{chain_feats, feats_in_order}
pub use Rattle.tl_number.specs.NewKeys.{earlier_keys, fixed_keys, has_new, has_new_at}
pub use Rattle.tl_number.specs.SmallCounty.{is_kept, kept_tlids, keys_at_open, wanted_feats, wanted_nodes, wanted_polygons}
pub use Rattle.tl_number.specs.declared.part_tables.PartTables.{PartTables}
pub use Rattle.tl_shape.specs.Chain.{Chain}
pub use Rattle.tl_shape.specs.PointOrder.{points_cmp}
pub use Rattle.tl_shape.specs.Turned.{turned, turned_if}
