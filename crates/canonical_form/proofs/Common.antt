-- The names from below that the proofs of this crate cite, passed on from one place. Declares nothing.
pub use Rattle.canonical_form.specs.Accepted.{IsAccepted, IsCanonicalInView, IsCanonicalOf, IsRefusal, OutOfProfile, RecordsRefusal, Unlinked}
pub use Rattle.canonical_form.specs.ArrangedCounty.{HasOneCenidEach, IsArranged, IsTidy, entry_points}
pub use Rattle.canonical_form.specs.Arrangement.{Arrangement, Arranges, arranged, arranged_tlids, ascending, chains_in_order, comes_turned, entries_of, entry_shape, landmarks_in_order, links_relinked, names_in_order, new_keys, nodes_in_order, placed, polygons_in_order, relinked, renaming_of, turned_tlids, under_cenid}
pub use Rattle.canonical_form.specs.ByNumber.{entry_polyid, polygons_by_number, under_number}
pub use Rattle.canonical_form.specs.CanonCounties.{IsCanonCounty}
pub use Rattle.canonical_form.specs.Canonical.{AreFull, AreRecordsInOrder, IsArrangedList, IsCanonical, IsNotAfter, IsPacked, IsTidyList, KeepsChainNumbers}
pub use Rattle.canonical_form.specs.CountyViews.{IsView, plain}
pub use Rattle.canonical_form.specs.DirectedChains.{HasChainsOf, arrangement_of, tlid_at}
pub use Rattle.canonical_form.specs.Growth.{Grows, GrowsFrom, first_seen, first_seen_after, numbered, up_to}
pub use Rattle.canonical_form.specs.LeastNumber.{IsLeastBelow}
pub use Rattle.canonical_form.specs.MovedChains.{AgreeApart, ArePlacesInOrder, AreWithin, other_way}
pub use Rattle.canonical_form.specs.NumberedChoices.{chosen, first_stood, moved, moved_at, stood, turned_by}
pub use Rattle.canonical_form.specs.RecordNumbers.{greatest_number, numbers_of}
pub use Rattle.canonical_form.specs.Strict.{IsStrict, IsStrictInView, IsStrictlyAccepted}
pub use Rattle.canonical_form.specs.Tidy.{HasShapesApart, IsChoice, IsLeastChoice, arranged_list, directed_shape, numbered_choice, turned_directed}
pub use Rattle.canonical_form.specs.Uses.{Use, all_uses, landmark_key, landmark_key_cmp, links_of, name_key, name_key_cmp, use_cmp, uses_from, uses_of_name}
pub use Rattle.canonical_form.specs.ViewRecords.{ShowsNoMore}
pub use Rattle.canonical_form.specs.WholeArrangements.{AreWhole, NamesEachOnce, arranged_by}
pub use Rattle.county_chart.proofs.ByKey.FoundKeys.{any-contains}
pub use Rattle.county_chart.proofs.Limits.FieldsFit.{link_content_turned}
pub use Rattle.county_chart.proofs.Limits.FitsCounty.{county-within_limits, county_counts}
pub use Rattle.county_chart.proofs.Limits.FitsPacked.{packed-fits}
pub use Rattle.county_chart.proofs.Lists.OfNumber.{groups-permutation, of_number-all, of_number-among, times-of_number}
pub use Rattle.county_chart.proofs.Masks.MaskedReads.{chain_count_masked, points_masked}
pub use Rattle.county_chart.proofs.Packing.Pieces.{all_in_pieces, all_numbered_from, lefts-numbered_from, length-numbered_from, rights-numbered_from}
pub use Rattle.county_chart.proofs.Profile.CountedChoices.{alike_few}
pub use Rattle.county_chart.proofs.Profile.Factorials.{running-same}
pub use Rattle.county_chart.proofs.Profile.Places.{along_from}
pub use Rattle.county_chart.proofs.Profile.ProfileFaults.{one_first_clause, profile_has_none, profile_or_first}
pub use Rattle.county_chart.proofs.Profile.SameChoices.{choices_of_shapes}
pub use Rattle.county_chart.proofs.Profile.SameProfile.{body_on_side, same_in_profile}
pub use Rattle.county_chart.proofs.Profile.ShapePoints.{least_reverse}
pub use Rattle.county_chart.proofs.Rules.LinkFaults.{linked_has_none, linked_or_first, one_first_rule}
pub use Rattle.county_chart.proofs.Rules.LinkedCounty.{apart_chains, county-is_county, keys-county, needed, the_link}
pub use Rattle.county_chart.proofs.Sameness.Carried.{among-swapped, among-turned, among-unpieces, chain_nodes-renumbered, chain_polygons-renumbered}
pub use Rattle.county_chart.proofs.Sameness.Equivalence.{image-keeps, keys_known, same-reflexive, same-symmetric, same-transitive}
pub use Rattle.county_chart.specs.BodyOrder.{LinkPart, landmark_body_cmp, landmark_cmp, link_cmp, link_part, link_part_cmp}
pub use Rattle.county_chart.specs.ChartWords.{chain_at, feats_of, points_of, polygon_under}
pub use Rattle.county_chart.specs.Choices.{choices, is_either_way, most_choices, open_place_at, open_places, running, shapes}
pub use Rattle.county_chart.specs.County.{County, chain_of, chains_of, county_of, eight_land, first, five_feat, four_rtsq, four_tlid, further_names, further_ranges, i_tlid, landmarks_of, link_key, names_of, one_tlid, p_key, polygon_body, polygons_of, seven_land, shape_points, side_keys, six_rtsq, six_tlid, two_rtsq, two_tlid}
pub use Rattle.county_chart.specs.CountyRules.{AllContained, AllKeysContained, IsAscending, IsClosed, IsCounty, IsWhole, chain_nodes, chain_polygons, feats, has_body, lands, nodes, nodes_along, polygon_keys, polygons_along, tlids}
pub use Rattle.county_chart.specs.DirectedChains.{directed_chain}
pub use Rattle.county_chart.specs.Laws.KeyOrders.{key_keys, landmark_body_keys, link_keys, link_part_keys, name_body_keys, points_keys}
pub use Rattle.county_chart.specs.Laws.MaskedCounties.{masked_is_county, sides_masked}
pub use Rattle.county_chart.specs.Laws.MaskedLimits.{counts_masked, masked_within_limits}
pub use Rattle.county_chart.specs.Laws.PackedTypes.{by_type_of, of_its_type}
pub use Rattle.county_chart.specs.Laws.TypeCounts.{HasAsMany, HasAtMost, HasWithin, KeepsLimits, by_type_keeps, by_type_within, packed_keeps, packed_within}
pub use Rattle.county_chart.specs.Limits.{ContentsFit, FitsChain, FitsLandmark, FitsLink, FitsNameBody, FitsNumbers, FitsPolygon, IsWithinLimits, ListsFit, NumbersFit, most_shape_points}
pub use Rattle.county_chart.specs.LinkRules.{IsFirstBrokenRule, IsLinked, chain_tlids, linked_tlids, named_feats, rtsqs}
pub use Rattle.county_chart.specs.MaskedCounty.{masked, masked_bodies, masked_chain}
pub use Rattle.county_chart.specs.Packing.{by_type, first_point, in_pieces, inner_points, last_point, numbered_from, p_polyid, packed, packed_body, packed_by_type, packed_five, packed_fours, packed_i, packed_one, packed_p, packed_sevens, packed_sixes, packed_twos, pieces, type_after_type, without_last}
pub use Rattle.county_chart.specs.PolygonKeys.{PolygonKey, key_cmp, key_on, key_under}
pub use Rattle.county_chart.specs.Profile.{AreAllOnSides, IsFirstBrokenClause, IsInProfile, is_clause_broken}
pub use Rattle.county_chart.specs.Renumbering.{AreSame, Carries, Renumbering, carried_chain, carried_landmark, carried_link, carried_name, carried_polygon, exactly_one, inverse, renumbered, renumbered_polygon, then, turns}
pub use Rattle.county_chart.specs.ShapeOrder.{AreInShapeOrder, IsShapeOrder, OrderOfShapes, along_shape, along_shapes, directed_cmp, points_along}
pub use Rattle.county_chart.specs.Shapes.{least_points, points_at, points_from}
pub use Rattle.county_chart.specs.declared.directed_chain.DirectedChain.{DirectedChain}
pub use Rattle.county_chart.specs.declared.fault.LinkFault.{LinkFault}
pub use Rattle.county_chart.specs.declared.fault.LinkFault.TheVariants.{LandUnknown, LinkMissing, LinkTwice, NameTwice, NameUnknown, NoChain, PolygonTwice, PolygonUnknown, SequenceBroken}
pub use Rattle.county_chart.specs.declared.fault.LinkedType.{LinkedType}
pub use Rattle.county_chart.specs.declared.fault.SequencedType.{SequencedType}
pub use Rattle.county_chart.specs.declared.open_place.OpenPlace.{OpenPlace}
pub use Rattle.county_chart.specs.declared.profile_fault.ProfileFault.{ProfileFault}
pub use Rattle.county_chart.specs.declared.profile_fault.ProfileFault.TheVariants.{Memory, PolygonWithoutChain, TooSymmetric}
pub use Rattle.ordered_lists.proofs.ByKey.KeyOrders.{bytes_keys, lists_keys, pair_keys, then-equal}
pub use Rattle.ordered_lists.proofs.ByKey.KeyedLists.{lt_reversed}
pub use Rattle.ordered_lists.proofs.ByKey.Keys.{IsApart, IsKeyOrder, Known, all_known, apart-permutation, apart_from_sorted, apart_tail, differ_apart, filter_all, image-injective, image-known, images-lefts, known-append, known-here, known-later, known-left, known-permutation, known-permutation_to, known-right, known_all, known_cases, lefts, map_agree, nat_keys, order_antisymm, order_itself, rights, same-itself, same-true, same_or_not, times-append, times-cons, times-no, times-permutation, times-yes}
pub use Rattle.ordered_lists.proofs.ByKey.Numbers.{all-in_order, all_themselves, count-in_order, distinct-strict, each_from, from_in_order, length-in_order, strict_from_order, times-in_order, to_in_order}
pub use Rattle.ordered_lists.proofs.Lists.Among.{Among, all_among}
pub use Rattle.ordered_lists.proofs.Lists.ByPlace.{all_at}
pub use Rattle.ordered_lists.proofs.Lists.Counted.{all_drop, all_selected, all_take, few_in_groups}
pub use Rattle.ordered_lists.proofs.Lists.Distinct.{apart-distinct, apart_from_no_repeat, has_repeat-apart, known-distinct, known_from_distinct}
pub use Rattle.ordered_lists.proofs.Lists.Elements.{all_append, all_both, all_everywhere, all_filter, all_joined, all_left, all_map, all_pieces, all_right, all_unmap, all_weaker, flat_map-map, flat_map_agree, map-map, map_agree_all, map_agree_everywhere, map_itself}
pub use Rattle.ordered_lists.proofs.Lists.EntryLists.{in_order-strict, value-at_place}
pub use Rattle.ordered_lists.proofs.Lists.InOrder.{in_order-equal, in_order-from_strict, in_order-in_order, in_order-itself, in_order-map, in_order-permutation, in_order-unmap, not_greater, strict-equal, strict-map, strict-permutation, strict-unmap}
pub use Rattle.ordered_lists.proofs.Lists.Members.{among-map, among-permutation, among-pieces, among-unmap, among_known, in_filter_map, known_is_among, one_entry, to_filter_map}
pub use Rattle.ordered_lists.proofs.Lists.Permutations.{apart-permutation_of, in_order-is_permutation}
pub use Rattle.ordered_lists.proofs.Lists.Ranges.{less, places_below, range_bounds, range_strict}
pub use Rattle.ordered_lists.proofs.Lists.Reordered.{SameElements, all_permuted, apart-same, from_permutation, same-map, to_filter}
pub use Rattle.ordered_lists.specs.Entries.{entry_keys, entry_values, map_values, value_under}
pub use Rattle.ordered_lists.specs.Orders.{IsInOrder, contains, distinct, has_repeat, in_order, put_in_order, times}
pub use Rattle.ordered_lists.specs.Pairs.{ArePaired, image, swapped}
pub use Rattle.std.proofs.Common.{Bool, Equal, Greater, IfSome, IsPermutation, IsTrue, Less, List, None, Option, Ordering, Some, [], add-one, ap, append-nil, append_assoc, ap₂, arith, below_more, cond, drop, false, filter, filter_map, flat_map, get_or, inl, inr, is_eq, is_gt, is_lt, is_some, length, length-append, length-drop, map, map-id, max, min, nat_cmp, nat_lt, not, option_map, option_to_list, refl, reverse, rules, slice_get, subst, suc, sum_by, sym, take, take-append-drop, true, zero, ℕ, ◌%◌, ◌&&◌, ◌*◌, ◌++◌, ◌+◌, ◌-◌, ◌/◌, ◌<◌, ◌==◌, ◌^◌, ◌||◌, ◌∙◌, ◌∷◌, ◌≡◌, ◌≤◌, ◌⊎◌}
pub use Rattle.std.proofs.Math.Seq.{drop-append_seam, take-append_seam}
pub use Rattle.std.proofs.lemmas.Bool.{and_parts, cases_eq, cases_lt, eq-eqb, eqb-true, false≢true, le-ltb, lt-ltb, ltb-false, ltb-true, ne_eqb, not-true, or_cases, or_left, or_right, true≢false}
pub use Rattle.std.proofs.lemmas.Cmp.{nat_cmp_total, on_total, ranked, then_total, tied_itself, upto}
pub use Rattle.std.proofs.lemmas.Grind.{common_steps, flat_map-append}
pub use Rattle.std.proofs.lemmas.List.{drop-map, drop_all, length-map, length-reverse, length-take, map-append, reverse-reverse, take-map, take_all}
pub use Rattle.std.proofs.lemmas.List.Elements.{filter-append}
pub use Rattle.std.proofs.lemmas.List.FromFn.{fill_by_all, get_or-range_with_len, length-range_with_len}
pub use Rattle.std.proofs.lemmas.List.Sorted.{IsPermutation-insert, IsPermutation-map, IsPermutation-refl, IsPermutation-reverse, IsPermutation-sym, IsPermutation-trans, length_permutation, sum_by-IsPermutation}
pub use Rattle.std.proofs.lemmas.List.Sums.{length-filter, sum_by-cons}
pub use Rattle.std.proofs.lemmas.Map.Lookups.{exact_unsigned}
pub use Rattle.std.proofs.lemmas.Nat.{div-mul-add, mod-mul-add, mod_below, mul-add-lt, mul-le}
pub use Rattle.std.proofs.lemmas.Option.{cond_some, get_or_from_slice_get, slice_get-get_or, slice_get-map, slice_get_past}
pub use Rattle.std.specs.Bool.{Decides, MatchBool}
pub use Rattle.std.specs.Cmp.{IsTotalOrder}
pub use Rattle.std.specs.List.{AllByRecursion, AllWithin, HoldsAt, cons_option, insert, list_any, position, position_or_len, range_with_len}
pub use Rattle.std.specs.List.Sorted.{IsStrictlySortedBy}
pub use Rattle.std.specs.Option.{option_and_then, option_cmp}
pub use Rattle.std.specs.Ordering.{MatchOrdering, on, ordering_reverse, ordering_then, then_cmp}
pub use Rattle.tl_layout.specs.ByType.{of_number, of_type_1, of_type_2, of_type_4, of_type_5, of_type_6, of_type_7, of_type_8, of_type_i, of_type_p}
pub use Rattle.tl_layout.specs.Bytes.{IsText}
pub use Rattle.tl_layout.specs.Coordinates.{Coordinates}
pub use Rattle.tl_layout.specs.Fields.{Fields1, Fields2, Fields4, Fields5, Fields6, Fields7, Fields8, FieldsI, FieldsP}
pub use Rattle.tl_layout.specs.Laws.TurnedFits.{body_turned_fits, ranges_turned_fit}
pub use Rattle.tl_layout.specs.Limits.{IsWithinLimit, count_of_type, most_records}
pub use Rattle.tl_layout.specs.Masked.{masked_body_7, no_mask}
pub use Rattle.tl_layout.specs.Numbers.{IsNumber, IsNumberOrNone}
pub use Rattle.tl_layout.specs.RecordText.{FitsRecord, text_of}
pub use Rattle.tl_layout.specs.RecordTypes.{FieldsOf, RecordType, Type1, Type2, Type4, Type5, Type6, Type7, Type8, TypeI, TypeP, as_type, of_type, record_of, types}
pub use Rattle.tl_layout.specs.Turned.{turned_ranges}
pub use Rattle.tl_layout.specs.declared.mask.Mask.{Mask}
pub use Rattle.tl_layout.specs.declared.ranges.Ranges.{Ranges}
pub use Rattle.tl_layout.specs.declared.record_type.Record.{Record}
pub use Rattle.tl_layout.specs.declared.record_type.Record.TheVariants.{Eight, Five, Four, I, One, P, Seven, Six, Two}
pub use Rattle.tl_layout.specs.declared.type5.Body5.{Body5}
pub use Rattle.tl_layout.specs.declared.type7.Body7.{Body7}
pub use Rattle.tl_layout.specs.declared.type_p.BodyP.{BodyP}
pub use Rattle.tl_shape.specs.Chain.{Chain}
pub use Rattle.tl_shape.specs.PointOrder.{points_cmp}
pub use Rattle.tl_shape.specs.Turned.{turned_if}
