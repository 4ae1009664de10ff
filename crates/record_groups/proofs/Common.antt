-- The names from below that the proofs of this crate cite, passed on from one place. Declares nothing.
pub use Rattle.canonical_form.proofs.Arrangements.Carrying.{chains_arranged}
pub use Rattle.canonical_form.proofs.Arrangements.PolygonNumbers.{numbered_at}
pub use Rattle.canonical_form.proofs.Choices.FixedPlaces.{before_apart, decides_equal, nothing_left}
pub use Rattle.canonical_form.proofs.Limits.CarriedLimits.{carried_many, length-inner}
pub use Rattle.canonical_form.proofs.Lists.Counting.{places_from_decide}
pub use Rattle.canonical_form.proofs.Lists.ListPlaces.{get_dropped, get_taken, length_headed, lone, map-append, parted, some-same, then_assoc}
pub use Rattle.canonical_form.proofs.Packing.PackedCounty.{packed_county}
pub use Rattle.canonical_form.proofs.Unique.SameNumbers.{kept_entry}
pub use Rattle.canonical_form.proofs.Views.ChainPlaces.{ChainThere, chain_there, ends_at, few_inner, first_at, inner_at, last_at, part_of}
pub use Rattle.canonical_form.proofs.Views.ViewChains.{arranges, bodies_read, chains, chains_arranged_by, read_there}
pub use Rattle.canonical_form.specs.Arrangement.{arranged_tlids, placed, renaming_of}
pub use Rattle.canonical_form.specs.ByNumber.{entry_polyid, polygons_by_number}
pub use Rattle.canonical_form.specs.DirectedChains.{arrangement_of, tlid_at}
pub use Rattle.canonical_form.specs.MovedChains.{ArePlacesInOrder, AreWithin, IsApart}
pub use Rattle.canonical_form.specs.WholeArrangements.{AreWhole, arranged_by}
pub use Rattle.county_chart.proofs.Limits.FewChains.{few_chains}
pub use Rattle.county_chart.proofs.Limits.FitsPacked.{packed-fits}
pub use Rattle.county_chart.proofs.Packing.Pieces.{length-numbered_from}
pub use Rattle.county_chart.specs.ChartWords.{chain_at, feats_of, points_of, ranges_of}
pub use Rattle.county_chart.specs.County.{County, county_of}
pub use Rattle.county_chart.specs.CountyRules.{IsCounty, lands, tlids}
pub use Rattle.county_chart.specs.DirectedChains.{directed_chain}
pub use Rattle.county_chart.specs.Laws.TypeCounts.{HasAsMany}
pub use Rattle.county_chart.specs.Limits.{IsWithinLimits}
pub use Rattle.county_chart.specs.Packing.{first_point, in_pieces, inner_points, last_point, numbered_from, p_polyid, packed, packed_body, packed_by_type, packed_five, packed_fours, packed_i, packed_one, packed_p, packed_sevens, packed_sixes, packed_twos, pieces}
pub use Rattle.county_chart.specs.PolygonKeys.{PolygonKey}
pub use Rattle.county_chart.specs.Renumbering.{AreSame}
pub use Rattle.county_chart.specs.declared.directed_chain.DirectedChain.{DirectedChain}
pub use Rattle.ordered_lists.proofs.ByKey.Numbers.{all-in_order, length-in_order}
pub use Rattle.ordered_lists.proofs.Lists.ByPlace.{all-get, same_next, some_at}
pub use Rattle.ordered_lists.proofs.Lists.Counted.{all_drop, all_take}
pub use Rattle.ordered_lists.proofs.Lists.Elements.{all_append, all_left, all_right, all_unmap, all_weaker}
pub use Rattle.ordered_lists.proofs.Lists.InOrder.{in_order-in_order}
pub use Rattle.ordered_lists.proofs.Lists.Places.{next_taken}
pub use Rattle.ordered_lists.specs.Entries.{entry_values}
pub use Rattle.ordered_lists.specs.Orders.{IsInOrder, in_order, put_in_order}
pub use Rattle.record_groups.specs.CountyGroups.{type_1_by_chain, type_2_by_chain, type_4_by_chain, type_5_by_name, type_6_by_chain, type_7_by_landmark, type_8_together, type_i_by_chain, type_p_by_number, types_1_to_4, types_5_to_7, types_8_to_p}
pub use Rattle.record_groups.specs.Groups.{AreHeads, group_at, grouped, rest_of}
pub use Rattle.record_groups.specs.RecordOrder.{AreTiedAt, AreTiedBelow, groups_cmp, records_cmp, spelling_cmp, topologies_of}
pub use Rattle.record_groups.specs.SharedGroups.{HaveSameChains, HaveSameCounts, HaveSameEntries}
pub use Rattle.record_groups.specs.TypeOneOrder.{one_at, ones_of}
pub use Rattle.std.proofs.Common.{Bool, Equal, Err, Greater, Less, List, None, Ok, Option, Ordering, Result, Some, [], add-one, ap, append-nil, append_assoc, ap₂, arith, below_more, codes, cond, drop, false, filter, filter_map, flat_map, get_or, inl, inr, is_gt, length, length-append, length-drop, map, min, nat_cmp, nat_eq, nat_lt, option_map, option_to_list, refl, rules, slice_get, subst, suc, sym, take, take-append-drop, true, unwrap_or, zero, ℕ, ◌%◌, ◌*◌, ◌++◌, ◌+◌, ◌-◌, ◌/◌, ◌<◌, ◌==◌, ◌^◌, ◌∙◌, ◌∷◌, ◌≡◌, ◌≢◌, ◌≤◌, ◌⊎◌}
pub use Rattle.std.proofs.Math.Seq.{take-add}
pub use Rattle.std.proofs.lemmas.Bool.{eqb-false, eqb-true, false≢true, ltb-false, ltb-true}
pub use Rattle.std.proofs.lemmas.Cmp.{lists_total, nat_cmp_total, nat_list_cmp_total, on_total, ranked, tied_itself, upto}
pub use Rattle.std.proofs.lemmas.Grind.{div_ceil_times, flat_map-append}
pub use Rattle.std.proofs.lemmas.Iterator.{YieldsList-from_range, cases_from_all}
pub use Rattle.std.proofs.lemmas.List.{drop-drop, drop_all, length-map, length-reverse, length-take}
pub use Rattle.std.proofs.lemmas.List.Sorted.{length_permutation}
pub use Rattle.std.proofs.lemmas.Map.Lookups.{exact_unsigned}
pub use Rattle.std.proofs.lemmas.Option.{slice_get-get_or, slice_get-map, slice_get_past}
pub use Rattle.std.proofs.lemmas.Result.{err_from_is_err_and}
pub use Rattle.std.specs.Bool.{Decides, if◌then◌else◌}
pub use Rattle.std.specs.Cmp.{IsTotalOrder, nat_cmp_is}
pub use Rattle.std.specs.Cmp.Lexicographic.{slice_cmp}
pub use Rattle.std.specs.List.{AllByRecursion, cons_option, push, range_with_len}
pub use Rattle.std.specs.Option.{option_cmp}
pub use Rattle.std.specs.Ordering.{MatchOrdering, on, ordering_then}
pub use Rattle.tl_layout.specs.Bytes.{IsLine, IsText}
pub use Rattle.tl_layout.specs.Columns.{joined}
pub use Rattle.tl_layout.specs.Coordinates.{Coordinates}
pub use Rattle.tl_layout.specs.FieldTexts.{number_text}
pub use Rattle.tl_layout.specs.Fields.{Fields2, Fields4, Fields6, Fields7, FieldsI, FieldsP}
pub use Rattle.tl_layout.specs.Laws.RecordLaws.{spelling_is_line}
pub use Rattle.tl_layout.specs.Limits.{most_records}
pub use Rattle.tl_layout.specs.Numbers.{IsNumber, IsNumberOrNone}
pub use Rattle.tl_layout.specs.RecordText.{FitsRecord, spelling_of, text_of}
pub use Rattle.tl_layout.specs.RecordTypes.{Type1, byte_of}
pub use Rattle.tl_layout.specs.Type1Groups.{point_texts}
pub use Rattle.tl_layout.specs.TypeI.{type_i_spelling}
pub use Rattle.tl_layout.specs.declared.ranges.Ranges.{Ranges}
pub use Rattle.tl_layout.specs.declared.record_type.Record.{Record}
pub use Rattle.tl_layout.specs.declared.record_type.Record.TheVariants.{Eight, Five, Four, I, One, P, Seven, Six, Two}
pub use Rattle.tl_layout.specs.declared.type5.Body5.{Body5}
pub use Rattle.tl_layout.specs.declared.type7.Body7.{Body7}
pub use Rattle.tl_layout.specs.declared.type_p.BodyP.{BodyP}
pub use Rattle.tl_shape.specs.Chain.{Chain}
pub use Rattle.tl_shape.specs.Turned.{turned_if}
