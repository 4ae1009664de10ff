-- The names from below that the proofs of this crate cite, passed on from one place. Declares nothing.
pub use Rattle.county_chart.proofs.Limits.FewChains.{few_chains}
pub use Rattle.county_chart.proofs.Lists.OfNumber.{groups-permutation}
pub use Rattle.county_chart.proofs.Sameness.Equivalence.{keys_known}
pub use Rattle.county_chart.specs.ChartWords.{chain_at, chain_under, links_at, links_with, name_under, polygon_under}
pub use Rattle.county_chart.specs.County.{County, eight_land}
pub use Rattle.county_chart.specs.CountyRules.{IsCounty, feats, lands, polygon_keys, tlids}
pub use Rattle.county_chart.specs.Laws.KeyOrders.{key_keys}
pub use Rattle.county_chart.specs.MaskedCounty.{masked}
pub use Rattle.county_chart.specs.PolygonKeys.{PolygonKey, key_cmp}
pub use Rattle.county_chart.specs.Renumbering.{Carries, NumbersArePaired, Renumbering, carried_link, renumbered, turns}
pub use Rattle.ordered_lists.proofs.ByKey.KeyOrders.{lists_keys}
pub use Rattle.ordered_lists.proofs.ByKey.KeyedLists.{in_order-from_sorted}
pub use Rattle.ordered_lists.proofs.ByKey.Keys.{IsApart, IsKeyOrder, Known, apart-permutation, apart_from_sorted, apart_tail, images-lefts, lefts, nat_keys, same-itself, same-true, same_or_not, times-yes}
pub use Rattle.ordered_lists.proofs.Lists.Among.{Among, all_among}
pub use Rattle.ordered_lists.proofs.Lists.ByPlace.{decides_no, decides_over, decides_same, taken_all}
pub use Rattle.ordered_lists.proofs.Lists.Elements.{all_both, all_map, all_unmap, all_weaker, map-map, map_itself}
pub use Rattle.ordered_lists.proofs.Lists.InOrder.{in_order-permutation}
pub use Rattle.ordered_lists.proofs.Lists.Members.{among-permutation}
pub use Rattle.ordered_lists.specs.Entries.{entry_keys, entry_values, value_under}
pub use Rattle.ordered_lists.specs.Orders.{IsInOrder, contains, times}
pub use Rattle.ordered_lists.specs.Pairs.{ArePaired, image}
pub use Rattle.std.proofs.Common.{Bool, IfOk, IfSome, IsPermutation, IsTrue, List, None, Option, Ordering, Some, [], add-one, ap, append-nil, append_assoc, arith, cond, false, flat_map, inl, inr, is_eq, length, map, nat_cmp, option_map, refl, rules, slice_get, subst, suc, sym, take, true, unwrap_or, zero, ℕ, ◌++◌, ◌+◌, ◌∙◌, ◌∷◌, ◌≡◌, ◌≤◌, ◌⊎◌}
pub use Rattle.std.proofs.lemmas.Bool.{ltb-true}
pub use Rattle.std.proofs.lemmas.List.{length-map}
pub use Rattle.std.proofs.lemmas.List.Sorted.{IsPermutation-map, IsPermutation-refl, IsPermutation-sym, IsPermutation-trans, length_permutation}
pub use Rattle.std.specs.Bool.{Decides}
pub use Rattle.std.specs.Cmp.Lexicographic.{slice_cmp}
pub use Rattle.std.specs.List.{AllByRecursion}
pub use Rattle.tl_cert.specs.PartsThere.{ArePartsThere, IsLandmarkThere, chain_carried}
pub use Rattle.tl_layout.specs.ByType.{of_number}
pub use Rattle.tl_layout.specs.Fields.{Fields8}
pub use Rattle.tl_layout.specs.declared.type5.Body5.{Body5}
pub use Rattle.tl_layout.specs.declared.type7.Body7.{Body7}
pub use Rattle.tl_layout.specs.declared.type_p.BodyP.{BodyP}
pub use Rattle.tl_shape.specs.Turned.{turned_if}
