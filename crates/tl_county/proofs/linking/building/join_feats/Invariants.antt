use Rattle.tl_county.proofs.Common.{AllByRecursion, Fields4, IsNumber, flat_map, take, ◌++◌, ◌≡◌}
use Rattle.tl_county.proofs.linking.building.join_feats.Given as goal

abbrev pub invariant-loop-names : goal.invariant-loop-names
invariant-loop-names l = record {
  value : l.feats.items ≡ l.initial.feats.items ++ flat_map (λ (r : Fields4). r.feats) (take l.names-index l.records);
  in_range : AllByRecursion (IsNumber 8) l.feats.items;
}
