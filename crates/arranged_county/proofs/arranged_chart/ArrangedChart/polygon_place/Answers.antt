use Rattle.arranged_county.proofs.Common.{IsInOrder, key_cmp, subst, sym, ◌∙◌}
use Rattle.ordered_lists.proofs.Lists.EntryLists.{in_order-strict}
use Rattle.arranged_county.proofs.arranged_chart.ArrangedChart.polygon_place.Goals as goal

pub place_of-requires : goal.place_of-requires
place_of-requires g c =
    subst (IsInOrder key_cmp) (sym (c.as_slice.ensures.value ∙ c.args.self.now.polygons_stated.keys))
    (in_order-strict key_cmp _ c.args.self.now.whole.is_county.ascending.polygons)
