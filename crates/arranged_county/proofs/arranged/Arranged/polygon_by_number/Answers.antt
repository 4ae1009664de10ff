use Rattle.arranged_county.proofs.Common.{arranged_by, is_at, is_some_from, nat_cmp, on, subst, sym, ◌<◌, ◌∙◌}
use Rattle.canonical_form.specs.ByNumber.{entry_polyid, polygons_by_number}
use Rattle.ordered_lists.proofs.ByKey.Numbers.{length-in_order}
use Rattle.arranged_county.proofs.arranged.Arranged.polygon_by_number.Goals as goal

pub unwrap-requires : goal.unwrap-requires
unwrap-requires g c =
    let county = arranged_by (g.C.Chart.county c.args.self.now.chart) c.args.self.now.arrangement.items in
    let there = is_at (polygons_by_number county) c.args.place
    (subst (λ n. c.args.place < n) (sym (length-in_order (on entry_polyid nat_cmp) county.polygons)) c.requires) in
    is_some_from c.polygon_at_number.result there.item (c.polygon_at_number.ensures ∙ there.get)
