use Rattle.arranged_county.proofs.Common.{AllKeysContained, HasChainsOf, IfOk-weaker, MatchTables, NamesEachOnce, arrangement_of, polygon_keys, polygons_along, subst, sym}
use Rattle.arranged_county.proofs.arranging.tables_of.Goals as goal

pub arrange_tables-requires : goal.arrange_tables-requires
arrange_tables-requires g c =
    let same = sym c.in_ok-classes.ensures in
    record {
      there = subst (λ k. HasChainsOf k c.args.arrangement.now) same c.requires.there;
      once = subst (λ k. NamesEachOnce k (arrangement_of k c.args.arrangement.now)) same c.requires.once;
      sides = subst (λ k. AllKeysContained (polygons_along k.chains) (polygon_keys k)) same c.requires.sides;
    }

pub returns : goal.returns
returns g c =
    let county = g.C.Chart.county c.args.chart.now in
    let classed = g.C.Chart.county c.in_ok-classes.classes.chart.now in
    IfOk-weaker c.arrange_tables.result (MatchTables classed c.args.arrangement.now) (MatchTables county c.args.arrangement.now)
    (λ tables h. subst (λ k. MatchTables k c.args.arrangement.now tables) c.in_ok-classes.ensures h) c.arrange_tables.ensures
