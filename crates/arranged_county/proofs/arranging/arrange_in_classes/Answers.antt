use Rattle.arranged_county.proofs.Common.{AllKeysContained, HasChainsOf, MatchTables, NamesEachOnce, arrangement_of, polygon_keys, polygons_along, subst, sym}
use Rattle.arranged_county.proofs.arranging.arrange_in_classes.Goals as goal

pub arrange_tables-requires : goal.arrange_tables-requires
arrange_tables-requires g c =
    let county = g.D.Chart.county c.args.chart in
    let same = sym c.requires.classes in
    let there = sym c.deref.ensures.value in
    record {
      there = subst (λ k. HasChainsOf k c.deref.result.now) same (subst (HasChainsOf county) there c.requires.there);
      once = subst (λ k. NamesEachOnce k (arrangement_of k c.deref.result.now)) same
          (subst (λ chains. NamesEachOnce county (arrangement_of county chains)) there c.requires.once);
      sides = subst (λ k. AllKeysContained (polygons_along k.chains) (polygon_keys k)) same c.requires.sides;
    }

pub with_tables-requires : goal.with_tables-requires
with_tables-requires g c =
    let classed = g.C.Chart.county c.args.classes.now.chart.now in
    let tables = c.in_ok-tables.tables in
    record {
      there = c.requires.there;
      once = c.requires.once;
      sides = c.requires.sides;
      tables = subst (λ k. MatchTables k c.args.arrangement.items tables) c.requires.classes
          (subst (λ chains. MatchTables classed chains tables) c.deref.ensures.value c.in_ok-tables.ensures);
    }
