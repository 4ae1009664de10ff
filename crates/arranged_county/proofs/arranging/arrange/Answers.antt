use Rattle.arranged_county.proofs.Common.{HasChainsOf, MatchTables, NamesEachOnce, arrangement_of, subst, sym}
use Rattle.arranged_county.proofs.arranging.arrange.Goals as goal

pub tables_of-requires : goal.tables_of-requires
tables_of-requires g c =
    let county = g.C.Chart.county c.args.chart in
    let there = sym c.deref.ensures.value in
    record {
      there = subst (HasChainsOf county) there c.requires.there;
      once = subst (λ chains. NamesEachOnce county (arrangement_of county chains)) there c.requires.once;
      sides = c.requires.sides;
    }

pub with_tables-requires : goal.with_tables-requires
with_tables-requires g c =
    let county = g.C.Chart.county c.args.chart in
    record {
      there = c.requires.there;
      once = c.requires.once;
      sides = c.requires.sides;
      tables = subst (λ chains. MatchTables county chains c.in_ok-tables.tables) c.deref.ensures.value c.in_ok-tables.ensures;
    }
