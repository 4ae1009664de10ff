use Rattle.record_groups.proofs.Common.{AllByRecursion, ArePlacesInOrder, IsApart, arranged_by, before_apart, nothing_left, ones_of, subst, sym}
use Rattle.record_groups.proofs.Texts.TiedOnes.{all_tied, same_tied}
use Rattle.record_groups.proofs.type_1_order.compare_ones.Goals as goal

pub loop-at-init : goal.loop-at-init
loop-at-init g c = record {
  within = c.requires.within;
  in_order = c.requires.in_order;
  tied = λ place apart. same_tied (g.C.Chart.county c.args.chart.now) (g.met.C.Chart.is_county c.args.chart.now) c.args.one.now
      c.args.other.now c.requires.whole c.requires.other_whole c.requires.count place (c.requires.apart place apart);
}

pub compare_at_open-requires-clause-before : goal.compare_at_open-requires-clause-before
compare_at_open-requires-clause-before g c =
    let cut = c.in-Some.ensures.cases.0 in
    let at = c.in-Some.at.now in
    let behind = c.in-Some.behind.now in
    λ place before. c.loop-at.invariant.tied place (subst (AllByRecursion (IsApart place)) (sym cut)
    (before_apart at behind (subst ArePlacesInOrder cut c.loop-at.invariant.in_order) place before))

pub returns : goal.returns
returns g c =
    let county = g.C.Chart.county c.args.chart.now in
    let none = nothing_left c.loop-at.rest.now c.in_default.ensures.cases in
    all_tied (ones_of (arranged_by county c.args.one.now)) (ones_of (arranged_by county c.args.other.now))
    (λ place. c.loop-at.invariant.tied place (subst (AllByRecursion (IsApart place)) (sym none) tt))
