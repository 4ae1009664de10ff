use Rattle.arranged_county.proofs.Common.{ap, false, feats, filter_map, has_repeat, length, nat_cmp, slice_get, subst, sym, ◌<◌, ◌^◌, ◌∙◌, ◌≡◌}
use Rattle.arranged_county.proofs.Names.NameOrder.{feats_once, feats_stated, few_feats}
use Rattle.arranged_county.proofs.name_order.arrange_names.Goals as goal

pub of_distinct-requires : goal.of_distinct-requires
of_distinct-requires g c =
    let county = g.C.Chart.county c.args.classes.now.chart.now in
    subst (λ numbers. has_repeat nat_cmp numbers ≡ false)
    (sym (c.deref-2.ensures.value ∙ c.in_ok-numbers.ensures ∙ ap (filter_map (slice_get (feats county))) c.deref.ensures.value))
    (feats_once county c.args.arrangement.now (g.met.C.Chart.is_county c.args.classes.now.chart.now) c.requires.whole c.in_ok-places.places.items
    c.in_ok-places.ensures)

pub returns : goal.returns
returns g c =
    let county = g.C.Chart.county c.args.classes.now.chart.now in
    let is = g.met.C.Chart.is_county c.args.classes.now.chart.now in
    let places = c.in_ok-places.places.items in
    let found : c.in_ok-feats.feats ≡ filter_map (slice_get (feats county)) places =
    c.in_ok-feats.ensures ∙ c.deref-2.ensures.value ∙ c.in_ok-numbers.ensures ∙ ap (filter_map (slice_get (feats county))) c.deref.ensures.value in
    record {
      feats = found ∙ feats_stated county c.args.arrangement.now is c.requires.whole places c.in_ok-places.ensures;
      names = c.in_ok-places.ensures;
      few = subst (λ n. n < 2 ^ 32) (sym (ap length found
          ∙ few_feats county c.args.arrangement.now is c.requires.whole places c.in_ok-places.ensures)) c.requires.few;
    }
