use Rattle.renamings.proofs.Common.{is_turned_once}
use Rattle.county_chart.specs.Renumbering.{Carries}
use Rattle.std.proofs.Common.{ap₂, filter, map, nat_cmp, subst, sym, ◌∙◌, ◌≡◌}
use Rattle.ordered_lists.specs.Pairs.{composed}
use Rattle.county_chart.specs.PolygonKeys.{key_cmp}
use Rattle.county_chart.proofs.Sameness.Equivalence.{then_carries}
use Rattle.renamings.proofs.renaming.Renaming.then.Goals as goal

pub returns-clause-value : goal.returns-clause-value
returns-clause-value c =
    let chains_are : c.in_ok-chains.chains.items ≡ composed nat_cmp c.args.self.now.chains c.args.next.now.chains =
    c.in_ok-chains.ensures ∙ ap₂ (composed nat_cmp) c.chains.ensures c.chains-2.ensures in
    c.new.ensures ∙ (λ i. record {
      chains = chains_are i;
      names = (c.in_ok-names.ensures ∙ ap₂ (composed nat_cmp) c.names.ensures c.names-2.ensures) i;
      polygons = (c.in_ok-polygons.ensures ∙ ap₂ (composed key_cmp) c.polygons.ensures c.polygons-2.ensures) i;
      lands = (c.in_ok-lands.ensures ∙ ap₂ (composed nat_cmp) c.lands.ensures c.lands-2.ensures) i;
      nodes = (c.in_ok-nodes.ensures ∙ ap₂ (composed nat_cmp) c.nodes.ensures c.nodes-2.ensures) i;
      turned = (c.in_ok-turned.ensures
          ∙ (λ j. filter (is_turned_once (c.chains-3.ensures j) (c.turned.ensures j) (c.turned-2.ensures j))
          (map (λ pair. pair.0) ((c.deref.ensures.value ∙ chains_are) j)))) i;
    })

pub returns-clause-carries_on : goal.returns-clause-carries_on
returns-clause-carries_on c =
    λ a b d ca cb h k. subst (λ both. Carries both a d) (sym (returns-clause-value c))
    (then_carries c.args.self.now c.args.next.now a b d ca cb h k)
