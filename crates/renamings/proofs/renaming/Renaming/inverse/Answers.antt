use Rattle.county_chart.specs.Renumbering.{Carries}
use Rattle.std.proofs.Common.{ap, ap₂, filter, map, nat_cmp, subst, sym, ◌∙◌}
use Rattle.ordered_lists.specs.Pairs.{image, is_named, swapped}
use Rattle.county_chart.proofs.Sameness.Equivalence.{inverse_carries}
use Rattle.renamings.proofs.renaming.Renaming.inverse.Goals as goal

pub returns-clause-value : goal.returns-clause-value
returns-clause-value c = c.new.ensures ∙ (λ i. record {
  chains = (c.in_ok-chains.ensures ∙ ap swapped c.chains.ensures) i;
  names = (c.in_ok-names.ensures ∙ ap swapped c.names.ensures) i;
  polygons = (c.in_ok-polygons.ensures ∙ ap swapped c.polygons.ensures) i;
  lands = (c.in_ok-lands.ensures ∙ ap swapped c.lands.ensures) i;
  nodes = (c.in_ok-nodes.ensures ∙ ap swapped c.nodes.ensures) i;
  turned = (c.in_ok-turned.ensures
      ∙ ap₂ (λ pairs tlids. map (image nat_cmp pairs) (filter (is_named nat_cmp pairs) tlids)) c.chains-2.ensures c.turned.ensures) i;
})

pub returns-clause-carries_back : goal.returns-clause-carries_back
returns-clause-carries_back c =
    λ a b ca cb h. subst (λ back. Carries back b a) (sym (returns-clause-value c)) (inverse_carries c.args.self.now a b ca cb h)
