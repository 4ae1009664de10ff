use Rattle.tl_county.proofs.Common.{IsLeastPassing, YieldsList-from_copied, YieldsList-from_slice, contains, find_from_yields_List, is_unnamed, nat_cmp, not, option_map_id, rules, sequence_cmp, subst, sym, tests, ◌∙◌}
use Rattle.tl_county.proofs.Rules.RuleTests.{unnamed-found}
use Rattle.tl_county.proofs.linking.rules.least_unnamed.Goals as goal

pub returns : goal.returns
returns c =
    let found = sym (option_map_id c.find.result) ∙ find_from_yields_List (λ pair. not (contains nat_cmp pair.1 c.args.feats.now)) _ _
    c.find.result c.find.ensures.ran (YieldsList-from_copied (YieldsList-from_slice c.args.uses.now cc))
    (λ x b q k. search (rules, tests)) in
    subst (IsLeastPassing sequence_cmp (is_unnamed c.args.uses.now c.args.feats.now)) (sym found)
    (unnamed-found c.args.uses.now c.args.feats.now c.requires.uses)
