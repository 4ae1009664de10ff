use Rattle.tl_county.proofs.Common.{IsInOrder, ap, dedup_same, distinct, in_order-map, is_eq, nat_cmp, nat_keys, rules, seven_land, subst, sym, ◌∙◌}
use Rattle.tl_county.proofs.Rules.GatheredLists.{dedup-distinct}
use Rattle.tl_county.proofs.linking.building.lands_of.Goals as goal

pub returns : goal.returns
returns c =
    dedup_same _ (λ x y. is_eq (nat_cmp x y)) _
    (λ x y b f' x' y' k. search rules) c.in_ok-lands.lands.items c.dedup_by.new.self.items c.dedup_by.ensures.filtered
    ∙ dedup-distinct nat_keys c.in_ok-lands.lands.items
    (subst (IsInOrder nat_cmp) (sym c.in_ok-lands.ensures) (in_order-map nat_cmp seven_land c.args.landmarks.now c.requires))
    ∙ ap (distinct nat_cmp) c.in_ok-lands.ensures
