use Rattle.tl_county.proofs.Common.{IsLeastPassing, Typed, ap, by_type_of, county_of, flat_map, is_unknown, is_without_chain, key_cmp, least-same, map, ordered_of, p_key, side_keys, subst, sym, type_after_type, ◌∙◌}
use Rattle.tl_county.proofs.Rules.WithoutChain.{same_without_chain}
use Rattle.tl_county.proofs.linking.linked_records.LinkedRecords.polygon_without_chain.Goals as goal

pub returns : goal.returns
returns c =
    let t : Typed = ordered_of c.self.inside.tables in
    subst (λ (u : Typed). IsLeastPassing key_cmp (is_without_chain (county_of (type_after_type u))) c.self.inside.gathered.polygons.without_side)
    (c.self.view_is)
    (least-same key_cmp (is_unknown key_cmp (map p_key t.of_type_p) (flat_map side_keys t.of_type_i))
    (is_without_chain (county_of (type_after_type t)))
    (λ key. ap (λ (u : Typed). is_unknown key_cmp (map p_key u.of_type_p) (flat_map side_keys u.of_type_i) key) (sym (by_type_of t))
    ∙ same_without_chain (type_after_type t) c.self.invariant.1 key)
    c.self.inside.gathered.polygons.without_side c.self.invariant.6)
