use Rattle.tl_county.proofs.Common.{IsLeastPassing, Tables, four_sequence, is_repeated, key_cmp, map, p_key, sequence_cmp, six_sequence, subst, sym, two_sequence}
use Rattle.tl_county.proofs.linking.table_order.order_tables.Goals as goal

pub returns-clause-repeated : goal.returns-clause-repeated
returns-clause-repeated c =
    let kept = sym c.in_ok-tlids.ensures.records in
    let found = c.in_ok-repeated.repeated in
    let least = c.in_ok-repeated.ensures in
    record {
      type_2 = subst (λ (t : Tables). IsLeastPassing sequence_cmp (is_repeated sequence_cmp (map two_sequence t.type_2.items)) found.type_2)
          kept least.type_2;
      type_4 = subst (λ (t : Tables). IsLeastPassing sequence_cmp (is_repeated sequence_cmp (map four_sequence t.type_4.items)) found.type_4)
          kept least.type_4;
      type_6 = subst (λ (t : Tables). IsLeastPassing sequence_cmp (is_repeated sequence_cmp (map six_sequence t.type_6.items)) found.type_6)
          kept least.type_6;
      type_p = subst (λ (t : Tables). IsLeastPassing key_cmp (is_repeated key_cmp (map p_key t.type_p.items)) found.type_p) kept least.type_p;
    }
