-- The chains of two lists of records that agree on the records of each chain.
use Rattle.tl_county.proofs.Common.{Fields1, FieldsI, List, Record, ap, chain_of, chains_of, flat_map, flat_map_agree, i_tlid, in_order, map, map_agree_everywhere, nat_cmp, of_number, of_type_1, of_type_i, on, one_tlid, ℕ, ◌∙◌, ◌≡◌}

pub chains_alike : (xs ys : List Record) → ((r : Fields1) (link : FieldsI) → chain_of xs r link ≡ chain_of ys r link)
    → ((n : ℕ) → of_number i_tlid n (of_type_i xs) ≡ of_number i_tlid n (of_type_i ys))
    → in_order (on one_tlid nat_cmp) (of_type_1 xs) ≡ in_order (on one_tlid nat_cmp) (of_type_1 ys) → chains_of xs ≡ chains_of ys
chains_alike xs ys chain_same links_same heads_same =
    flat_map_agree (λ r. map (λ link. (r.tlid, chain_of xs r link)) (of_number i_tlid r.tlid (of_type_i xs)))
    (λ r. map (λ link. (r.tlid, chain_of ys r link)) (of_number i_tlid r.tlid (of_type_i ys)))
    (λ r. map_agree_everywhere (λ link. (r.tlid, chain_of xs r link)) (λ link. (r.tlid, chain_of ys r link))
    (λ link i. (r.tlid, chain_same r link i)) (of_number i_tlid r.tlid (of_type_i xs))
    ∙ ap (map (λ link. (r.tlid, chain_of ys r link))) (links_same r.tlid))
    (in_order (on one_tlid nat_cmp) (of_type_1 xs))
    ∙ ap (flat_map (λ r. map (λ link. (r.tlid, chain_of ys r link)) (of_number i_tlid r.tlid (of_type_i ys)))) heads_same
