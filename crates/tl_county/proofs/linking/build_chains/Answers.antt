use Rattle.tl_county.proofs.Common.{IsStrictlySortedBy, ap, at_places, chains_along, entries-equal, keys-map_values, keys-zip, length, length-map, map, map_values, nat_cmp, one_tlid, ordered_of, subst, sym, values-map_values, values-zip, ◌∙◌, ◌≡◌}
use Rattle.tl_county.proofs.Rules.BuiltTables.{beside, length-chains_along, tlids-ascend}
use Rattle.tl_county.proofs.Rules.TlidsInOrder.{fours_in_order, sixes_in_order, twos_in_order}
use Rattle.tl_county.proofs.linking.build_chains.Goals as goal

pub chains_of_records-requires : goal.chains_of_records-requires
chains_of_records-requires g c κs =
    let t = ordered_of c.args.tables.now in
    let all_basics = subst (λ l. IsStrictlySortedBy nat_cmp (map one_tlid l)) (sym (c.deref-8.ensures.value ∙ c.in_ok-all_basics.ensures
    ∙ (λ i. at_places (c.deref.ensures.value i) (c.deref-2.ensures.value i))))
    (tlids-ascend t c.requires.tables c.requires.linked) in
    let shapes = twos_in_order t c.requires.tables c.deref-5.ensures.value in
    let names = fours_in_order t c.requires.tables c.deref-6.ensures.value in
    let ranges = sixes_in_order t c.requires.tables c.deref-7.ensures.value in
    ((λ i. κs.1.1.0, tt), (all_basics, (shapes, (names, ranges))))

pub new-requires-clause-ascending : goal.new-requires-clause-ascending
new-requires-clause-ascending g c =
    subst (IsStrictlySortedBy nat_cmp) (sym c.requires.tlids)
    (tlids-ascend (ordered_of c.args.tables.now) c.requires.tables c.requires.linked)

pub new-requires-clause-same_length : goal.new-requires-clause-same_length
new-requires-clause-same_length g c =
    let t = ordered_of c.args.tables.now in
    let chains : map g.C.StoredChain.chain c.in_ok-chains.chains.items ≡ chains_along t.of_type_2 t.of_type_4 t.of_type_6 t.of_type_1
    t.of_type_i =
    c.in_ok-chains.ensures ∙ (λ i. chains_along (c.deref-5.ensures.value i) (c.deref-6.ensures.value i) (c.deref-7.ensures.value i)
    ((c.deref-8.ensures.value ∙ c.in_ok-all_basics.ensures ∙ (λ j. at_places (c.deref.ensures.value j) (c.deref-2.ensures.value j))) i)
    ((c.deref-9.ensures.value ∙ c.in_ok-topologies.ensures ∙ (λ j. at_places (c.deref-3.ensures.value j) (c.deref-4.ensures.value j))) i)) in
    ap length c.requires.tlids
    ∙ length-chains_along t.of_type_2 t.of_type_4 t.of_type_6 t.of_type_1 t.of_type_i (beside t c.requires.tables c.requires.linked)
    ∙ ap length (sym chains) ∙ length-map c.in_ok-chains.chains.items g.C.StoredChain.chain

pub returns : goal.returns
returns g c =
    let t = ordered_of c.args.tables.now in
    let chains : map g.C.StoredChain.chain c.in_ok-chains.chains.items ≡ chains_along t.of_type_2 t.of_type_4 t.of_type_6 t.of_type_1
    t.of_type_i =
    c.in_ok-chains.ensures ∙ (λ i. chains_along (c.deref-5.ensures.value i) (c.deref-6.ensures.value i) (c.deref-7.ensures.value i)
    ((c.deref-8.ensures.value ∙ c.in_ok-all_basics.ensures ∙ (λ j. at_places (c.deref.ensures.value j) (c.deref-2.ensures.value j))) i)
    ((c.deref-9.ensures.value ∙ c.in_ok-topologies.ensures ∙ (λ j. at_places (c.deref-3.ensures.value j) (c.deref-4.ensures.value j))) i)) in
    let same_length = length-chains_along t.of_type_2 t.of_type_4 t.of_type_6 t.of_type_1 t.of_type_i
    (beside t c.requires.tables c.requires.linked) in
    let f = g.C.StoredChain.chain in
    entries-equal (map_values f c.new.result) _
    (keys-map_values f c.new.result ∙ c.new.ensures.keys ∙ c.requires.tlids
    ∙ sym (keys-zip (map one_tlid t.of_type_1) (chains_along t.of_type_2 t.of_type_4 t.of_type_6 t.of_type_1 t.of_type_i) same_length))
    (values-map_values f c.new.result ∙ ap (map f) c.new.ensures.values ∙ chains ∙ sym (values-zip (map one_tlid t.of_type_1)
    (chains_along t.of_type_2 t.of_type_4 t.of_type_6 t.of_type_1 t.of_type_i) same_length))
