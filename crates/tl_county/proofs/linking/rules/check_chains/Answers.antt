use Rattle.tl_county.proofs.Common.{IsLeastPassing, List, None, Option, Record, RulesHold, Some, Typed, arith, by_type, four_tlid, is_repeated, is_unknown, map, map-id, nat_cmp, one_tlid, ordered_of, rules, six_tlid, subst, two_tlid, ℕ, ◌∙◌, ◌≡◌}
use Rattle.tl_county.proofs.Rules.RuleOrders.{first-after, rule-broken, rule-holds, rules-join}
use Rattle.tl_county.proofs.Rules.RuleTests.{rule_11, rule_12_four, rule_12_i, rule_12_six, rule_12_two}
use Rattle.tl_county.proofs.Rules.TlidsInOrder.{tables_in_order}
use Rattle.tl_county.proofs.linking.rules.check_chains.Goals as goal

pub least_repeated-requires : goal.least_repeated-requires
least_repeated-requires c = search (rules, tables_in_order, c.as_slice-chains.ensures.value ∙ c.requires.chains)

pub least_unknown-requires : goal.least_unknown-requires
least_unknown-requires c = search (rules, tables_in_order, c.as_slice-chains.ensures.value ∙ c.requires.chains)

pub least_unknown-requires-2 : goal.least_unknown-requires-2
least_unknown-requires-2 c = search (rules, tables_in_order, c.as_slice-chains.ensures.value ∙ c.requires.chains)

pub least_unknown-requires-3 : goal.least_unknown-requires-3
least_unknown-requires-3 c = search (rules, tables_in_order, c.as_slice-chains.ensures.value ∙ c.requires.chains)

pub least_absent-requires : goal.least_absent-requires
least_absent-requires c =
    search (rules, tables_in_order, c.as_slice-chains.ensures.value ∙ c.requires.chains, c.deref-4.ensures.value ∙ c.requires.topologies)

-- the least TLID that occurs twice, and the least one of other records that the chains lack, or none
abbrev Twice : List ℕ → Option ℕ → Type 0
Twice tlids found = IsLeastPassing nat_cmp (is_repeated nat_cmp tlids) found

abbrev Unknown : List ℕ → List ℕ → Option ℕ → Type 0
Unknown tlids known found = IsLeastPassing nat_cmp (is_unknown nat_cmp tlids known) found

-- a list that is searched is the records' TLIDs
twice_in : (tlids known : List ℕ) (found : Option ℕ) → tlids ≡ known → Twice (map (λ k. k) tlids) found → Twice known found
twice_in tlids known found e h = subst (λ ks. Twice ks found) (map-id tlids ∙ e) h

unknown_in : {X : Type 0} (f : X → ℕ) (xs ys : List X) (tlids known : List ℕ) (found : Option ℕ) → xs ≡ ys → tlids ≡ known
    → Unknown (map f xs) (map (λ k. k) tlids) found → Unknown (map f ys) known found
unknown_in f xs ys tlids known found same e h =
    subst (λ zs. Unknown (map f zs) known found) same (subst (λ ks. Unknown (map f xs) ks found) (map-id tlids ∙ e) h)

absent_in : (linked others tlids known : List ℕ) (found : Option ℕ) → linked ≡ others → tlids ≡ known
    → Unknown (map (λ k. k) linked) (map (λ k. k) tlids) found → Unknown others known found
absent_in linked others tlids known found same e h =
    subst (λ ks. Unknown ks known found) (map-id linked ∙ same) (subst (λ ks. Unknown (map (λ k. k) linked) ks found) (map-id tlids ∙ e) h)

-- if no TLID occurs twice, and no record of types 2, 4 and 6 lacks its chain, the first four rules hold
first_four : (records : List Record) (t : Typed) → by_type records ≡ t → Twice (map one_tlid t.of_type_1) None
    → Unknown (map two_tlid t.of_type_2) (map one_tlid t.of_type_1) None → Unknown (map four_tlid t.of_type_4) (map one_tlid t.of_type_1) None
    → Unknown (map six_tlid t.of_type_6) (map one_tlid t.of_type_1) None → RulesHold records 0 4
first_four records t e ones twos fours sixes =
    rules-join records (rules-join records (rules-join records (rule-holds (rule_11 records t e) ones)
    (rule-holds (rule_12_two records t e) twos)) (rule-holds (rule_12_four records t e) fours)) (rule-holds (rule_12_six records t e) sixes)

pub returns-in-Some-least_absent : goal.returns-in-Some-least_absent
returns-in-Some-least_absent c records e =
    let t = ordered_of c.args.tables.now in
    let chains : c.as_slice-chains.result.now ≡ map one_tlid t.of_type_1 = c.as_slice-chains.ensures.value ∙ c.requires.chains in
    first-after records (omega arith) (first_four records t e (twice_in _ _ None chains c.in_default.ensures)
    (unknown_in two_tlid _ _ _ _ None c.deref.ensures.value chains c.in_default-least_unknown.ensures)
    (unknown_in four_tlid _ _ _ _ None c.deref-2.ensures.value chains c.in_default-least_unknown-2.ensures)
    (unknown_in six_tlid _ _ _ _ None c.deref-3.ensures.value chains c.in_default-least_unknown-3.ensures))
    (rule-broken (rule_12_i records t e) c.in-Some-least_absent.tlid
    (absent_in _ _ _ _ (Some c.in-Some-least_absent.tlid) (c.deref-4.ensures.value ∙ c.requires.topologies) chains c.in-Some-least_absent.ensures))

pub returns : goal.returns
returns c records e =
    let t = ordered_of c.args.tables.now in
    let chains : c.as_slice-chains.result.now ≡ map one_tlid t.of_type_1 = c.as_slice-chains.ensures.value ∙ c.requires.chains in
    rules-join records (first_four records t e (twice_in _ _ None chains c.in_default.ensures)
    (unknown_in two_tlid _ _ _ _ None c.deref.ensures.value chains c.in_default-least_unknown.ensures)
    (unknown_in four_tlid _ _ _ _ None c.deref-2.ensures.value chains c.in_default-least_unknown-2.ensures)
    (unknown_in six_tlid _ _ _ _ None c.deref-3.ensures.value chains c.in_default-least_unknown-3.ensures))
    (rule-holds (rule_12_i records t e)
    (absent_in _ _ _ _ None (c.deref-4.ensures.value ∙ c.requires.topologies) chains c.in_default-least_absent.ensures))
