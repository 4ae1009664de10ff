use Rattle.tl_county.proofs.Common.{IsLeastPassing, List, None, Option, Record, RulesHold, Typed, arith, by_type, four_rtsq, four_sequence, four_tlid, is_repeated, map, refl, rules, sequence_cmp, six_rtsq, six_sequence, six_tlid, subst, two_rtsq, two_sequence, two_tlid, ℕ}
use Rattle.tl_county.proofs.Rules.RuleOrders.{first-after, rule-broken, rule-holds, rules-join}
use Rattle.tl_county.proofs.Rules.RuleTests.{least-repeat, no_repeat, rule_13_four, rule_13_six, rule_13_two}
use Rattle.tl_county.proofs.linking.rules.check_sequences.Goals as goal

-- the least pair that occurs twice in a table, or none
abbrev Twice : {X : Type 0} → (X → ℕ × ℕ) → List X → Option (ℕ × ℕ) → Type 0
Twice sequence xs found = IsLeastPassing sequence_cmp (is_repeated sequence_cmp (map sequence xs)) found

-- if no pair occurs twice, the rule holds
twos : (records : List Record) → Twice two_sequence (by_type records).of_type_2 None → RulesHold records 5 6
twos records none = rule-holds (rule_13_two records (by_type records) refl) (no_repeat two_tlid two_rtsq (by_type records).of_type_2 none)

fours : (records : List Record) → Twice four_sequence (by_type records).of_type_4 None → RulesHold records 6 7
fours records none = search (rules, rule-holds, rule_13_four, no_repeat)

sixes : (records : List Record) → Twice six_sequence (by_type records).of_type_6 None → RulesHold records 7 8
sixes records none = rule-holds (rule_13_six records (by_type records) refl) (no_repeat six_tlid six_rtsq (by_type records).of_type_6 none)

pub returns-in-Some : goal.returns-in-Some
returns-in-Some c records stated =
    let t : Typed = by_type records in
    rule-broken (rule_13_two records t refl) c.in-Some.tlid
    (least-repeat two_tlid two_rtsq c.in-Some.tlid c.in-Some.field-0-1 t.of_type_2
    (subst (Twice two_sequence t.of_type_2) c.in-Some.is stated.type_2))

pub returns-in-Some-type_4 : goal.returns-in-Some-type_4
returns-in-Some-type_4 c records stated =
    let t : Typed = by_type records in
    first-after records (omega arith) (twos records (subst (Twice two_sequence t.of_type_2) c.in_default.is stated.type_2))
    (rule-broken (rule_13_four records t refl) c.in-Some-type_4.tlid
    (least-repeat four_tlid four_rtsq c.in-Some-type_4.tlid c.in-Some-type_4.field-0-1 t.of_type_4
    (subst (Twice four_sequence t.of_type_4) c.in-Some-type_4.is stated.type_4)))

pub returns-in-Some-type_6 : goal.returns-in-Some-type_6
returns-in-Some-type_6 c records stated =
    let t : Typed = by_type records in
    first-after records (omega arith) (twos records (subst (Twice two_sequence t.of_type_2) c.in_default.is stated.type_2))
    (first-after records (omega arith) (fours records (subst (Twice four_sequence t.of_type_4) c.in_default-type_4.is stated.type_4))
    (rule-broken (rule_13_six records t refl) c.in-Some-type_6.tlid
    (least-repeat six_tlid six_rtsq c.in-Some-type_6.tlid c.in-Some-type_6.field-0-1 t.of_type_6
    (subst (Twice six_sequence t.of_type_6) c.in-Some-type_6.is stated.type_6))))

pub returns : goal.returns
returns c records stated = search (rules, rules-join, twos, fours, sixes)
