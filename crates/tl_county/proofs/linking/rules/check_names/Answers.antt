use Rattle.tl_county.proofs.Common.{Fields4, Fields5, IsLeastPassing, List, None, Option, RulesHold, Some, arith, five_feat, flat_map, is_repeated, is_unnamed, map, nat_cmp, ordered_of, sequence_cmp, subst, uses_of, ℕ}
use Rattle.tl_county.proofs.Rules.RuleOrders.{first-after, rule-broken, rule-holds, rules-join}
use Rattle.tl_county.proofs.Rules.RuleTests.{rule_16, rule_17}
use Rattle.tl_county.proofs.linking.rules.check_names.Goals as goal

-- the least FEAT that occurs twice in a table, or none
abbrev Twice : {X : Type 0} → (X → ℕ) → Option ℕ → List X → Type 0
Twice number found xs = IsLeastPassing nat_cmp (is_repeated nat_cmp (map number xs)) found

-- the least use of a FEAT without a name, or none
abbrev Unnamed : List Fields4 → List Fields5 → Option (ℕ × ℕ) → Type 0
Unnamed fours fives found = IsLeastPassing sequence_cmp (is_unnamed (flat_map uses_of fours) (map five_feat fives)) found

pub returns-in-Some-unnamed : goal.returns-in-Some-unnamed
returns-in-Some-unnamed c records e =
    let t = c.args.tables.now in
    let use_of : ℕ × ℕ = (c.in-Some-unnamed.tlid, c.in-Some-unnamed.feat) in
    let fives : RulesHold records 10 11 =
    rule-holds (rule_16 records (ordered_of t) e) (subst (Twice five_feat None) c.deref.ensures.value c.in_default.ensures) in
    let found : Unnamed t.records.type_4.items t.records.type_5.items (Some use_of) =
    subst (Unnamed t.records.type_4.items t.records.type_5.items) c.in-Some-unnamed.is c.requires.unnamed in
    first-after records (omega arith) fives (rule-broken (rule_17 records (ordered_of t) e) use_of found)

pub returns : goal.returns
returns c records e =
    let t = c.args.tables.now in
    let fives : RulesHold records 10 11 =
    rule-holds (rule_16 records (ordered_of t) e) (subst (Twice five_feat None) c.deref.ensures.value c.in_default.ensures) in
    let none : Unnamed t.records.type_4.items t.records.type_5.items None =
    subst (Unnamed t.records.type_4.items t.records.type_5.items) c.in_default-unnamed.is c.requires.unnamed in
    rules-join records fives (rule-holds (rule_17 records (ordered_of t) e) none)
