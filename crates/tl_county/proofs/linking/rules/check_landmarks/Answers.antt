use Rattle.tl_county.proofs.Common.{FieldsP, IsInOrder, IsLeastPassing, IsPermutation, List, None, Option, PolygonKey, Record, RulesHold, Some, Typed, arith, at_lists, by_type, distinct, distinct-in_order, eight_land, flat_map, is_repeated, is_unknown, key_cmp, key_keys, least-same, link_key, map, map-id, nat_cmp, ordered_of, p_key, rules, seven_land, side_keys, subst, sym, ℕ, ◌++◌, ◌∙◌, ◌≡◌}
use Rattle.tl_county.proofs.Rules.RuleOrders.{first-after, rule-broken, rule-holds, rules-join}
use Rattle.tl_county.proofs.Rules.RuleTests.{rule_18, rule_19, rule_20, unknown-distinct}
use Rattle.tl_county.proofs.Rules.TlidsInOrder.{tables_in_order}
use Rattle.tl_county.proofs.linking.rules.check_landmarks.Goals as goal

-- the least polygon that occurs twice among the type P records, the least LAND that the other table lacks, or none
abbrev Twice : List FieldsP → Option PolygonKey → Type 0
Twice points found = IsLeastPassing key_cmp (is_repeated key_cmp (map p_key points)) found

abbrev Unknown : {X Y : Type 0} → (X → ℕ) → (Y → ℕ) → Option ℕ → List X → List Y → Type 0
Unknown number other found xs ys = IsLeastPassing nat_cmp (is_unknown nat_cmp (map number xs) (map other ys)) found

pub least_unknown-requires : goal.least_unknown-requires
least_unknown-requires c = search (rules, tables_in_order)

pub least_unknown-requires-2-clause-known : goal.least_unknown-requires-2-clause-known
least_unknown-requires-2-clause-known c =
    subst (IsInOrder key_cmp) (sym c.requires.polygons)
    (distinct-in_order key_keys (flat_map side_keys (ordered_of c.args.tables.now).of_type_i ++ map p_key c.args.tables.now.records.type_p.items))

-- if no polygon occurs twice, and if no LAND is unknown, the rule holds
points : (records : List Record) (t : Typed) → by_type records ≡ t → Twice t.of_type_p None → RulesHold records 12 13
points records t e none = rule-holds (rule_18 records t e) none

lands : (records : List Record) (t : Typed) → by_type records ≡ t → Unknown eight_land seven_land None t.of_type_8 t.of_type_7
    → RulesHold records 13 14
lands records t e none = rule-holds (rule_19 records t e) none

-- the polygons asked for and known, as in the lists from which they were gathered
alike : (linked polygons keys known : List PolygonKey) → IsPermutation keys linked → polygons ≡ distinct key_cmp known
    → (found : Option PolygonKey)
    → IsLeastPassing key_cmp (is_unknown key_cmp (map (λ k. k) linked) (map (λ k. k) polygons)) found
    → IsLeastPassing key_cmp (is_unknown key_cmp keys known) found
alike linked polygons keys known p e =
    least-same key_cmp (is_unknown key_cmp (map (λ k. k) linked) (map (λ k. k) polygons)) (is_unknown key_cmp keys known)
    (λ key. (λ i. is_unknown key_cmp (map-id linked i) ((map-id polygons ∙ e) i) key) ∙ unknown-distinct keys linked known p key)

pub returns-in-Some-least_unknown-2 : goal.returns-in-Some-least_unknown-2
returns-in-Some-least_unknown-2 c records e =
    let t = ordered_of c.args.tables.now in
    first-after records (omega arith) (points records t e (subst (Twice c.args.tables.now.records.type_p.items) c.in_default.is c.requires.repeated))
    (first-after records (omega arith)
    (lands records t e (at_lists (Unknown eight_land seven_land None) c.deref.ensures.value c.deref-2.ensures.value
    c.in_default-least_unknown.ensures))
    (rule-broken (rule_20 records t e) c.in-Some-least_unknown-2.key
    (alike c.args.linked.now c.args.polygons.now (map link_key t.of_type_8) (flat_map side_keys t.of_type_i ++ map p_key t.of_type_p)
    c.requires.linked.1 c.requires.polygons (Some c.in-Some-least_unknown-2.key) c.in-Some-least_unknown-2.ensures)))

pub returns : goal.returns
returns c records e =
    let t = ordered_of c.args.tables.now in
    rules-join records (points records t e (subst (Twice c.args.tables.now.records.type_p.items) c.in_default.is c.requires.repeated))
    (rules-join records
    (lands records t e (at_lists (Unknown eight_land seven_land None) c.deref.ensures.value c.deref-2.ensures.value
    c.in_default-least_unknown.ensures))
    (rule-holds (rule_20 records t e)
    (alike c.args.linked.now c.args.polygons.now (map link_key t.of_type_8) (flat_map side_keys t.of_type_i ++ map p_key t.of_type_p)
    c.requires.linked.1 c.requires.polygons None c.in_default-least_unknown-2.ensures)))
