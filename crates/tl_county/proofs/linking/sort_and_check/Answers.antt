use Rattle.tl_county.proofs.Common.{HoldsByType, IsFirstBrokenRule, List, Memory, Record, by_type_of, exit_with, in_order-map, ordered_of, rules, type_after_type, typed_of, ◌≢◌}
use Rattle.tl_county.proofs.Rules.BuiltTables.{also_first, held}
use Rattle.tl_county.proofs.linking.sort_and_check.Goals as goal

pub unnamed_use-requires : goal.unnamed_use-requires
unnamed_use-requires c = search (rules, in_order-map)

pub returns-clause-linked : goal.returns-clause-linked
returns-clause-linked c =
    let u = ordered_of c.order_tables.new.tables in
    c.in_ok-check_rules.ensures.linked (type_after_type u) (by_type_of u)

pub returns-in_err-check_rules-clause-broken : goal.returns-in_err-check_rules-clause-broken
returns-in_err-check_rules-clause-broken c =
    let u = ordered_of c.order_tables.new.tables in
    exit_with _ _ (λ fault. fault ≢ Memory → (records : List Record) → HoldsByType c.args.tables.now.records records → IsFirstBrokenRule records
    fault)
    c.from_residual-in_err-check_rules.ensures.1
    (λ ne records h. also_first records (typed_of c.args.tables.now.records) u (held c.args.tables.now.records records h) c.in_ok-ordered.ensures.same
    _
    (c.in_err-check_rules.ensures.broken (type_after_type u) (by_type_of u)))
