use Rattle.tl_county.proofs.Common.{AreLeastRepeated, Err, IfErr, IsFirstBrokenRule, IsFirstFrom, IsLinked, LinkFault, List, MatchResult, Ok, OnOk, Record, Result, RulesHold, arith, err_from_is_err_and, rules, subst, sym, ℕ}
use Rattle.tl_county.proofs.Rules.RuleOrders.{all_hold, first-after, first_of_all, rules-join}
use Rattle.tl_county.proofs.linking.check_rules.Goals as goal

module _ (Of : List Record → Type 0) (before : (records : List Record) → Of records → RulesHold records 0 12) where
  -- if the earlier rules hold, the last rules decide
  all_linked : (r : Result (Unit {0}) LinkFault) → ((records : List Record) → Of records
      → MatchResult r (λ _. RulesHold records 12 15) (IsFirstFrom records 12))
      → OnOk r ((records : List Record) → Of records → IsLinked records)
  all_linked (Ok u) h = λ records e. all_hold records (rules-join records (before records e) (h records e))
  all_linked (Err f) h = tt

  first_stated : (r : Result (Unit {0}) LinkFault) → ((records : List Record) → Of records
      → MatchResult r (λ _. RulesHold records 12 15) (IsFirstFrom records 12))
      → IfErr r (λ fault. (records : List Record) → Of records → IsFirstBrokenRule records fault)
  first_stated (Ok u) h = tt
  first_stated (Err f) h = λ records e. first_of_all records f (first-after records (omega arith) (before records e) (h records e))

-- four stretches of rules in turn
all_before : {Of : List Record → Type 0} {first second third : ℕ} → ((records : List Record) → Of records → RulesHold records 0 first)
    → ((records : List Record) → Of records → RulesHold records first second)
    → ((records : List Record) → Of records → RulesHold records second third)
    → ((records : List Record) → Of records → RulesHold records third 12) → (records : List Record) → Of records → RulesHold records 0 12
all_before one two three four records e = search (rules, rules-join)

pub returns-clause-linked : goal.returns-clause-linked
returns-clause-linked c =
    all_linked _ (all_before c.in_ok-check_chains.ensures
    (λ records e. c.in_ok-check_sequences.ensures records (subst (AreLeastRepeated c.args.ordered.now.repeated) (sym e) c.requires.repeated))
    c.in_ok-check_topologies.ensures c.in_ok-check_names.ensures) c.check_landmarks.result c.check_landmarks.ensures

pub returns-clause-broken : goal.returns-clause-broken
returns-clause-broken c =
    first_stated _ (all_before c.in_ok-check_chains.ensures
    (λ records e. c.in_ok-check_sequences.ensures records (subst (AreLeastRepeated c.args.ordered.now.repeated) (sym e) c.requires.repeated))
    c.in_ok-check_topologies.ensures c.in_ok-check_names.ensures) c.check_landmarks.result c.check_landmarks.ensures

pub returns-in_err-check_sequences-clause-broken : goal.returns-in_err-check_sequences-clause-broken
returns-in_err-check_sequences-clause-broken c =
    let p = err_from_is_err_and c.from_residual-in_err-check_sequences.result c.from_residual-in_err-check_sequences.ensures.1 in
    rw (p.1, p.2) (λ records e. first_of_all records c.in_err-check_sequences.field-0.0
    (first-after records (omega arith) (c.in_ok-check_chains.ensures records e)
    (c.in_err-check_sequences.ensures records
    (subst (AreLeastRepeated c.args.ordered.now.repeated) (sym e) c.requires.repeated))))

pub returns-in_err-check_topologies-clause-broken : goal.returns-in_err-check_topologies-clause-broken
returns-in_err-check_topologies-clause-broken c =
    let p = err_from_is_err_and c.from_residual-in_err-check_topologies.result c.from_residual-in_err-check_topologies.ensures.1 in
    rw (p.1, p.2) (λ records e. first_of_all records c.in_err-check_topologies.field-0.0
    (first-after records (omega arith) (rules-join records (c.in_ok-check_chains.ensures records e)
    (c.in_ok-check_sequences.ensures records (subst (AreLeastRepeated c.args.ordered.now.repeated) (sym e) c.requires.repeated)))
    (c.in_err-check_topologies.ensures records e)))

pub returns-in_err-check_names-clause-broken : goal.returns-in_err-check_names-clause-broken
returns-in_err-check_names-clause-broken c =
    let p = err_from_is_err_and c.from_residual-in_err-check_names.result c.from_residual-in_err-check_names.ensures.1 in
    rw (p.1, p.2) (λ records e. first_of_all records c.in_err-check_names.field-0.0
    (first-after records (omega arith) (rules-join records (c.in_ok-check_chains.ensures records e)
    (rules-join records
    (c.in_ok-check_sequences.ensures records (subst (AreLeastRepeated c.args.ordered.now.repeated) (sym e) c.requires.repeated))
    (c.in_ok-check_topologies.ensures records e)))
    (c.in_err-check_names.ensures records e)))
