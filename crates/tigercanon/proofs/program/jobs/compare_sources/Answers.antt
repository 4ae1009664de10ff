use Rattle.tigercanon.proofs.Common.{Compare, IfOk-at_ok, err_from_is_err_and, refl, set_of_sources}
use Rattle.tigercanon.proofs.SourceSets.{one_reported}
use Rattle.tigercanon.proofs.program.jobs.compare_sources.Goals as goal

pub returns-then-is_one_map-clause-verdict : goal.returns-then-is_one_map-clause-verdict
returns-then-is_one_map-clause-verdict g c =
    let a = IfOk-at_ok _ c.in_ok-one.ensures.ok c.read_to_ends.ensures.fed in
    let b = IfOk-at_ok _ c.in_ok-other.ensures.ok c.read_to_ends-2.ensures.fed in
    let found = rw c.if-is_one_map.true at (c.in_ok-is_one_map.ensures.found a.0 b.0 a.2 b.2) in
    (record { parts = a.0; others = b.0; held = a.1; others_held = b.1; fact = found }, refl)

pub returns-else-is_one_map-clause-verdict : goal.returns-else-is_one_map-clause-verdict
returns-else-is_one_map-clause-verdict g c =
    let a = IfOk-at_ok _ c.in_ok-one.ensures.ok c.read_to_ends.ensures.fed in
    let b = IfOk-at_ok _ c.in_ok-other.ensures.ok c.read_to_ends-2.ensures.fed in
    let found = rw c.if-is_one_map.false at (c.in_ok-is_one_map.ensures.found a.0 b.0 a.2 b.2) in
    (record { parts = a.0; others = b.0; held = a.1; others_held = b.1; fact = found }, refl)

pub returns-in_err-is_one_map-clause-refused : goal.returns-in_err-is_one_map-clause-refused
returns-in_err-is_one_map-clause-refused g c =
    let p = err_from_is_err_and c.from_residual-in_err-is_one_map.result c.from_residual-in_err-is_one_map.ensures.1 in
    let a = IfOk-at_ok _ c.in_ok-one.ensures.ok c.read_to_ends.ensures.fed in
    let b = IfOk-at_ok _ c.in_ok-other.ensures.ok c.read_to_ends-2.ensures.fed in
    rw (p.1, p.2) (one_reported
    (set_of_sources Compare g.R.Source.remaining g.R.Source.given g.R.Source.failed g.R.Source.reads c.args.first.now c.read_to_ends.new.sources)
    (set_of_sources Compare g.R.Source.remaining g.R.Source.given g.R.Source.failed g.R.Source.reads c.args.second.now c.read_to_ends-2.new.sources)
    a.0 b.0 a.1 (λ f refused. record { parts = a.0; read = a.1; refused = refused })
    (λ f refused. record { parts = b.0; read = b.1; refused = refused }) c.in_err-is_one_map.field-0.0
    (c.in_err-is_one_map.ensures.refused a.0 b.0 a.2 b.2))
