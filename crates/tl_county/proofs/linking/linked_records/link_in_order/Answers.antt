use Rattle.tl_county.proofs.Common.{ordered_of, typed_of}
use Rattle.tl_county.proofs.Rules.BuiltTables.{also_linked, held, same_county, within_limits-moved}
use Rattle.tl_county.proofs.linking.linked_records.link_in_order.Goals as goal

pub invariant_of-result : goal.invariant_of-result
invariant_of-result c =
    let u = ordered_of c.sort_and_check.new.tables in
    let stated = c.in_ok-gathered.ensures in (
      stated.in_order,
      stated.linked,
      within_limits-moved c.args.tables u c.requires stated.same stated.linked,
      stated.tlids,
      stated.feats,
      stated.polygons,
      stated.without_side,
      stated.topologies_there,
    )

pub returns-clause-linked : goal.returns-clause-linked
returns-clause-linked c records h =
    let t = typed_of c.args.tables in
    let u = ordered_of c.sort_and_check.new.tables in
    let holds = held c.args.tables records h in
    let stated = c.in_ok-gathered.ensures in (
      also_linked records t u holds stated.same stated.linked,
      same_county records t u holds stated.same stated.linked,
    )
