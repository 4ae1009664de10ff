use Rattle.tigercanon.proofs.Common.{County, IsFirstBrokenClause, err_from_is_err_and, is_without_chain, key_cmp, subst, sym, ◌∙◌}
use Rattle.ordered_lists.specs.Keyed.{IsLeastPassing}
use Rattle.tigercanon.proofs.library.linked.admitted_county.Goals as goal

pub admit_linked-requires : goal.admit_linked-requires
admit_linked-requires c =
    subst (λ (county : County). IsLeastPassing key_cmp (is_without_chain county) c.polygon_without_chain.result)
    (sym c.in_ok-county.ensures.county) c.polygon_without_chain.ensures

pub returns-in_err-admit_linked-clause-refused : goal.returns-in_err-admit_linked-clause-refused
returns-in_err-admit_linked-clause-refused c =
    let p = err_from_is_err_and c.from_residual-in_err-admit_linked.result c.from_residual-in_err-admit_linked.ensures.1 in
    rw (p.1, p.2) (λ parts linked. (
      λ ne. (
        linked.0,
        linked.1,
        (
          linked.2.0,
          subst (λ (county : County). IsFirstBrokenClause county c.in_err-admit_linked.field-0.0) (c.in_ok-county.ensures.county ∙ linked.2.1)
              (c.in_err-admit_linked.ensures.broken ne),
        ),
      ),
      λ of is. cc,
    ))
