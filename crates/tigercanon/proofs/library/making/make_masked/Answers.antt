use Rattle.tigercanon.proofs.Common.{County, IsCanonicalInView, IsLeastChoice, ap, arranged, arrangement_in, choice_is_canonical, masked, masked_view, packed, subst, sym, ◌∙◌}
use Rattle.tigercanon.proofs.library.making.make_masked.Goals as goal

pub returns-clause-made : goal.returns-clause-made
returns-clause-made g c = λ parts set.
    let view = masked c.args.mask in
    let arrangement = arrangement_in c.in_ok-county.county in
    c.of-made.ensures parts (record {
      records = set.records;
      accepted = set.accepted;
      county_is = c.in_ok-county.ensures.source_county ∙ set.county_is;
      canonical = subst (λ (county : County). IsCanonicalInView view set.records (packed county))
          (ap (λ (county : County). arranged county arrangement) (sym set.county_is) ∙ sym c.in_ok-county.ensures.county)
          (choice_is_canonical view (masked_view c.args.mask) set.records set.accepted.accepted arrangement
          (subst (λ (county : County). IsLeastChoice county arrangement) set.county_is c.in_ok-county.ensures.choice));
    })
