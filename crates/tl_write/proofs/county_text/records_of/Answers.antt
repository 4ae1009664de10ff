use Rattle.std.proofs.Common.{List, ap, subst, sym, ◌++◌, ◌∙◌}
use Rattle.canonical_form.specs.WholeArrangements.{arranged_by}
use Rattle.tl_layout.specs.declared.record_type.Record.{Record}
use Rattle.county_chart.specs.Packing.{packed}
use Rattle.std.proofs.Math.Logic.{∥∥₁_elim}
use Rattle.canonical_form.proofs.CanonicalLists.CanonLists.{canonical_packing}
use Rattle.canonical_form.specs.CanonCounties.{IsCanonCounty, IsCanonCounty-prop}
use Rattle.canonical_form.specs.Canonical.{IsCanonical}
use Rattle.tl_write.proofs.county_text.records_of.Goals as goal

pub returns-clause-canonical : goal.returns-clause-canonical
returns-clause-canonical g c =
    let county = arranged_by (g.C.Chart.county c.args.county.now.chart) c.args.county.now.arrangement.items in
    let known : IsCanonCounty county = ∥∥₁_elim c.args.county.now.stands (IsCanonCounty-prop county) (λ h. h.0) in
    subst IsCanonical (sym (c.in_ok-visit_records.ensures.given ∙ ap (λ (xs : List Record). xs ++ packed county)
    c.new-records.ensures.items)) (canonical_packing county c.args.county.now.whole.is_county known)
