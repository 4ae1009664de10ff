use Rattle.canonical_form.specs.Accepted.{IsAccepted, IsCanonicalOf}
use Rattle.canonical_form.specs.Tidy.{IsLeastChoice}
use Rattle.canonical_form.specs.Arrangement.{arranged}
use Rattle.arranged_county.specs.Views.{arranged_county, arrangement_in}
use Rattle.county_chart.specs.County.{county_of}
use Rattle.county_chart.specs.Packing.{packed}
use Rattle.std.proofs.Common.{subst, sym, ◌≡◌}
use Rattle.county_chart.specs.Profile.{IsInProfile}
use Rattle.uses.proofs.layers.canonical_county.Goals as goal

pub returns : goal.returns
returns c =
    let records = c.args.records.items in
    let arrangement = arrangement_in c.in_ok-canon.canon in
    let linked = c.in_ok-county.ensures.linked in
    let same = sym c.in_ok-admitted.ensures.same in
    let profile : IsInProfile (county_of records) = rw (sym linked.1) (rw same c.in_ok-admitted.ensures.within) in
    let accepted : IsAccepted records = record { linked = linked.0; profile = profile } in
    let least : IsLeastChoice (county_of records) arrangement = rw (sym linked.1) (rw same c.in_ok-canon.ensures.choice) in
    let found = c.each_accepted_list_has_one_canonical_text.ensures.choice records arrangement accepted least in
    let is : arranged_county c.in_ok-canon.canon ≡ arranged (county_of records) arrangement =
    rw (sym linked.1) (rw same c.in_ok-canon.ensures.county) in
    subst (λ k. IsCanonicalOf records (packed k)) (sym is) found
