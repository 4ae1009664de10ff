use Rattle.tl_cert.proofs.Common.{decides_no, decides_same, false, rules, true, ◌≡◌}
use Rattle.tl_cert.proofs.PartsCarried.{parts_carried, parts_there}
use Rattle.tl_cert.specs.PartsThere.{tabled}
use Rattle.tl_cert.proofs.carrying.carries_parts.Goals as goal

pub returns-then-not-there : goal.returns-then-not-there
returns-then-not-there g c =
    let not_there : c.are_parts_there-there.result ≡ false = search rules in
    decides_no c.are_parts_there-there.result not_there c.are_parts_there-there.ensures
    (parts_there (tabled c.args.tables.now) (g.A.Chart.county c.args.a.now) (g.B.Chart.county c.args.b.now)
    (g.met.A.Chart.is_county c.args.a.now) (g.met.B.Chart.is_county c.args.b.now) c.requires)

pub returns : goal.returns
returns g c =
    let there : c.are_parts_there-there.result ≡ true = search rules in
    decides_same c.in_ok-links.links c.in_ok-links.ensures
    (parts_carried (tabled c.args.tables.now) (g.A.Chart.county c.args.a.now) (g.B.Chart.county c.args.b.now)
    (g.met.A.Chart.is_county c.args.a.now) (g.met.B.Chart.is_county c.args.b.now) c.requires
    (c.are_parts_there-there.ensures.0 there))
    (λ h. h.links)
