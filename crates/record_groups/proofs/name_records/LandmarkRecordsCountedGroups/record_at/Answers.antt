use Rattle.record_groups.proofs.Common.{Body7, Fields7, IsNumber, List, Option, Some, [], ap, lands, length, length-map, option_map, packed_sevens, slice_get, slice_get-map, some-same, subst, sym, unwrap_or, ◌<◌, ◌∙◌, ◌≡◌}
use Rattle.record_groups.proofs.Records.EntryPlaces.{landmark_of_group}
use Rattle.record_groups.proofs.Records.Grouped.{group_of}
use Rattle.record_groups.proofs.name_records.LandmarkRecordsCountedGroups.record_at.Goals as goal

pub landmark_body_there-requires : goal.landmark_body_there-requires
landmark_body_there-requires g c =
    let chart = c.args.self.now.chart.now in
    let county = g.C.Chart.county chart in
    let there = landmark_of_group county (g.met.C.Chart.within_limits chart) c.args.group packed_sevens c.requires.group in
    subst (λ n. c.args.place < n) (ap length (group_of packed_sevens county.landmarks c.args.group there.entry there.get)
    ∙ length-map there.entry.1 (λ body. record { land = there.entry.0; body = body }) ∙ sym (ap (λ (o : Option (List Body7)). length (unwrap_or o [])) there.value)) c.requires.place

pub new-requires : goal.new-requires
new-requires g c =
    let chart = c.args.self.now.chart.now in
    let county = g.C.Chart.county chart in
    let there = landmark_of_group county (g.met.C.Chart.within_limits chart) c.args.group packed_sevens c.requires.group in
    let land_is : c.land_there.result ≡ there.entry.0 = some-same (slice_get (lands county) c.args.group) c.land_there.result there.entry.0
    c.land_there.ensures there.number in
    subst (IsNumber 10) (sym land_is) there.is_number

pub returns : goal.returns
returns g c =
    let chart = c.args.self.now.chart.now in
    let county = g.C.Chart.county chart in
    let there = landmark_of_group county (g.met.C.Chart.within_limits chart) c.args.group packed_sevens c.requires.group in
    let land_is : c.land_there.result ≡ there.entry.0 = some-same (slice_get (lands county) c.args.group) c.land_there.result there.entry.0
    c.land_there.ensures there.number in
    let make : Body7 → Fields7 = λ body. record { land = there.entry.0; body = body } in
    let read : slice_get there.entry.1 c.args.place ≡ Some c.landmark_body_there.result =
    sym (c.landmark_body_there.ensures ∙ ap (λ (o : Option (List Body7)). slice_get (unwrap_or o []) c.args.place) there.value) in
    ap Some (c.new.ensures ∙ (λ i. record { land = land_is i; body = c.landmark_body_there.result }))
    ∙ sym (ap (λ rs. slice_get rs c.args.place) (group_of packed_sevens county.landmarks c.args.group there.entry there.get)
    ∙ slice_get-map make there.entry.1 c.args.place ∙ ap (option_map make) read)
