use Rattle.tl_number.proofs.Common.{AreSame, One, ap, ap₂, arranged_county, choices_same, chosen_county, groups_cmp, map, nat_cmp, numbered_choice, numbered_is_choice, packed, packed_sevens, slice_cmp, subst, sym, take, text_of, type_1_by_chain, type_2_by_chain, type_5_by_name, type_6_by_chain, type_7_by_landmark, ◌∙◌}
use Rattle.tl_number.proofs.Landmarks.BodiesFirst.{same_landmarks}
use Rattle.tl_number.proofs.Names.ContentFirst.{same_type_5}
use Rattle.tl_number.proofs.Texts.SamePoints.{twos_of_numbers}
use Rattle.tl_number.proofs.choice_search.ComparedCounty.compare.Goals as goal

pub compare_arranged-requires-clause-ones : goal.compare_arranged-requires-clause-ones
compare_arranged-requires-clause-ones g c =
    ap₂ (λ one other. groups_cmp One (type_1_by_chain one) (type_1_by_chain other)) c.requires.one.county c.requires.other.county ∙ c.requires.ones

pub compare_arranged-requires-clause-twos : goal.compare_arranged-requires-clause-twos
compare_arranged-requires-clause-twos g c =
    let chart = c.args.self.now.classes.now.chart.now in
    ap type_2_by_chain c.requires.one.county
    ∙ twos_of_numbers (g.C.Chart.county chart) (g.met.C.Chart.is_county chart) c.requires.known.sides c.args.one.now.number c.args.other.now.number
    ∙ sym (ap type_2_by_chain c.requires.other.county)

pub compare_arranged-requires-clause-fives : goal.compare_arranged-requires-clause-fives
compare_arranged-requires-clause-fives g c =
    let county = g.C.Chart.county c.args.self.now.classes.now.chart.now in
    let is = g.met.C.Chart.is_county c.args.self.now.classes.now.chart.now in
    let one = c.args.one.now.number in
    let other = c.args.other.now.number in
    ap type_5_by_name c.requires.one.county
    ∙ same_type_5 county is (numbered_choice county one) (numbered_choice county other)
    (numbered_is_choice county is one).arranges (numbered_is_choice county is other).arranges
    ∙ sym (ap type_5_by_name c.requires.other.county)

pub compare_arranged-requires-clause-sevens : goal.compare_arranged-requires-clause-sevens
compare_arranged-requires-clause-sevens g c =
    let county = g.C.Chart.county c.args.self.now.classes.now.chart.now in
    let is = g.met.C.Chart.is_county c.args.self.now.classes.now.chart.now in
    let one = c.args.one.now.number in
    let other = c.args.other.now.number in
    ap type_7_by_landmark c.requires.one.county
    ∙ ap (map packed_sevens) (same_landmarks county is (numbered_choice county one) (numbered_choice county other)
    (numbered_is_choice county is one).arranges (numbered_is_choice county is other).arranges)
    ∙ sym (ap type_7_by_landmark c.requires.other.county)

pub compare_arranged-requires-clause-same : goal.compare_arranged-requires-clause-same
compare_arranged-requires-clause-same g c =
    let county = g.C.Chart.county c.args.self.now.classes.now.chart.now in
    subst (λ a. AreSame a (arranged_county c.args.other.now.county)) (sym c.requires.one.county)
    (subst (AreSame (chosen_county county c.args.one.now.number)) (sym c.requires.other.county)
    (choices_same county (g.met.C.Chart.is_county c.args.self.now.classes.now.chart.now) c.requires.known.sides c.args.one.now.number
    c.args.other.now.number))

pub compare_arranged-requires-clause-sixes : goal.compare_arranged-requires-clause-sixes
compare_arranged-requires-clause-sixes g c =
    ap (λ one. take c.count_alike-alike.result (type_6_by_chain one)) c.requires.one.county ∙ c.count_alike-alike.ensures
    ∙ sym (ap (λ other. take c.count_alike-alike.result (type_6_by_chain other)) c.requires.other.county)

pub returns : goal.returns
returns g c =
    c.compare_arranged.ensures
    ∙ ap₂ (λ a b. slice_cmp nat_cmp (text_of (packed a)) (text_of (packed b))) c.requires.one.county c.requires.other.county
