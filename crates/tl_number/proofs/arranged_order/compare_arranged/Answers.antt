use Rattle.tl_number.proofs.Common.{Equal, Five, Four, Greater, Less, Ordering, Seven, Six, ap, arranged_by, decided, groups_cmp, nat_cmp, ordering_then, packed, refl, same_groups, slice_cmp, sym, text_of, tied_texts_in_order, type_4_by_chain, type_5_by_name, type_6_by_chain, type_7_by_landmark, types_5_to_7_cmp, types_8_to_p_cmp, ◌∙◌, ◌≡◌}
use Rattle.tl_number.proofs.arranged_order.compare_arranged.Given.{Over}
use Rattle.tl_number.proofs.arranged_order.compare_arranged.Goals.{Start}
use Rattle.tl_number.proofs.arranged_order.compare_arranged.Goals as goal

alone : (o : Ordering) → ordering_then o Equal ≡ o
alone Less = refl
alone Equal = refl
alone Greater = refl

-- the order by the records of type 4, and then by the types after it; types 5 and 7 tie
whole : (g : Over) (c : Start g) → let a = arranged_by (g.A.Chart.county c.args.a.now.chart) c.args.a.now.arrangement.items in
    let b = arranged_by (g.B.Chart.county c.args.b.now.chart) c.args.b.now.arrangement.items in
    ordering_then (groups_cmp Four (type_4_by_chain a) (type_4_by_chain b))
    (ordering_then (groups_cmp Six (type_6_by_chain a) (type_6_by_chain b)) (types_8_to_p_cmp a b))
    ≡ slice_cmp nat_cmp (text_of (packed a)) (text_of (packed b))
whole g c =
    let a = arranged_by (g.A.Chart.county c.args.a.now.chart) c.args.a.now.arrangement.items in
    let b = arranged_by (g.B.Chart.county c.args.b.now.chart) c.args.b.now.arrangement.items in
    let six = groups_cmp Six (type_6_by_chain a) (type_6_by_chain b) in
    let fives = same_groups Five (type_5_by_name a) (type_5_by_name b) c.requires.fives in
    let sevens = same_groups Seven (type_7_by_landmark a) (type_7_by_landmark b) c.requires.sevens in
    let sixes : six ≡ types_5_to_7_cmp a b = sym (alone six) ∙ (λ i. ordering_then (fives i) (ordering_then six (sevens i))) in
    ap (λ o. ordering_then (groups_cmp Four (type_4_by_chain a) (type_4_by_chain b)) (ordering_then o (types_8_to_p_cmp a b))) sixes
    ∙ sym (tied_texts_in_order a b c.args.a.now.whole.is_county c.args.b.now.whole.is_county c.args.a.now.whole.within_limits
    c.args.b.now.whole.within_limits c.requires.same c.requires.ones c.requires.twos)

pub returns-in-Equal : goal.returns-in-Equal
returns-in-Equal g c =
    let a = arranged_by (g.A.Chart.county c.args.a.now.chart) c.args.a.now.arrangement.items in
    let b = arranged_by (g.B.Chart.county c.args.b.now.chart) c.args.b.now.arrangement.items in
    c.compare_types_6_to_p.ensures
    ∙ ap (λ o. ordering_then o (ordering_then (groups_cmp Six (type_6_by_chain a) (type_6_by_chain b)) (types_8_to_p_cmp a b)))
    (sym (sym c.compare_further_names.ensures ∙ c.in-Equal.is))
    ∙ whole g (goal.at.returns-in-Equal g c).Start

pub returns-in_default : goal.returns-in_default
returns-in_default g c =
    let a = arranged_by (g.A.Chart.county c.args.a.now.chart) c.args.a.now.arrangement.items in
    let b = arranged_by (g.B.Chart.county c.args.b.now.chart) c.args.b.now.arrangement.items in
    let made = c.compare_further_names.ensures in
    made
    ∙ sym (decided _ (ordering_then (groups_cmp Six (type_6_by_chain a) (type_6_by_chain b)) (types_8_to_p_cmp a b))
    (λ tie. c.in_default.not-Equal (made ∙ tie)))
    ∙ whole g (goal.at.returns-in_default g c).Start
