use Rattle.county_chart.proofs.Common.{IsKeyOrder, ap, drop, group_cut, take, ◌∙◌}
use Rattle.county_chart.proofs.keys.keyed.split_group.Goals as goal

pub returns-clause-group : goal.returns-clause-group
returns-clause-group g c =
    let o : IsKeyOrder g.K.Ord.cmp = record { total = g.met.K.Ord.total; exact = g.met.K.Key.exact } in
    let from = c.split_at.result.1.now in
    c.split_at-2.ensures.front ∙ ap (λ n. take n from) c.count_up_to.ensures.count
    ∙ (group_cut o g.T.Keyed.key_of c.args.key c.args.items.now from c.requires
    (c.split_at.ensures.back ∙ ap (λ n. drop n c.args.items.now) c.count_below.ensures.count)).0

pub returns-clause-later : goal.returns-clause-later
returns-clause-later g c =
    let o : IsKeyOrder g.K.Ord.cmp = record { total = g.met.K.Ord.total; exact = g.met.K.Key.exact } in
    let from = c.split_at.result.1.now in
    c.split_at-2.ensures.back ∙ ap (λ n. drop n from) c.count_up_to.ensures.count
    ∙ (group_cut o g.T.Keyed.key_of c.args.key c.args.items.now from c.requires
    (c.split_at.ensures.back ∙ ap (λ n. drop n c.args.items.now) c.count_below.ensures.count)).1
