use Rattle.record_groups.proofs.Common.{arith, drop, length, length_headed, rules, same_next, sym, take, true, ◌∙◌, ◌≡◌}
use Rattle.record_groups.proofs.Records.Grouped.{group_headed}
use Rattle.record_groups.proofs.Records.SameGroups.{same_group}
use Rattle.record_groups.proofs.same_groups.are_same_headed.Goals as goal

pub loop-ahead-preserved : goal.loop-ahead-preserved
loop-ahead-preserved g c =
    let same : c.is_same_group-same.result ≡ true = search rules in
    let all_xs = g.G.RecordGroups.groups c.args.a.now in
    let all_ys = g.H.RecordGroups.groups c.args.b.now in
    let first = c.args.first in
    let n = length c.args.heads.now in
    let i = c.loop-ahead.ahead in
    let xs = take n (drop first all_xs) in
    let ys = take n (drop first all_ys) in
    same_next xs ys i c.loop-ahead.invariant
    (same_group xs ys i (omega (arith, length_headed all_xs first n c.requires.a, c.loop-ahead-test.true))
    (omega (arith, length_headed all_ys first n c.requires.b, c.loop-ahead-test.true))
    (group_headed all_xs first n i c.loop-ahead-test.true ∙ c.is_same_group-same.ensures.0 same
    ∙ sym (group_headed all_ys first n i c.loop-ahead-test.true)))
