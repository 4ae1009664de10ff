use Rattle.record_groups.proofs.Common.{ap, arith, drop, get_dropped, next_taken, push, suc, sym, take, ◌+◌, ◌∙◌, ◌≡◌}
use Rattle.record_groups.proofs.chain_records.items_from.Goals as goal

pub loop-ahead-preserved : goal.loop-ahead-preserved
loop-ahead-preserved g c =
    let all = g.L.Listed.items c.args.list.now in
    let first = c.args.first in
    let ahead = c.loop-ahead.ahead in
    c.push.ensures.items ∙ ap (λ xs. push xs c.item.result) c.loop-ahead.invariant
    ∙ sym (ap (λ n. take n (drop first all)) (let e : ahead + 1 ≡ suc ahead = omega arith in e)
    ∙ next_taken (drop first all) ahead c.item.result (c.item.ensures ∙ sym (get_dropped first all ahead)))
