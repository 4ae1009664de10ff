use Rattle.std.proofs.Common.{ap, ◌+◌, ◌∙◌, ◌≡◌}
use Rattle.record_groups.specs.Groups.{group_at}
use Rattle.tl_number.specs.MovedKeys.{are_other, is_other}
use Rattle.tl_number.proofs.Ties.StillKeys.{tested_next}
use Rattle.tl_number.proofs.moved_keys.moves_keys_at.Goals as goal

pub loop-behind-preserved : goal.loop-behind-preserved
loop-behind-preserved g c =
    let cmp = g.G.Item.Ord.cmp in
    let along = g.G.KeyGroups.groups c.args.groups.now in
    let behind = c.loop-behind.behind in
    let here : c.in_ok-other.other ≡ is_other cmp along c.args.at.place behind =
    c.in_ok-other.ensures ∙ ap (λ keys. are_other cmp keys (group_at along (c.args.at.place + behind))) (c.deref.ensures.value ∙ c.in_ok-copy_keys.ensures) in
    c.either-moves.ensures
    ∙ tested_next c.args.at.either_way (is_other cmp along c.args.at.place) behind c.loop-behind.moves c.in_ok-other.other c.loop-behind.invariant here
