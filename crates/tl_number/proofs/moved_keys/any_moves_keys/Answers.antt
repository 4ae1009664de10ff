use Rattle.std.specs.List.{list_any}
use Rattle.std.proofs.Common.{ap, arith, drop, ◌+◌, ◌||◌, ◌∙◌}
use Rattle.tl_number.proofs.Common.{drop_all, drop_more}
use Rattle.tl_number.specs.MovedKeys.{moves_keys}
use Rattle.tl_number.proofs.Ties.StillKeys.{any_done, any_passed}
use Rattle.tl_number.proofs.moved_keys.any_moves_keys.Goals as goal

pub loop-at-preserved : goal.loop-at-preserved
loop-at-preserved g c =
    let test = moves_keys g.G.Item.Ord.cmp (g.G.KeyGroups.groups c.args.groups.now) in
    let places = c.args.places.now in
    let i = c.loop-at.at-index in
    ap (λ moves. moves || list_any test (drop (i + 1) places)) c.either-moves.ensures
    ∙ any_passed test _ (drop (i + 1) places) (drop i places) c.loop-at.moves c.in_ok-here.here (list_any test places)
    (drop_more places i _ c.loop-at-test.true) c.in_ok-here.ensures c.loop-at.invariant

pub returns : goal.returns
returns g c =
    let test = moves_keys g.G.Item.Ord.cmp (g.G.KeyGroups.groups c.args.groups.now) in
    let places = c.args.places.now in
    any_done test (drop c.loop-at.at-index places) c.loop-at.moves (list_any test places)
    (drop_all c.loop-at.at-index places (omega (arith, c.loop-at-test.false))) c.loop-at.invariant
