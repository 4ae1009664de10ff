-- whether the place can turn its chain, or one of the chains so far has other keys
use Rattle.std.specs.List.{list_any, range_with_len}
use Rattle.std.specs.Prelude.{◌||◌, ◌≡◌}
use Rattle.tl_number.specs.MovedKeys.{is_other}
use Rattle.tl_number.proofs.moved_keys.moves_keys_at.Given as goal

abbrev pub invariant-loop-behind : goal.invariant-loop-behind
invariant-loop-behind g l =
    l.moves ≡ (l.fn.at.either_way || list_any (is_other g.G.Item.Ord.cmp (g.G.KeyGroups.groups l.groups) l.fn.at.place) (range_with_len 0 l.behind))
