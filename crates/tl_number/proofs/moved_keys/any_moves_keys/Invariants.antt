-- whether the places so far move keys, or one of the remaining ones does
use Rattle.std.specs.List.{list_any}
use Rattle.std.specs.Prelude.{drop, ◌||◌, ◌≡◌}
use Rattle.tl_number.specs.MovedKeys.{moves_keys}
use Rattle.tl_number.proofs.moved_keys.any_moves_keys.Given as goal

abbrev pub invariant-loop-at : goal.invariant-loop-at
invariant-loop-at g l =
    (l.moves || list_any (moves_keys g.G.Item.Ord.cmp (g.G.KeyGroups.groups l.groups)) (drop l.at-index l.places))
    ≡ list_any (moves_keys g.G.Item.Ord.cmp (g.G.KeyGroups.groups l.groups)) l.places
