-- the keys seen so far and the keys of the remaining chains are all, and so are the open ones
use Rattle.tl_number.proofs.Common.{drop, first_open, first_seen, first_seen_after, grouped, is_open, open_keys, ◌++◌, ◌≡◌}
use Rattle.tl_number.proofs.open_keys.see_groups.Given as goal

abbrev pub invariant-loop-place : goal.invariant-loop-place
invariant-loop-place g l = record {
  all : first_seen_after g.G.Item.Ord.cmp l.all (grouped (drop l.place (g.G.KeyGroups.groups l.groups)))
      ≡ first_seen g.G.Item.Ord.cmp (grouped (g.G.KeyGroups.groups l.groups));
  opened : l.opened.items ++ open_keys g.G.Item.Ord.cmp (is_open l.places) l.all l.place (drop l.place (g.G.KeyGroups.groups l.groups))
      ≡ first_open g.G.Item.Ord.cmp l.places (g.G.KeyGroups.groups l.groups);
}
