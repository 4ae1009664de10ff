use Rattle.tl_number.proofs.Common.{IsKeyOrder, ap, append-nil, ap₂, arith, drop, drop_all, first_seen_after, grouped, is_open, length, open_keys, sym, ◌++◌, ◌+◌, ◌<◌, ◌∙◌}
use Rattle.tl_number.proofs.Ties.SearchSteps.{group_dropped, opened_more, seen_more}
use Rattle.tl_number.proofs.open_keys.see_groups.Goals as goal

pub loop-place-init : goal.loop-place-init
loop-place-init g c =
    let cmp = g.G.Item.Ord.cmp in
    let groups = g.G.KeyGroups.groups c.args.groups.now in
    record {
      all = ap (λ seen. first_seen_after cmp seen (grouped groups)) c.requires.all;
      opened = ap₂ (λ found seen. found ++ open_keys cmp (is_open c.args.places.now) seen 0 groups) c.requires.opened c.requires.all;
    }

pub copy_keys-requires : goal.copy_keys-requires
copy_keys-requires g c = omega (arith, c.loop-place-test.true, c.count-place-end.ensures)

pub loop-place-preserved : goal.loop-place-preserved
loop-place-preserved g c =
    let cmp = g.G.Item.Ord.cmp in
    let o : IsKeyOrder cmp = record { total = g.met.G.Item.Ord.total; exact = g.met.G.Item.Key.exact } in
    let groups = g.G.KeyGroups.groups c.args.groups.now in
    let i = c.loop-place.place in
    let keys = c.deref.result.now in
    let within : i < length groups = omega (arith, c.loop-place-test.true, c.count-place-end.ensures) in
    let split = group_dropped groups i keys within (c.deref.ensures.value ∙ c.in_ok-copy_keys.ensures) in
    record {
      all = seen_more cmp keys (grouped (drop (i + 1) groups)) (grouped (drop i groups)) c.loop-place.all c.see_keys.new.all _ (ap grouped split)
          c.in_ok-see_keys.ensures.all c.loop-place.invariant.all;
      opened = opened_more o (is_open c.args.places.now) (drop i groups) (drop (i + 1) groups) keys i split c.is_open_at-at_open.result c.is_open_at-at_open.ensures
          c.loop-place.all c.see_keys.new.all c.loop-place.opened.items c.see_keys.new.opened.items _ c.in_ok-see_keys.ensures.all c.in_ok-see_keys.ensures.opened
          c.loop-place.invariant.opened;
    }

pub returns-clause-all : goal.returns-clause-all
returns-clause-all g c =
    sym (ap (λ rest. first_seen_after g.G.Item.Ord.cmp c.loop-place.all (grouped rest))
    (drop_all c.loop-place.place (g.G.KeyGroups.groups c.args.groups.now) (omega (arith, c.loop-place-test.false, c.count-place-end.ensures)))) ∙ c.loop-place.invariant.all

pub returns-clause-opened : goal.returns-clause-opened
returns-clause-opened g c =
    sym (ap (λ rest. c.loop-place.opened.items ++ open_keys g.G.Item.Ord.cmp (is_open c.args.places.now) c.loop-place.all c.loop-place.place rest)
    (drop_all c.loop-place.place (g.G.KeyGroups.groups c.args.groups.now) (omega (arith, c.loop-place-test.false, c.count-place-end.ensures)))
    ∙ append-nil c.loop-place.opened.items) ∙ c.loop-place.invariant.opened
