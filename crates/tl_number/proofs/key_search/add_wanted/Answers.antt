use Rattle.tl_number.proofs.Common.{[], ap, arith, contains, drop, drop_all, filter, first_seen_after, sym, ◌+◌, ◌∙◌, ◌∷◌}
use Rattle.tl_number.proofs.Ties.SearchSteps.{chosen_more, one_dropped}
use Rattle.tl_number.proofs.key_search.add_wanted.Goals as goal

pub loop-key-preserved : goal.loop-key-preserved
loop-key-preserved g c =
    let cmp = g.K.Ord.cmp in
    let keys = c.args.keys.now in
    let i = c.loop-key.key-index in
    chosen_more cmp (λ key. contains cmp key c.args.wanted.now) (c.key-item.result ∷ []) (drop (i + 1) keys) (drop i keys)
    c.loop-key.earlier c.add_if_wanted.new.earlier _ (one_dropped keys i c.key-item.result c.loop-key-test.true c.key-item.is)
    c.in_ok-add_if_wanted.ensures c.loop-key.invariant

pub returns : goal.returns
returns g c =
    sym (ap (λ keys. first_seen_after g.K.Ord.cmp c.loop-key.earlier (filter (λ key. contains g.K.Ord.cmp key c.args.wanted.now) keys))
    (drop_all c.loop-key.key-index c.args.keys.now (omega (arith, c.loop-key-test.false)))) ∙ c.loop-key.invariant
