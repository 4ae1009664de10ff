use Rattle.arranged_county.proofs.Common.{arith, length, take_more_set, ◌<◌, ◌∙◌}
use Rattle.arranged_county.proofs.Views.ArrangedPairs.{first_few, left_later, pair_numbered, pair_seen, second_few}
use Rattle.arranged_county.proofs.first_appearance.see_pairs.Goals as goal

pub number-requires : goal.number-requires
number-requires g c =
    g.met.T.Half.fewer _ _ (first_few g.met.T.Old.Ord.total g.met.T.Old.Key.exact g.T.Half.keys g.T.Half.among c.args.pairs.now c.loop-pair.pairs
    c.loop-pair.pair-index c.pair-item.result (omega (arith, c.loop-pair-test.true, c.loop-pair.auto.pairs)) c.loop-pair.invariant.2
    c.loop-pair.numbers c.loop-pair.invariant.0) c.requires.few

pub number-requires-in-loop-pair : goal.number-requires-in-loop-pair
number-requires-in-loop-pair g c =
    g.met.T.Half.fewer _ _ (second_few g.met.T.Old.Ord.total g.met.T.Old.Key.exact g.T.Half.keys g.T.Half.among c.args.pairs.now c.loop-pair.pairs
    c.loop-pair.pair-index c.pair-item.result (omega (arith, c.loop-pair-test.true, c.loop-pair.auto.pairs)) c.loop-pair.invariant.2
    c.loop-pair.numbers c.loop-pair.invariant.0
    c.number.new.numbers c.in_ok-new_first.ensures.seen) c.requires.few

pub loop-pair-preserved : goal.loop-pair-preserved
loop-pair-preserved g c =
    let within : c.loop-pair.pair-index < length c.loop-pair.pairs = omega (arith, c.loop-pair-test.true, c.loop-pair.auto.pairs) in (
      pair_seen g.met.T.Old.Ord.total g.met.T.Old.Key.exact g.T.Half.keys g.T.Half.among c.args.pairs.now c.loop-pair.pairs
          c.loop-pair.pair-index c.pair-item.result within c.loop-pair.invariant.2
          c.loop-pair.numbers c.loop-pair.invariant.0
          c.number.new.numbers c.in_ok-new_first.ensures.seen c.number-in-loop-pair.new.numbers c.in_ok-new_second.ensures.seen,
      take_more_set c.loop-pair.pairs c.loop-pair.pair-index (c.in_ok-new_first.new_first, c.in_ok-new_second.new_second) within
          ∙ pair_numbered g.met.T.Old.Ord.total g.met.T.Old.Key.exact g.T.Half.keys g.T.Half.among c.args.pairs.now c.loop-pair.pairs
          c.loop-pair.pair-index c.pair-item.result within c.loop-pair.invariant.2
          c.loop-pair.numbers c.loop-pair.invariant.0
          c.number.new.numbers c.in_ok-new_first.ensures.seen c.number-in-loop-pair.new.numbers c.in_ok-new_second.ensures.seen
          c.in_ok-new_first.new_first c.in_ok-new_second.new_second c.in_ok-new_first.ensures.number c.in_ok-new_second.ensures.number _ c.loop-pair.invariant.1,
      left_later c.loop-pair.pairs c.args.pairs.now c.loop-pair.pair-index c.loop-pair.invariant.2
          (c.in_ok-new_first.new_first, c.in_ok-new_second.new_second),
    )
