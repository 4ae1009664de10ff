use Rattle.arranged_county.proofs.Common.{IfOk, YieldsList-at, YieldsList-from_enumerate, YieldsList-from_map, YieldsList-from_slice, items_from_collect, rules, subst, tests, ℕ, ◌+◌, ◌≡◌}
use Rattle.arranged_county.proofs.Views.RenamingPairs.{enumerated}
use Rattle.arranged_county.proofs.number_pairs.name_pairs.Goals as goal

pub returns : goal.returns
returns c =
    let feats = c.args.feats.now in
    subst (λ pairs. IfOk c.collect.result (λ made. made.items ≡ pairs)) (enumerated feats)
    (items_from_collect _ c.collect.ensures.ran
    (YieldsList-from_map _ (λ (pair : ℕ × ℕ). (pair.1, pair.0 + 1))
    (YieldsList-at c.map.ensures.source
    (YieldsList-from_enumerate (YieldsList-at c.enumerate.ensures.source (YieldsList-from_slice feats c.iter.ensures.rest))
    c.enumerate.ensures.count))
    c.map.ensures.closure (λ x r q k. search (rules, tests))))
