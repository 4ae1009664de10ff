use Rattle.record_groups.proofs.Common.{ap, arith, drop, length, length-take, rules, sym, take, take-add, true, ◌++◌, ◌∙◌, ◌≡◌}
use Rattle.record_groups.proofs.same_groups.are_same_groups.Goals as goal

pub loop-first-preserved : goal.loop-first-preserved
loop-first-preserved g c =
    let same : c.are_same_headed-same.result ≡ true = search rules in
    let xs = g.G.RecordGroups.groups c.args.a.now in
    let ys = g.H.RecordGroups.groups c.args.b.now in
    let i = c.loop-first.first in
    let n = c.read_heads-heads.result in
    let buffer = c.read_heads-heads.new.buffer in
    let counted : length (take n buffer) ≡ n =
    length-take n buffer ∙ omega (arith, c.read_heads-heads.ensures.count, c.read_heads-heads.ensures.buffer) in
    let next : take n (drop i xs) ≡ take n (drop i ys) =
    ap (λ k. take k (drop i xs)) (sym counted) ∙ c.are_same_headed-same.ensures.0 same ∙ ap (λ k. take k (drop i ys)) counted in
    record {
      buffer = c.read_heads-heads.ensures.buffer ∙ c.loop-first.invariant.buffer;
      other = c.read_heads-others.ensures.buffer ∙ c.loop-first.invariant.other;
      within = omega (arith, c.read_heads-heads.ensures.count, c.loop-first.invariant.within);
      same = take-add i n xs ∙ (λ k. c.loop-first.invariant.same k ++ next k) ∙ sym (take-add i n ys);
    }
