use Rattle.arranged_county.proofs.Common.{ap, arith, changed_both, first_seen, flat_map, keys_at, length, map, ◌∙◌, ◌≡◌}
use Rattle.std.proofs.Math.Seq.{take-append_seam}
use Rattle.arranged_county.proofs.Results.{of_done}
use Rattle.arranged_county.proofs.first_appearance.number_pairs.Goals as goal

pub returns-clause-numbers : goal.returns-clause-numbers
returns-clause-numbers g c =
    of_done (λ tables. tables.0 ≡ first_seen g.T.Old.Ord.cmp (flat_map (keys_at g.T.Half.keys) c.args.pairs.items)) _ c.see_pairs-seen.result c.if_done.result
    (λ numbers. numbers ∙ ap (λ pairs. first_seen g.T.Old.Ord.cmp (flat_map (keys_at g.T.Half.keys) pairs)) c.deref_mut.ensures.value)
    c.if_done.ensures.value c.if_done.ensures.done c.see_pairs-seen.ensures.numbers

pub returns-clause-pairs : goal.returns-clause-pairs
returns-clause-pairs g c =
    let count : c.args.pairs.len ≡ length c.see_pairs-seen.new.pairs = omega (
      arith,
      c.see_pairs-seen.auto.pairs,
      ap length c.deref_mut.ensures.value,
      c.args.pairs.ok.0,
    ) in
    of_done (λ tables. tables.1.items ≡ map (changed_both (g.T.Half.among (first_seen g.T.Old.Ord.cmp (flat_map (keys_at g.T.Half.keys) c.args.pairs.items)))) c.args.pairs.items) _ c.see_pairs-seen.result c.if_done.result
    (λ pairs. rw (count, take-append_seam) (pairs ∙ ap (λ pairs. map (changed_both (g.T.Half.among (first_seen g.T.Old.Ord.cmp (flat_map (keys_at g.T.Half.keys) pairs)))) pairs) c.deref_mut.ensures.value))
    c.if_done.ensures.value c.if_done.ensures.done c.see_pairs-seen.ensures.pairs
