use Rattle.tl_load.proofs.Common.{arith, bitmask_splat, cases_lt, eqb-true, inl, inr, length, lit≤, ltb, map, mask_l, sym, w8, ◌∙◌, ◌≡◌}
use Rattle.tl_load.proofs.Lanes.{allowed_at_each, each_of_empty_mask, each_of_selected}
use Rattle.tl_load.proofs.bytes.is_ascii.Goals as goal

pub loop-at-preserved : goal.loop-at-preserved
loop-at-preserved c =
    let least = c.loop-at.least in
    let block = c.from_delete.result in
    let same : length least ≡ length block = c.loop-at.auto.least.0 ∙ sym c.from_delete.ensures.long in
    let both = each_of_selected 161 least block same in
    record {
      clean = λ each k below. elim (cases_lt k c.loop-at.at) [
        | inl before ↦ c.loop-at.invariant.clean (both each).0 k before
        | inr after ↦ c.from_delete.ensures.clean (both each).1 k after below
      ];
      ends_clean = λ each. c.loop-at.invariant.ends_clean (both each).0;
    }

-- each byte is before the last block or in it
pub returns : goal.returns
returns c none_below =
    let least = c.loop-at.least in
    let none : mask_l (map (λ x. ltb x 161) least) ≡ 0 =
    sym (bitmask_splat w8 ltb least 16 161 c.loop-at.auto.least.0 (lit≤ tt)) ∙ eqb-true _ _ none_below in
    let each = each_of_empty_mask 161 least none in
    allowed_at_each c.args.bytes.now (λ k lt. elim (cases_lt k c.loop-at.at) [
      | inl below ↦ c.loop-at.invariant.clean each k below
      | inr above ↦ c.loop-at.invariant.ends_clean each k (omega arith) (omega arith)
    ])
