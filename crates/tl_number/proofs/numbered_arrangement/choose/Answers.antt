use Rattle.tl_number.proofs.Common.{AreWithin, IsWithin, [], all_left, ap, length, moved, moved-last, other_way, subst, sym, ◌∙◌, ◌∷◌}
use Rattle.tl_number.proofs.numbered_arrangement.choose.Goals as goal

pub loop-at-preserved : goal.loop-at-preserved
loop-at-preserved c =
    let before = c.in-Some.before.now in
    let at = c.in-Some.at.now in
    let split = c.in-Some.ensures.cases.0 in
    let count = c.place_chain-left.ensures.count in
    record {
      same = (λ i. moved other_way before (c.place_chain-left.ensures.arrangement i, c.place_chain-left.ensures.left i))
          ∙ sym (moved-last other_way before at (c.loop-at.arrangement, c.loop-at.left))
          ∙ ap (λ l. moved other_way l (c.loop-at.arrangement, c.loop-at.left)) (sym split)
          ∙ c.loop-at.invariant.same;
      within = subst (λ n. AreWithin n before) (sym count)
          (all_left (IsWithin (length c.loop-at.arrangement)) before (at ∷ [])
          (subst (AreWithin (length c.loop-at.arrangement)) split c.loop-at.invariant.within));
      count = count ∙ c.loop-at.invariant.count;
    }
