use Rattle.ordered_lists.proofs.Common.{AreMarksOf, [], arith, common_steps, get_or, subst, sym, take, ◌++◌, ◌+◌, ◌∷◌, ◌≡◌}
use Rattle.ordered_lists.proofs.ByKey.Marks.{marked_more, marked_without}
use Rattle.ordered_lists.proofs.marks.marks_of.Goals as goal
use Rattle.ordered_lists.proofs.marks.marks_of.Goals.{else-place-len, then-place-len}

pub loop-number-preserved : goal.loop-number-preserved
loop-number-preserved c =
    let numbers = c.args.numbers.now in
    let marks = c.loop-number.marks.items in
    let i = c.loop-number.number-index in
    let met = take i numbers in
    let place = get_or numbers i 0 in
    let next : take (i + 1) numbers ≡ met ++ (place ∷ []) = grind (arith, common_steps) in
    subst (λ ns. AreMarksOf ns c.if-place-len.marks.items) (sym next) (elim c.if-place-len.branch [
      | then-place-len w ↦
          subst (λ v. AreMarksOf (met ++ (place ∷ [])) v.items) (sym w.marks-is)
          (marked_more met marks place c.loop-number.invariant
          (omega (arith, w.if-place-len.true, c.len.ensures, c.loop-number.marks.ok.0)))
      | else-place-len w ↦
          subst (λ v. AreMarksOf (met ++ (place ∷ [])) v.items) (sym w.marks-is)
          (marked_without met marks place c.loop-number.invariant
          (omega (arith, w.if-place-len.false, c.len.ensures, c.loop-number.marks.ok.0)))
    ])
