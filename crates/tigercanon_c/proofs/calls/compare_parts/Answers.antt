use Rattle.std.proofs.Common.{IfErr, ap, subst, ◌∙◌}
use Rattle.tigercanon.specs.Comparing.{ReportsRefusalOfOne}
use Rattle.tigercanon.specs.LentParts.{bytes_of_parts}
use Rattle.tigercanon_c.specs.Answers.{bytes_of_lent}
use Rattle.tigercanon_c.proofs.calls.compare_parts.Goals as goal

pub returns-clause-refused : goal.returns-clause-refused
returns-clause-refused c =
    let first = ap bytes_of_parts c.as_slice.ensures.value ∙ c.in_ok-first.ensures.slices in
    let second = ap bytes_of_parts c.as_slice-2.ensures.value ∙ c.in_ok-second.ensures.slices in
    subst (λ a. IfErr c.are_one_map_masked.result (ReportsRefusalOfOne a (bytes_of_lent c.args.second.now))) first
    (subst (λ b. IfErr c.are_one_map_masked.result (ReportsRefusalOfOne (bytes_of_parts c.as_slice.result.now) b)) second
    c.are_one_map_masked.ensures.refused)
