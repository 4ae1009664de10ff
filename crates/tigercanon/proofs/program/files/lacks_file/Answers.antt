use Rattle.tigercanon.proofs.Common.{YieldsList-from_slice, any_from_yields_List, is_failed, rules, sym, tests, ◌∙◌}
use Rattle.tigercanon.proofs.program.files.lacks_file.Goals as goal

pub returns-else-is_first_absent : goal.returns-else-is_first_absent
returns-else-is_first_absent g c =
    rw (sym c.is_first_absent.ensures ∙ c.if-is_first_absent.false) (any_from_yields_List is_failed _ _ c.any.result c.any.ensures.ran
    (YieldsList-from_slice c.args.files.now (cc)) (λ x b q k. search (rules, tests)))
