use Rattle.std.proofs.Common.{rules}
use Rattle.tl_load.proofs.LineLaws.{Reading, judged_fault_found, judged_fault_only, judged_is_line, line_is_judged}
use Rattle.tl_load.proofs.laws.line_has_record.Goals as goal

pub returns-clause-has_record : goal.returns-clause-has_record
returns-clause-has_record g c line r begins =
    let laws : Reading g.L.Layout.RTYPE g.L.Layout.LEN g.L.Layout.reading g.L.Layout.Spells =
    record { found = λ l x is e. (g.met.L.Layout.reads_spelled l x is e).1; only = λ l x is h. g.met.L.Layout.spelled_is_read l x is h } in
    (judged_is_line _ _ _ _ laws line r begins, line_is_judged _ _ _ _ laws line r)

pub returns-clause-has_fault : goal.returns-clause-has_fault
returns-clause-has_fault g c line fault begins = search (rules, judged_fault_found, judged_fault_only)
