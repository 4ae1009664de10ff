use Rattle.tigercanon.proofs.Common.{IfErr-at_err, IfErr-weaker, IfOk-at_ok, ReportsRefusalOfOneRead, refl}
use Rattle.tigercanon.proofs.Reported.{one_refused, one_succeeds}
use Rattle.tigercanon.proofs.library.comparing.are_one_map_masked.Goals as goal

pub returns-clause-same : goal.returns-clause-same
returns-clause-same c = λ reported. IfOk-at_ok _ reported (c.compare_unlinked.ensures.found _ _ refl refl)

pub returns-clause-different : goal.returns-clause-different
returns-clause-different c = λ reported. IfOk-at_ok _ reported (c.compare_unlinked.ensures.found _ _ refl refl)

pub returns-clause-refused : goal.returns-clause-refused
returns-clause-refused c = IfErr-weaker c.compare_unlinked.result _ _ (one_refused _ _) (c.compare_unlinked.ensures.refused _ _ refl refl)

pub returns-clause-succeeds : goal.returns-clause-succeeds
returns-clause-succeeds c = IfErr-weaker c.compare_unlinked.result _ _ (one_succeeds _ _) (c.compare_unlinked.ensures.refused _ _ refl refl)

pub returns-clause-names_set : goal.returns-clause-names_set
returns-clause-names_set c e =
    IfErr-at_err (ReportsRefusalOfOneRead _ _) e (c.compare_unlinked.ensures.refused _ _ refl refl)
