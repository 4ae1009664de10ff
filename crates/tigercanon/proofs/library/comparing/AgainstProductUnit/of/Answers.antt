use Rattle.tigercanon.proofs.Common.{IfErr-weaker, IfOk-weaker, MatchResult-from_both}
use Rattle.tigercanon.proofs.library.comparing.AgainstProductUnit.of.Goals as goal

pub returns : goal.returns
returns g c = λ a first b says.
    MatchResult-from_both c.make_of.result _ _
    (IfOk-weaker c.make_of.result _ _ (λ comparison found. found a first) (c.make_of.ensures.made b says))
    (IfErr-weaker c.make_of.result _ _ (λ fault reported. ((first.records, first.accepted), reported)) (c.make_of.ensures.refused b says))
