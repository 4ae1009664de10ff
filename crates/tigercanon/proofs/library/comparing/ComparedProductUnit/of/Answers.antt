use Rattle.tigercanon.proofs.Verdicts.{found_of_sets}
use Rattle.tigercanon.proofs.library.comparing.ComparedProductUnit.of.Goals as goal

pub returns : goal.returns
returns g c = λ b second a first.
    found_of_sets c.args._mask a b _ _ _ _ first second
    (g.V.Comparison.finding c.of.result) c.of.ensures
