use Rattle.tigercanon.proofs.Common.{IfOk, IsOnlyTextInView, bytes_of_parts}
use Rattle.tigercanon.proofs.Masking.{as_it_is}
use Rattle.tigercanon.proofs.library.normalising.normalise_with_renaming.Goals as goal

pub returns-clause-only : goal.returns-clause-only
returns-clause-only c =
    as_it_is (λ view. IfOk c.normalise_with_renaming_masked.result
    (λ answer. IsOnlyTextInView view (bytes_of_parts c.args.parts.now) answer.0.items)) c.normalise_with_renaming_masked.ensures.only
