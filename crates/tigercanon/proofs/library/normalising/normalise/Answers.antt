use Rattle.tigercanon.proofs.Common.{IfOk, IsOneCanonicalTextInView, IsOnlyTextInView, bytes_of_parts}
use Rattle.tigercanon.proofs.Masking.{as_it_is, under_none}
use Rattle.tigercanon.proofs.library.normalising.normalise.Goals as goal

pub returns-clause-only : goal.returns-clause-only
returns-clause-only c =
    as_it_is (λ view. IfOk c.normalise_masked.result (λ text. IsOnlyTextInView view (bytes_of_parts c.args.parts.now) text.items))
    c.normalise_masked.ensures.only

pub returns-clause-again_succeeds : goal.returns-clause-again_succeeds
returns-clause-again_succeeds c = λ text one.
    c.normalise_masked.ensures.again_succeeds text
    (under_none (λ view. IsOneCanonicalTextInView view (bytes_of_parts c.args.parts.now) text) one)
