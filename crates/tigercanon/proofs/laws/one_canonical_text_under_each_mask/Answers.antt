use Rattle.tigercanon.proofs.Sets.{canonical_text, one_text, one_text_same, same_one_text, text_as_it_is, text_itself}
use Rattle.tigercanon.proofs.Common.{IsCanonicalTextInView, masked, masked_view}
use Rattle.tigercanon.proofs.Masking.{as_it_is, under_none}
use Rattle.tigercanon.proofs.laws.one_canonical_text_under_each_mask.Goals as goal

pub returns-clause-exists : goal.returns-clause-exists
returns-clause-exists c = λ mask. canonical_text (masked mask) (masked_view mask)

pub returns-clause-only : goal.returns-clause-only
returns-clause-only c = λ mask. one_text (masked mask) (masked_view mask)

pub returns-clause-same : goal.returns-clause-same
returns-clause-same c = λ mask. same_one_text (masked mask) (masked_view mask)

pub returns-clause-equal : goal.returns-clause-equal
returns-clause-equal c = λ mask. one_text_same (masked mask) (masked_view mask)

pub returns-clause-itself : goal.returns-clause-itself
returns-clause-itself c = λ mask. text_itself (masked mask) (masked_view mask)

pub returns-clause-plain : goal.returns-clause-plain
returns-clause-plain c = λ mask. text_as_it_is (masked mask) (masked_view mask)

pub returns-clause-no_mask : goal.returns-clause-no_mask
returns-clause-no_mask c = λ parts text.
    (as_it_is (λ view. IsCanonicalTextInView view parts text), under_none (λ view. IsCanonicalTextInView view parts text))
