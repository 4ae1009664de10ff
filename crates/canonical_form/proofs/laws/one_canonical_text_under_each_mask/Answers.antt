use Rattle.canonical_form.proofs.CanonicalLists.Accepted.{canonical_as_it_is, canonical_of_itself, one_canonical_same, same_canonical_text}
use Rattle.canonical_form.proofs.CanonicalLists.Ascending.{canonical_exists}
use Rattle.canonical_form.proofs.Common.{county_of, masked, same-reflexive}
use Rattle.canonical_form.proofs.Masks.MaskedCounties.{no_mask_is_plain}
use Rattle.canonical_form.proofs.Masks.MaskedViews.{masked_view}
use Rattle.canonical_form.proofs.laws.one_canonical_text_under_each_mask.Goals as goal

pub returns-clause-view : goal.returns-clause-view
returns-clause-view c = masked_view

pub returns-clause-no_mask : goal.returns-clause-no_mask
returns-clause-no_mask c = no_mask_is_plain

pub returns-clause-exists : goal.returns-clause-exists
returns-clause-exists c = λ mask. canonical_exists (masked mask) (masked_view mask)

pub returns-clause-only : goal.returns-clause-only
returns-clause-only c = λ mask records c d h k.
    same_canonical_text (masked mask) (masked_view mask) records records c d h k (same-reflexive (masked mask (county_of records)))

pub returns-clause-same : goal.returns-clause-same
returns-clause-same c = λ mask. same_canonical_text (masked mask) (masked_view mask)

pub returns-clause-equal : goal.returns-clause-equal
returns-clause-equal c = λ mask. one_canonical_same (masked mask) (masked_view mask)

pub returns-clause-itself : goal.returns-clause-itself
returns-clause-itself c = λ mask xs c h.
    (canonical_of_itself (masked mask) (masked_view mask) xs c h, canonical_as_it_is (masked mask) (masked_view mask) xs c h)
