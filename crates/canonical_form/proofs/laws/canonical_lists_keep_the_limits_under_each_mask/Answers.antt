use Rattle.canonical_form.proofs.Common.{arith, masked, most_records}
use Rattle.canonical_form.proofs.Arrangements.ArrangedNumbers.{canonical_counts, canonical_low, canonical_within}
use Rattle.canonical_form.proofs.Masks.MaskedViews.{masked_shows_no_more, masked_view}
use Rattle.canonical_form.proofs.laws.canonical_lists_keep_the_limits_under_each_mask.Goals as goal

pub returns-clause-no_more : goal.returns-clause-no_more
returns-clause-no_more c = masked_shows_no_more

pub returns-clause-counts : goal.returns-clause-counts
returns-clause-counts c = λ mask records canonical fits h.
    canonical_counts (masked mask) (masked_view mask) records h.accepted canonical h (masked_shows_no_more mask) fits

pub returns-clause-limits : goal.returns-clause-limits
returns-clause-limits c = λ mask limit records canonical low fits few h.
    canonical_within (masked mask) (masked_view mask) records h.accepted canonical h fits limit low few

pub returns-clause-numbers : goal.returns-clause-numbers
returns-clause-numbers c = λ mask records canonical fits few h.
    canonical_low (masked mask) (masked_view mask) records h.accepted canonical h fits most_records (omega arith) few
