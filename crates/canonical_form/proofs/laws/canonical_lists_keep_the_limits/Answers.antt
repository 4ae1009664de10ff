use Rattle.canonical_form.proofs.Common.{arith, most_records, plain}
use Rattle.canonical_form.proofs.Arrangements.ArrangedNumbers.{canonical_counts, canonical_low, canonical_within}
use Rattle.canonical_form.proofs.CanonicalLists.Accepted.{plain_view}
use Rattle.canonical_form.proofs.laws.canonical_lists_keep_the_limits.Goals as goal

pub returns-clause-counts : goal.returns-clause-counts
returns-clause-counts c = λ records canonical fits h.
    canonical_counts plain plain_view records h.accepted canonical h (λ county n. omega arith) fits

pub returns-clause-limits : goal.returns-clause-limits
returns-clause-limits c = λ limit records canonical low fits few h.
    canonical_within plain plain_view records h.accepted canonical h fits limit low few

pub returns-clause-numbers : goal.returns-clause-numbers
returns-clause-numbers c = λ records canonical fits few h.
    canonical_low plain plain_view records h.accepted canonical h fits most_records (omega arith) few
