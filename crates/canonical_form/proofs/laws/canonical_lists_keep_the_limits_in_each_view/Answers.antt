use Rattle.canonical_form.proofs.Common.{arith, most_records}
use Rattle.canonical_form.proofs.Arrangements.ArrangedNumbers.{canonical_counts, canonical_low, canonical_within}
use Rattle.canonical_form.proofs.laws.canonical_lists_keep_the_limits_in_each_view.Goals as goal

pub returns-clause-counts : goal.returns-clause-counts
returns-clause-counts c = λ seen records canonical view_laws no_more fits h.
    canonical_counts seen view_laws records h.accepted canonical h no_more fits

pub returns-clause-limits : goal.returns-clause-limits
returns-clause-limits c = λ seen limit records canonical view_laws low fits few h.
    canonical_within seen view_laws records h.accepted canonical h fits limit low few

pub returns-clause-numbers : goal.returns-clause-numbers
returns-clause-numbers c = λ seen records canonical view_laws fits few h.
    canonical_low seen view_laws records h.accepted canonical h fits most_records (omega arith) few
