use Rattle.canonical_form.proofs.Common.{county_of, plain, same-reflexive}
use Rattle.canonical_form.proofs.CanonicalLists.Ascending.{ascends_where_apart, canonical_exists, choice_is_canonical}
use Rattle.canonical_form.proofs.CanonicalLists.Accepted.{plain_view, same_canonical_text}
use Rattle.canonical_form.proofs.laws.each_accepted_list_has_one_canonical_text.Goals as goal

pub returns-clause-exists : goal.returns-clause-exists
returns-clause-exists c = canonical_exists plain plain_view

pub returns-clause-choice : goal.returns-clause-choice
returns-clause-choice c = λ records arrangement accepted. choice_is_canonical plain plain_view records accepted arrangement

pub returns-clause-only : goal.returns-clause-only
returns-clause-only c = λ records c d h k.
    same_canonical_text plain plain_view records records c d h k (same-reflexive (county_of records))

pub returns-clause-apart : goal.returns-clause-apart
returns-clause-apart c = λ records answer apart h. ascends_where_apart plain plain_view records h.accepted apart answer h
