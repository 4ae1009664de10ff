use Rattle.canonical_form.proofs.CanonicalLists.Accepted.{canonical_as_it_is, canonical_of_itself, one_canonical_same, same_canonical_text}
use Rattle.canonical_form.proofs.CanonicalLists.Ascending.{canonical_exists}
use Rattle.canonical_form.proofs.Common.{county_of, same-reflexive}
use Rattle.canonical_form.proofs.laws.one_canonical_text_in_each_view.Goals as goal

pub returns-clause-exists : goal.returns-clause-exists
returns-clause-exists c = λ seen records view_laws. canonical_exists seen view_laws records

pub returns-clause-only : goal.returns-clause-only
returns-clause-only c = λ seen records c d view_laws h k.
    same_canonical_text seen view_laws records records c d h k (same-reflexive (seen (county_of records)))

pub returns-clause-same : goal.returns-clause-same
returns-clause-same c = λ seen xs ys c d view_laws. same_canonical_text seen view_laws xs ys c d

pub returns-clause-equal : goal.returns-clause-equal
returns-clause-equal c = λ seen xs ys c d view_laws. one_canonical_same seen view_laws xs ys c d

pub returns-clause-itself : goal.returns-clause-itself
returns-clause-itself c = λ seen xs c view_laws h. (canonical_of_itself seen view_laws xs c h, canonical_as_it_is seen view_laws xs c h)
