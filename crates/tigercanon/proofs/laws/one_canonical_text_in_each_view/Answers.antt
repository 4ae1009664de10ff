use Rattle.tigercanon.proofs.Sets.{canonical_text, one_text_same, only_text, same_one_text, text_accepted, text_as_it_is, text_itself}
use Rattle.tigercanon.proofs.laws.one_canonical_text_in_each_view.Goals as goal

pub returns-clause-exists : goal.returns-clause-exists
returns-clause-exists c = λ seen parts records view_laws. canonical_text seen view_laws parts records

pub returns-clause-only : goal.returns-clause-only
returns-clause-only c = λ seen parts text view_laws. only_text seen view_laws parts text

pub returns-clause-same : goal.returns-clause-same
returns-clause-same c = λ seen p q t u view_laws. same_one_text seen view_laws p q t u

pub returns-clause-equal : goal.returns-clause-equal
returns-clause-equal c = λ seen p q t u view_laws. one_text_same seen view_laws p q t u

pub returns-clause-accepted : goal.returns-clause-accepted
returns-clause-accepted c = λ seen parts text view_laws. text_accepted seen view_laws parts text

pub returns-clause-itself : goal.returns-clause-itself
returns-clause-itself c = λ seen parts text view_laws h. (text_itself seen view_laws parts text h, text_as_it_is seen view_laws parts text h)
