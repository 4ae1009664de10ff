use Rattle.tigercanon.proofs.Common.{plain, plain_view}
use Rattle.tigercanon.proofs.Sets.{canonical_text, one_text}
use Rattle.tigercanon.proofs.laws.an_accepted_set_has_one_canonical_text.Goals as goal

pub returns-clause-exists : goal.returns-clause-exists
returns-clause-exists c = canonical_text plain plain_view

pub returns-clause-only : goal.returns-clause-only
returns-clause-only c = one_text plain plain_view
