use Rattle.tigercanon.proofs.Common.{plain, plain_view}
use Rattle.tigercanon.proofs.Sets.{text_accepted, text_itself}
use Rattle.tigercanon.proofs.laws.a_canonical_text_is_its_own.Goals as goal

pub returns-clause-accepted : goal.returns-clause-accepted
returns-clause-accepted c = text_accepted plain plain_view

pub returns-clause-itself : goal.returns-clause-itself
returns-clause-itself c = text_itself plain plain_view
