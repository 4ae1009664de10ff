use Rattle.tigercanon.proofs.Common.{plain, plain_view}
use Rattle.tigercanon.proofs.Sets.{one_text_same, same_one_text}
use Rattle.tigercanon.proofs.laws.one_canonical_text_exactly_for_one_map.Goals as goal

pub returns-clause-same : goal.returns-clause-same
returns-clause-same c = same_one_text plain plain_view

pub returns-clause-equal : goal.returns-clause-equal
returns-clause-equal c = one_text_same plain plain_view
