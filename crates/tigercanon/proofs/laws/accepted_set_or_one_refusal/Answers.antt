use Rattle.tigercanon.proofs.Sets.{set_accepted_or_refused}
use Rattle.tigercanon.proofs.laws.accepted_set_or_one_refusal.Goals as goal

pub returns-clause-either : goal.returns-clause-either
returns-clause-either c = set_accepted_or_refused
