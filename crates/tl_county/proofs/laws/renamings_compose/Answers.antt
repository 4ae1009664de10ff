use Rattle.county_chart.proofs.Sameness.Equivalence.{identity_carries, inverse_carries, then_carries}
use Rattle.tl_county.proofs.laws.renamings_compose.Goals as goal

pub returns-clause-identity : goal.returns-clause-identity
returns-clause-identity c = identity_carries

pub returns-clause-inverse : goal.returns-clause-inverse
returns-clause-inverse c = inverse_carries

pub returns-clause-then : goal.returns-clause-then
returns-clause-then c = then_carries
