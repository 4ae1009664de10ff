use Rattle.county_chart.proofs.Profile.ProfileFaults.{profile_or_first}
use Rattle.tl_profile.proofs.laws.in_profile_or_one_first_broken_clause.Goals as goal

pub returns-clause-either : goal.returns-clause-either
returns-clause-either c = profile_or_first
