use Rattle.county_chart.proofs.Profile.SameProfile.{same_in_profile, same_in_profile_back}
use Rattle.tl_profile.proofs.laws.same_counties_agree_on_the_profile.Goals as goal

pub returns-clause-forth : goal.returns-clause-forth
returns-clause-forth c = same_in_profile

pub returns-clause-back : goal.returns-clause-back
returns-clause-back c = same_in_profile_back
