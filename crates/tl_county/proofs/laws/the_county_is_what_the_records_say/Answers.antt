use Rattle.tl_county.proofs.Sameness.SameCounty.{reordered-county, reordered-linked}
use Rattle.tl_county.proofs.Packing.Repacking.{resequenced-county, resequenced-linked}
use Rattle.tl_county.proofs.Packing.Splitting.{joined-county, left_out-county, split-county}
use Rattle.tl_county.proofs.laws.the_county_is_what_the_records_say.Goals as goal

pub returns-clause-reordered : goal.returns-clause-reordered
returns-clause-reordered c = λ xs ys p linked. (reordered-linked xs ys p linked, reordered-county xs ys p linked)

pub returns-clause-split : goal.returns-clause-split
returns-clause-split c = split-county

pub returns-clause-joined : goal.returns-clause-joined
returns-clause-joined c = joined-county

pub returns-clause-left_out : goal.returns-clause-left_out
returns-clause-left_out c = left_out-county

pub returns-clause-resequenced : goal.returns-clause-resequenced
returns-clause-resequenced c = λ q xs up linked. (resequenced-linked q xs up linked, resequenced-county q xs up)
