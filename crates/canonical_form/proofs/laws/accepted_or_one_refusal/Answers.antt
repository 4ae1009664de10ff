use Rattle.canonical_form.proofs.CanonicalLists.Accepted.{accepted_not_refused, accepted_or_refused, one_refusal}
use Rattle.canonical_form.proofs.laws.accepted_or_one_refusal.Goals as goal

pub returns : goal.returns
returns c = record {
  either = accepted_or_refused;
  not_both = accepted_not_refused;
  only_one = one_refusal;
}
