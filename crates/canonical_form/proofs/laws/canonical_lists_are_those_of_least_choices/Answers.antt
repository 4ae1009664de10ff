use Rattle.canonical_form.proofs.CanonicalLists.TidyLists.{canonical_is_choice, choice_is_same, least_choice, least_choice_is_canonical}
use Rattle.canonical_form.proofs.laws.canonical_lists_are_those_of_least_choices.Goals as goal

pub returns : goal.returns
returns c = record {
  exists = least_choice;
  list = λ county arrangement is sides least. (least_choice_is_canonical county is sides arrangement least, choice_is_same county is sides arrangement least.choice);
  choice = λ county records is sides. canonical_is_choice county is sides records;
}
