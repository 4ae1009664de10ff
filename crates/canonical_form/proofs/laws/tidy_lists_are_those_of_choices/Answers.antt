use Rattle.canonical_form.proofs.CanonicalLists.TidyLists.{choice_is_same, choice_is_tidy, tidy_is_choice}
use Rattle.canonical_form.proofs.laws.tidy_lists_are_those_of_choices.Goals as goal

pub returns : goal.returns
returns c = record {
  list = λ county arrangement is sides choice. (choice_is_tidy county is sides arrangement choice, choice_is_same county is sides arrangement choice);
  choice = λ county records is sides. tidy_is_choice county is sides records;
}
