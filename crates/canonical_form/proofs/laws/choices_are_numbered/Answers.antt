use Rattle.canonical_form.proofs.Choices.TidyChoices.{choice_number, first_choice, numbered_is_choice}
use Rattle.canonical_form.proofs.laws.choices_are_numbered.Goals as goal

pub returns : goal.returns
returns c = record {
  stated = λ county number is. numbered_is_choice county is number;
  each = λ county arrangement is. choice_number county is arrangement;
  first = first_choice;
}
